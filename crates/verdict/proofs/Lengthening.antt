-- A longer allowance only lowers a channel's curve: what passes with one passes with every longer one.
use Rattle.std.proofs.Common.{◌≡◌, ℕ, ◌+◌, ◌-◌, ◌≤◌, Bool, true, List, [], ◌∷◌, ◌++◌, ap, ◌∙◌, ⊎_elim, arith}
use Rattle.std.specs.List.{AllByRecursion}
use Rattle.std.proofs.ByRecursion.{All-append}
use Rattle.std.proofs.lemmas.Bool.{cases_lt}
use Rattle.traffic.specs.Curves.{Numbers}
use Rattle.traffic.specs.Laws.{Within, CurveLaws, Redated}
use Rattle.verdict.specs.Demand.{works, curves, blocking}
use Rattle.verdict.specs.Judged.{Judgeable}
use Rattle.verdict.specs.Least.{beside}
use Rattle.verdict.specs.Passes.{Passes}
use Rattle.verdict.proofs.Totals.{total-push}

-- the laws of a kind of traffic
pub record Lawful {K : Type 0} (m : K → Numbers) (limits : K → ℕ → Bool) (dated : K → ℕ → K) : Type 0 where
  pub shaped : (k : K) (p : ℕ) → 1 ≤ p → p ≤ 255 → limits k p ≡ true → CurveLaws p (m k)
  pub redated : (k : K) (p e : ℕ) → 1 ≤ p → p ≤ 255 → limits k p ≡ true → (m k).longest ≤ e → e ≤ 40320 → Redated (m k) e (m (dated k e))
  pub redatable : (k : K) (p e : ℕ) → 1 ≤ p → p ≤ 255 → limits k p ≡ true → (m k).longest ≤ e → e ≤ 40320 → limits (dated k e) p ≡ true

last_holds : {K : Type 0} (P : K → Type 0) (ks : List K) (k : K) → AllByRecursion P (ks ++ k ∷ []) → P k
last_holds P [] k all = all.0
last_holds P (x ∷ ks) k all = last_holds P ks k all.1

front_holds : {K : Type 0} (P : K → Type 0) (ks : List K) (k : K) → AllByRecursion P (ks ++ k ∷ []) → AllByRecursion P ks
front_holds P [] k all = tt
front_holds P (x ∷ ks) k all = (all.0, front_holds P ks k all.1)

module _ {K : Type 0} (m : K → Numbers) (limits : K → ℕ → Bool) (dated : K → ℕ → K) (law : Lawful m limits dated) (p rows : ℕ) (ks : List K) (k : K) (judged : Judgeable limits p rows (ks ++ k ∷ [])) where
  inside : limits k p ≡ true
  inside = last_holds (λ x. limits x p ≡ true) ks k judged.within

  pub new_within : Within (limits k)
  new_within = record { under = p; least = judged.least; most = judged.most; holds = inside }

  pub longest_least : 1 ≤ (m k).longest
  longest_least = (law.shaped k p judged.least judged.most inside).longest_least

  pub longest_most : (m k).longest ≤ 255
  longest_most = omega (arith, (law.shaped k p judged.least judged.most inside).longest_most, judged.most)

  module _ (e : ℕ) (least : (m k).longest ≤ e) (most : e ≤ 40320) where
    dated_limits : limits (dated k e) p ≡ true
    dated_limits = law.redatable k p e judged.least judged.most inside least most

    dated_laws : CurveLaws p (m (dated k e))
    dated_laws = law.shaped (dated k e) p judged.least judged.most dated_limits

    dated_is : Redated (m k) e (m (dated k e))
    dated_is = law.redated k p e judged.least judged.most inside least most

    -- with this allowance they may be judged too
    pub beside_judgeable : Judgeable limits p rows (beside m dated p ks k e)
    beside_judgeable = record {
      least = judged.least;
      most = judged.most;
      few = judged.few;
      within = All-append (λ x. limits x p ≡ true) ks (dated k e ∷ []) (front_holds (λ x. limits x p ≡ true) ks k judged.within) (dated_limits, tt);
    }

    -- and their works are the same
    pub beside_works : works m (beside m dated p ks k e) ≡ works m ks + (m k).work
    beside_works = total-push (λ x. (m x).work) ks (dated k e) ∙ ap (λ w. works m ks + w) dated_is.work

  module _ (d e : ℕ) (least : (m k).longest ≤ d) (longer : d ≤ e) (most : e ≤ 40320) where
    lower : (t : ℕ) → (m (dated k e)).curve t ≤ (m (dated k d)).curve t
    lower t =
        let short = dated_is d least (omega arith) in
        let long = dated_is e (omega arith) most in
        let laws = dated_laws d least (omega arith) in
        ⊎_elim
        (λ early. omega (arith, (dated_laws e (omega arith) most).nothing_before t (omega (arith, long.allowance))))
        (λ late.
        let n : ℕ = t - e in
        let at : e + n ≡ t = omega arith in
        omega (arith, ap (m (dated k e)).curve at, long.curve n, short.curve n, laws.never_falls (d + n) t (omega arith)))
        (cases_lt t e)

    lower_sum : (t : ℕ) → curves m (beside m dated p ks k e) t ≤ curves m (beside m dated p ks k d) t
    lower_sum t = omega (arith, total-push (λ x. (m x).curve t) ks (dated k e), total-push (λ x. (m x).curve t) ks (dated k d), lower t)

    -- what passes with d passes with every longer allowance
    pub passes_raised : Passes m (blocking p) (beside m dated p ks k d) → Passes m (blocking p) (beside m dated p ks k e)
    passes_raised passes = record {
      works_fit = omega (arith, passes.works_fit, beside_works d least (omega arith), beside_works e (omega arith) most);
      demand_fits = λ t some. omega (arith, lower_sum t, passes.demand_fits t (omega (arith, lower_sum t)));
    }
