-- What the verdict can say is fixed by the channels: one refusal or a grant, one least allowance, one stretch.
use Rattle.std.proofs.Common.{◌≡◌, ℕ, ◌+◌, ◌-◌, ◌<◌, ◌≤◌, Bool, true, ◌⊎◌, List, [], ◌∷◌, ◌++◌, Ok, Err, Result, sym, refl, ap, ◌∙◌, subst, inl, inr, arith}
use Rattle.std.proofs.lemmas.Bool.{cases_order, false≢true}
use Rattle.traffic.specs.Curves.{Numbers}
use Rattle.traffic.specs.Laws.{CurveLaws}
use Rattle.verdict.specs.Demand.{works, bursts, curves, horizon, blocking}
use Rattle.verdict.specs.Judged.{Judgeable, Judged}
use Rattle.verdict.specs.Least.{LeastIs, Least, beside}
use Rattle.verdict.specs.Passes.{Passes}
use Rattle.verdict.specs.Points.{FirstFailing, rises}
use Rattle.verdict.specs.Stretches.{Stretched, stretch_of}
use Rattle.verdict.specs.declared.Unfit.{Unfit}
use Rattle.verdict.specs.declared.Unfit.TheVariants.{OutsideLimits, Overloaded, Late}
use Rattle.verdict.proofs.Exactness.{judged_exact}
use Rattle.verdict.proofs.Halving.{fails, halved}
use Rattle.verdict.proofs.Lengthening.{Lawful, passes_raised}

-- there is one first failing point
same_failing : (β F : ℕ → ℕ) (h a b c d : ℕ) → FirstFailing β F h a c → FirstFailing β F h b d → (a ≡ b) × (c ≡ d)
same_failing β F h a b c d x y = (same, x.counted ∙ ap (λ t. rises F (t + 1)) same ∙ sym y.counted)
  where
    same : a ≡ b
    same = elim (cases_order a b) [
      | inl e ↦ e
      | inr (inl l) ↦ absurd (x.fails (y.earlier a l x.rise))
      | inr (inr g) ↦ absurd (y.fails (x.earlier b g y.rise))
    ]

module _ {K : Type 0} (m : K → Numbers) (limits : K → ℕ → Bool) (p rows : ℕ) (ks : List K) (j : Judgeable limits p rows ks) where
  pub late_only : (point count : ℕ) → works m ks ≤ 5040 → FirstFailing (blocking p) (curves m ks) (horizon m ks) point count → (v : Result ℕ Unfit) → Judged m limits p rows ks v → v ≡ Err (Late point count)
  late_only point count few first (Err OutsideLimits) outside = absurd (outside j)
  late_only point count few first (Err Overloaded) (_, much) = absurd (omega arith)
  late_only point count few first (Ok n) (_, _, all) = absurd (first.fails (all.fit point first.below first.rise))
  late_only point count few first (Err (Late a c)) (_, _, found) =
      let same = same_failing (blocking p) (curves m ks) (horizon m ks) a point c count found first in
      λ i. Err (Late (same.0 i) (same.1 i))

  pub overloaded_only : 5040 < works m ks → (v : Result ℕ Unfit) → Judged m limits p rows ks v → v ≡ Err Overloaded
  overloaded_only much (Err OutsideLimits) outside = absurd (outside j)
  overloaded_only much (Err Overloaded) _ = refl
  overloaded_only much (Ok n) (_, few, _) = absurd (omega arith)
  overloaded_only much (Err (Late a c)) (_, few, _) = absurd (omega arith)

  pub stretch_only : works m ks < 5040 → (s : Result ℕ Unfit) → Stretched m limits p rows ks s → s ≡ Ok (stretch_of p (works m ks) (bursts m ks))
  stretch_only room (Ok slots) (_, _, is) = ap Ok is
  stretch_only room (Err OutsideLimits) outside = absurd (outside j)
  stretch_only room (Err Overloaded) (_, full) = absurd (omega arith)
  stretch_only room (Err (Late point count)) none = absurd none

  module _ (shaped : (k : K) (q : ℕ) → 1 ≤ q → q ≤ 255 → limits k q ≡ true → CurveLaws q (m k)) (passes : Passes m (blocking p) ks) where
    pub granted_only : (v : Result ℕ Unfit) → Judged m limits p rows ks v → (count : ℕ) × (v ≡ Ok count)
    granted_only (Ok count) judged = (count, refl)
    granted_only (Err unfit) judged = absurd (false≢true ((judged_exact m limits shaped p rows ks (Err unfit) judged).1 (j, passes)))

    -- channels that pass are granted, with the count of all points below the horizon
    pub grant : (count : ℕ) × Judged m limits p rows ks (Ok count)
    grant = (rises (curves m ks) (horizon m ks), (j, passes.works_fit, record { fit = λ t _ _. passes.demand_fits t; counted = refl }))

module _ {K : Type 0} (m : K → Numbers) (limits : K → ℕ → Bool) (dated : K → ℕ → K) (law : Lawful m limits dated) (p rows : ℕ) (ks : List K) (k : K)
    (j : Judgeable limits p rows (ks ++ dated k 40320 ∷ [])) where
  abbrev wide : K
  wide = dated k 40320

  abbrev with_allowance : ℕ → List K
  with_allowance = beside m dated p ks wide

  -- an allowance that passes is the least if the point f fails with one slot less
  pub least_is : (d f count : ℕ) → (m wide).longest < d → d ≤ 40320 → Passes m (blocking p) (with_allowance d) →
      FirstFailing (blocking p) (curves m (with_allowance (d - 1))) (horizon m (with_allowance (d - 1))) f count → LeastIs m dated p ks wide d f
  least_is d f count least most passes first =
      halved m limits dated law p rows ks wide j (record {
        order = omega arith;
        floor = omega arith;
        most = most;
        passes = passes;
        lower = fails (omega arith) (λ ok. first.fails (ok.demand_fits f)) count first;
      }) (omega arith)

  -- there is one least allowance
  same_least : (a b f g : ℕ) → LeastIs m dated p ks wide a f → LeastIs m dated p ks wide b g → (m wide).longest < b → (a ≡ b) × (f ≡ g)
  same_least a b f g x y above = (same, points y.forbids (subst (λ d. Forbids d f) same x.forbids))
    where
      Forbids : ℕ → ℕ → Type 0
      Forbids d f = ((d ≡ (m wide).longest) × (f ≡ 0)) ⊎ (((m wide).longest < d) × ((count : ℕ) × FirstFailing (blocking p) (curves m (with_allowance (d - 1))) (horizon m (with_allowance (d - 1))) f count))

      same : a ≡ b
      same = elim (cases_order a b) [
        | inl e ↦ e
        | inr (inl l) ↦ absurd (y.shorter a x.least l x.passes)
        | inr (inr g) ↦ absurd (x.shorter b y.least g y.passes)
      ]

      points : Forbids b g → Forbids b f → f ≡ g
      points (inl (e, _)) _ = absurd (omega arith)
      points (inr _) (inl (e, _)) = absurd (omega arith)
      points (inr (_, (c, fg))) (inr (_, (d, ff))) = (same_failing (blocking p) (curves m (with_allowance (b - 1))) (horizon m (with_allowance (b - 1))) f g d c ff fg).0

  -- the channels pass with the longest allowance too
  widened : (d f : ℕ) → LeastIs m dated p ks wide d f → Passes m (blocking p) (with_allowance 40320)
  widened d f is = passes_raised m limits dated law p rows ks wide j d 40320 is.least is.most (omega arith) is.passes

  pub least_only : (d f : ℕ) → (m wide).longest < d → LeastIs m dated p ks wide d f → (s : Result (ℕ × ℕ) Unfit) → Least m limits dated p rows ks k s → s ≡ Ok (d, f)
  least_only d f above is (Ok (a, g)) (_, found) = let same = same_least a d g f found is above in λ i. Ok (same.0 i, same.1 i)
  least_only d f above is (Err OutsideLimits) outside = absurd (outside j)
  least_only d f above is (Err Overloaded) (_, at) = absurd (omega (arith, at.1, (widened d f is).works_fit))
  least_only d f above is (Err (Late point count)) (_, at) = absurd (at.2.fails ((widened d f is).demand_fits point))
