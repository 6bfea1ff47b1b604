-- A channel that is granted stands with those granted before it.
use Rattle.std.proofs.Common.{◌≡◌, ℕ, ◌+◌, ◌<◌, ◌≤◌, Bool, true, List, [], ◌∷◌, ◌++◌, length, replicate, Some, Ok, Err, Result, refl, ap, ◌∙◌, subst, arith, take_all, length-append}
use Rattle.std.proofs.lemmas.List.{length-map}
use Rattle.traffic.specs.Buckets.{bucket_shaped}
use Rattle.traffic.specs.Curves.{Numbers}
use Rattle.traffic.specs.Laws.{CurveLaws}
use Rattle.traffic.specs.Spacing.{spaced_shaped}
use Rattle.traffic.specs.declared.mixture.Mixture.TheVariants.{First, Second}
use Rattle.traffic.specs.declared.Row.{Row}
use Rattle.verdict.specs.Demand.{blocking}
use Rattle.verdict.specs.Judged.{Judgeable, Judged}
use Rattle.verdict.specs.Members.{kinds, marked, present}
use Rattle.verdict.specs.Passes.{Passes}
use Rattle.verdict.specs.declared.Unfit.{Unfit}
use Rattle.verdict.proofs.Exactness.{judged_exact}
use Rattle.verdict.proofs.Places.{present_push, marked_all}
use Rattle.refusals.specs.Refusals.{decided}
use Rattle.refusals.specs.declared.Refusal.{Refusal}
use Rattle.plan.specs.Kinds.{Kind, kind_numbers, kind_limits}
use Rattle.plan.specs.declared.Channel.{Channel}
use Rattle.answers.specs.Decisions.{Decision, early, Judges, Decided, counted}
use Rattle.answers.proofs.Deciding.{free_row}
use Rattle.overview.specs.Standing.{Stands}

kind_shaped : (k : Kind) (p : ℕ) → 1 ≤ p → p ≤ 255 → kind_limits k p ≡ true → CurveLaws p (kind_numbers k)
kind_shaped (First k) p _ small h = spaced_shaped k.period k.longest k.allowance p small h
kind_shaped (Second k) p _ small h = bucket_shaped k.period k.longest k.depth k.allowance p small h

module _ {K : Type 0} (m : K → Numbers) (limits : K → ℕ → Bool) (p : ℕ) where
  -- with a row free, a channel that passes beside others stands with them
  pub stands_with : (ks : List K) (k : K) → length ks < 32 → {rows : ℕ} → Judgeable limits p rows (ks ++ k ∷ []) → Passes m (blocking p) (ks ++ k ∷ []) → Stands m limits p (ks ++ k ∷ [])
  stands_with ks k room j passes = record {
    judged = record { least = j.least; most = j.most; few = simp length-append (omega arith); within = j.within };
    passes = passes;
  }

  -- the same in rows that all count
  pub joins : {S : Type 0} (rs : List (Row K S)) (k : K) → length rs < 32 → Judgeable limits p (length rs) (present (marked rs (replicate 32 true) ++ Some k ∷ [])) → Passes m (blocking p) (present (marked rs (replicate 32 true) ++ Some k ∷ [])) → Stands m limits p (kinds rs ++ k ∷ [])
  joins rs k few judged passes =
      let front : present (marked rs (replicate 32 true)) ≡ kinds rs = marked_all rs 32 ∙ ap kinds (take_all 32 rs (omega arith)) in
      let all : present (marked rs (replicate 32 true) ++ Some k ∷ []) ≡ kinds rs ++ k ∷ [] = present_push (marked rs (replicate 32 true)) (Some k) ∙ ap (λ ks. ks ++ k ∷ []) front in
      stands_with (kinds rs) k (omega (arith, length-map rs (λ r. r.kind))) (subst (Judgeable limits p (length rs)) all judged) (subst (Passes m (blocking p)) all passes)

  -- a row was free
  pub room : {S : Type 0} (rs : List (Row K S)) (k : K) → Stands m limits p (kinds rs ++ k ∷ []) → length rs < 32
  room rs k together =
      let all : length (kinds rs ++ k ∷ []) ≡ length (kinds rs) + 1 = length-append (kinds rs) (k ∷ []) in
      omega (arith, together.judged.few, length-map rs (λ r. r.kind))

module _ (p : ℕ) (ks : List Kind) (k : Kind) (count : ℕ) where
  by_verdict : length ks < 32 → (v : Result ℕ Unfit) → Judged kind_numbers kind_limits p (length ks) (ks ++ k ∷ []) v → Ok count ≡ decided v → Stands kind_numbers kind_limits p (ks ++ k ∷ [])
  by_verdict room (Err unfit) judged told = absurd (cc)
  by_verdict room (Ok n) judged told =
      let (j, passes) = (judged_exact kind_numbers kind_limits kind_shaped p (length ks) (ks ++ k ∷ []) (Ok n) judged).0 refl in
      stands_with kind_numbers kind_limits p ks k room j passes

  by_cause : (r : Result (Unit {0}) Refusal) → (r ≡ Ok tt → length ks < 32) → Judges p ks k r (Ok count) → Stands kind_numbers kind_limits p (ks ++ k ∷ [])
  by_cause (Err refused) room same = absurd (cc)
  by_cause (Ok u) room (v, judged, told) = by_verdict (room refl) v judged told

granted_stands : (p : ℕ) (mats : List ℕ) (ks : List Kind) (c : Channel) (count : ℕ) → Decided p mats ks c (Ok count) → Stands kind_numbers kind_limits p (ks ++ c.kind ∷ [])
granted_stands p mats ks c count = by_cause p ks c.kind count (early p mats (length ks) c) (free_row p mats (length ks) c tt)

-- a channel that was decided is counted, or changes nothing
pub counted_stand : (p : ℕ) (mats : List ℕ) (ks more : List Kind) (c : Channel) (d : Decision) → Decided p mats ks c d → more ≡ counted d c.kind ks → Stands kind_numbers kind_limits p ks → Stands kind_numbers kind_limits p more
counted_stand p mats ks more c (Ok count) decided is together = rw is (granted_stands p mats ks c count decided)
counted_stand p mats ks more c (Err e) decided is together = rw is together

-- no channel at all
pub none_stand : {K : Type 0} (m : K → Numbers) (limits : K → ℕ → Bool) (p : ℕ) → 1 ≤ p → p ≤ 255 → Stands m limits p []
none_stand m limits p least most = record {
  judged = record { least = least; most = most; few = omega arith; within = tt };
  passes = record { works_fit = omega arith; demand_fits = λ t some. absurd (omega arith) };
}
