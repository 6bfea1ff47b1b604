-- The range of allowances that halving keeps: its upper end passes, its lower end does not.
use Rattle.std.proofs.Common.{◌≡◌, ℕ, zero, suc, ◌+◌, ◌-◌, ◌<◌, ◌≤◌, Bool, List, [], ◌∷◌, ◌++◌, Err, Result, sym, subst, inl, inr, arith}
use Rattle.traffic.specs.Curves.{Numbers, Rises}
use Rattle.verdict.specs.Demand.{curves, horizon, blocking}
use Rattle.verdict.specs.Judged.{Judgeable, Judged}
use Rattle.verdict.specs.Least.{beside, LeastIs, Least}
use Rattle.verdict.specs.Passes.{Passes}
use Rattle.verdict.specs.Points.{FirstFailing}
use Rattle.verdict.specs.declared.Unfit.{Unfit}
use Rattle.verdict.specs.declared.Unfit.TheVariants.{OutsideLimits, Overloaded, Late}
use Rattle.verdict.proofs.Lengthening.{Lawful, passes_raised, beside_judgeable, longest_most}

-- low is below the longest length, or does not pass and first fails at point
pub data Lower {K : Type 0} (m : K → Numbers) (dated : K → ℕ → K) (p : ℕ) (ks : List K) (k : K) (low point : ℕ) : Type 0 where
  too_short : low + 1 ≡ (m k).longest → point ≡ 0 → Lower m dated p ks k low point
  fails : (m k).longest ≤ low → (Passes m (blocking p) (beside m dated p ks k low) → ⊥) → (count : ℕ) → FirstFailing (blocking p) (curves m (beside m dated p ks k low)) (horizon m (beside m dated p ks k low)) point count → Lower m dated p ks k low point

pub record Between {K : Type 0} (m : K → Numbers) (dated : K → ℕ → K) (p : ℕ) (ks : List K) (k : K) (low high point : ℕ) : Type 0 where
  pub order : low < high
  pub floor : (m k).longest ≤ low + 1
  pub most : high ≤ 40320
  pub passes : Passes m (blocking p) (beside m dated p ks k high)
  pub lower : Lower m dated p ks k low point

module _ {K : Type 0} (m : K → Numbers) (limits : K → ℕ → Bool) (dated : K → ℕ → K) (law : Lawful m limits dated) (p rows : ℕ) (ks : List K) (k : K) (judged : Judgeable limits p rows (ks ++ k ∷ [])) where
  -- one slot is left: the upper end is the least
  pub halved : {low high point : ℕ} → Between m dated p ks k low high point → high - low ≤ 1 → LeastIs m dated p ks k high point
  halved {low} {high} {point} b close = cases b.lower
    where
      next : high ≡ low + 1
      next = omega (arith, b.order)

      cases : Lower m dated p ks k low point → LeastIs m dated p ks k high point
      cases (too_short at none) = record {
        least = omega (arith, next);
        most = b.most;
        passes = b.passes;
        shorter = λ e from below _. omega (arith, next);
        forbids = inl (omega (arith, next), none);
      }
      cases (fails from not count first) =
          let e : high - 1 ≡ low = omega (arith, next) in
          record {
            least = omega (arith, next);
            most = b.most;
            passes = b.passes;
            shorter = λ d at below passes. not (passes_raised m limits dated law p rows ks k judged d low at (omega (arith, next)) (omega (arith, next, b.most)) passes);
            forbids = inr (omega (arith, next), (count, subst (λ d. FirstFailing (blocking p) (curves m (beside m dated p ks k d)) (horizon m (beside m dated p ks k d)) point count) (sym e) first));
          }

  -- the middle passes, or does not
  pub halves_down : {low high point : ℕ} (middle : ℕ) → Between m dated p ks k low high point → low < middle → middle < high → Passes m (blocking p) (beside m dated p ks k middle) → Between m dated p ks k low middle point
  halves_down middle b above below passes = record { order = above; floor = b.floor; most = omega (arith, b.most); passes = passes; lower = b.lower }

  pub halves_up : {low high point : ℕ} (middle : ℕ) → Between m dated p ks k low high point → low < middle → middle < high → (failing count : ℕ) → (Passes m (blocking p) (beside m dated p ks k middle) → ⊥) → FirstFailing (blocking p) (curves m (beside m dated p ks k middle)) (horizon m (beside m dated p ks k middle)) failing count → Between m dated p ks k middle high failing
  halves_up middle b above below failing count not first = record { order = below; floor = omega (arith, b.floor); most = b.most; passes = b.passes; lower = fails (omega (arith, b.floor)) not count first }

-- no point of a function that is 0 at 0 lies at 0
pub point_positive : (F : ℕ → ℕ) (t : ℕ) → F 0 ≡ 0 → Rises F t → 0 < t
point_positive F zero none up = absurd (omega arith)
point_positive F (suc t) none up = omega arith

-- a refusal at the longest allowance
pub least_refused : {K : Type 0} (m : K → Numbers) (limits : K → ℕ → Bool) (dated : K → ℕ → K) (law : Lawful m limits dated) (p rows : ℕ) (ks : List K) (k : K) → Judgeable limits p rows (ks ++ dated k 40320 ∷ []) → (e : Unfit) → Judged m limits p rows (beside m dated p ks (dated k 40320) 40320) (Err e) → Least m limits dated p rows ks k (Err e)
least_refused m limits dated law p rows ks k judged OutsideLimits at =
    absurd (at (beside_judgeable m limits dated law p rows ks (dated k 40320) judged 40320 (omega (arith, longest_most m limits dated law p rows ks (dated k 40320) judged)) (omega arith)))
least_refused m limits dated law p rows ks k judged Overloaded at = (judged, at)
least_refused m limits dated law p rows ks k judged (Late point count) at = (judged, at)

-- the table with a channel, by what it is equal to
module _ {K : Type 0} (limits : K → ℕ → Bool) (p : ℕ) {rows rows' : ℕ} {ks ks' : List K} (size : rows ≡ rows') (same : ks ≡ ks') where
  pub judgeable_same : Judgeable limits p rows ks → Judgeable limits p rows' ks'
  judgeable_same j = subst (λ n. Judgeable limits p n ks') size (subst (Judgeable limits p rows) same j)

  pub judged_same : (m : K → Numbers) (v : Result ℕ Unfit) → Judged m limits p rows ks v → Judged m limits p rows' ks' v
  judged_same m v j = subst (λ n. Judged m limits p n ks' v) size (subst (λ xs. Judged m limits p rows xs v) same j)
