-- A refusal comes exactly where it is needed. Some arrivals defeat channels if they make every schedule late that breaks off no packet
-- and never idles while one waits.
use Rattle.std.specs.Prelude.{ℕ, ◌<◌, ◌≤◌, Bool, not, List, [], ◌∷◌, ◌++◌, is_ok, IfOk, Decides, Result}
use Rattle.traffic.specs.Arrivals.{Steps}
use Rattle.traffic.specs.Curves.{Numbers}
use Rattle.verdict.specs.Judged.{Judgeable}
use Rattle.verdict.specs.Least.{beside, widest}
use Rattle.verdict.specs.declared.Unfit.{Unfit}
use Rattle.schedule.specs.Arrivals.{Unschedulable}

module _ {K S : Type 0} (numbers : K → Numbers) (steps : K → Steps S) (limits : K → ℕ → Bool) where
  -- channels that may be judged are refused exactly if some lawful arrivals defeat them
  abbrev pub Needful : ℕ → ℕ → List K → Result ℕ Unfit → Type 0
  Needful p rows ks v = Judgeable limits p rows ks → Decides (not (is_ok v)) (Unschedulable numbers steps p ks)

  module _ (dated : K → ℕ → K) (p rows : ℕ) (ks : List K) (k : K) where
    abbrev wide : K
    wide = widest numbers limits dated p rows ks k

    -- the counted channels and this one with the allowance d are defeated by some arrivals
    abbrev pub DefeatedAt : ℕ → Type 0
    DefeatedAt d = Unschedulable numbers steps p (beside numbers dated p ks wide d)

    -- refused exactly if the longest allowance is defeated; else the answer is not, and every shorter allowance down to the longest length is
    pub record LeastExact (r : Result (ℕ × ℕ) Unfit) : Type 0 where
      pub refused : Judgeable limits p rows (ks ++ wide ∷ []) → Decides (not (is_ok r)) (DefeatedAt 40320)
      pub carried : IfOk r (λ found. DefeatedAt found.0 → ⊥)
      pub shorter : IfOk r (λ found. (e : ℕ) → (numbers wide).longest ≤ e → e < found.0 → DefeatedAt e)
