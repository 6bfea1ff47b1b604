-- How long the air can go without a quiet slot.
use Rattle.std.specs.Prelude.{◌≡◌, ℕ, ◌+◌, ◌-◌, ◌*◌, ◌/◌, ◌<◌, ◌≤◌, Bool, List, Ok, Err, Result}
use Rattle.traffic.specs.Curves.{Numbers}
use Rattle.verdict.specs.Demand.{works, bursts}
use Rattle.verdict.specs.Judged.{Judgeable}
use Rattle.verdict.specs.declared.Unfit.{Unfit}
use Rattle.verdict.specs.declared.Unfit.TheVariants.{OutsideLimits, Overloaded, Late}

-- a divided by b, rounded up
abbrev pub rounded_up : ℕ → ℕ → ℕ
rounded_up a b = (a + (b - 1)) / b

-- the stretch of channels with these works and bursts: where the line p − 1 + bursts + works in each frame meets the slots passed
abbrev pub stretch_of : ℕ → ℕ → ℕ → ℕ
stretch_of p work burst = rounded_up (5040 * (p - 1 + burst)) (5040 - work)

module _ {K : Type 0} (m : K → Numbers) (limits : K → ℕ → Bool) (p rows : ℕ) (ks : List K) where
  -- the stretch, or a refusal: outside limits, or the works leave nothing of a frame
  abbrev pub Stretched : Result ℕ Unfit → Type 0
  Stretched (Ok slots) = Judgeable limits p rows ks × (works m ks < 5040) × (slots ≡ stretch_of p (works m ks) (bursts m ks))
  Stretched (Err OutsideLimits) = Judgeable limits p rows ks → ⊥
  Stretched (Err Overloaded) = Judgeable limits p rows ks × (5040 ≤ works m ks)
  Stretched (Err (Late point count)) = ⊥
