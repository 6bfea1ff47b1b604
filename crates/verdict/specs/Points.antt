-- The points of a demand function F: the places where it rises, and whether the air can carry them.
use Rattle.std.specs.Prelude.{◌≡◌, ℕ, zero, suc, ◌+◌, ◌<◌, ◌≤◌, Bool, cond, ◌&&◌, ◌||◌, ◌==◌, nat_lt, Ok, Err, Result}
use Rattle.traffic.specs.Curves.{before, Rises}
use Rattle.verdict.specs.declared.Unfit.{Unfit}
use Rattle.verdict.specs.declared.Unfit.TheVariants.{OutsideLimits, Overloaded, Late}
use Rattle.verdict.specs.declared.points.Point.{Point}

-- the demand at t fits under the blocking term β, where there is any
abbrev pub Fits : (ℕ → ℕ) → (ℕ → ℕ) → ℕ → Type 0
Fits β F t = 0 < F t → F t + β t ≤ t

-- how many points lie below n
abbrev pub rises : (ℕ → ℕ) → ℕ → ℕ
rises F zero = 0
rises F (suc n) = rises F n + cond (nat_lt (before F n) (F n)) 1 0

-- every point below the horizon h fits, and there are so many of them
pub record AllFit (β F : ℕ → ℕ) (h count : ℕ) : Type 0 where
  pub fit : (t : ℕ) → t < h → Rises F t → Fits β F t
  pub counted : count ≡ rises F h

-- the first point below the horizon h that does not fit, and how many points there are up to it, itself included
pub record FirstFailing (β F : ℕ → ℕ) (h point count : ℕ) : Type 0 where
  pub below : point < h
  pub rise : Rises F point
  pub fails : Fits β F point → ⊥
  pub earlier : (t : ℕ) → t < point → Rises F t → Fits β F t
  pub counted : count ≡ rises F (point + 1)

-- what a walk over the points answers: how many there are where all fit, or the first that fails and the count up to it
abbrev pub Walked : (β F : ℕ → ℕ) → ℕ → Result ℕ Unfit → Type 0
Walked β F h (Ok count) = AllFit β F h count
Walked β F h (Err (Late point count)) = FirstFailing β F h point count
Walked β F h (Err OutsideLimits) = ⊥
Walked β F h (Err Overloaded) = ⊥

-- points are taken by t, and then by row
abbrev pub point_before : Point → Point → Bool
point_before x y = nat_lt x.t y.t || (x.t == y.t && nat_lt x.row y.row)
