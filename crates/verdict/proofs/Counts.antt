-- The count of the points of a demand function, with one t more.
use Rattle.std.proofs.Common.{◌≡◌, ℕ, ◌+◌, ◌<◌, ◌≤◌, add-one, arith}
use Rattle.std.proofs.lemmas.Bool.Decides.{nat_tests}
use Rattle.traffic.specs.Curves.{before}
use Rattle.verdict.specs.Points.{rises}

-- a point more, or none
pub rises_up : (F : ℕ → ℕ) (t : ℕ) → before F t < F t → rises F (t + 1) ≡ rises F t + 1
rises_up F t h = rw add-one (grind (arith, nat_tests))

pub rises_level : (F : ℕ → ℕ) (t : ℕ) → F t ≤ before F t → rises F (t + 1) ≡ rises F t
rises_level F t h = rw add-one (grind (arith, nat_tests))
