-- What a channel declares: its numbers, and its curve (the demand bound function).
use Rattle.std.specs.Prelude.{ℕ, ◌+◌, ◌-◌, ◌*◌, ◌/◌, ◌%◌, ◌<◌, Bool, cond, ◌&&◌, Some, None, Option, ◌==◌, nat_le, nat_lt}

pub record Numbers : Type 0 where
  -- the relative deadline: a packet offered in slot s is due at s + allowance
  pub allowance : ℕ
  -- the longest packet, in slots
  pub longest : ℕ
  -- slots asked for in each frame of 5,040, in the long run
  pub work : ℕ
  -- slots asked for at once, above what the work covers
  pub burst : ℕ
  -- the most that can be offered from some slot a on and be due by a + t
  pub curve : ℕ → ℕ

-- what a function of t was just before t, and 0 before the first
abbrev pub before : (ℕ → ℕ) → ℕ → ℕ
before f t = cond (t == 0) 0 (f (t - 1))

-- a function of t rises at t
abbrev pub Rises : (ℕ → ℕ) → ℕ → Type 0
Rises f t = before f t < f t

-- the first rise after t, or none where there is none
abbrev pub NextRise : (ℕ → ℕ) → ℕ → Option ℕ → Type 0
NextRise f t None = (v : ℕ) → t < v → Rises f v → ⊥
NextRise f t (Some u) = (t < u) × Rises f u × ((v : ℕ) → t < v → v < u → Rises f v → ⊥)

-- a staircase: 0 before d, C × b at d, and C more every T slots
abbrev pub staircase : ℕ → ℕ → ℕ → ℕ → ℕ → ℕ
staircase T C b d t = cond (nat_lt t d) 0 (C * ((t - d) / T + b))

-- T divides the frame
abbrev pub divides_frame : ℕ → Bool
divides_frame T = nat_le 1 T && 5040 % T == 0
