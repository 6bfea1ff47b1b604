-- Spaced traffic: packets of 1 to C slots, at least T slots apart, each due d slots after its offer.
use Rattle.std.specs.Prelude.{ℕ, ◌+◌, ◌*◌, ◌/◌, Bool, cond, ◌&&◌, Some, None, Option, nat_le}
use Rattle.traffic.specs.Arrivals.{Steps}
use Rattle.traffic.specs.Curves.{Numbers, staircase, divides_frame}

-- T divides the frame, C is 1 to p, d is C to 40,320
abbrev pub spaced_limits : ℕ → ℕ → ℕ → ℕ → Bool
spaced_limits T C d p = divides_frame T && (nat_le 1 C && (nat_le C p && (nat_le C d && nat_le d 40320)))

abbrev pub spaced : ℕ → ℕ → ℕ → Numbers
spaced T C d = record { allowance = d; longest = C; work = C * 5040 / T; burst = C; curve = staircase T C 1 d }

-- the first slot in which a packet may come, by the slot of the last one
abbrev pub ready : ℕ → Option ℕ → ℕ
ready T None = 0
ready T (Some last) = last + T

-- a packet of 1 to C slots is taken if none came before or its slot is at least T after the last
abbrev pub spaced_step : ℕ → ℕ → Option ℕ → ℕ → ℕ → Option (Option ℕ)
spaced_step T C last s l = cond (nat_le 1 l && (nat_le l C && nat_le (ready T last) s)) (Some (Some s)) None

abbrev pub spaced_steps : ℕ → ℕ → Steps (Option ℕ)
spaced_steps T C = record { fresh = None; step = spaced_step T C }
