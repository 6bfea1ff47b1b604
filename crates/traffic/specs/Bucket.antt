-- Bucket traffic: up to b packets of 1 to C slots at once, one more every T slots, each due d slots after its offer.
use Rattle.std.specs.Prelude.{ℕ, ◌+◌, ◌-◌, ◌*◌, ◌/◌, max, Bool, cond, ◌&&◌, Some, None, Option, nat_le}
use Rattle.traffic.specs.Arrivals.{Steps}
use Rattle.traffic.specs.Curves.{Numbers, staircase, divides_frame}

-- T divides the frame, C is 1 to p, b is 1 to 8, d is C to 40,320
abbrev pub bucket_limits : ℕ → ℕ → ℕ → ℕ → ℕ → Bool
bucket_limits T C b d p = divides_frame T && (nat_le 1 C && (nat_le C p && (nat_le 1 b && (nat_le b 8 && (nat_le C d && nat_le d 40320)))))

abbrev pub bucket : ℕ → ℕ → ℕ → ℕ → Numbers
bucket T C b d = record { allowance = d; longest = C; work = C * 5040 / T; burst = b * C; curve = staircase T C b d }

-- the state is a credit slot z: a packet of 1 to C slots is taken in slot s if z ≤ s + (b − 1) × T,
-- and then z becomes the larger of z and s, plus T
abbrev pub bucket_step : ℕ → ℕ → ℕ → ℕ → ℕ → ℕ → Option ℕ
bucket_step T C b z s l = cond (nat_le 1 l && (nat_le l C && nat_le z (s + (b - 1) * T))) (Some (max z s + T)) None

abbrev pub bucket_steps : ℕ → ℕ → ℕ → Steps ℕ
bucket_steps T C b = record { fresh = 0; step = bucket_step T C b }
