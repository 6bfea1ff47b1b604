-- The kinds of the worked figures: spaced or bucket.
use Rattle.std.specs.Prelude.{ℕ}
use Rattle.traffic.specs.declared.mixture.Mixture.TheVariants.{First, Second}
pub use Rattle.plan.specs.Kinds.{Kind, State, kind_numbers as numbers, kind_limits as limits, kind_dated as dated, kind_steps as steps}

-- spaced traffic with this period, longest packet and allowance
abbrev pub S : ℕ → ℕ → ℕ → Kind
S T C d = First (record { period = T; longest = C; allowance = d })

-- bucket traffic with this period, longest packet, depth and allowance
abbrev pub B : ℕ → ℕ → ℕ → ℕ → Kind
B T C b d = Second (record { period = T; longest = C; depth = b; allowance = d })
