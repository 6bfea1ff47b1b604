-- What the kinds mean that a plan can ask for: spaced or bucket.
use Rattle.std.specs.Prelude.{ℕ, Bool, Option}
use Rattle.traffic.specs.Arrivals.{Steps}
use Rattle.traffic.specs.Bucket.{bucket, bucket_limits, bucket_steps}
use Rattle.traffic.specs.Curves.{Numbers}
use Rattle.traffic.specs.Mixture.{mixed_numbers, mixed_limits, mixed_dated, mixed_steps}
use Rattle.traffic.specs.Spaced.{spaced, spaced_limits, spaced_steps}
use Rattle.traffic.specs.declared.bucket.Bucket.{Bucket}
use Rattle.traffic.specs.declared.mixture.Mixture.{Mixture}
use Rattle.traffic.specs.declared.mixture.MixtureState.{MixtureState}
use Rattle.traffic.specs.declared.spaced.Spaced.{Spaced}

abbrev pub Kind : Type 0
Kind = Mixture Spaced Bucket

-- the slot of the last packet, or the credit slot
abbrev pub State : Type 0
State = MixtureState (Option ℕ) ℕ

abbrev pub kind_numbers : Kind → Numbers
kind_numbers = mixed_numbers (λ k. spaced k.period k.longest k.allowance) (λ k. bucket k.period k.longest k.depth k.allowance)

-- whether the numbers keep their limits under a longest packet
abbrev pub kind_limits : Kind → ℕ → Bool
kind_limits = mixed_limits (λ k. spaced_limits k.period k.longest k.allowance) (λ k. bucket_limits k.period k.longest k.depth k.allowance)

-- the same kind with another allowance
abbrev pub kind_dated : Kind → ℕ → Kind
kind_dated = mixed_dated (λ k e. record { period = k.period; longest = k.longest; allowance = e }) (λ k e. record { period = k.period; longest = k.longest; depth = k.depth; allowance = e })

-- which packets the kind takes
abbrev pub kind_steps : Kind → Steps State
kind_steps = mixed_steps (λ k. spaced_steps k.period k.longest) (λ k. bucket_steps k.period k.longest k.depth)
