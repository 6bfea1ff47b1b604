-- A mixture of two kinds: each channel means what its own kind means.
use Rattle.std.specs.Prelude.{ℕ, Bool, None, Option}
use Rattle.std.specs.Option.{option_map}
use Rattle.traffic.specs.Arrivals.{Steps}
use Rattle.traffic.specs.Curves.{Numbers}
use Rattle.traffic.specs.declared.mixture.Mixture.{Mixture}
use Rattle.traffic.specs.declared.mixture.Mixture.TheVariants.{First, Second}
use Rattle.traffic.specs.declared.mixture.MixtureState.{MixtureState}
use Rattle.traffic.specs.declared.mixture.MixtureState.TheVariants.{OfFirst, OfSecond}

abbrev pub mixed_numbers : {K L : Type 0} → (K → Numbers) → (L → Numbers) → Mixture K L → Numbers
mixed_numbers f g (First k) = f k
mixed_numbers f g (Second l) = g l

abbrev pub mixed_limits : {K L : Type 0} → (K → ℕ → Bool) → (L → ℕ → Bool) → Mixture K L → ℕ → Bool
mixed_limits f g (First k) = f k
mixed_limits f g (Second l) = g l

abbrev pub mixed_dated : {K L : Type 0} → (K → ℕ → K) → (L → ℕ → L) → Mixture K L → ℕ → Mixture K L
mixed_dated f g (First k) e = First (f k e)
mixed_dated f g (Second l) e = Second (g l e)

-- a step of the first kind: a state of the second kind is refused
abbrev pub first_step : {S U : Type 0} → (S → ℕ → ℕ → Option S) → MixtureState S U → ℕ → ℕ → Option (MixtureState S U)
first_step f (OfFirst s) a l = option_map OfFirst (f s a l)
first_step f (OfSecond u) a l = None

-- a step of the second kind: a state of the first kind is refused
abbrev pub second_step : {S U : Type 0} → (U → ℕ → ℕ → Option U) → MixtureState S U → ℕ → ℕ → Option (MixtureState S U)
second_step f (OfFirst s) a l = None
second_step f (OfSecond u) a l = option_map OfSecond (f u a l)

abbrev pub mixed_steps : {K L S U : Type 0} → (K → Steps S) → (L → Steps U) → Mixture K L → Steps (MixtureState S U)
mixed_steps f g (First k) = record { fresh = OfFirst (f k).fresh; step = first_step (f k).step }
mixed_steps f g (Second l) = record { fresh = OfSecond (g l).fresh; step = second_step (g l).step }
