-- The laws of a mixture: each side's steps are carried into the state of both.
use Rattle.std.specs.Prelude.{refl}
use Rattle.traffic.specs.Arrivals.{Steps}
use Rattle.traffic.specs.Curves.{Numbers}
use Rattle.traffic.specs.Laws.{TrafficLaws}
use Rattle.traffic.specs.Mixture.{first_step, second_step}
use Rattle.traffic.specs.declared.mixture.MixtureState.{MixtureState}
use Rattle.traffic.specs.declared.mixture.MixtureState.TheVariants.{OfFirst, OfSecond}
use Rattle.traffic.specs.Lists.{laws_carried}

-- the steps of the first kind, and of the second, over the state of both

abbrev pub first_steps : {S U : Type 0} → Steps S → Steps (MixtureState S U)
first_steps m = record { fresh = OfFirst m.fresh; step = first_step m.step }

abbrev pub second_steps : {S U : Type 0} → Steps U → Steps (MixtureState S U)
second_steps m = record { fresh = OfSecond m.fresh; step = second_step m.step }

pub first_sound : {S U : Type 0} (n : Numbers) (m : Steps S) → TrafficLaws n m → TrafficLaws n (first_steps {U = U} m)
first_sound n m = laws_carried n OfFirst m (first_step m.step) (λ s a l. refl)

pub second_sound : {S U : Type 0} (n : Numbers) (m : Steps U) → TrafficLaws n m → TrafficLaws n (second_steps {S = S} m)
second_sound n m = laws_carried n OfSecond m (second_step m.step) (λ s a l. refl)
