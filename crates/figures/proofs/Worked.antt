-- The worked figures, each by one computed test.
use Rattle.std.proofs.Common.{[], ◌∷◌, refl}
use Rattle.figures.specs.Figures.{Figures, one, two, three}
use Rattle.figures.specs.Kinds.{S, B}
use Rattle.figures.proofs.Links.{late_on, overloaded_on, granted_on, least_on, stretch_on, outside_on}
use Rattle.figures.proofs.Reached.{reached_alone, reached_joined, reached_empty, reached_full}
use Rattle.figures.proofs.Released.{released}

pub worked : Figures
worked = record {
  least_alone = λ d. least_on 4 [] (S 10 2 d) 5 5 4 refl;
  late_alone = late_on 4 [] (S 10 2 4) 4 1 refl;
  least_bucket = λ d. least_on 4 [] (B 10 2 3 d) 9 9 8 refl;
  least_second = λ d. least_on 4 one (S 8 4 d) 12 9 8 refl;
  least_third = λ d. least_on 4 two (S 12 3 d) 40 18 17 refl;
  late_third = late_on 4 two (S 12 3 17) 17 4 refl;
  granted_third = granted_on 4 two (S 12 3 18) 40 refl;
  stretch_third = stretch_on 4 three refl;
  late_full = late_on 2 [] (S 1 1 1) 1 1 refl;
  granted_full = granted_on 2 [] (S 1 1 2) 2 refl;
  overloaded = overloaded_on 2 (S 1 1 2 ∷ []) (S 5040 1 1) refl;
  period_11 = outside_on 4 (S 11 2 5) refl;
  allowance_40321 = outside_on 4 (S 10 2 40321) refl;
  allowance_40320 = refl;
  number_limits = refl;
  number_overloaded = refl;
  number_late = λ _ _. refl;
  slots_32 = refl;
  slots_33 = refl;
  reached_alone = reached_alone;
  reached_one = reached_joined.0;
  reached_two = reached_joined.1;
  reached_three = reached_joined.2;
  reached_empty = reached_empty;
  reached_full = reached_full;
  release = released;
}
