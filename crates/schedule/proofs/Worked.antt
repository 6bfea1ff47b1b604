-- The worked link.
use Rattle.std.proofs.Common.{◌≡◌, ℕ, List, [], ◌∷◌, Some, refl, inl, inr, arith}
use Rattle.std.proofs.lemmas.List.Sorted.{IsPermutation-swap}
use Rattle.std.proofs.lemmas.Bool.Decides.{nat_tests}
use Rattle.verdict.specs.Demand.{curves, blocking}
use Rattle.verdict.specs.Points.{Fits}
use Rattle.schedule.specs.Arrivals.{Offers, Arrivals}
use Rattle.schedule.specs.Examples.{numbers, steps, bulk, read, schedule, Examples}
use Rattle.schedule.specs.Schedules.{Begun, Unidling, Proper, Late}
use Rattle.schedule.proofs.Necessity.{too_late}

fits_at_5 : (t : ℕ) → Fits (blocking 4) (curves numbers (5 ∷ [])) t
fits_at_5 t some = grind (arith, nat_tests)

abbrev offers : (d : ℕ) → Offers numbers steps (d ∷ [])
offers d = (read d ∷ [], record { lawful = (Some 1, omega arith, refl, tt); due = (refl, tt) }, tt)

abbrev arrivals : (d : ℕ) → Arrivals numbers steps 4 (d ∷ [])
arrivals d = record { bulk = bulk ∷ []; sizes = (record { least = omega arith; most = omega arith; due = refl }, tt); offers = offers d }

unidling : Unidling (schedule 5)
unidling s free (inl w) = inl (omega (arith, free.1.0))
unidling s free (inr (inl w)) = inr (inl (omega arith))
unidling s free (inr (inr z)) = absurd z

timely : Late (schedule 5) → ⊥
timely (inl (d, e, l)) = let six : 6 ≡ d = cc in omega arith
timely (inr (inl (d, e, l))) = cc
timely (inr (inr z)) = z

defeating : (xs : List Begun) → Proper (bulk ∷ read 4 ∷ []) xs → Late xs
defeating = too_late bulk 4 (read 4 ∷ []) refl refl (omega arith, tt) (omega arith) (omega arith)

pub worked : Examples
worked = record {
  within = record { least = omega arith; most = omega arith; within = (refl, (refl, tt)) };
  passes = record { works_fit = omega arith; demand_fits = fits_at_5 };
  arrivals = (arrivals 5, refl);
  proper = record {
    each_once = IsPermutation-swap (bulk ∷ read 5 ∷ []) (read 5 ∷ bulk ∷ []) 0 1 (omega arith) (omega arith) refl;
    begins = (omega arith, (omega arith, tt));
    apart = ((inr (omega arith), tt), (tt, tt));
    unidling = unidling;
  };
  timely = timely;
  fails = λ ok. omega (arith, ok.demand_fits 4 (omega arith));
  defeating = ((arrivals 4, defeating), refl);
}
