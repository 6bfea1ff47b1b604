-- Spaced traffic is bucket traffic of depth 1: no packet yet is credit 0, and a last packet in slot s is credit s + T.
use Rattle.std.specs.Prelude.{◌≡◌, ℕ, ◌*◌, ◌/◌, ◌≤◌, true, Option}
use Rattle.std.proofs.Common.{ap, subst, one-mul, arith}
use Rattle.std.proofs.lemmas.Bool.Decides.{nat_tests}
use Rattle.std.specs.Option.{option_map}
use Rattle.traffic.specs.Bucket.{bucket, bucket_step, bucket_steps}
use Rattle.traffic.specs.Curves.{staircase}
use Rattle.traffic.specs.Laws.{CurveLaws, Redated, TrafficLaws}
use Rattle.traffic.specs.Spaced.{spaced, spaced_limits, ready, spaced_step, spaced_steps}
use Rattle.traffic.specs.Buckets.{bucket_shaped, bucket_redated, bucket_sound}
use Rattle.traffic.specs.Lists.{laws_carried_back}

spaced_is_bucket : (T C d : ℕ) → bucket T C 1 d ≡ spaced T C d
spaced_is_bucket T C d = ap (λ x. record { allowance = d; longest = C; work = C * 5040 / T; burst = x; curve = staircase T C 1 d }) (one-mul C)

-- A packet is taken as the bucket takes it.

step_is_bucket : (T C : ℕ) (last : Option ℕ) (s l : ℕ) → bucket_step T C 1 (ready T last) s l ≡ option_map (ready T) (spaced_step T C last s l)
step_is_bucket T C last s l = grind (arith, nat_tests)

pub spaced_shaped : (T C d p : ℕ) → p ≤ 255 → spaced_limits T C d p ≡ true → CurveLaws p (spaced T C d)
spaced_shaped T C d p small h = subst (CurveLaws p) (spaced_is_bucket T C d) (bucket_shaped T C 1 d p small h)

pub spaced_redated : (T C d e : ℕ) → Redated (spaced T C d) e (spaced T C e)
spaced_redated T C d e = subst (λ n. Redated n e (spaced T C e)) (spaced_is_bucket T C d) (subst (λ n. Redated (bucket T C 1 d) e n) (spaced_is_bucket T C e) (bucket_redated T C 1 d e))

pub spaced_sound : (T C d p : ℕ) → spaced_limits T C d p ≡ true → TrafficLaws (spaced T C d) (spaced_steps T C)
spaced_sound T C d p h =
    laws_carried_back (spaced T C d) (ready T) (spaced_steps T C) (bucket_step T C 1) (step_is_bucket T C)
    (subst (λ n. TrafficLaws n (bucket_steps T C 1)) (spaced_is_bucket T C d) (bucket_sound T C 1 d p h))
