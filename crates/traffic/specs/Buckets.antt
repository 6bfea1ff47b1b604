-- The laws of bucket traffic.
use Rattle.std.specs.Prelude.{◌≡◌, ℕ, suc, ◌+◌, ◌-◌, ◌*◌, ◌/◌, ◌%◌, ◌≤◌, max, true, Some, refl}
use Rattle.std.proofs.Common.{sym, subst, ◌∙◌, le_refl, mul-le-mul, arith}
use Rattle.std.proofs.lemmas.Bool.Decides.{nat_tests}
use Rattle.traffic.specs.Bucket.{bucket_limits, bucket, bucket_steps}
use Rattle.traffic.specs.Curves.{NextRise, staircase}
use Rattle.traffic.specs.Laws.{CurveLaws, Redated, TrafficLaws}
use Rattle.traffic.specs.Attained.{every_period, at_once, at_once_taken, meets_curve}
use Rattle.traffic.specs.Bounded.{taken_bounded}
use Rattle.traffic.specs.Credits.{is_taken, taken_lengths, taken_later}
use Rattle.traffic.specs.Staircase.{work_most, staircase_before, staircase_after, staircase_never_falls, staircase_starts, staircase_repeats, staircase_under_line, later_rise}

-- The limits, as facts.

pub record BucketLimits (T C b d p : ℕ) : Type 0 where
  pub period : 1 ≤ T
  pub divides : 5040 % T ≡ 0
  pub longest_least : 1 ≤ C
  pub longest_most : C ≤ p
  pub depth_least : 1 ≤ b
  pub depth_most : b ≤ 8
  pub allowance_least : C ≤ d
  pub allowance_most : d ≤ 40320

pub limits_facts : (T C b d p : ℕ) → bucket_limits T C b d p ≡ true → BucketLimits T C b d p
limits_facts T C b d p h =
    record {
      period = grind (arith, nat_tests);
      divides = grind (arith, nat_tests);
      longest_least = grind (arith, nat_tests);
      longest_most = grind (arith, nat_tests);
      depth_least = grind (arith, nat_tests);
      depth_most = grind (arith, nat_tests);
      allowance_least = grind (arith, nat_tests);
      allowance_most = grind (arith, nat_tests);
    }

-- The laws of the numbers and the curve.

pub bucket_shaped : (T C b d p : ℕ) → p ≤ 255 → bucket_limits T C b d p ≡ true → CurveLaws p (bucket T C b d)
bucket_shaped T C b d p small h =
    let lim = limits_facts T C b d p h in
    let short : C ≤ 255 = omega (arith, lim.longest_most) in
    record {
      longest_least = lim.longest_least;
      longest_most = lim.longest_most;
      allowance_least = lim.allowance_least;
      allowance_most = lim.allowance_most;
      never_falls = λ t u. staircase_never_falls T C b d t u lim.period;
      nothing_before = staircase_before T C b d;
      starts = staircase_starts T C b d lim.depth_least;
      repeats = λ t. staircase_repeats T C b d t lim.period lim.divides;
      under_line = λ m. staircase_under_line T C b d m lim.period lim.divides;
      work_most = work_most T C short;
      burst_most = omega (arith, mul-le-mul lim.depth_most short);
    }

pub bucket_redated : (T C b d e : ℕ) → Redated (bucket T C b d) e (bucket T C b e)
bucket_redated T C b d e = record {
  allowance = refl;
  longest = refl;
  work = refl;
  burst = refl;
  curve = λ m. staircase_after T C b e m ∙ sym (staircase_after T C b d m);
}

-- What next rise answers, within the limits.

pub bucket_later_rise : (T C b d p t u : ℕ) → bucket_limits T C b d p ≡ true → d ≤ t → d + ((t - d) / T + 1) * T ≡ u → NextRise (staircase T C b d) t (Some u)
bucket_later_rise T C b d p t u h le e =
    let lim = limits_facts T C b d p h in
    subst (λ x. NextRise (staircase T C b d) t (Some x)) e (later_rise T C b d t lim.period lim.longest_least le)

-- The laws of the lists.

pub bucket_sound : (T C b d p : ℕ) → bucket_limits T C b d p ≡ true → TrafficLaws (bucket T C b d) (bucket_steps T C b)
bucket_sound T C b d p h =
    let lim = limits_facts T C b d p h in
    record {
      bounded = taken_bounded T C b d lim.period lim.depth_least;
      attained = λ t. (at_once C (b - 1) (every_period T C 0 (suc t)), at_once_taken T C b lim.longest_least (suc t) (b - 1) 0 (omega arith), λ u. meets_curve T C b d t u lim.period lim.depth_least);
      movable = λ x ps. taken_later T C b x 0 0 0 0 ps (omega arith) (omega arith);
      lengths = taken_lengths T C b 0 0;
      one_longest = λ a. (max 0 a + T, omega arith, is_taken T C b 0 a C lim.longest_least (le_refl C) (omega arith), tt);
    }
