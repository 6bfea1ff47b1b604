-- Where a staircase rises first, and how long a period can be.
use Rattle.std.proofs.Common.{◌≡◌, ℕ, ◌-◌, ◌%◌, ◌<◌, ◌≤◌, true, Some, sym, ◌∙◌, subst, inl, inr, mod-eq_of_lt, arith}
use Rattle.std.proofs.lemmas.Bool.{cases_lt}
use Rattle.traffic.specs.Bucket.{bucket_limits}
use Rattle.traffic.specs.Buckets.{limits_facts}
use Rattle.traffic.specs.Curves.{NextRise, staircase}
use Rattle.traffic.specs.Staircase.{before_later, flat_no_rise, staircase_before, staircase_starts}

-- A period that divides the frame is no longer than the frame.

pub period_most : (T : ℕ) → 5040 % T ≡ 0 → T ≤ 5040
period_most T e = elim (cases_lt 5040 T) [ inl lt ↦ omega (arith, mod-eq_of_lt lt) | inr le ↦ le ]

-- Before d, the next rise of a staircase is at d; so too within the limits of bucket traffic.

pub first_rise : (T C b d t : ℕ) → 1 ≤ C → 1 ≤ b → t < d → NextRise (staircase T C b d) t (Some d)
first_rise T C b d t some deep h = (
  h,
  omega (arith, before_later (staircase T C b d) d (omega arith), staircase_before T C b d (d - 1) (omega arith), staircase_starts T C b d deep),
  λ v l m. flat_no_rise (staircase T C b d) v (omega arith) (staircase_before T C b d v m ∙ sym (staircase_before T C b d (v - 1) (omega arith))),
)

pub bucket_first_rise : (T C b d p t u : ℕ) → bucket_limits T C b d p ≡ true → t < d → d ≡ u → NextRise (staircase T C b d) t (Some u)
bucket_first_rise T C b d p t u h lt e =
    let lim = limits_facts T C b d p h in
    subst (λ x. NextRise (staircase T C b d) t (Some x)) e (first_rise T C b d t lim.longest_least lim.depth_least lt)
