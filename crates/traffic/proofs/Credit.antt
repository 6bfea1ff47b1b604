-- What a taken packet tells, and how the test of spaced traffic is that of bucket traffic of depth 1.
use Rattle.std.proofs.Common.{◌≡◌, ℕ, ◌+◌, ◌-◌, ◌*◌, max, Bool, true, cond, ◌&&◌, Some, None, nat_le, sym, arith}
use Rattle.std.proofs.lemmas.Bool.Decides.{nat_tests}
use Rattle.std.proofs.lemmas.Option.{cond_some}
use Rattle.traffic.specs.Bucket.{bucket_limits}
use Rattle.traffic.specs.Spaced.{spaced_limits}

-- A packet that was taken passed the test, and the answer is what the test gives.

pub passed_test : {X : Type 0} (b : Bool) (x t : X) → cond b (Some x) None ≡ Some t → (b ≡ true) × (t ≡ x)
passed_test b x t e = let h = cond_some b x t e in (h.0, sym h.1)

-- Spaced limits are those of a bucket of depth 1.

pub limits_are_bucket : (T C d p : ℕ) → spaced_limits T C d p ≡ true → bucket_limits T C 1 d p ≡ true
limits_are_bucket T C d p h = h

-- The test is the same at depth 1, and a packet that passes it comes no earlier than the credit.

pub same_test : (T C z s l : ℕ) → (nat_le 1 l && (nat_le l C && nat_le z (s + (1 - 1) * T))) ≡ (nat_le 1 l && (nat_le l C && nat_le z s))
same_test T C z s l = grind (arith, nat_tests)

pub credit_after : (T C z s l : ℕ) → (nat_le 1 l && (nat_le l C && nat_le z s)) ≡ true → max z s + T ≡ s + T
credit_after T C z s l h = grind (arith, nat_tests)
