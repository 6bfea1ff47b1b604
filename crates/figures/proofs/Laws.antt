-- The kinds keep the laws.
use Rattle.std.proofs.Common.{◌≡◌, ℕ, ◌≤◌, true, arith}
use Rattle.std.proofs.lemmas.Bool.Decides.{nat_tests}
use Rattle.traffic.specs.Bucket.{bucket_limits}
use Rattle.traffic.specs.Spaced.{spaced_limits}
use Rattle.traffic.specs.Laws.{CurveLaws, Redated}
use Rattle.traffic.specs.declared.mixture.Mixture.TheVariants.{First, Second}
use Rattle.traffic.specs.Buckets.{bucket_shaped, bucket_redated}
use Rattle.traffic.specs.Spacing.{spaced_shaped, spaced_redated}
use Rattle.verdict.proofs.Lengthening.{Lawful}
use Rattle.figures.specs.Kinds.{Kind, numbers, limits, dated}

pub shaped : (k : Kind) (p : ℕ) → 1 ≤ p → p ≤ 255 → limits k p ≡ true → CurveLaws p (numbers k)
shaped (First k) p _ small h = spaced_shaped k.period k.longest k.allowance p small h
shaped (Second k) p _ small h = bucket_shaped k.period k.longest k.depth k.allowance p small h

redated : (k : Kind) (p e : ℕ) → 1 ≤ p → p ≤ 255 → limits k p ≡ true → (numbers k).longest ≤ e → e ≤ 40320 → Redated (numbers k) e (numbers (dated k e))
redated (First k) p e _ _ _ _ _ = spaced_redated k.period k.longest k.allowance e
redated (Second k) p e _ _ _ _ _ = bucket_redated k.period k.longest k.depth k.allowance e

spaced_redatable : (T C d e p : ℕ) → spaced_limits T C d p ≡ true → C ≤ e → e ≤ 40320 → spaced_limits T C e p ≡ true
spaced_redatable T C d e p h least most = grind (arith, nat_tests)

bucket_redatable : (T C b d e p : ℕ) → bucket_limits T C b d p ≡ true → C ≤ e → e ≤ 40320 → bucket_limits T C b e p ≡ true
bucket_redatable T C b d e p h least most = grind (arith, nat_tests)

redatable : (k : Kind) (p e : ℕ) → 1 ≤ p → p ≤ 255 → limits k p ≡ true → (numbers k).longest ≤ e → e ≤ 40320 → limits (dated k e) p ≡ true
redatable (First k) p e _ _ h least most = spaced_redatable k.period k.longest k.allowance e p h least most
redatable (Second k) p e _ _ h least most = bucket_redatable k.period k.longest k.depth k.allowance e p h least most

pub lawful : Lawful numbers limits dated
lawful = record { shaped = shaped; redated = redated; redatable = redatable }
