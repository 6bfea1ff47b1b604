-- The packing lemma: jobs that lie apart fill no more slots than there are.
use Rattle.std.proofs.Common.{◌≡◌, ℕ, zero, suc, ◌+◌, ◌-◌, ◌≤◌, min, List, [], ◌∷◌, inl, inr, arith}
use Rattle.std.specs.List.{AllByRecursion}
use Rattle.std.proofs.lemmas.Bool.{cases_lt}
use Rattle.std.proofs.ByRecursion.{All-weaker}
use Rattle.verdict.specs.Demand.{total}
use Rattle.schedule.specs.Schedules.{Begun, end, Apart}
use Rattle.schedule.proofs.Sums.{total-none}

-- how many of its slots lie below t
abbrev pub below : ℕ → Begun → ℕ
below t x = min (end x) t - x.start

-- 1 if it is on the air in slot t, and 0 if not
abbrev on_air : ℕ → Begun → ℕ
on_air t x = min 1 (end x - t) - (x.start - t)

one_on_air : (t : ℕ) (xs : List Begun) → Apart xs → total (on_air t) xs ≤ 1
one_on_air t [] h = omega arith
one_on_air t (x ∷ xs) h = elim (cases_lt 0 (on_air t x)) [
  | inl p ↦ omega (arith, total-none (on_air t) xs (All-weaker _ _ (λ y d. omega arith) xs h.0))
  | inr z ↦ omega (arith, one_on_air t xs h.1)
]

below_next : (t : ℕ) (xs : List Begun) → total (below (suc t)) xs ≤ total (below t) xs + total (on_air t) xs
below_next t [] = omega arith
below_next t (x ∷ xs) = omega (arith, below_next t xs)

pub packing : (n a : ℕ) (xs : List Begun) → Apart xs → AllByRecursion (λ x. a ≤ x.start) xs → total (below (n + a)) xs ≤ n
packing zero a xs h k = omega (arith, total-none (below (0 + a)) xs (All-weaker _ _ (λ x l. omega arith) xs k))
packing (suc n) a xs h k =
    let e : suc n + a ≡ suc (n + a) = omega arith in
    rw e (omega (arith, packing n a xs h k, below_next (n + a) xs, one_on_air (n + a) xs h))
