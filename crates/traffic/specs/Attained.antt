-- Some lawful list of a bucket meets the curve.
use Rattle.std.specs.Prelude.{◌≡◌, ℕ, zero, suc, ◌+◌, ◌-◌, ◌*◌, ◌/◌, ◌<◌, ◌≤◌, max, cond, ◌&&◌, List, [], ◌∷◌, nat_le}
use Rattle.std.proofs.Common.{sym, ap, ◌∙◌, inl, inr, le_refl, zero-add, mul-le-mul_left, arith}
use Rattle.std.proofs.lemmas.Bool.{cases_lt}
use Rattle.std.proofs.lemmas.Bool.Decides.{nat_tests}
use Rattle.traffic.specs.Arrivals.{Arrival, Taken, demand}
use Rattle.traffic.specs.Bucket.{bucket_step}
use Rattle.traffic.specs.Curves.{staircase}
use Rattle.traffic.specs.Credits.{is_taken}
use Rattle.traffic.specs.Lists.{no_demand}
use Rattle.traffic.specs.Staircase.{staircase_before, staircase_from, staircase_next_stair}

-- The list that meets the curve: j packets of length C in slot 0, and then n more, T apart from slot s on.

unfoldable pub every_period : ℕ → ℕ → ℕ → ℕ → List Arrival
every_period T C s zero = []
every_period T C s (suc n) = record { slot = s; len = C } ∷ every_period T C (s + T) n

unfoldable pub at_once : ℕ → ℕ → List Arrival → List Arrival
at_once C zero ps = ps
at_once C (suc j) ps = record { slot = 0; len = C } ∷ at_once C j ps

-- It is lawful.

every_period_taken : (T C b : ℕ) → 1 ≤ C → (n z a s : ℕ) → a ≤ s → z ≤ s + (b - 1) * T → Taken (bucket_step T C b) z a (every_period T C s n)
unfolding every_period
every_period_taken T C b pos zero z a s h k = tt
every_period_taken T C b pos (suc n) z a s h k =
    (max z s + T, h, is_taken T C b z s C pos (le_refl C) k, every_period_taken T C b pos n (max z s + T) s (s + T) (omega arith) (omega arith))

pub at_once_taken : (T C b : ℕ) → 1 ≤ C → (n j z : ℕ) → z + j * T ≤ (b - 1) * T → Taken (bucket_step T C b) z 0 (at_once C j (every_period T C 0 n))
unfolding at_once
at_once_taken T C b pos n zero z h = every_period_taken T C b pos n z 0 0 (le_refl 0) (omega arith)
at_once_taken T C b pos n (suc j) z h =
    (max z 0 + T, le_refl 0, is_taken T C b z 0 C pos (le_refl C) (omega arith), at_once_taken T C b pos n j (max z 0 + T) (omega arith))

-- Its demand from slot 0 is the curve, as far as the list goes.

due_counts : (C d s u : ℕ) → s + d ≤ u → cond (nat_le 0 s && nat_le (s + d) (0 + u)) C 0 ≡ C
due_counts C d s u h = grind (arith, nat_tests)

not_due_counts_not : (C d s u : ℕ) → u < s + d → cond (nat_le 0 s && nat_le (s + d) (0 + u)) C 0 ≡ 0
not_due_counts_not C d s u h = grind (arith, nat_tests)

every_period_demand : (T C d u : ℕ) → 1 ≤ T → (n s : ℕ) → u < s + d + n * T → demand d 0 u (every_period T C s n) ≡ staircase T C 1 (s + d) u
unfolding every_period
every_period_demand T C d u pos zero s h = sym (staircase_before T C 1 (s + d) u (omega arith))
every_period_demand T C d u pos (suc n) s h =
    let same : (s + T) + d ≡ (s + d) + T = omega arith in
    let rest : demand d 0 u (every_period T C (s + T) n) ≡ staircase T C 1 ((s + d) + T) u =
    every_period_demand T C d u pos n (s + T) (omega arith) ∙ ap (λ x. staircase T C 1 x u) same in
    elim (cases_lt u (s + d)) [
      | inl lt ↦ omega (arith, not_due_counts_not C d s u lt, staircase_before T C 1 (s + d) u lt, staircase_before T C 1 ((s + d) + T) u (omega arith))
      | inr le ↦ omega (arith, due_counts C d s u le, staircase_next_stair T C (s + d) u pos le)
    ]

at_once_demand : (C d u : ℕ) → d ≤ u → (j : ℕ) (ps : List Arrival) → demand d 0 u (at_once C j ps) ≡ C * j + demand d 0 u ps
unfolding at_once
at_once_demand C d u h zero ps = omega arith
at_once_demand C d u h (suc j) ps = omega (arith, due_counts C d 0 u (omega arith), at_once_demand C d u h j ps)

pub meets_curve : (T C b d t u : ℕ) → 1 ≤ T → 1 ≤ b → u ≤ t → demand d 0 u (at_once C (b - 1) (every_period T C 0 (suc t))) ≡ staircase T C b d u
meets_curve T C b d t u pos deep h = elim (cases_lt u d) [
  | inl lt ↦ no_demand d 0 u lt (at_once C (b - 1) (every_period T C 0 (suc t))) ∙ sym (staircase_before T C b d u lt)
  | inr le ↦
      let q : ℕ = (u - d) / T in
      let whole : C * ((b - 1) + (q + 1)) ≡ C * (q + b) = ap (λ x. C * x) (omega arith) in
      let rest : demand d 0 u (every_period T C 0 (suc t)) ≡ staircase T C 1 d u =
      every_period_demand T C d u pos (suc t) 0 (omega (arith, mul-le-mul_left (suc t) pos)) ∙ ap (λ x. staircase T C 1 x u) (zero-add d) in
      omega (arith, at_once_demand C d u le (b - 1) (every_period T C 0 (suc t)), staircase_from T C 1 d u le, staircase_from T C b d u le)
]
