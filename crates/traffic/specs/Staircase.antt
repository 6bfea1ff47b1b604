-- The staircase: 0 before d, C * b at d, and C more every T slots.
use Rattle.std.specs.Prelude.{◌≡◌, ℕ, ◌+◌, ◌-◌, ◌*◌, ◌/◌, ◌%◌, ◌<◌, ◌≤◌, Some, ◌==◌, nat_lt}
use Rattle.std.proofs.Common.{sym, ap, ◌∙◌, inl, inr, div-add-mod', mul-le-mul, mul-le-mul_left, mul_comm, mul_assoc, div-mul-le_self, div-le_self, mul-div_cancel, le_refl, arith}
use Rattle.std.proofs.Math.Nat.{add-mul-div_left, div-eq_of_eq-mul_left, div-eq-sub-div, div-eq_of_lt, div-eq_of_lt-le, lt-div-mul-add}
use Rattle.std.proofs.lemmas.Bool.{cases_lt, cond-true, cond-false, lt-ltb, le-ltb, ne_eqb}
use Rattle.std.proofs.lemmas.Nat.{le-div}
use Rattle.traffic.specs.Curves.{before, Rises, NextRise, staircase}

-- A period that divides the frame: it goes into it a whole number of times, and so the work is C for each time.

frame_periods : (T : ℕ) → 5040 % T ≡ 0 → 5040 / T * T ≡ 5040
frame_periods T e = omega (arith, div-add-mod' 5040 T)

pub work_periods : (T C : ℕ) → 1 ≤ T → 5040 % T ≡ 0 → C * 5040 / T ≡ C * (5040 / T)
work_periods T C pos e = div-eq_of_eq-mul_left pos (ap (λ x. C * x) (sym (frame_periods T e)) ∙ sym (mul_assoc C (5040 / T) T))

pub work_most : (T C : ℕ) → C ≤ 255 → C * 5040 / T ≤ 1285200
work_most T C h =
    let x : C * 5040 ≤ 255 * 5040 = mul-le-mul h (le_refl 5040) in
    omega (arith, div-le_self (C * 5040) T)

-- Its values.

pub staircase_before : (T C b d t : ℕ) → t < d → staircase T C b d t ≡ 0
staircase_before T C b d t h = cond-true (nat_lt t d) 0 (C * ((t - d) / T + b)) (lt-ltb t d h)

pub staircase_from : (T C b d t : ℕ) → d ≤ t → staircase T C b d t ≡ C * ((t - d) / T + b)
staircase_from T C b d t h = cond-false (nat_lt t d) 0 (C * ((t - d) / T + b)) (le-ltb t d h)

pub staircase_after : (T C b d n : ℕ) → staircase T C b d (d + n) ≡ C * (n / T + b)
staircase_after T C b d n =
    let e : (d + n) - d ≡ n = omega arith in
    staircase_from T C b d (d + n) (omega arith) ∙ ap (λ x. C * (x / T + b)) e

-- It never falls, starts at C or more, and repeats with the work added in each frame.

quotient_never_falls : (T m n : ℕ) → 1 ≤ T → m ≤ n → m / T ≤ n / T
quotient_never_falls T m n pos h = le-div (m / T) n T pos (omega (arith, div-mul-le_self m T))

pub staircase_never_falls : (T C b d t u : ℕ) → 1 ≤ T → t ≤ u → staircase T C b d t ≤ staircase T C b d u
staircase_never_falls T C b d t u pos h = elim (cases_lt t d) [
  | inl lt ↦ omega (arith, staircase_before T C b d t lt)
  | inr le ↦
      let q : (t - d) / T + b ≤ (u - d) / T + b = omega (arith, quotient_never_falls T (t - d) (u - d) pos (omega arith)) in
      let l : d ≤ u = omega arith in
      omega (arith, staircase_from T C b d t le, staircase_from T C b d u l, mul-le-mul_left C q)
]

pub staircase_starts : (T C b d : ℕ) → 1 ≤ b → C ≤ staircase T C b d d
staircase_starts T C b d h =
    let x : C * 1 ≤ C * ((d - d) / T + b) = mul-le-mul_left C (omega arith) in
    omega (arith, staircase_from T C b d d (le_refl d))

pub staircase_repeats : (T C b d t : ℕ) → 1 ≤ T → 5040 % T ≡ 0 → d ≤ t → staircase T C b d (t + 5040) ≡ staircase T C b d t + C * 5040 / T
staircase_repeats T C b d t pos div h =
    let q : ℕ = 5040 / T in
    let far : (t + 5040) - d ≡ (t - d) + T * q = omega (arith, frame_periods T div, mul_comm q T) in
    let e : ((t + 5040) - d) / T ≡ (t - d) / T + q = ap (λ x. x / T) far ∙ add-mul-div_left (t - d) q pos in
    let s : C * (((t + 5040) - d) / T + b) ≡ C * (((t - d) / T + b) + q) = ap (λ x. C * (x + b)) e ∙ ap (λ x. C * x) (omega arith) in
    omega (arith, staircase_from T C b d (t + 5040) (omega arith), staircase_from T C b d t h, work_periods T C pos div)

-- It stays under the straight line from b * C that climbs by the work in each frame.

pub staircase_under_line : (T C b d n : ℕ) → 1 ≤ T → 5040 % T ≡ 0 → 5040 * staircase T C b d (d + n) ≤ 5040 * (b * C) + n * (C * 5040 / T)
staircase_under_line T C b d n pos div =
    let q : ℕ = 5040 / T in
    let k : ℕ = n / T in
    let x : q * (k * T) ≤ q * n = mul-le-mul_left q (div-mul-le_self n T) in
    let y : q * T * k ≡ 5040 * k = ap (λ x. x * k) (frame_periods T div) in
    let z : 5040 * k ≤ q * n = omega arith in
    let e : C * (5040 * k) ≤ C * (q * n) = mul-le-mul_left C z in
    let g : n * (C * 5040 / T) ≡ n * (C * q) = ap (λ x. n * x) (work_periods T C pos div) in
    omega (arith, staircase_after T C b d n)

-- A staircase of one stair more at its front.

pub staircase_next_stair : (T C d u : ℕ) → 1 ≤ T → d ≤ u → C + staircase T C 1 (d + T) u ≡ staircase T C 1 d u
staircase_next_stair T C d u pos h = elim (cases_lt u (d + T)) [
  | inl lt ↦
      let z : (u - d) / T ≡ 0 = div-eq_of_lt (omega arith) in
      let e : C * ((u - d) / T + 1) ≡ C * 1 = ap (λ x. C * (x + 1)) z in
      omega (arith, staircase_before T C 1 (d + T) u lt, staircase_from T C 1 d u h)
  | inr le ↦
      let same : (u - d) - T ≡ u - (d + T) = omega arith in
      let z : (u - d) / T ≡ (u - (d + T)) / T + 1 = div-eq-sub-div pos (omega arith) ∙ ap (λ x. x / T + 1) same in
      let e : C * ((u - d) / T + 1) ≡ C * ((u - (d + T)) / T + 1 + 1) = ap (λ x. C * (x + 1)) z in
      omega (arith, staircase_from T C 1 (d + T) u le, staircase_from T C 1 d u h)
]

-- It rises first at d, and from there on next where the quotient grows.

pub before_later : (f : ℕ → ℕ) (t : ℕ) → 0 < t → before f t ≡ f (t - 1)
before_later f t h = cond-false (t == 0) 0 (f (t - 1)) (ne_eqb t 0 (λ e. omega arith))

pub flat_no_rise : (f : ℕ → ℕ) (t : ℕ) → 0 < t → f t ≡ f (t - 1) → Rises f t → ⊥
flat_no_rise f t h e r = omega (arith, before_later f t h)

pub later_rise : (T C b d t : ℕ) → 1 ≤ T → 1 ≤ C → d ≤ t → NextRise (staircase T C b d) t (Some (d + ((t - d) / T + 1) * T))
later_rise T C b d t pos some h =
    let q : ℕ = (t - d) / T in
    let u : ℕ = d + (q + 1) * T in
    let lo : q * T ≤ t - d = div-mul-le_self (t - d) T in
    let hi : t - d < q * T + T = lt-div-mul-add pos in
    let level : (v : ℕ) → t ≤ v → v < u → staircase T C b d v ≡ C * (q + b) =
    λ v l m.
    let e : (v - d) / T ≡ q = div-eq_of_lt-le T (omega arith) (omega arith) in
    staircase_from T C b d v (omega arith) ∙ ap (λ x. C * (x + b)) e in
    let at : staircase T C b d u ≡ C * ((q + 1) + b) = staircase_after T C b d ((q + 1) * T) ∙ ap (λ x. C * (x + b)) (mul-div_cancel (q + 1) pos) in (
      omega arith,
      omega (arith, before_later (staircase T C b d) u (omega arith), level (u - 1) (omega arith) (omega arith)),
      λ v l m. flat_no_rise (staircase T C b d) v (omega arith) (level v (omega arith) m ∙ sym (level (v - 1) (omega arith) (omega arith))),
    )
