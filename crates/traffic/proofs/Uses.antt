-- What follows from the laws of any kind.
use Rattle.std.proofs.Common.{◌≡◌, ℕ, zero, suc, ◌+◌, ◌-◌, ◌*◌, ◌<◌, ◌≤◌, Some, None, sym, ap, ◌∙◌, subst, inl, inr, mul-le-mul_left, arith}
use Rattle.std.proofs.lemmas.Bool.{cases_lt}
use Rattle.traffic.specs.Curves.{Numbers, Rises, NextRise}
use Rattle.traffic.specs.Laws.{CurveLaws}
use Rattle.traffic.specs.Staircase.{before_later}

-- A curve stays below one straight line, the same for all kinds.

pub curve_most : (p : ℕ) (n : Numbers) → CurveLaws p n → (t : ℕ) → n.curve t ≤ 45360 + 255 * t
curve_most p n laws t = elim (cases_lt t n.allowance) [
  | inl lt ↦ omega (arith, laws.nothing_before t lt)
  | inr le ↦
      let m : ℕ = t - n.allowance in
      let e : n.allowance + m ≡ t = omega arith in
      let line : 5040 * n.curve t ≤ 5040 * n.burst + m * n.work = subst (λ x. 5040 * n.curve x ≤ 5040 * n.burst + m * n.work) e (laws.under_line m) in
      omega (arith, laws.burst_most, mul-le-mul_left m laws.work_most)
]

-- What never falls, and does not rise after t and up to v, is at v what it is at t.

steady_steps : (f : ℕ → ℕ) → ((t u : ℕ) → t ≤ u → f t ≤ f u) → (t m : ℕ) → ((w : ℕ) → t < w → w ≤ t + m → Rises f w → ⊥) → f (t + m) ≡ f t
steady_steps f up t zero none = ap f (omega arith)
steady_steps f up t (suc m) none =
    let here : f (t + suc m) ≡ f (t + m) = elim (cases_lt (f (t + m)) (f (t + suc m))) [
      | inl lt ↦ absurd (none (t + suc m) (omega arith) (omega arith) (omega (arith, before_later f (t + suc m) (omega arith), ap f last)))
      | inr le ↦ omega (arith, up (t + m) (t + suc m) (omega arith))
    ] in
    here ∙ steady_steps f up t m (λ w l h. none w l (omega arith))
  where
    last : t + suc m - 1 ≡ t + m
    last = omega arith

pub steady : (f : ℕ → ℕ) → ((t u : ℕ) → t ≤ u → f t ≤ f u) → (t v : ℕ) → t ≤ v → ((w : ℕ) → t < w → w ≤ v → Rises f w → ⊥) → f v ≡ f t
steady f up t v h none =
    let e : t + (v - t) ≡ v = omega arith in
    ap f (sym e) ∙ steady_steps f up t (v - t) (λ w l m. none w l (omega arith))

-- So it is from t until just before the next rise, and for ever where there is none.

pub steady_until_rise : (f : ℕ → ℕ) → ((t u : ℕ) → t ≤ u → f t ≤ f u) → (t u v : ℕ) → NextRise f t (Some u) → t ≤ v → v < u → f v ≡ f t
steady_until_rise f up t u v next h lt = steady f up t v h (λ w l m. next.2 w l (omega arith))

pub steady_for_ever : (f : ℕ → ℕ) → ((t u : ℕ) → t ≤ u → f t ≤ f u) → (t v : ℕ) → NextRise f t None → t ≤ v → f v ≡ f t
steady_for_ever f up t v next h = steady f up t v h (λ w l m. next w l)
