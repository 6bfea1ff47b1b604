-- Finitely many points are enough: the sum of curves repeats each frame, so a look below the horizon decides every t.
use Rattle.std.proofs.Common.{◌≡◌, ℕ, zero, suc, ◌+◌, ◌-◌, ◌*◌, ◌<◌, ◌≤◌, ◌⊎◌, List, [], ◌∷◌, refl, ap, inl, inr, mul-le-mul_left, arith}
use Rattle.std.specs.List.{AllByRecursion}
use Rattle.std.proofs.lemmas.Bool.{cases_lt}
use Rattle.traffic.specs.Curves.{Numbers, Rises}
use Rattle.traffic.specs.Laws.{CurveLaws}
use Rattle.traffic.specs.Staircase.{before_later}
use Rattle.verdict.specs.Demand.{largest, works, curves, horizon}
use Rattle.verdict.specs.Passes.{Passes}
use Rattle.verdict.specs.Points.{Fits}

-- For any function that never falls, and any blocking term that never rises.

module _ (β F : ℕ → ℕ) (eases : (t u : ℕ) → t ≤ u → β u ≤ β t) (up : (t u : ℕ) → t ≤ u → F t ≤ F u) where
  -- between two rises it is steady, so that a t fits where the last rise did
  pub fits_below : (h : ℕ) → ((t : ℕ) → t < h → Rises F t → Fits β F t) → (t : ℕ) → t < h → Fits β F t
  fits_below h rises zero l some = rises zero l some some
  fits_below h rises (suc t) l some = elim (cases_lt (F t) (F (suc t))) [
    | inl r ↦ rises (suc t) l (omega (arith, before_later F (suc t) (omega arith), ap F last)) some
    | inr g ↦ omega (arith, fits_below h rises t (omega arith) (omega arith), eases t (suc t) (omega arith))
  ]
    where
      last : suc t - 1 ≡ t
      last = omega arith

  -- each t below n fits, or one does not
  pub fits_or_fails : (n : ℕ) → ((t : ℕ) → t < n → Fits β F t) ⊎ ((t : ℕ) × (0 < F t) × (t < F t + β t))
  fits_or_fails zero = inl (λ t l. absurd (omega arith))
  fits_or_fails (suc n) = elim (fits_or_fails n) [
    | inr f ↦ inr f
    | inl all ↦ elim (cases_lt 0 (F n)) [
      | inr z ↦ inl (λ t l some. elim (cases_lt t n) [ inl b ↦ all t b some | inr g ↦ absurd (nothing t (omega arith) z some) ])
      | inl y ↦ elim (cases_lt n (F n + β n)) [
        | inl b ↦ inr (n, y, b)
        | inr g ↦ inl (λ t l some. elim (cases_lt t n) [ inl b ↦ all t b some | inr e ↦ here t (omega arith) g ])
      ]
    ]
  ]
    where
      nothing : (t : ℕ) → t ≡ n → F n ≤ 0 → 0 < F t → ⊥
      nothing t e z some = omega (arith, ap F e)

      here : (t : ℕ) → t ≡ n → F n + β n ≤ n → F t + β t ≤ t
      here t e g = omega (arith, ap F e, ap β e)

-- Sums of curves.

module _ {K : Type 0} (numbers : K → Numbers) (p : ℕ) where
  pub curves_never_fall : (ks : List K) → AllByRecursion (λ k. CurveLaws p (numbers k)) ks → (t u : ℕ) → t ≤ u → curves numbers ks t ≤ curves numbers ks u
  curves_never_fall [] l t u h = omega arith
  curves_never_fall (k ∷ ks) l t u h = omega (arith, l.0.never_falls t u h, curves_never_fall ks l.1 t u h)

  repeats_after : (ks : List K) → AllByRecursion (λ k. CurveLaws p (numbers k)) ks → (t : ℕ) → largest (λ k. (numbers k).allowance) ks ≤ t → curves numbers ks (t + 5040) ≡ curves numbers ks t + works numbers ks
  repeats_after [] l t h = omega arith
  repeats_after (k ∷ ks) l t h = omega (arith, l.0.repeats t (omega arith), repeats_after ks l.1 t (omega arith))

  -- once every allowance has passed, each channel may have asked for something
  idle_after : (ks : List K) → AllByRecursion (λ k. CurveLaws p (numbers k)) ks → (t : ℕ) → largest (λ k. (numbers k).allowance) ks ≤ t → curves numbers ks t ≡ 0 → works numbers ks ≡ 0
  idle_after [] l t h z = refl
  idle_after (k ∷ ks) l t h z = absurd (omega (arith, l.0.longest_least, l.0.starts, l.0.never_falls (numbers k).allowance t (omega arith)))

  module _ (β : ℕ → ℕ) (eases : (t u : ℕ) → t ≤ u → β u ≤ β t) (ks : List K) (laws : AllByRecursion (λ k. CurveLaws p (numbers k)) ks) where
    -- a t that fits carries all that lie whole frames after it
    pub fits_every_frame : works numbers ks ≤ 5040 → ((t : ℕ) → t < horizon numbers ks → Fits β (curves numbers ks) t) → (n t : ℕ) → t ≤ n → Fits β (curves numbers ks) t
    fits_every_frame few below zero t l = below t (omega arith)
    fits_every_frame few below (suc n) t l = elim (cases_lt t (horizon numbers ks)) [
      | inl b ↦ below t b
      | inr g ↦ later (t - 5040) (omega arith) (omega arith) (fits_every_frame few below n (t - 5040) (omega arith))
    ]
      where
        later : (u : ℕ) → u + 5040 ≡ t → largest (λ k. (numbers k).allowance) ks ≤ u → Fits β (curves numbers ks) u → Fits β (curves numbers ks) t
        later u e past fits some =
            let same : curves numbers ks t ≡ curves numbers ks u + works numbers ks = rw e at (repeats_after ks laws u past) in
            elim (cases_lt 0 (curves numbers ks u)) [
              | inl y ↦ omega (arith, fits y, eases u t (omega arith))
              | inr z ↦ absurd (omega (arith, idle_after ks laws u past (omega arith)))
            ]

    -- works that fit a frame, and points below the horizon that fit, are all that passing asks
    pub passes_by_points : works numbers ks ≤ 5040 → ((t : ℕ) → t < horizon numbers ks → Rises (curves numbers ks) t → Fits β (curves numbers ks) t) → Passes numbers β ks
    passes_by_points few points = record {
      works_fit = few;
      demand_fits = λ t. fits_every_frame few (fits_below β (curves numbers ks) eases (curves_never_fall ks laws) (horizon numbers ks) points) t t (omega arith);
    }

    frames : (n : ℕ) → curves numbers ks (largest (λ k. (numbers k).allowance) ks + 5040 * n) ≡ curves numbers ks (largest (λ k. (numbers k).allowance) ks) + n * works numbers ks
    frames zero = omega (arith, ap (curves numbers ks) (none (largest (λ k. (numbers k).allowance) ks)))
      where
        none : (a : ℕ) → a + 5040 * 0 ≡ a
        none a = omega arith
    frames (suc n) = omega (arith, ap (curves numbers ks) (one_more (largest (λ k. (numbers k).allowance) ks)), repeats_after ks laws (largest (λ k. (numbers k).allowance) ks + 5040 * n) (omega arith), frames n)
      where
        one_more : (a : ℕ) → a + 5040 * suc n ≡ a + 5040 * n + 5040
        one_more a = omega arith

    -- works above a frame fail at some t, even with no blocking
    pub overload_fails : 5040 < works numbers ks → (t : ℕ) × (0 < curves numbers ks t) × (t < curves numbers ks t + β t)
    overload_fails much =
        let a : ℕ = largest (λ k. (numbers k).allowance) ks in
        let f = frames (a + 1) in
        let m = mul-le-mul_left (a + 1) much in
        (a + 5040 * (a + 1), omega arith, omega arith)

    pub passes_or_fails : Passes numbers β ks ⊎ ((t : ℕ) × (0 < curves numbers ks t) × (t < curves numbers ks t + β t))
    passes_or_fails = elim (cases_lt 5040 (works numbers ks)) [
      | inl much ↦ inr (overload_fails much)
      | inr few ↦ elim (fits_or_fails β (curves numbers ks) eases (curves_never_fall ks laws) (horizon numbers ks)) [
        | inr f ↦ inr f
        | inl all ↦ inl (record { works_fit = few; demand_fits = λ t. fits_every_frame few all t t (omega arith) })
      ]
    ]
