-- Tests that compute: a look at the first few t, and one at the line that the curves stay under, decide every t.
use Rattle.std.proofs.Common.{◌≡◌, ℕ, zero, suc, ◌+◌, ◌-◌, ◌*◌, ◌<◌, ◌≤◌, Bool, true, ◌&&◌, ◌||◌, eqb, ltb, leb, List, [], ◌∷◌, Decides, refl, subst, inl, inr, add-mul, mul-le-mul_left, mul-add, arith}
use Rattle.std.specs.List.{AllByRecursion}
use Rattle.std.proofs.lemmas.Bool.{cases_lt}
use Rattle.std.proofs.lemmas.Bool.Decides.{nat_tests, Decides-below_and}
use Rattle.traffic.specs.Curves.{Numbers, before}
use Rattle.traffic.specs.Laws.{CurveLaws}
use Rattle.verdict.specs.Demand.{total, largest, works, bursts, curves, blocking}
use Rattle.verdict.specs.Passes.{Passes}
use Rattle.verdict.specs.Points.{Fits, FirstFailing, rises}

module _ (β F : ℕ → ℕ) where
  -- t fits
  abbrev fits : ℕ → Bool
  fits t = eqb (F t) 0 || leb (F t + β t) t

  -- every t below n fits
  abbrev pub fitting : ℕ → Bool
  fitting zero = true
  fitting (suc n) = fits n && fitting n

  fits_decides : (t : ℕ) → Decides (fits t) (Fits β F t)
  fits_decides t = grind (arith, nat_tests)

  fits_tested : (n : ℕ) → fitting n ≡ true → (t : ℕ) → t < n → Fits β F t
  fits_tested n = (Decides-below_and fits (Fits β F) fitting fits_decides refl (λ _. refl) n).0

  -- the first failing point, below h
  abbrev pub failing : ℕ → ℕ → Bool
  failing h point = ltb point h && (ltb (before F point) (F point) && (ltb point (F point + β point) && fitting point))

  pub fails_tested : (h point count : ℕ) → failing h point ≡ true → count ≡ rises F (point + 1) → FirstFailing β F h point count
  fails_tested h point count tested counted =
      record {
        below = grind (arith, nat_tests);
        rise = grind (arith, nat_tests);
        fails = λ f. grind (arith, nat_tests);
        earlier = λ t l _. fits_tested point (grind (arith, nat_tests)) t l;
        counted = counted;
      }

module _ {K : Type 0} (m : K → Numbers) (p : ℕ) where
  -- each channel's line starts only at its allowance
  abbrev spared : List K → ℕ
  spared = total (λ k. (m k).allowance * (m k).work)

  curves_under_line : (ks : List K) → AllByRecursion (λ k. CurveLaws p (m k)) ks → (t : ℕ) → largest (λ k. (m k).allowance) ks ≤ t → 5040 * curves m ks t + spared ks ≤ 5040 * bursts m ks + t * works m ks
  curves_under_line [] laws t past = omega arith
  curves_under_line (k ∷ ks) laws t past =
      let n : ℕ = t - (m k).allowance in
      let at : (m k).allowance + n ≡ t = omega arith in
      let line : 5040 * (m k).curve t ≤ 5040 * (m k).burst + n * (m k).work = subst (λ x. 5040 * (m k).curve x ≤ 5040 * (m k).burst + n * (m k).work) at (laws.0.under_line n) in
      let split : t * (m k).work ≡ (m k).allowance * (m k).work + n * (m k).work = subst (λ x. x * (m k).work ≡ (m k).allowance * (m k).work + n * (m k).work) at (add-mul (m k).allowance n (m k).work) in
      omega (arith, curves_under_line ks laws.1 t (omega arith), mul-add t (m k).work (works m ks))

  -- every t below n fits, and from n on the line does
  abbrev pub passing : ℕ → List K → Bool
  passing n ks =
      leb (works m ks) 5040 && (leb (largest (λ k. (m k).allowance) ks) n
      && (leb (5040 * (bursts m ks + (p - 1)) + n * works m ks) (5040 * n + spared ks) && fitting (blocking p) (curves m ks) n))

  pub passes_tested : (n : ℕ) (ks : List K) → AllByRecursion (λ k. CurveLaws p (m k)) ks → passing n ks ≡ true → Passes m (blocking p) ks
  passes_tested n ks laws tested =
      let few : works m ks ≤ 5040 = grind (arith, nat_tests) in
      let past : largest (λ k. (m k).allowance) ks ≤ n = grind (arith, nat_tests) in
      let line : 5040 * (bursts m ks + (p - 1)) + n * works m ks ≤ 5040 * n + spared ks = grind (arith, nat_tests) in
      record {
        works_fit = few;
        demand_fits = λ t some. elim (cases_lt t n) [
          | inl l ↦ fits_tested (blocking p) (curves m ks) n (grind (arith, nat_tests)) t l some
          | inr g ↦
              let s : ℕ = t - n in
              let at : n + s ≡ t = omega arith in
              let split : t * works m ks ≡ n * works m ks + s * works m ks = subst (λ x. x * works m ks ≡ n * works m ks + s * works m ks) at (add-mul n s (works m ks)) in
              omega (arith, curves_under_line ks laws t (omega arith), mul-le-mul_left s few)
        ];
      }
