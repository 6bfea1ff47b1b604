-- The curves of a judged table, row by row.
use Rattle.std.proofs.Common.{◌≡◌, ℕ, zero, suc, ◌+◌, ◌*◌, ◌≤◌, Bool, true, List, length, get_or, take, Some, None, Option, refl, ap, ◌∙◌, subst, arith}
use lib.Seq.{take-length}
use Rattle.std.specs.List.{AllByRecursion}
use Rattle.std.proofs.ByRecursion.{All-weaker}
use Rattle.traffic.specs.Curves.{Numbers}
use Rattle.traffic.specs.Laws.{CurveLaws}
use Rattle.traffic.proofs.Uses.{curve_most}
use Rattle.verdict.specs.Demand.{total, curves}
use Rattle.verdict.specs.Judged.{Judgeable}
use Rattle.verdict.specs.Members.{present}
use Rattle.verdict.specs.Sweeps.{upto, curve_of, row_curve}
use Rattle.verdict.proofs.Totals.{present_holds, total-one, total-none}

-- each channel of a judged table keeps its laws
pub row_laws : {K : Type 0} (m : K → Numbers) (limits : K → ℕ → Bool) → ((k : K) (p : ℕ) → 1 ≤ p → p ≤ 255 → limits k p ≡ true → CurveLaws p (m k)) → {p n : ℕ} {ks : List K} → Judgeable limits p n ks → AllByRecursion (λ k. CurveLaws p (m k)) ks
row_laws m limits shaped {p} {n} {ks} judged =
    All-weaker (λ k. limits k p ≡ true) (λ k. CurveLaws p (m k)) (λ k. shaped k p judged.least judged.most) ks judged.within

module _ {K : Type 0} (m : K → Numbers) (p : ℕ) (os : List (Option K)) (laws : AllByRecursion (λ k. CurveLaws p (m k)) (present os)) where
  -- what holds of the curve of every channel, and of 0, holds of a row's curve
  by_row : (P : (ℕ → ℕ) → Type 0) → ((k : K) → CurveLaws p (m k) → P (m k).curve) → P (λ v. 0) → (i : ℕ) → P (row_curve m os i)
  by_row P one none i = cases (get_or os i None) refl
    where
      cases : (o : Option K) → o ≡ get_or os i None → P (curve_of m (get_or os i None))
      cases None e = subst (λ o. P (curve_of m o)) e none
      cases (Some k) e = subst (λ o. P (curve_of m o)) e (one k (present_holds (λ x. CurveLaws p (m x)) os i k e laws))

  pub row_up : (i t u : ℕ) → t ≤ u → row_curve m os i t ≤ row_curve m os i u
  row_up = by_row (λ f. (t u : ℕ) → t ≤ u → f t ≤ f u) (λ k law. law.never_falls) (λ t u h. omega arith)

  pub row_most : (i t : ℕ) → row_curve m os i t ≤ 45360 + 255 * t
  row_most = by_row (λ f. (t : ℕ) → f t ≤ 45360 + 255 * t) (λ k law. curve_most p (m k) law) (λ t. omega arith)

  pub row_zero : (i : ℕ) → row_curve m os i 0 ≡ 0
  row_zero = by_row (λ f. f 0 ≡ 0) (λ k law. law.nothing_before 0 (omega (arith, law.longest_least, law.allowance_least))) refl

-- the sum over rows is the sum over the channels that count
module _ {K : Type 0} (m : K → Numbers) (os : List (Option K)) (v : ℕ) where
  front_sum : (i : ℕ) → i ≤ length os → total (λ j. row_curve m os j v) (upto i) ≡ curves m (present (take i os)) v
  front_sum zero h = refl
  front_sum (suc i) h = cases (get_or os i None) refl (front_sum i (omega arith))
    where
      next : suc i ≡ i + 1
      next = omega arith

      cases : (o : Option K) → o ≡ get_or os i None → total (λ j. row_curve m os j v) (upto i) ≡ curves m (present (take i os)) v → total (λ j. row_curve m os j v) (upto (suc i)) ≡ curves m (present (take (suc i) os)) v
      cases None e back =
          omega (arith, total-none (λ k. (m k).curve v) os i (omega arith) e, ap (λ o. curve_of m o v) e, ap (λ n. curves m (present (take n os)) v) next)
      cases (Some k) e back =
          omega (arith, total-one (λ x. (m x).curve v) os i (omega arith) k e, ap (λ o. curve_of m o v) e, ap (λ n. curves m (present (take n os)) v) next)

  pub rows_sum : total (λ j. row_curve m os j v) (upto (length os)) ≡ curves m (present os) v
  rows_sum = front_sum (length os) (omega arith) ∙ ap (λ xs. curves m (present xs) v) (take-length os)
