-- The point with the least slack, point by point.
use Rattle.std.proofs.Common.{◌≡◌, ℕ, ◌+◌, ◌-◌, ◌<◌, ◌≤◌, Bool, true, false, cond, leb, List, Some, None, Option, refl, ap, ⊎_elim, arith}
use Rattle.std.specs.List.{AllByRecursion}
use Rattle.std.proofs.lemmas.Bool.{cases_lt, leb-true, leb-false}
use Rattle.traffic.specs.Curves.{Numbers, Rises}
use Rattle.traffic.specs.Laws.{CurveLaws}
use Rattle.verdict.specs.Demand.{works, curves, horizon}
use Rattle.verdict.proofs.FinitePoints.{passes_by_points}
use Rattle.verdict.proofs.Totals.{nothing_at_zero}
use Rattle.overview.specs.Picture.{Shown, NextPoint, Tightest, closer}
use Rattle.overview.specs.declared.rows.Point.{Point}

-- a slack that every point up to t leaves
abbrev Leaves : (ℕ → ℕ) → ℕ → ℕ → ℕ → Type 0
Leaves F p t slack = (v : ℕ) → v ≤ t → Rises F v → slack + (F v + (p - 1)) ≤ v

-- of the points up to t, the one with the least slack
pub SoFar : (ℕ → ℕ) → ℕ → ℕ → Option Point → Type 0
SoFar F p t None = (v : ℕ) → v ≤ t → Rises F v → ⊥
SoFar F p t (Some q) = Shown F p q × Leaves F p t q.slack

module _ (F : ℕ → ℕ) (p : ℕ) where
  -- no point lies at 0
  pub none_so_far : F 0 ≡ 0 → SoFar F p 0 None
  unfolding SoFar
  none_so_far nothing v low rise = let e : v ≡ 0 = omega arith in omega (arith, ap F e)

  module _ (t end : ℕ) (q : Point) (next : NextPoint F p t end (Some q)) where
    -- a slack that the points up to t leave, and q too
    leaves_more : (slack : ℕ) → slack ≤ q.slack → Leaves F p t slack → Leaves F p q.t slack
    leaves_more slack small so_far v low rise =
        ⊎_elim
        (λ past.
        ⊎_elim (λ lt. absurd (next.3 v past lt rise)) (λ le. let e : v ≡ q.t = omega arith in omega (arith, ap F e, next.2.demand, next.2.slack)) (cases_lt v q.t))
        (λ le. so_far v le rise)
        (cases_lt t v)

    -- one point more
    pub one_more_so_far : (least : Option Point) → SoFar F p t least → SoFar F p q.t (Some (closer least q))
    unfolding SoFar
    one_more_so_far None none = (next.2, leaves_more q.slack (omega arith) (λ v low rise. absurd (none v low rise)))
    one_more_so_far (Some o) best = choice (leb o.slack q.slack) refl
      where
        choice : (b : Bool) → leb o.slack q.slack ≡ b → Shown F p (cond b o q) × Leaves F p q.t (cond b o q).slack
        choice true is = (best.0, leaves_more o.slack (leb-true _ _ is) best.1)
        choice false is =
            let less = leb-false _ _ is in
            (next.2, leaves_more q.slack (omega arith) (λ v low rise. omega (arith, best.1 v low rise)))

-- the points below the horizon are enough: beyond it the demand repeats each frame
module _ {K : Type 0} (m : K → Numbers) (p : ℕ) (ks : List K) (laws : AllByRecursion (λ k. CurveLaws p (m k)) ks) (few : works m ks ≤ 5040) where
  abbrev F : ℕ → ℕ
  F = curves m ks

  pub no_point_at_zero : SoFar F p 0 None
  no_point_at_zero = none_so_far F p (nothing_at_zero m p ks laws)

  -- what every point leaves, each t with a demand leaves
  always : (slack : ℕ) → ((v : ℕ) → v < horizon m ks → Rises F v → slack + F v ≤ v) → (t : ℕ) → 0 < F t → slack + F t ≤ t
  always slack below t some =
      let passes = passes_by_points m p (λ _. slack) (λ t u h. omega arith) ks laws few (λ v less rise some. omega (arith, below v less rise)) in
      omega (arith, passes.demand_fits t some)

  pub tightest_of_all : (t : ℕ) (least : Option Point) → SoFar F p t least → NextPoint F p t (horizon m ks) None → Tightest F p least
  unfolding SoFar
  tightest_of_all t None none last =
      λ u. ⊎_elim
      (λ some. absurd (omega (arith, always (u + 1) (λ v less rise. absurd (⊎_elim (λ past. last v past less rise) (λ low. none v low rise) (cases_lt t v))) u some)))
      (λ nothing. omega arith)
      (cases_lt 0 (F u))
  tightest_of_all t (Some q) best last = (
    best.0,
    λ u some.
        let all = always (q.slack + (p - 1)) (λ v less rise. ⊎_elim (λ past. absurd (last v past less rise)) (λ low. omega (arith, best.1 v low rise)) (cases_lt t v)) u some in
        omega (arith, all),
  )
