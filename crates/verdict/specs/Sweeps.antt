-- A sweep over the rises of several curves in the order of t: what is known when all rises before some t are done.
-- The curve of row i at v is rc i v.
use Rattle.std.specs.Prelude.{◌≡◌, ℕ, zero, suc, ◌+◌, ◌-◌, ◌<◌, ◌≤◌, List, [], ◌∷◌, ◌++◌, Some, None, Option, slice_index_or}
use Rattle.std.specs.Option.{option_to_list}
use Rattle.std.specs.List.{AllByRecursion}
use Rattle.std.specs.List.Sorted.{IsPermutation}
use Rattle.pool.specs.Contents.{contents}
use Rattle.pool.specs.Elements.{head}
use Rattle.pool.specs.declared.Ordered.{Ghosts as OrderedGhosts}
use Rattle.pool.specs.declared.Pool.{Pool}
use Rattle.traffic.specs.Curves.{Numbers, before, Rises, NextRise}
use Rattle.verdict.specs.Demand.{total}
use Rattle.verdict.specs.declared.points.Point.{Point}

-- the numbers below n
abbrev pub upto : ℕ → List ℕ
upto zero = []
upto (suc n) = n ∷ upto n

-- the curve of a place: 0 where no channel counts
abbrev pub curve_of : {K : Type 0} → (K → Numbers) → Option K → ℕ → ℕ
curve_of m None v = 0
curve_of m (Some k) v = (m k).curve v

abbrev pub row_curve : {K : Type 0} → (K → Numbers) → List (Option K) → ℕ → ℕ → ℕ
row_curve m os i = curve_of m (slice_index_or os i None)

-- a point to come: the first rise of its row's curve from the slot `from` on, at `low` or later, with what the curve is before it
pub record Pending (rc : ℕ → ℕ → ℕ) (low from end : ℕ) (p : Point) : Type 0 where
  pub not_before : low ≤ p.t
  pub below : p.t < end
  pub rise : Rises (rc p.row) p.t
  pub level : p.level ≡ before (rc p.row) p.t
  pub first : (v : ℕ) → from ≤ v → v < p.t → Rises (rc p.row) v → ⊥

-- the row does not rise any more before the end
abbrev pub Quiet : (ℕ → ℕ → ℕ) → ℕ → ℕ → ℕ → Type 0
Quiet rc from end i = (v : ℕ) → from ≤ v → v < end → Rises (rc i) v → ⊥

-- each of n rows has a point to come or is done, and the sum is that of all rows just before their next rise
pub record Sweep (rc : ℕ → ℕ → ℕ) (n low from end : ℕ) (ps : List Point) (sum : ℕ) : Type 0 where
  pub done : List ℕ
  pub pending : AllByRecursion (Pending rc low from end) ps
  pub quiet : AllByRecursion (Quiet rc from end) done
  pub rows : (w : ℕ → ℕ) → total (λ p. w p.row) ps + total w done ≡ total w (upto n)
  pub level : sum ≡ total (λ p. p.level) ps + total (λ i. rc i (end - 1)) done

-- what is left to sweep
abbrev pub left : ℕ → List Point → ℕ
left end ps = total (λ p. end - p.t) ps

-- a row's first point after t and below the end, with its curve at `level` before it; or none
abbrev pub NextPoint : (ℕ → ℕ) → ℕ → ℕ → ℕ → ℕ → Option Point → Type 0
NextPoint f row t level end None = (v : ℕ) → t < v → v < end → Rises f v → ⊥
NextPoint f row t level end (Some p) = (p.row ≡ row) × (p.level ≡ level) × (p.t < end) × NextRise f t (Some p.t)

-- the first point was taken, and the next one, if any, put
pub record Replaced {o : OrderedGhosts Point} (before : Pool Point o) (next : Option Point) (after : Pool Point o) : Type 0 where
  pub first : Point
  pub rest : List Point
  pub taken : IsPermutation (contents before) (first ∷ rest)
  pub was : head (contents before) ≡ Some first
  pub put : IsPermutation (option_to_list next ++ rest) (contents after)

-- one row is past its rise at t; or none rises there any more
abbrev pub Advanced : (ℕ → ℕ → ℕ) → ℕ → ℕ → ℕ → List Point → ℕ → List Point → Option ℕ → Type 0
Advanced rc n t end ps sum qs (Some more) = Sweep rc n t (t + 1) end qs more × (left end qs < left end ps)
Advanced rc n t end ps sum qs None = Sweep rc n (t + 1) (t + 1) end qs sum
