-- What the picture shows of channels that stand together: points, the demand there and the slack.
use Rattle.std.specs.Prelude.{◌≡◌, ℕ, ◌+◌, ◌-◌, ◌<◌, ◌≤◌, cond, List, Some, None, Option, nat_le}
use Rattle.traffic.specs.Curves.{Rises}
use Rattle.traffic.specs.declared.Curve.{Ghosts as CurveGhosts}
use Rattle.verdict.specs.Members.{kinds}
use Rattle.overview.specs.declared.rows.Picture.{Picture}
use Rattle.overview.specs.declared.rows.Point.{Point}

abbrev pub channels : {K S : Type 0} {c : CurveGhosts K} → Picture K S c → List K
channels s = kinds s.rows.now

-- a point of the demand F under the longest packet p: with its demand and the blocking, the slack fills all t slots
pub record Shown (F : ℕ → ℕ) (p : ℕ) (q : Point) : Type 0 where
  pub rise : Rises F q.t
  pub demand : q.demand ≡ F q.t
  pub slack : q.slack + (q.demand + (p - 1)) ≡ q.t

-- the first point after t and before the end, or none
abbrev pub NextPoint : (ℕ → ℕ) → ℕ → ℕ → ℕ → Option Point → Type 0
NextPoint F p t end None = (v : ℕ) → t < v → v < end → Rises F v → ⊥
NextPoint F p t end (Some q) = (t < q.t) × (q.t < end) × Shown F p q × ((v : ℕ) → t < v → v < q.t → Rises F v → ⊥)

-- of a point, if any, and another the one with less slack
abbrev pub closer : Option Point → Point → Point
closer None q = q
closer (Some o) q = cond (nat_le o.slack q.slack) o q

-- the point with the least slack: at every t with a demand there is at least as much; or there is no demand at all
abbrev pub Tightest : (ℕ → ℕ) → ℕ → Option Point → Type 0
Tightest F p None = (t : ℕ) → F t ≡ 0
Tightest F p (Some q) = Shown F p q × ((t : ℕ) → 0 < F t → q.slack + (F t + (p - 1)) ≤ t)
