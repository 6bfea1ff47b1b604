use Rattle.std.proofs.Common.{◌≡◌, ◌≤◌}
use Rattle.pool.specs.Contents.{contents, capacity}
use Rattle.verdict.specs.Members.{places}
use Rattle.verdict.specs.Sweeps.{row_curve, Sweep}
use Rattle.verdict.proofs.walk.Walk.fill.Given as goal

abbrev pub invariant-loop-row : goal.invariant-loop-row
invariant-loop-row g l =
    (capacity l.points ≡ 33) × (l.points.count ≤ l.row)
    × Sweep (row_curve g.K.Curve.numbers (places l.self.checked.channels.now)) l.row 1 1 l.self.end (contents l.points) 0
