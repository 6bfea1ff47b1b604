use Rattle.std.proofs.Common.{◌+◌, ◌-◌, length}
use Rattle.pool.specs.Contents.{contents}
use Rattle.verdict.specs.Demand.{curves, blocking}
use Rattle.verdict.specs.Members.{members, places}
use Rattle.verdict.specs.Sweeps.{row_curve, Sweep, left}
use Rattle.verdict.proofs.Swept.{Past}
use Rattle.verdict.proofs.walk.Walk.run.Given as goal

abbrev pub invariant-points : goal.invariant-points
invariant-points g l =
    let channels = l.self.checked.channels.now in
    Past (row_curve g.K.Curve.numbers (places channels)) (length (places channels)) (curves g.K.Curve.numbers (members channels)) l.self.end (blocking l.self.checked.longest) (contents l.points) l.sum l.count

abbrev pub decreases-points : goal.decreases-points
decreases-points g l = l.self.end - l.count

abbrev pub invariant-rows : goal.invariant-rows
invariant-rows g l =
    Sweep (row_curve g.K.Curve.numbers (places l.self.checked.channels.now)) (length (places l.self.checked.channels.now)) l.t (l.t + 1) l.self.end (contents l.points) l.sum

abbrev pub decreases-rows : goal.decreases-rows
decreases-rows g l = left l.self.end (contents l.points)
