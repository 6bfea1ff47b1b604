use Rattle.std.proofs.Common.{◌-◌}
use Rattle.verdict.specs.Demand.{curves}
use Rattle.overview.specs.Picture.{channels}
use Rattle.overview.proofs.Tightening.{SoFar}
use Rattle.overview.proofs.rows.Picture.tightest.Given as goal

abbrev pub invariant-loop-point : goal.invariant-loop-point
invariant-loop-point g l = SoFar (curves g.K.Curve.numbers (channels l.self)) l.self.longest l.t l.least

abbrev pub decreases-loop-point : goal.decreases-loop-point
decreases-loop-point g l = l.end - l.t
