use Rattle.std.proofs.Common.{◌-◌}
use Rattle.verdict.specs.Members.{rows_counted}
use Rattle.verdict.proofs.Halving.{Between}
use Rattle.verdict.proofs.channels.Channels.halve.Given as goal

abbrev pub invariant-loop-high : goal.invariant-loop-high
invariant-loop-high g l = Between g.K.Curve.numbers g.K.Curve.dated l.longest (rows_counted l.self) l.widest l.low l.high l.point

abbrev pub decreases-loop-high : goal.decreases-loop-high
decreases-loop-high g l = l.high - l.low
