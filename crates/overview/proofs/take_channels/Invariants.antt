use Rattle.plan.specs.Kinds.{kind_numbers, kind_limits}
use Rattle.answers.specs.Granted.{kinds}
use Rattle.overview.specs.Standing.{Stands}
use Rattle.overview.proofs.take_channels.Given as goal

abbrev pub invariant-loop-channel : goal.invariant-loop-channel
invariant-loop-channel l = Stands kind_numbers kind_limits l.longest (kinds l.granted)
