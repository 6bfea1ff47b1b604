use Rattle.std.proofs.Common.{take}
use Rattle.answers.specs.Granted.{mats, kinds}
use Rattle.answers.proofs.Writing.{Leasts}
use Rattle.answers.proofs.leasts.write_plan.Given as goal

abbrev pub invariant-loop-channel : goal.invariant-loop-channel
invariant-loop-channel g l =
    Leasts l.plan.longest (take l.channel-index l.channel-items) (mats l.granted) (kinds l.granted) (g.W.Write.contents l.initial.output) (g.W.Write.contents l.output)
