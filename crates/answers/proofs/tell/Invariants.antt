use Rattle.std.proofs.Common.{take, vec_items}
use Rattle.answers.specs.Granted.{mats, kinds, Shown}
use Rattle.answers.proofs.Deciding.{Deciding}
use Rattle.answers.proofs.tell.Given as goal

abbrev pub invariant-loop-channel : goal.invariant-loop-channel
invariant-loop-channel g l =
    Deciding (Shown g.F.Fn l.line) l.plan.longest (take l.channel-index l.channel-items) (mats l.granted) (kinds l.granted) (vec_items l.initial.lines) (vec_items l.lines)
