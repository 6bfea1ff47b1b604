use Rattle.std.proofs.Common.{take, vec_items}
use Rattle.link.specs.Model.{model}
use Rattle.whole_answers.specs.Least.{Asking}
use Rattle.whole_answers.proofs.runs.Run.ask_all.Given as goal

abbrev pub invariant-loop-channel : goal.invariant-loop-channel
invariant-loop-channel l = Asking (take l.channel-index l.channels) (model l.initial.self.link) (vec_items l.initial.self.lines) (model l.self.link) (vec_items l.self.lines)
