use Rattle.std.proofs.Common.{take, vec_items}
use Rattle.link.specs.Model.{model}
use Rattle.whole_answers.specs.Parts.{Part}
use Rattle.whole_answers.specs.Plans.{Join, InTurn}
use Rattle.whole_answers.proofs.runs.Run.join_all.Given as goal

abbrev pub invariant-loop-channel : goal.invariant-loop-channel
invariant-loop-channel l = Part (λ cs ds. InTurn Join cs (take l.channel-index l.channels) ds) (model l.initial.self.link) (vec_items l.initial.self.lines) (model l.self.link) (vec_items l.self.lines)
