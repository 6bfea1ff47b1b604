use Rattle.std.proofs.Common.{take, vec_items}
use Rattle.link.specs.Model.{model}
use Rattle.whole_answers.specs.Parts.{Part}
use Rattle.whole_answers.specs.Plans.{Make, InTurn}
use Rattle.whole_answers.proofs.runs.Run.call_all.Given as goal

abbrev pub invariant-loop-call : goal.invariant-loop-call
invariant-loop-call l = Part (λ cs ds. InTurn Make cs (take l.call-index l.calls) ds) (model l.initial.self.link) (vec_items l.initial.self.lines) (model l.self.link) (vec_items l.self.lines)
