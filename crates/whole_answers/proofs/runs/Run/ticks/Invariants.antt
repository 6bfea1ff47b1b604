use Rattle.std.proofs.Common.{vec_items}
use Rattle.link.specs.Model.{model}
use Rattle.whole_answers.specs.Parts.{Part}
use Rattle.whole_answers.specs.Plans.{Pass}
use Rattle.whole_answers.proofs.runs.Run.ticks.Given as goal

abbrev pub invariant-loop : goal.invariant-loop
invariant-loop l = Part (λ cs ds. Pass cs l.counter ds) (model l.initial.self.link) (vec_items l.initial.self.lines) (model l.self.link) (vec_items l.self.lines)
