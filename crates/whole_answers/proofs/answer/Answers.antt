use Rattle.std.proofs.Common.{rules}
use Rattle.lines.proofs.Telling.{text_told}
use Rattle.whole_answers.specs.Runs.{Ran}
use Rattle.whole_answers.proofs.answer.Goals as goal

pub returns : goal.returns
returns c = text_told Ran c.args.text.now c.tell_text.result c.tell_text.ensures (λ plan ls said. search rules)
