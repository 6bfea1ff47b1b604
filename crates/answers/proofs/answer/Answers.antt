use Rattle.std.proofs.Common.{rules}
use Rattle.lines.proofs.Telling.{text_told}
use Rattle.answers.specs.Answers.{Told}
use Rattle.answers.proofs.answer.Goals as goal

pub returns : goal.returns
returns c = text_told Told c.args.text.now c.tell_text.result c.tell_text.ensures (λ plan ls said. search rules)
