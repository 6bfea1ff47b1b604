use Rattle.std.proofs.Common.{rules}
use Rattle.lines.proofs.Telling.{text_told}
use Rattle.answers.specs.Answers.{LeastsTold}
use Rattle.answers.proofs.least.Goals as goal

pub returns : goal.returns
returns c = text_told LeastsTold c.args.text.now c.tell_text.result c.tell_text.ensures (λ plan ls said. search rules)
