use Rattle.answers.proofs.Writing.{refused_told}
use Rattle.answers.proofs.leasts.write_text.Goals as goal

pub returns-in-Err-Malformed : goal.returns-in-Err-Malformed
returns-in-Err-Malformed g c =
    let malformed = c.in-Err-Malformed in
    refused_told c.write_line.result c.args.text.now malformed.field-0 malformed.section malformed.line _ _ (g.W.Write.contents c.args.output.now) (g.W.Write.contents c.write_line.new.output)
    malformed.field-0-is malformed.section-is malformed.line-is malformed.ensures.answered c.write_line.ensures
