use Rattle.lines.proofs.Telling.{plan_told}
use Rattle.lines.proofs.tell_text.Goals as goal

pub returns-in-Ok : goal.returns-in-Ok
returns-in-Ok g c = plan_told g.F.FnOnce c.args.tell c.args.text.now _ c.tell.result c.in-Ok.ensures.answered c.tell.ensures
