use Rattle.std.proofs.Common.{vec_items, vec_len, rules}
use Rattle.plan.specs.Format.{script}
use Rattle.answers.specs.Answers.{LeastShown}
use Rattle.answers.specs.Granted.{listed, LeastTold}
use Rattle.answers.proofs.Rows.{least_shown}
use Rattle.answers.proofs.Telling.{plan_told}
use Rattle.answers.proofs.tell_leasts.Goals as goal

pub returns : goal.returns
returns c = plan_told LeastShown (λ p ks channel d l few (x, y, returned, same, at). let told : LeastTold p (vec_len x.now.rows) (listed x.now) y.now l = search rules in least_shown p ks channel y.now l x.now few same at told) (script c.args.plan.now) vec_items c.tell.result c.tell.ensures
