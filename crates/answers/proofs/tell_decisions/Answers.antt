use Rattle.std.proofs.Common.{vec_items, rules}
use Rattle.plan.specs.Format.{script}
use Rattle.answers.specs.Answers.{AnswerShown}
use Rattle.answers.proofs.Telling.{plan_told}
use Rattle.answers.proofs.tell_decisions.Goals as goal

pub returns : goal.returns
returns c = plan_told AnswerShown (λ p ks channel d l few shown. search rules) (script c.args.plan.now) vec_items c.tell.result c.tell.ensures
