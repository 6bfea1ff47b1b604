use Rattle.std.proofs.Common.{List, replicate, vec_items, refl, sym, ◌∙◌, subst}
use Rattle.link.specs.Model.{model}
use Rattle.plan.specs.Format.{script}
use Rattle.plan.specs.declared.Channel.{Channel}
use Rattle.whole_answers.specs.Least.{Asking}
use Rattle.whole_answers.proofs.Asking.{told_shut, told_all}
use Rattle.whole_answers.proofs.asks.ask_plan.Goals as goal

pub returns-then-shut : goal.returns-then-shut
returns-then-shut c =
    let run = c.in_ok-run.run' in
    told_shut (script c.args.plan.now) (replicate 32 c.blank-rows.result) refl (model run.link) (vec_items run.lines) c.in_ok-run.ensures.opens c.in_ok-run.ensures.printed (sym c.shut.ensures ∙ c.if-shut.true)

pub returns : goal.returns
returns c =
    let run = c.in_ok-run.run' in
    let asked = c.ask_all.new.self in
    told_all (script c.args.plan.now) (replicate 32 c.blank-rows.result) refl (model run.link) (vec_items run.lines) c.in_ok-run.ensures.opens c.in_ok-run.ensures.printed
    (vec_items asked.lines) (model asked.link) (sym c.shut.ensures ∙ c.if-shut.false)
    (subst (λ (xs : List Channel). Asking xs (model run.link) (vec_items run.lines) (model asked.link) (vec_items asked.lines)) c.deref.ensures.value c.in_ok-ask_all.ensures)
