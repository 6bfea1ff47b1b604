use Rattle.std.proofs.Common.{List, replicate, vec_items, refl, sym, ◌∙◌, subst}
use Rattle.link.specs.Model.{model}
use Rattle.plan.specs.Format.{script}
use Rattle.plan.specs.declared.Call.{Call}
use Rattle.plan.specs.declared.Channel.{Channel}
use Rattle.whole_answers.specs.Parts.{Part}
use Rattle.whole_answers.specs.Plans.{Join, Make, InTurn}
use Rattle.whole_answers.proofs.Running.{ran_shut, ran}
use Rattle.whole_answers.proofs.runs.run_plan.Goals as goal

pub returns-then-shut : goal.returns-then-shut
returns-then-shut c =
    let run = c.in_ok-run.run' in
    ran_shut (script c.args.plan.now) (replicate 32 c.blank-rows.result) refl (model run.link) (vec_items run.lines) c.in_ok-run.ensures.opens c.in_ok-run.ensures.printed (λ cs n h. (c.in_ok-run.ensures.promise cs n h).on_time) (sym c.shut.ensures ∙ c.if-shut.true)

pub returns : goal.returns
returns c =
    let run = c.in_ok-run.run' in
    let joined = c.join_all.new.self in
    let called = c.call_all.new.self in
    ran (script c.args.plan.now) (replicate 32 c.blank-rows.result) refl (model run.link) (vec_items run.lines) c.in_ok-run.ensures.opens c.in_ok-run.ensures.printed (λ cs n h. (c.in_ok-run.ensures.promise cs n h).on_time)
    (vec_items joined.lines) (vec_items called.lines) (model joined.link) (model called.link) (sym c.shut.ensures ∙ c.if-shut.false)
    (subst (λ (xs : List Channel). Part (λ cs ds. InTurn Join cs xs ds) (model run.link) (vec_items run.lines) (model joined.link) (vec_items joined.lines)) c.deref.ensures.value c.in_ok-join_all.ensures)
    (subst (λ (xs : List Call). Part (λ cs ds. InTurn Make cs xs ds) (model joined.link) (vec_items joined.lines) (model called.link) (vec_items called.lines)) c.deref-2.ensures.value c.in_ok-call_all.ensures)
