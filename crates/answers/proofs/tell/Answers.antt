use Rattle.std.proofs.Common.{not, [], ◌∷◌, vec_items, sym, refl, ap, subst, ◌∙◌}
use Rattle.lines.specs.declared.Line.TheVariants.{Opened}
use Rattle.plan.specs.Format.{script}
use Rattle.answers.specs.Answers.{Extended}
use Rattle.answers.specs.Granted.{mats, kinds, Shown}
use Rattle.answers.proofs.Deciding.{deciding_none, deciding_more, deciding_all}
use Rattle.answers.proofs.Telling.{told_open}
use Rattle.answers.proofs.tell.Goals as goal

pub loop-channel-init : goal.loop-channel-init
loop-channel-init g c = deciding_none (Shown g.F.Fn c.args.line) c.args.plan.now.longest _ _ _ c.new-granted.ensures.mats c.new-granted.ensures.kinds

pub loop-channel-preserved : goal.loop-channel-preserved
loop-channel-preserved g c =
    let before = c.loop-channel.granted in
    let counted = c.in_ok-count.ensures in
    deciding_more (Shown g.F.Fn c.args.line) c.args.plan.now.longest (vec_items c.in_ok-lines.lines) c.deref-channel-items.result.now c.loop-channel.channel-index _
    c.decide-decision.result c.line.result (mats before) _ (kinds before) _ _ _ c.loop-channel-test.true c.loop-channel.invariant
    c.decide-decision.ensures
    (_, _, record { met = c.line.ensures }, refl, refl)
    counted.mats counted.kinds c.in_ok-push.ensures.items

pub returns : goal.returns
returns g c =
    told_open (Shown g.F.Fn c.args.line) (script c.args.plan.now) _ (vec_items c.in_ok-lines.lines) (sym c.opens-opened.ensures ∙ c.if-not-opened.false)
    (c.in_ok-lines.ensures.items ∙ ap (λ b. Opened (not b) ∷ []) c.if-not-opened.false)
    (subst (λ cs. Extended (Shown g.F.Fn c.args.line) c.args.plan.now.longest cs (vec_items c.in_ok-lines.lines) (vec_items c.loop-channel.lines)) c.deref-channel-items.ensures.value
    (deciding_all _ _ _ c.deref-channel-items.result.now c.loop-channel.channel-index _ _ _ c.loop-channel-test.false c.loop-channel.invariant))
