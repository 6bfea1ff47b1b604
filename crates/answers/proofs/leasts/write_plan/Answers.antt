use Rattle.std.proofs.Common.{◌≡◌, not, [], ◌∷◌, ◌++◌, true, false, MatchBool, sym, refl, subst, ◌∙◌}
use Rattle.std.specs.Io.KnownBytes.{Appends}
use Rattle.plan.specs.Format.{script}
use Rattle.lines.specs.Lines.{printed}
use Rattle.lines.specs.declared.Line.TheVariants.{Opened}
use Rattle.answers.specs.Answers.{Extended, LeastShown}
use Rattle.answers.specs.Granted.{mats, kinds}
use Rattle.answers.proofs.Writing.{one_line, leasts_none, leasts_more, leasts_all}
use Rattle.answers.proofs.leasts.write_plan.Goals as goal

pub returns-then-not-opened : goal.returns-then-not-opened
returns-then-not-opened g c = (
  Opened true ∷ [],
  subst (λ b. MatchBool b (Extended LeastShown c.args.plan.now.longest (script c.args.plan.now).channels (Opened false ∷ []) (Opened true ∷ [])) (Opened true ∷ [] ≡ Opened true ∷ [])) (sym (sym c.opens-opened.ensures ∙ c.if-not-opened.true)) refl,
  one_line (g.W.Write.contents c.args.output.now) (g.W.Write.contents c.write_line.new.output) (Opened true)
      (subst (λ b. Appends (g.W.Write.contents c.args.output.now) (g.W.Write.contents c.write_line.new.output) (printed (Opened (not b)) ++ 10 ∷ [])) c.if-not-opened.true c.in_ok-write_line.ensures),
)

pub loop-channel-init : goal.loop-channel-init
loop-channel-init g c = leasts_none c.args.plan.now.longest _ _ _ c.new-granted.ensures.mats c.new-granted.ensures.kinds

pub loop-channel-preserved : goal.loop-channel-preserved
loop-channel-preserved g c =
    let before = c.loop-channel.granted in
    let counted = c.in_ok-count.ensures in
    leasts_more c.args.plan.now.longest c.deref-channel-items.result.now c.loop-channel.channel-index _ c.decide-decision.result c.least-line.result
    (mats before) _ before _ _ _ _ c.loop-channel-test.true c.loop-channel.invariant
    c.least-line.ensures c.in_ok-write_line-2.ensures c.decide-decision.ensures counted.mats counted.kinds

pub returns : goal.returns
returns g c =
    let old = g.W.Write.contents c.args.output.now in
    let mid = g.W.Write.contents c.write_line.new.output in
    leasts_all (script c.args.plan.now) c.deref-channel-items.result.now c.loop-channel.channel-index (mats c.loop-channel.granted) (kinds c.loop-channel.granted) old mid (g.W.Write.contents c.loop-channel.output)
    (sym c.opens-opened.ensures ∙ c.if-not-opened.false) c.deref-channel-items.ensures.value c.loop-channel-test.false
    (subst (λ b. Appends old mid (printed (Opened (not b)) ++ 10 ∷ [])) c.if-not-opened.false c.in_ok-write_line.ensures) c.loop-channel.invariant
