use Rattle.std.proofs.Common.{[], ◌∷◌, ◌++◌, Err, ap, ◌∙◌, subst}
use Rattle.std.proofs.lemmas.Result.{err_from_is_err_and}
use Rattle.verdict.specs.Judged.{Judgeable}
use Rattle.verdict.specs.Members.{rows_counted, members, size}
use Rattle.verdict.proofs.Halving.{judgeable_same, judged_same, least_refused}
use Rattle.verdict.proofs.Lengthening.{Lawful}
use Rattle.verdict.proofs.channels.Channels.least.Goals as goal

pub returns-in_err-judge : goal.returns-in_err-judge
returns-in_err-judge g c =
    let law : Lawful g.K.Curve.numbers g.K.Curve.limits g.K.Curve.dated = record { shaped = g.met.K.Curve.shaped; redated = g.met.K.Curve.redated; redatable = g.met.K.Curve.redatable } in
    let limits = g.K.Curve.limits in
    let p = c.args.longest in
    let ks = rows_counted c.args.self.now in
    let widest = c.with_allowance-widest.ensures in
    let same = c.in_ok-checked.ensures.ok in
    let checked = subst (λ n. Judgeable limits n (size c.with.result) (members c.with.result)) same.1 (subst (λ x. Judgeable limits c.in_ok-checked.field-0.longest (size x) (members x)) same.0 c.in_ok-checked.field-0.judgeable) in
    let judged = judgeable_same limits p c.with.ensures.size (c.with.ensures.members ∙ ap (λ k. ks ++ k ∷ []) widest) checked in
    let at = judged_same limits p c.with-2.ensures.size (c.with-2.ensures.members ∙ ap (λ k. ks ++ k ∷ []) (c.with_allowance.ensures ∙ ap (λ k. g.K.Curve.dated k 40320) widest)) g.K.Curve.numbers (Err c.in_err-judge.field-0.0) c.in_err-judge.ensures.judged in
    let left = err_from_is_err_and c.from_residual-in_err-judge.result c.from_residual-in_err-judge.ensures.1 in
    rw (left.1, left.2) (least_refused _ _ _ law p _ ks c.args.new judged c.in_err-judge.field-0.0 at)
