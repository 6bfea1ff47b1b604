use Rattle.std.proofs.Common.{◌≡◌, [], ◌∷◌, ◌++◌, vec_items, length, map, take, ap, ◌∙◌, rules}
use Rattle.refusals.specs.Refusals.{decided}
use Rattle.answers.specs.Granted.{mats}
use Rattle.answers.proofs.Rows.{judged_decides}
use Rattle.answers.proofs.decisions.Granted.decide.Goals as goal

pub returns : goal.returns
returns c =
    let granted = c.args.self.now in
    let answer : c.map_err.result ≡ decided c.judge.result = search rules in
    judged_decides c.args.longest (mats granted) (vec_items granted.rows) c.args.channel.now _ c.judge.result _ c.in_ok-check.field-0 _ _
    granted.rows.ok.0 c.in_ok-check.ensures
    (c.with-together.ensures.size ∙ c.all.ensures.size ∙ ap length c.deref.ensures.value)
    (c.with-together.ensures.members ∙ ap (λ ks. ks ++ c.args.channel.now.kind ∷ []) (c.all.ensures.rows ∙ ap (λ rs. map (λ r. r.kind) (take 32 rs)) c.deref.ensures.value))
    c.judge.ensures.judged answer
