use Rattle.std.proofs.Common.{◌≡◌, ◌∙◌, length, map, take, vec_items, ap, rules}
use Rattle.lines.specs.Lines.{least_line_lem}
use Rattle.answers.specs.Granted.{found}
use Rattle.answers.proofs.Rows.{least_tells}
use Rattle.answers.proofs.decisions.Granted.least.Goals as goal

pub returns : goal.returns
returns c =
    let granted = c.args.self.now in
    let answer : c.map_err.result ≡ found c.least-found.result = search rules in
    least_tells c.args.longest (vec_items granted.rows) c.args.channel.now c.least-found.result _ _ _ _ granted.rows.ok.0
    (c.all.ensures.size ∙ ap length c.deref.ensures.value) (c.all.ensures.rows ∙ ap (λ rs. map (λ r. r.kind) (take 32 rs)) c.deref.ensures.value)
    c.least-found.ensures.least (c.of_least.ensures ∙ ap (least_line_lem c.args.channel.now.mat) answer)
