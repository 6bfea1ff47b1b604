use Rattle.std.proofs.Common.{◌≡◌, ◌||◌, set, ap, ◌∙◌, rules}
use Rattle.link.specs.Rows.{changed, moved, releases, none_leaving}
use Rattle.link.proofs.Tables.{set_changed, known_moved}
use Rattle.link.proofs.state.Table.meet.Goals as goal

pub invariant_of-self-clause-known : goal.invariant_of-self-clause-known
invariant_of-self-clause-known c =
    let rs = c.args.self.now.records in
    let i = c.args.i in
    let e = c.args.event in
    let is : set rs i c.meet.new.self ≡ changed (moved e) i rs = ap (set rs i) c.meet.ensures ∙ set_changed (moved e) i rs _ in
    let mark : c.eq.result ≡ releases e = search rules in
    ap (λ qs. (c.args.self.now.leaving || c.eq.result) || none_leaving qs) is
    ∙ ap (λ b. (c.args.self.now.leaving || b) || none_leaving (changed (moved e) i rs)) mark
    ∙ known_moved c.args.self.now.leaving e i rs c.args.self.now.known

pub returns : goal.returns
returns c =
    let rs = c.args.self.now.records in
    ap (set rs c.args.i) c.meet.ensures ∙ set_changed (moved c.args.event) c.args.i rs _
