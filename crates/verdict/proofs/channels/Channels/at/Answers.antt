use Rattle.std.proofs.Common.{sym, ◌∙◌, arith}
use Rattle.verdict.proofs.Places.{marked_at, unmarked_at, more_at, none_at}
use Rattle.verdict.proofs.channels.Channels.at.Goals as goal

pub returns-then-i-self : goal.returns-then-i-self
returns-then-i-self g c = sym (more_at c.args.self.now.rows.now _ _ _ c.if-i-self.true)

pub returns-in_err-row : goal.returns-in_err-row
returns-in_err-row g c =
    let past = c.in_err-row.ensures.lookup in
    c.from_residual.ensures ∙ sym (none_at c.args.self.now.rows.now _ _ _ (omega (arith, past, c.if-i-self.false)))

pub returns-in_err-counts : goal.returns-in_err-counts
returns-in_err-counts g c =
    let past = c.in_err-counts.ensures.lookup in
    let inside = c.in_ok-row.ensures.lookup in
    c.from_residual-in_err-counts.ensures ∙ sym (unmarked_at c.args.self.now.rows.now _ _ _ (omega (arith, inside)) (omega (arith, past)))

pub returns : goal.returns
returns g c =
    let row = c.in_ok-row.ensures.lookup in
    let mark = c.in_ok-counts.ensures.lookup in
    c.then_some.ensures ∙ sym (marked_at c.args.self.now.rows.now _ _ _ c.in_ok-row.row.now _ (omega (arith, row)) (omega (arith, mark)) row.1 mark.1)
