use Rattle.std.proofs.Common.{sym, arith}
use Rattle.verdict.specs.Members.{places}
use Rattle.verdict.proofs.Rowwise.{row_laws, row_up}
use Rattle.verdict.proofs.Swept.{first_pending, sum_small, advanced_none, advance_step}
use Rattle.verdict.proofs.walk.Walk.advance.Goals as goal

pub returns-then-first-t : goal.returns-then-first-t
returns-then-first-t g c =
    let laws = row_laws g.K.Curve.numbers g.K.Curve.limits g.met.K.Curve.shaped c.args.self.now.checked.judgeable in
    let up = row_up g.K.Curve.numbers c.args.self.now.checked.longest (places c.args.self.now.checked.channels.now) laws in
    let peeked = c.in_ok-first.ensures in
    let p = c.in_ok-first.first in
    let h = first_pending _ _ p (sym peeked.next) c.requires in
    advanced_none _ up _ _ p _ (λ e. omega arith) h.not_before peeked.first.1 c.requires

pub overflow_add-result : goal.overflow_add-result
overflow_add-result g c =
    let walk = c.args.self.now in
    let h = first_pending _ _ c.in_ok-first.first (sym c.in_ok-first.ensures.next) c.requires in
    let small = sum_small _ _ g.met.K.Curve.shaped walk.checked.channels.now walk.checked.judgeable _ (omega (arith, h.below)) walk.near c.requires in
    omega (arith, small, c.curve_at-level.ensures.bound, h.below, walk.near)

pub returns : goal.returns
returns g c =
    let laws = row_laws g.K.Curve.numbers g.K.Curve.limits g.met.K.Curve.shaped c.args.self.now.checked.judgeable in
    let up = row_up g.K.Curve.numbers c.args.self.now.checked.longest (places c.args.self.now.checked.channels.now) laws in
    let r = c.replace.ensures in
    advance_step _ up _ _ c.in_ok-first.first r.first r.rest _ _ c.point_after-next.result (sym c.in_ok-first.ensures.next) r.was r.taken r.put (omega arith) c.point_after-next.ensures c.curve_at-level.ensures.value c.requires
