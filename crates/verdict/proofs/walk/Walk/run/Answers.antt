use Rattle.std.proofs.Common.{arith}
use Rattle.pool.proofs.Uses.{contents_none}
use Rattle.verdict.proofs.Swept.{sum_small, walk_starts, walk_ends, walk_enters, walk_goes_on, walk_fails}
use Rattle.verdict.proofs.walk.Walk.run.Goals as goal

pub points-init : goal.points-init
points-init g c =
    let walk = c.args.self.now in
    record {
      t = 0;
      far = walk_starts _ _ g.met.K.Curve.shaped walk.checked.channels.now walk.checked.judgeable _ _ (omega (arith, walk.horizon));
      swept = c.fill.ensures;
    }

pub rows-init : goal.rows-init
rows-init g c =
    let checked = c.args.self.now.checked in
    let peeked = c.in-Some.ensures in
    walk_enters _ _ g.met.K.Curve.shaped checked.channels.now checked.judgeable _ c.points.invariant.far c.points.invariant.swept _ peeked.next peeked.first.1

pub overflow_add-sum : goal.overflow_add-sum
overflow_add-sum g c =
    let walk = c.args.self.now in
    omega (arith, sum_small _ _ g.met.K.Curve.shaped walk.checked.channels.now walk.checked.judgeable _ (omega (arith, walk.horizon)) walk.near c.rows.invariant)

pub points-preserved : goal.points-preserved
points-preserved g c =
    let checked = c.args.self.now.checked in
    let peeked = c.in-Some.ensures in
    let over = c.in_default.ensures in
    record {
      t = c.in-Some.first.t;
      far = walk_goes_on _ _ g.met.K.Curve.shaped checked.channels.now checked.judgeable _ c.points.invariant.far c.points.invariant.swept _ peeked.next peeked.first.1 over (omega (arith, c.if-from-sum.false));
      swept = over;
    }

pub returns-in-None : goal.returns-in-None
returns-in-None g c =
    let checked = c.args.self.now.checked in
    walk_ends _ _ g.met.K.Curve.shaped checked.channels.now checked.judgeable _ c.points.invariant.far c.points.invariant.swept (contents_none c.points.points c.in-None.ensures.first)

pub returns-then-from-sum : goal.returns-then-from-sum
returns-then-from-sum g c =
    let checked = c.args.self.now.checked in
    let peeked = c.in-Some.ensures in
    walk_fails _ _ g.met.K.Curve.shaped checked.channels.now checked.judgeable _ c.points.invariant.far c.points.invariant.swept _ peeked.next peeked.first.1 c.in_default.ensures (omega (arith, c.if-from-sum.true))
