use Rattle.std.proofs.Common.{[], ◌∷◌, length, length-append, ap, ◌∙◌, arith}
use Rattle.verdict.specs.Demand.{works, bursts}
use Rattle.verdict.proofs.Counting.{turn, turn_within, all_came}
use Rattle.verdict.proofs.Totals.{total-push, members_few}
use Rattle.verdict.proofs.checked.Checked.loads.Goals as goal

pub work-works-requires : goal.work-works-requires
work-works-requires g c =
    let checked = c.args.self.now in
    let here = turn _ _ checked.channels.now checked.judgeable c.into_iter-k-iterator.result (cc) c.loop-k.yielded c.loop-k.k-iterator c.loop-k.yielded_by _ c.next.new.self _ c.in-Some.is c.next.ensures.steps in
    turn_within _ _ checked.channels.now checked.judgeable c.into_iter-k-iterator.result (cc) here.1

pub burst-bursts-requires : goal.burst-bursts-requires
burst-bursts-requires g c =
    let checked = c.args.self.now in
    let here = turn _ _ checked.channels.now checked.judgeable c.into_iter-k-iterator.result (cc) c.loop-k.yielded c.loop-k.k-iterator c.loop-k.yielded_by _ c.next.new.self _ c.in-Some.is c.next.ensures.steps in
    turn_within _ _ checked.channels.now checked.judgeable c.into_iter-k-iterator.result (cc) here.1

pub overflow_add-works : goal.overflow_add-works
overflow_add-works g c =
    let checked = c.args.self.now in
    let here = turn _ _ checked.channels.now checked.judgeable c.into_iter-k-iterator.result (cc) c.loop-k.yielded c.loop-k.k-iterator c.loop-k.yielded_by _ c.next.new.self _ c.in-Some.is c.next.ensures.steps in
    let laws = g.met.K.Curve.shaped _ _ checked.judgeable.least checked.judgeable.most here.1 in
    omega (arith, c.loop-k.invariant.1, here.0, laws.work_most, c.work-works.ensures, members_few checked.channels.now checked.judgeable)

pub overflow_add-bursts : goal.overflow_add-bursts
overflow_add-bursts g c =
    let checked = c.args.self.now in
    let here = turn _ _ checked.channels.now checked.judgeable c.into_iter-k-iterator.result (cc) c.loop-k.yielded c.loop-k.k-iterator c.loop-k.yielded_by _ c.next.new.self _ c.in-Some.is c.next.ensures.steps in
    let laws = g.met.K.Curve.shaped _ _ checked.judgeable.least checked.judgeable.most here.1 in
    omega (arith, c.loop-k.invariant.3, here.0, laws.burst_most, c.burst-bursts.ensures, members_few checked.channels.now checked.judgeable)

pub loop-k-preserved : goal.loop-k-preserved
loop-k-preserved g c =
    let checked = c.args.self.now in
    let here = turn _ _ checked.channels.now checked.judgeable c.into_iter-k-iterator.result (cc) c.loop-k.yielded c.loop-k.k-iterator c.loop-k.yielded_by _ c.next.new.self _ c.in-Some.is c.next.ensures.steps in
    let laws = g.met.K.Curve.shaped _ _ checked.judgeable.least checked.judgeable.most here.1 in
    let m = g.K.Curve.numbers in
    let xs = c.loop-k.yielded in
    let so_far = c.loop-k.invariant in
    let longer = length-append xs (c.in-Some.k ∷ []) in (
      omega (arith, total-push (λ k. (m k).work) xs c.in-Some.k, so_far.0, c.work-works.ensures),
      omega (arith, longer, laws.work_most, so_far.1, c.work-works.ensures),
      omega (arith, total-push (λ k. (m k).burst) xs c.in-Some.k, so_far.2, c.burst-bursts.ensures),
      omega (arith, longer, laws.burst_most, so_far.3, c.burst-bursts.ensures),
    )

pub returns : goal.returns
returns g c =
    let checked = c.args.self.now in
    let all = all_came checked.channels.now c.into_iter-k-iterator.result (cc) c.loop-k.yielded c.loop-k.k-iterator c.loop-k.yielded_by _ c.next.new.self c.in-None.is c.next.ensures.steps in
    record {
      works = c.loop-k.invariant.0 ∙ ap (works g.K.Curve.numbers) all;
      bursts = c.loop-k.invariant.2 ∙ ap (bursts g.K.Curve.numbers) all;
      bursts_bound = omega (arith, c.loop-k.invariant.3, ap length all, members_few checked.channels.now checked.judgeable);
    }
