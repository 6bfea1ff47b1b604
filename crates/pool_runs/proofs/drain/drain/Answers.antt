use Rattle.std.proofs.Common.{arith}
use Rattle.pool_runs.proofs.Drains.{drained_more}
use Rattle.pool_runs.proofs.drain.drain.Goals as goal

pub loop-place-preserved : goal.loop-place-preserved
loop-place-preserved g c =
    let told = c.in-Some.ensures.taken in (
      omega arith,
      drained_more g.T.Ordered.before c.args.pool.now c.loop-place.pool c.take.new.self c.loop-place.out c.loop-place.place-index c.in-Some.first (omega arith) told c.loop-place.invariant.1,
    )
