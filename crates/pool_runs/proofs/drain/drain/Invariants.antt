use Rattle.std.proofs.Common.{◌≡◌, ◌+◌}
use Rattle.pool_runs.specs.Drained.{Drained}
use Rattle.pool_runs.proofs.drain.drain.Given as goal

abbrev pub invariant-loop-place : goal.invariant-loop-place
invariant-loop-place g l =
    (l.place-index + l.pool.count ≡ l.initial.pool.count)
    × Drained g.T.Ordered.before l.initial.pool l.pool l.out l.place-index
