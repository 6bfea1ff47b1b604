use Rattle.std.proofs.Common.{◌≡◌, ◌+◌, ◌-◌}
use Rattle.pool.specs.Contents.{capacity}
use Rattle.pool_runs.proofs.drain.fill.Given as goal

abbrev pub invariant-loop-i : goal.invariant-loop-i
invariant-loop-i g l =
    (capacity l.pool ≡ capacity l.initial.pool)
    × (l.pool.count + l.refused ≡ l.initial.pool.count + l.i)
    × (l.refused ≡ l.i - (capacity l.initial.pool - l.initial.pool.count))
