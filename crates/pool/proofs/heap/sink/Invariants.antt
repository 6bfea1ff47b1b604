use Rattle.std.proofs.Common.{◌≡◌, ◌-◌, length}
use Rattle.std.specs.List.Sorted.{IsPermutation}
use Rattle.pool.specs.Heap.{Sinking}
use Rattle.pool.proofs.heap.sink.Given as goal

abbrev pub invariant-loop-i : goal.invariant-loop-i
invariant-loop-i g l = record {
  long : length l.s ≡ length l.initial.s;
  bag : IsPermutation l.initial.s l.s;
  sinking : Sinking g.T.Ordered.before l.s l.i (length l.initial.s);
}

abbrev pub decreases-loop-i : goal.decreases-loop-i
decreases-loop-i g l = length l.initial.s - l.i
