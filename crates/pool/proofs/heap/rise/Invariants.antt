use Rattle.std.proofs.Common.{◌≡◌, ◌<◌, length}
use Rattle.std.specs.List.Sorted.{IsPermutation}
use Rattle.pool.specs.Heap.{Rising}
use Rattle.pool.proofs.heap.rise.Given as goal

abbrev pub invariant-loop-i : goal.invariant-loop-i
invariant-loop-i g l = record {
  long : length l.s ≡ length l.initial.s;
  within : l.i < length l.s;
  bag : IsPermutation l.initial.s l.s;
  rising : Rising g.T.Ordered.before l.s l.i (length l.initial.s);
}

abbrev pub decreases-loop-i : goal.decreases-loop-i
decreases-loop-i g l = l.i
