use Rattle.std.proofs.Common.{◌≡◌, true, false, arith}
use Rattle.std.proofs.lemmas.List.Elements.{pair_read}
use Rattle.std.proofs.lemmas.List.Sorted.{IsPermutation-trans}
use Rattle.pool.proofs.Sinks.{sink_steps, sink_rests}
use Rattle.pool.proofs.heap.sink.Goals as goal

pub loop-i-preserved : goal.loop-i-preserved
loop-i-preserved g c =
    let i = c.loop-i.i in
    let child = c.first_child-child.result in
    let told = c.first_child-child.ensures in
    let law = g.met.T.Ordered in
    let before = g.T.Ordered.before in
    let less = pair_read c.loop-i.s (λ a b. before a b ≡ true) child i _ _ (omega arith) (omega arith) c.index-s-child.is c.index-s-i.is (cc) in
    record {
      long = omega arith;
      bag = IsPermutation-trans _ _ _ c.loop-i.invariant.bag c.swap.ensures.permutation;
      sinking = sink_steps before law.asymmetric law.transitive c.loop-i.s _ i child _ (omega arith) (omega arith) (omega arith) c.swap.ensures.by_index less (rw c.loop-i.invariant.long at told.best) c.loop-i.invariant.sinking;
    }

pub returns-then-not-precedes-clause-heap : goal.returns-then-not-precedes-clause-heap
returns-then-not-precedes-clause-heap g c =
    let i = c.loop-i.i in
    let child = c.first_child-child.result in
    let law = g.met.T.Ordered in
    let before = g.T.Ordered.before in
    let fine = pair_read c.loop-i.s (λ a b. before a b ≡ false) child i _ _ (omega arith) (omega arith) c.index-s-child.is c.index-s-i.is (cc) in
    sink_rests before law.asymmetric law.transitive _ i child _ fine (rw c.loop-i.invariant.long at c.first_child-child.ensures.best) c.loop-i.invariant.sinking
