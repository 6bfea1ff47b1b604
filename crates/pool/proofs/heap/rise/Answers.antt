use Rattle.std.proofs.Common.{◌≡◌, true, arith}
use Rattle.std.proofs.lemmas.List.Elements.{pair_read}
use Rattle.std.proofs.lemmas.List.Sorted.{IsPermutation-trans}
use Rattle.pool.proofs.Rises.{rise_steps}
use Rattle.pool.proofs.heap.rise.Goals as goal

pub loop-i-preserved : goal.loop-i-preserved
loop-i-preserved g c =
    let i = c.loop-i.i in
    let up = c.parent-up.result in
    let law = g.met.T.Ordered in
    let before = g.T.Ordered.before in
    let less = pair_read c.loop-i.s (λ a b. before a b ≡ true) i up _ _ (omega arith) (omega arith) c.index-s-i.is c.index-s-up.is (cc) in
    record {
      long = omega arith;
      within = omega arith;
      bag = IsPermutation-trans _ _ _ c.loop-i.invariant.bag c.swap.ensures.permutation;
      rising = rise_steps before law.asymmetric law.transitive c.loop-i.s _ up i _ (omega arith) (omega arith) (omega arith) c.swap.ensures.by_index less c.loop-i.invariant.rising;
    }
