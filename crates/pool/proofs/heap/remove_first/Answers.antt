use Rattle.pool.proofs.Roots.{all_first}
use Rattle.pool.proofs.heap.remove_first.Goals as goal

pub returns-clause-first : goal.returns-clause-first
returns-clause-first g c =
    let law = g.met.T.Ordered in
    all_first g.T.Ordered.before law.asymmetric law.transitive c.args.s.now c.index-s-0.result c.requires.some c.index-s-0.is c.requires.heap
