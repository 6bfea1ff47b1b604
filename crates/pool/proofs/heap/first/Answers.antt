use Rattle.std.proofs.Common.{rules, ◌≡◌}
use Rattle.pool.specs.Elements.{head}
use Rattle.pool.proofs.Roots.{head_first}
use Rattle.pool.proofs.heap.first.Goals as goal

pub returns-clause-first : goal.returns-clause-first
returns-clause-first g c =
    let law = g.met.T.Ordered in
    let is : c.copied.result ≡ head c.args.s.now = search rules in
    rw is (head_first g.T.Ordered.before law.asymmetric law.transitive c.args.s.now c.requires)
