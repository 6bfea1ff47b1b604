use Rattle.std.proofs.Common.{rules}
use Rattle.link.specs.Rows.{counted_of}
use Rattle.link.proofs.state.Link.row_of.Goals as goal

pub returns-clause-found : goal.returns-clause-found
returns-clause-found g c = c.find.ensures.found (counted_of c.args.mat) (λ r b k. search rules)
