use Rattle.std.proofs.Common.{rules}
use Rattle.link.specs.Rows.{held_of}
use Rattle.link.proofs.state.Link.row_held.Goals as goal

pub returns-clause-found : goal.returns-clause-found
returns-clause-found g c = c.find.ensures.found (held_of c.args.hold.now.mat c.args.hold.now.serial) (λ r b k. search rules)
