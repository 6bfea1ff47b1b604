use Rattle.std.proofs.Common.{refl}
use Rattle.link.proofs.Joined.{stored_model}
use Rattle.link.proofs.state.Link.store.Goals as goal

pub returns : goal.returns
returns g c = record { said = stored_model c.args.self.now c.args.i c.args.row; lent = (refl, refl) }
