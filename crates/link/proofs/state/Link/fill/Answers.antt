use Rattle.std.proofs.Common.{refl}
use Rattle.link.proofs.Joined.{filled_model}
use Rattle.link.proofs.state.Link.fill.Goals as goal

pub returns : goal.returns
returns g c =
    record {
      hold = refl;
      said = filled_model c.args.self.now c.args.i c.args.mat c.args.row _ c.fill.ensures;
      lent = (refl, refl);
    }
