use Rattle.std.proofs.Common.{refl}
use Rattle.figures.proofs.Opened.{least_opened}
use Rattle.figures.proofs.runs.least_alone.Goals as goal

pub returns : goal.returns
returns c = least_opened c.open-link.result _ _ _ c.open-link.ensures.lent.0 c.open-link.ensures.said refl _ c.spaced.ensures _ c.least.ensures
