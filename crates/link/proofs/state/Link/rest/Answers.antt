use Rattle.std.proofs.Common.{Some, sym, refl, ap, ◌∙◌}
use Rattle.link.specs.Packets.{begun_bulk}
use Rattle.link.proofs.Slots.{rested}
use Rattle.link.proofs.state.Link.rest.Goals as goal

pub returns-in-Some-clause-said : goal.returns-in-Some-clause-said
returns-in-Some-clause-said g c = rested c.args.self.now _ _ _ c.rest.ensures refl (ap Some c.from.ensures ∙ sym (ap begun_bulk c.in-Some.is))

pub returns-in_default-clause-said : goal.returns-in_default-clause-said
returns-in_default-clause-said g c = rested c.args.self.now _ _ _ c.rest.ensures c.in_default.is (c.requires.off ∙ sym (ap begun_bulk c.in_default.is))
