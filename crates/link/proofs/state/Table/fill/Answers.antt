use Rattle.std.proofs.Common.{◌≡◌, ◌∙◌, length-set, rules}
use Rattle.link.specs.declared.state.Phase.TheVariants.{Held}
use Rattle.link.proofs.Tables.{known_set}
use Rattle.link.proofs.state.Table.fill.Goals as goal

pub invariant_of-self : goal.invariant_of-self
invariant_of-self c =
    let rs = c.args.self.now.records in
    let held : c.meet.new.self.phase ≡ Held = search rules in
    record {
      full = length-set rs c.args.i c.meet.new.self ∙ c.args.self.now.full;
      known = known_set c.args.self.now.leaving c.meet.new.self c.args.i rs held c.args.self.now.known;
    }
