use Rattle.std.proofs.Common.{refl, ap, ◌∙◌}
use Rattle.link.specs.Model.{joined, model, with_rows}
use Rattle.link.specs.Rows.{moved}
use Rattle.link.proofs.Joined.{joined_changed}
use Rattle.link.proofs.state.Link.meet.Goals as goal

pub returns : goal.returns
returns g c =
    let l = c.args.self.now in
    record {
      said = ap (λ rs. with_rows (model l) rs) (ap (λ es. joined es l.rows.now) c.meet.ensures ∙ joined_changed (moved c.args.event) l.table.records l.rows.now c.args.i);
      lent = (refl, refl);
    }
