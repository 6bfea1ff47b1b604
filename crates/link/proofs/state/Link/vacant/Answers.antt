use Rattle.std.proofs.Common.{rules}
use Rattle.link.specs.Rows.{is_free}
use Rattle.link.proofs.Joined.{vacant_found, vacant_entry}
use Rattle.link.proofs.state.Link.vacant.Goals as goal

pub returns : goal.returns
returns g c =
    let l = c.args.self.now in
    let found = c.find.ensures.found is_free (λ r b k. search rules) in
    record {
      found = found;
      within = c.find.ensures.within;
      vacant = vacant_found l.table.records l.rows.now c.find.result found;
      free = vacant_entry l.table.records l.rows.now c.find.result found;
    }
