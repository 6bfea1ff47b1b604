use Rattle.std.proofs.Common.{◌≡◌, length, refl, arith}
use Rattle.std.proofs.lemmas.Option.{slice_get_read}
use Rattle.link.proofs.Joined.{joined_nth}
use Rattle.link.proofs.state.Link.at.Goals as goal

pub returns : goal.returns
returns g c =
    let l = c.args.self.now in
    let at = slice_get_read l.rows.now _ c.args.i c.index-rows-i.result refl c.requires.1 c.index-rows-i.is in
    let full : length c.args.self.now.table.records ≡ 32 = l.table.full in
    joined_nth l.table.records l.rows.now c.args.i c.index-rows-i.result _ (omega (arith, c.requires.0)) at
