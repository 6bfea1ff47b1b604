use Rattle.std.proofs.Common.{length, of_calls, sym, ◌∙◌}
use Rattle.std.proofs.lemmas.Iterator.{YieldsList-from_slice, YieldsList-from_take}
use Rattle.std.proofs.lemmas.Iterator.Search.{position_from_yields_List}
use Rattle.link.proofs.Joined.{joined_first}
use Rattle.link.proofs.state.Link.find.Goals as goal

pub returns-clause-found : goal.returns-clause-found
returns-clause-found g c P tests =
    let l = c.args.self.now in
    position_from_yields_List P _ _ c.position.result c.position.ensures.ran
    (YieldsList-from_take (length l.rows.now) (YieldsList-from_slice l.table.records cc) cc)
    (λ x b q k. (g.met.F.Fn.1.step_stays _ _ _ _ k, tests x b (search of_calls)))
    ∙ sym (joined_first P l.table.records l.rows.now)
