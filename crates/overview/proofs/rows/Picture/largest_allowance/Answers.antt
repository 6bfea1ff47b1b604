use Rattle.std.proofs.Common.{ℕ, sym, ap, ◌∙◌, rules, arith}
use Rattle.std.specs.Option.{unwrap_or}
use Rattle.std.proofs.lemmas.Iterator.{YieldsList-from_slice, YieldsList-from_map}
use Rattle.std.proofs.lemmas.Iterator.Adapters.{option_map_id}
use Rattle.std.proofs.lemmas.Iterator.Consumers.{YieldsList-at, max_from_yields_List}
use Rattle.traffic.specs.declared.Row.{Row}
use Rattle.verdict.proofs.Rowwise.{row_laws}
use Rattle.overview.specs.Picture.{channels}
use Rattle.overview.proofs.Rowwise.{serves_rows, allowances_small, largest_of_rows}
use Rattle.overview.proofs.rows.Picture.largest_allowance.Goals as goal

pub max-requires-clause-can : goal.max-requires-clause-can
max-requires-clause-can g c = (tt, serves_rows _ _ _ _ c.args.self.now.stands _ _ _ _ (cc) (λ q x w. search (rules, w)))

pub returns : goal.returns
returns g c =
    let self = c.args.self.now in
    let m = g.K.Curve.numbers in
    let f : g.row.K.Denot → ℕ = λ k. (m k).allowance in
    let most = max_from_yields_List c.map.result c.max.result c.max.ensures.ran
    (YieldsList-from_map _ (λ (r : Row g.row.K.Denot g.row.S.Denot). f r.kind) (YieldsList-at c.map.ensures.source (YieldsList-from_slice self.rows.now (cc))) c.map.ensures.closure (λ x r q k. search rules)) in
    let is = ap (λ o. unwrap_or o 0) (sym (option_map_id c.max.result) ∙ most) ∙ largest_of_rows f self.rows.now in
    (c.unwrap_or.ensures ∙ is, omega (arith, c.unwrap_or.ensures, is, allowances_small m _ (channels self) (row_laws m _ g.met.K.Curve.shaped self.stands.judged)))
