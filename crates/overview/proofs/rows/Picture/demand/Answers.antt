use Rattle.std.proofs.Common.{ℕ, ◌∙◌, rules, arith}
use Rattle.std.proofs.lemmas.Iterator.{YieldsList-from_slice, YieldsList-from_map}
use Rattle.std.proofs.lemmas.Iterator.Consumers.{YieldsList-at, sum_by_from_yields_List, fits_by_from_yields_list}
use Rattle.traffic.specs.declared.Row.{Row}
use Rattle.overview.proofs.Rowwise.{serves_rows, demand_small, total_of_rows}
use Rattle.overview.proofs.rows.Picture.demand.Goals as goal

pub sum-requires-clause-can : goal.sum-requires-clause-can
sum-requires-clause-can g c = (tt, serves_rows _ _ _ _ c.args.self.now.stands _ _ _ _ (cc) (λ q x w. search (rules, w)))

pub sum-requires-clause-fits : goal.sum-requires-clause-fits
sum-requires-clause-fits g c =
    let self = c.args.self.now in
    let f : g.row.K.Denot → ℕ = λ k. (g.K.Curve.numbers k).curve c.args.t in
    fits_by_from_yields_list (λ (r : Row g.row.K.Denot g.row.S.Denot). f r.kind) self.rows.now _ _
    (YieldsList-from_map _ _ (YieldsList-at c.map.ensures.source (YieldsList-from_slice self.rows.now (cc))) c.map.ensures.closure (λ x r q k. search rules))
    (omega (arith, c.ranges.t, total_of_rows f self.rows.now, demand_small _ _ _ _ self.stands c.args.t))

pub returns : goal.returns
returns g c =
    let rs = c.args.self.now.rows.now in
    let f : g.row.K.Denot → ℕ = λ k. (g.K.Curve.numbers k).curve c.args.t in
    sum_by_from_yields_List (λ (r : Row g.row.K.Denot g.row.S.Denot). f r.kind) rs _ _ c.sum.ensures.ran
    (YieldsList-from_map _ _ (YieldsList-at c.map.ensures.source (YieldsList-from_slice rs (cc))) c.map.ensures.closure (λ x r q k. search rules))
    ∙ total_of_rows f rs
