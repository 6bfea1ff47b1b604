use Rattle.std.proofs.Common.{ℕ, sym, ap, ◌∙◌, rules, arith}
use Rattle.std.specs.Option.{unwrap_or}
use Rattle.std.proofs.lemmas.Iterator.{YieldsList-from_map}
use Rattle.std.proofs.lemmas.Iterator.Adapters.{option_map_id}
use Rattle.std.proofs.lemmas.Iterator.Consumers.{YieldsList-at, max_from_yields_List}
use Rattle.verdict.specs.Members.{members}
use Rattle.verdict.proofs.Counting.{yields_members, serves_members, largest_max, largest_most}
use Rattle.verdict.proofs.Rowwise.{row_laws}
use Rattle.verdict.proofs.checked.Checked.largest_allowance.Goals as goal

pub max-requires-clause-can : goal.max-requires-clause-can
max-requires-clause-can g c = let checked = c.args.self.now in (tt, serves_members _ _ checked.channels.now checked.judgeable _ (cc) _ _ _ (λ q x limits w. search (rules, w)))

pub returns : goal.returns
returns g c =
    let checked = c.args.self.now in
    let ks = members checked.channels.now in
    let f : g.row.K.Denot → ℕ = λ k. (g.K.Curve.numbers k).allowance in
    let most = max_from_yields_List c.map-allowances.result c.max.result c.max.ensures.ran
    (YieldsList-from_map _ f (YieldsList-at c.map-allowances.ensures.source (yields_members checked.channels.now _ (cc))) c.map-allowances.ensures.closure (λ x r q k. search rules)) in
    let is = ap (λ o. unwrap_or o 0) (sym (option_map_id c.max.result) ∙ most) ∙ largest_max f ks in
    (c.unwrap_or.ensures ∙ is, omega (arith, c.unwrap_or.ensures, is, largest_most _ _ ks (row_laws _ _ g.met.K.Curve.shaped checked.judgeable)))
