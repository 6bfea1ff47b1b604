use Rattle.std.proofs.Common.{subst, rules}
use Rattle.std.proofs.lemmas.Iterator.{YieldsList-from_slice}
use Rattle.std.proofs.lemmas.Iterator.Consumers.{YieldsList-at}
use Rattle.traffic.specs.Curves.{NextRise}
use Rattle.verdict.specs.Demand.{curves}
use Rattle.verdict.proofs.Rowwise.{row_laws}
use Rattle.overview.specs.Picture.{channels}
use Rattle.overview.proofs.Answering.{least_answer}
use Rattle.overview.proofs.Rising.{Next, soonest_rise}
use Rattle.overview.proofs.Rowwise.{serves_rows}
use Rattle.overview.proofs.rows.Picture.next_rise.Goals as goal

pub min-requires-clause-can : goal.min-requires-clause-can
min-requires-clause-can g c = (tt, tt, serves_rows _ _ _ _ c.args.self.now.stands _ _ _ _ (cc) (λ q x w. search (rules, w)))

pub returns : goal.returns
returns g c =
    let self = c.args.self.now in
    let m = g.K.Curve.numbers in
    let laws = row_laws m _ g.met.K.Curve.shaped self.stands.judged in
    let source = YieldsList-at c.filter_map.ensures.source (YieldsList-from_slice self.rows.now (cc)) in
    let least = least_answer c.filter_map.result c.min.result c.min.ensures.ran source c.filter_map.ensures.closure (Next m self.longest c.args.t) (λ x r q k. search rules) in
    subst (NextRise (curves m (channels self)) c.args.t) least.2 (soonest_rise m self.longest c.args.t self.rows.now least.0 laws least.1)
