use Rattle.std.proofs.Common.{◌≡◌, ◌+◌, Some, None, sym, subst, arith}
use Rattle.verdict.specs.Demand.{curves, horizon}
use Rattle.verdict.proofs.Rowwise.{row_laws}
use Rattle.overview.specs.Picture.{channels, NextPoint}
use Rattle.overview.proofs.Tightening.{SoFar, no_point_at_zero, one_more_so_far, tightest_of_all}
use Rattle.overview.proofs.rows.Picture.tightest.Goals as goal

pub loop-point-init : goal.loop-point-init
loop-point-init g c = no_point_at_zero _ _ _ (row_laws _ _ g.met.K.Curve.shaped c.args.self.now.stands.judged) c.args.self.now.stands.passes.works_fit

pub loop-point-preserved : goal.loop-point-preserved
loop-point-preserved g c =
    let self = c.args.self.now in
    let F = curves g.K.Curve.numbers (channels self) in
    let q = c.in-Some.point in
    subst (λ x. SoFar F self.longest q.t (Some x)) (sym c.tighter.ensures) (one_more_so_far F self.longest c.loop-point.t _ q c.in-Some.ensures _ c.loop-point.invariant)

pub returns : goal.returns
returns g c =
    let self = c.args.self.now in
    let m = g.K.Curve.numbers in
    let ks = channels self in
    let laws = row_laws m _ g.met.K.Curve.shaped c.args.self.now.stands.judged in
    let end : c.largest_allowance-end.result + 5040 ≡ horizon m ks = omega (arith, c.largest_allowance-end.ensures.0) in
    let last = subst (λ h. NextPoint (curves m ks) self.longest c.loop-point.t h None) end c.in_default.ensures in
    tightest_of_all m self.longest ks laws c.args.self.now.stands.passes.works_fit c.loop-point.t _ c.loop-point.invariant last
