use Rattle.std.proofs.Common.{arith}
use Rattle.verdict.specs.Members.{places}
use Rattle.verdict.proofs.Totals.{places_few}
use Rattle.verdict.proofs.Rowwise.{row_laws, row_up, row_zero}
use Rattle.verdict.proofs.Sweeping.{fill_next, sweep_shuffled}
use Rattle.verdict.proofs.walk.Walk.fill.Goals as goal

pub add-requires : goal.add-requires
add-requires g c =
    omega (arith, places_few c.args.self.now.checked.channels.now c.args.self.now.checked.judgeable)

pub loop-row-preserved : goal.loop-row-preserved
loop-row-preserved g c =
    let os = places c.args.self.now.checked.channels.now in
    let m = g.K.Curve.numbers in
    let laws = row_laws m g.K.Curve.limits g.met.K.Curve.shaped c.args.self.now.checked.judgeable in
    let up = row_up m c.args.self.now.checked.longest os laws in
    let next = fill_next _ up c.args.self.now.end c.loop-row.row (omega (arith, c.args.self.now.horizon)) (row_zero m c.args.self.now.checked.longest os laws _) c.loop-row.invariant.2 _ c.point_after-first.ensures in
    let added = c.add.ensures in
    (omega (arith, added.room), omega (arith, added.count), sweep_shuffled _ up _ c.args.self.now.end added.added next)
