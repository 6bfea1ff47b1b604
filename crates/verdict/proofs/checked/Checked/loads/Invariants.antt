use Rattle.std.proofs.Common.{◌≡◌, ◌*◌, ◌≤◌, length}
use Rattle.verdict.specs.Demand.{works, bursts}
use Rattle.verdict.proofs.checked.Checked.loads.Given as goal

abbrev pub invariant-loop-k : goal.invariant-loop-k
invariant-loop-k g l =
    (l.works ≡ works g.K.Curve.numbers l.yielded) × (l.works ≤ 1285200 * length l.yielded)
    × (l.bursts ≡ bursts g.K.Curve.numbers l.yielded) × (l.bursts ≤ 45360 * length l.yielded)
