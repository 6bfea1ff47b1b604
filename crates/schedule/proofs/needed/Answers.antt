use Rattle.schedule.proofs.Exactness.{refusal_needed}
use Rattle.schedule.proofs.needed.Goals as goal

pub returns : goal.returns
returns g c = refusal_needed g.K.Curve.limits g.K.Curve.numbers g.K.Traffic.steps g.met.K.Curve.shaped g.met.K.Traffic.sound
