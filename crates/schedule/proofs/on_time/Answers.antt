use Rattle.schedule.proofs.Exactness.{passes_on_time}
use Rattle.schedule.proofs.on_time.Goals as goal

pub returns : goal.returns
returns g c = passes_on_time g.K.Curve.limits g.K.Curve.numbers g.K.Traffic.steps g.met.K.Curve.shaped g.met.K.Traffic.sound
