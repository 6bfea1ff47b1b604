use Rattle.schedule.proofs.Exactness.{every_schedule}
use Rattle.schedule.proofs.some_schedule.Goals as goal

pub returns : goal.returns
returns g c = every_schedule g.K.Curve.limits g.K.Curve.numbers g.K.Traffic.steps g.met.K.Curve.shaped g.met.K.Traffic.sound
