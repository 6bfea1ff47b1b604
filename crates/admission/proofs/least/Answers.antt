use Rattle.schedule.proofs.Exactness.{passes_on_time, refusal_needed}
use Rattle.verdict.proofs.Lengthening.{Lawful}
use Rattle.admission.proofs.Needed.{least_exact}
use Rattle.admission.proofs.least.Goals as goal

pub returns : goal.returns
returns g c =
    let timely = passes_on_time g.K.Curve.limits g.K.Curve.numbers g.K.Traffic.steps g.met.K.Curve.shaped g.met.K.Traffic.sound in
    let needed = refusal_needed g.K.Curve.limits g.K.Curve.numbers g.K.Traffic.steps g.met.K.Curve.shaped g.met.K.Traffic.sound in
    let law : Lawful g.K.Curve.numbers g.K.Curve.limits g.K.Curve.dated = record { shaped = g.met.K.Curve.shaped; redated = g.met.K.Curve.redated; redatable = g.met.K.Curve.redatable } in
    record {
      least = c.least.ensures;
      exact = least_exact _ _ _ timely needed _ law _ _ _ c.args.new c.least.result c.least.ensures;
    }
