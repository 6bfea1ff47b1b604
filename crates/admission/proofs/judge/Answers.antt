use Rattle.schedule.proofs.Exactness.{passes_on_time, refusal_needed}
use Rattle.admission.proofs.Needed.{exact_needful}
use Rattle.admission.proofs.judge.Goals as goal

pub returns : goal.returns
returns g c =
    let timely = passes_on_time g.K.Curve.limits g.K.Curve.numbers g.K.Traffic.steps g.met.K.Curve.shaped g.met.K.Traffic.sound in
    let needed = refusal_needed g.K.Curve.limits g.K.Curve.numbers g.K.Traffic.steps g.met.K.Curve.shaped g.met.K.Traffic.sound in
    record {
      judged = c.judge.ensures.judged;
      needful = exact_needful _ _ _ timely needed _ _ _ c.judge.result c.judge.ensures.exact;
    }
