use Rattle.std.proofs.Common.{length, take, refl, sym, ap, subst, ◌∙◌}
use Rattle.verdict.proofs.Lengthening.{Lawful}
use Rattle.link.specs.Model.{Model, joined}
use Rattle.link.specs.Promise.{Promise}
use Rattle.link.proofs.Joined.{joined_blank, opened_model}
use Rattle.link.proofs.Promises.{promised}
use Rattle.link.proofs.state.Link.open.Goals as goal

pub returns : goal.returns
returns g c =
    let numbers = g.K.Curve.numbers in
    let limits = g.K.Curve.limits in
    let law : Lawful numbers limits g.K.Curve.dated = record { shaped = g.met.K.Curve.shaped; redated = g.met.K.Curve.redated; redatable = g.met.K.Curve.redatable } in
    let ws = c.args.rows.now in
    let pool = c.new-waiting.result in
    let said = opened_model c.args.name c.args.longest _ _ ws _ _
    (ap length c.new-waiting.ensures.memory)
    (ap (λ es. joined es ws) c.new-table.ensures ∙ joined_blank 32 ws)
    (ap (λ n. take n pool.places.now) c.new-waiting.ensures.empty) in
    record {
      said = said;
      lent = (refl, c.new-waiting.ensures.lender, c.new-waiting.ensures.memory);
      promise = subst (λ (m : Model g.row.K.Denot g.row.K-State.Denot). Promise numbers limits g.K.Curve.dated g.K.Traffic.steps m) (sym said)
          (promised numbers limits g.K.Curve.dated g.K.Traffic.steps law g.met.K.Traffic.sound c.args.name c.args.longest c.args.rows.now (length c.args.waiting.now));
    }
