use Rattle.std.proofs.Common.{Err, Result, sym, refl, subst}
use Rattle.refusals.specs.declared.Refusal.{Refusal}
use Rattle.link.specs.declared.state.Event.TheVariants.{Confirm}
use Rattle.link.specs.Model.{Model, model}
use Rattle.link.specs.Settling.{GivenBack}
use Rattle.link.proofs.state.Link.confirm.Goals as goal

pub returns-in-Err-clause-said : goal.returns-in-Err-clause-said
returns-in-Err-clause-said g c =
    let m = model c.args.self.now in
    subst (λ (x : Result (Model g.row.K.Denot g.row.K-State.Denot) Refusal). GivenBack c.args.hold x m (Err (c.in-Err.refusal, c.args.hold)) m) (sym (c.in-Err.ensures.said Confirm)) (refl, refl)
