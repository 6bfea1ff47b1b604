use Rattle.std.proofs.Common.{Result, sym, refl, subst, rules}
use Rattle.refusals.specs.declared.Refusal.{Refusal}
use Rattle.link.specs.declared.state.Event.TheVariants.{Cancel}
use Rattle.link.specs.Model.{Model, model}
use Rattle.link.specs.Outcomes.{Answered}
use Rattle.link.proofs.state.Link.cancel.Goals as goal

pub returns-in_err-i-clause-said : goal.returns-in_err-i-clause-said
returns-in_err-i-clause-said g c =
    let m = model c.args.self.now in
    subst (λ (x : Result (Model g.row.K.Denot g.row.K-State.Denot) Refusal). Answered x m c.from_residual.result m) (sym (c.in_err-i.ensures.said Cancel)) (search rules, refl)
