use Rattle.link.specs.Model.{model}
use Rattle.link.proofs.Confirming.{confirm_granted}
use Rattle.link.proofs.state.Link.join.Goals as goal

pub returns-in-Ok-clause-said : goal.returns-in-Ok-clause-said
returns-in-Ok-clause-said g c = (c.in_ok-hold.hold, model c.hold.new.self, c.in_ok-hold.ensures.said, c.in-Ok.ensures.said)

-- the confirm is never refused
pub returns-in-Err : goal.returns-in-Err
returns-in-Err g c =
    absurd
    (confirm_granted g.K.Curve.numbers g.K.Curve.limits g.K.Traffic.steps (model c.args.self.now) c.args.mat c.args.kind c.in_ok-hold.hold c.in_ok-hold.count
    (model c.hold.new.self) (c.in-Err.refusal, c.in-Err.back) (model c.confirm.new.self) c.in_ok-hold.ensures.said c.in-Err.ensures.said)
