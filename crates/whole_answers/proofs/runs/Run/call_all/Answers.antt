use Rattle.std.proofs.Common.{vec_items}
use Rattle.link.specs.Model.{model}
use Rattle.whole_answers.specs.Plans.{Make}
use Rattle.whole_answers.proofs.Parts.{turn_none, turn_more, turn_all}
use Rattle.whole_answers.proofs.runs.Run.call_all.Goals as goal

pub loop-call-init : goal.loop-call-init
loop-call-init c = turn_none Make c.args.calls.now (model c.args.self.now.link) (vec_items c.args.self.now.lines)

pub loop-call-preserved : goal.loop-call-preserved
loop-call-preserved c =
    turn_more Make c.args.calls.now (model c.args.self.now.link) (vec_items c.args.self.now.lines) c.loop-call.call-index _ _ _ _ _
    c.loop-call-test.true c.loop-call.invariant c.in_ok-call.ensures

pub returns : goal.returns
returns c = turn_all Make c.args.calls.now (model c.args.self.now.link) (vec_items c.args.self.now.lines) c.loop-call.call-index _ _ c.loop-call-test.false c.loop-call.invariant
