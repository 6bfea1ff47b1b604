use Rattle.std.proofs.Common.{◌≡◌, ◌++◌, map, vec_items, ap, ◌∙◌, arith}
use Rattle.link.specs.Happenings.{ending}
use Rattle.link.specs.Model.{model}
use Rattle.whole_answers.specs.Prints.{end_line}
use Rattle.whole_answers.proofs.Parts.{pass_none, pass_more, pass_stopped, pass_all}
use Rattle.whole_answers.proofs.runs.Run.ticks.Goals as goal

pub loop-init : goal.loop-init
loop-init c = pass_none (model c.args.self.now.link) (vec_items c.args.self.now.lines)

pub loop-preserved : goal.loop-preserved
loop-preserved c =
    let ks = vec_items c.loop.self.lines in
    pass_more (model c.args.self.now.link) (vec_items c.args.self.now.lines) c.loop.counter (model c.loop.self.link) (model c.tick.new.self) ks (vec_items c.print_end.new.lines) c.in-Ok.carried
    c.loop.invariant c.in-Ok.ensures.said (c.in_ok-print_end-in-Ok.ensures ∙ ap (λ s. ks ++ map end_line (ending c.in-Ok.carried s)) c.clock.ensures)

pub returns-in-Err : goal.returns-in-Err
returns-in-Err c =
    pass_stopped (model c.args.self.now.link) (vec_items c.args.self.now.lines) c.loop.counter c.args.count (model c.loop.self.link) (model c.tick.new.self) (vec_items c.loop.self.lines) (vec_items c.push.new.self) c.in-Err.refusal
    c.loop-test.true c.loop.invariant c.in-Err.ensures.said c.in_ok-push-in-Err.ensures.items

pub returns : goal.returns
returns c =
    let passed : c.loop.counter ≡ c.args.count = omega arith in
    pass_all (model c.args.self.now.link) (vec_items c.args.self.now.lines) c.loop.counter c.args.count _ _ passed c.loop.invariant
