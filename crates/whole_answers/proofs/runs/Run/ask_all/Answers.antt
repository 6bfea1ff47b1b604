use Rattle.std.proofs.Common.{[], ◌∷◌, ◌++◌, vec_items, ap, ◌∙◌, rules}
use Rattle.link.specs.Model.{model}
use Rattle.whole_answers.proofs.Asking.{told_line, asking_none, asking_more, asking_all}
use Rattle.whole_answers.proofs.runs.Run.ask_all.Goals as goal

pub loop-channel-init : goal.loop-channel-init
loop-channel-init c = asking_none c.args.channels.now (model c.args.self.now.link) (vec_items c.args.self.now.lines)

pub loop-channel-preserved : goal.loop-channel-preserved
loop-channel-preserved c =
    let ks = vec_items c.loop-channel.self.lines in
    let told = told_line _ _ c.least-found.result _ c.of_least.ensures (search rules) in
    asking_more c.args.channels.now (model c.args.self.now.link) (vec_items c.args.self.now.lines) c.loop-channel.channel-index _
    c.least-found.result c.join.result (model c.loop-channel.self.link) (model c.join.new.self) ks (vec_items c.push.new.self)
    c.loop-channel-test.true c.loop-channel.invariant c.least-found.ensures c.join.ensures.said
    (c.in_ok-push.ensures.items ∙ ap (λ l. ks ++ l ∷ []) told)

pub returns : goal.returns
returns c =
    asking_all c.args.channels.now (model c.args.self.now.link) (vec_items c.args.self.now.lines) c.loop-channel.channel-index
    (model c.loop-channel.self.link) (vec_items c.loop-channel.self.lines) c.loop-channel-test.false c.loop-channel.invariant
