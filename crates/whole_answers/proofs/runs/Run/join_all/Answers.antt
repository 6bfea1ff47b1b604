use Rattle.std.proofs.Common.{[], ◌∷◌, ◌++◌, vec_items, ap, ◌∙◌}
use Rattle.link.specs.Model.{model}
use Rattle.whole_answers.specs.Plans.{Join}
use Rattle.whole_answers.proofs.Parts.{turn_none, turn_more, turn_all, part_joined}
use Rattle.whole_answers.proofs.runs.Run.join_all.Goals as goal

pub loop-channel-init : goal.loop-channel-init
loop-channel-init c = turn_none Join c.args.channels.now (model c.args.self.now.link) (vec_items c.args.self.now.lines)

pub loop-channel-preserved : goal.loop-channel-preserved
loop-channel-preserved c =
    let ls = vec_items c.loop-channel.self.lines in
    let more = c.in_ok-push.ensures.items ∙ ap (λ l. ls ++ l ∷ []) c.of_channel.ensures in
    turn_more Join c.args.channels.now (model c.args.self.now.link) (vec_items c.args.self.now.lines) c.loop-channel.channel-index _ _ _ _ _
    c.loop-channel-test.true c.loop-channel.invariant
    (part_joined (model c.loop-channel.self.link) ls (model c.join-answer.new.self) (vec_items c.push.new.self) _ c.join-answer.result c.join-answer.ensures.said more)

pub returns : goal.returns
returns c = turn_all Join c.args.channels.now (model c.args.self.now.link) (vec_items c.args.self.now.lines) c.loop-channel.channel-index _ _ c.loop-channel-test.false c.loop-channel.invariant
