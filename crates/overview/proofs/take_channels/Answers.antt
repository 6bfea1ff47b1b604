use Rattle.answers.specs.Granted.{mats, kinds}
use Rattle.overview.proofs.Granting.{counted_stand}
use Rattle.overview.proofs.take_channels.Goals as goal

pub loop-channel-preserved : goal.loop-channel-preserved
loop-channel-preserved c =
    let granted = c.loop-channel.granted in
    counted_stand c.args.longest (mats granted) (kinds granted) _ _ _ c.decide-decision.ensures c.in_ok-count.ensures.kinds c.loop-channel.invariant
