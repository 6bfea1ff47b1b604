use Rattle.std.proofs.Common.{refl, arith}
use Rattle.traffic.specs.Laws.{Within}
use Rattle.traffic.specs.Spaced.{spaced_limits}
use Rattle.traffic.proofs.examples.nested_steps.Goals as goal

within : Within (spaced_limits 10 2 5)
within = record { under = 2; least = omega arith; most = omega arith; holds = refl }

pub fresh-state-requires : goal.fresh-state-requires
fresh-state-requires c = rw c.spaced-inner.ensures within

pub step-first-requires : goal.step-first-requires
step-first-requires c = rw c.spaced-inner.ensures within

pub step-early-requires : goal.step-early-requires
step-early-requires c = rw c.spaced-inner.ensures within

pub step-second-requires : goal.step-second-requires
step-second-requires c = rw c.spaced-inner.ensures within
