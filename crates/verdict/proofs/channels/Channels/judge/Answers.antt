use Rattle.std.proofs.Common.{subst, arith}
use Rattle.verdict.specs.Judged.{Judged}
use Rattle.verdict.specs.Members.{members, size}
use Rattle.verdict.proofs.Exactness.{judged_walk, judged_exact}
use Rattle.verdict.proofs.channels.Channels.judge.Goals as goal

pub returns : goal.returns
returns g c =
    let m = g.K.Curve.numbers in
    let limits = g.K.Curve.limits in
    let checked = c.in_ok-checked.checked in
    let v = c.walk.result in
    let walked = judged_walk m limits checked.longest (size checked.channels.now) (members checked.channels.now) checked.judgeable (omega (arith, c.loads-works.ensures.works)) v c.walk.ensures in
    let same = c.in_ok-checked.ensures.ok in
    let judged = subst (λ p. Judged m limits p (size c.args.self.now) (members c.args.self.now) v) same.1 (subst (λ x. Judged m limits checked.longest (size x) (members x) v) same.0 walked) in
    record { judged = judged; exact = judged_exact m limits g.met.K.Curve.shaped _ _ _ v judged }
