use Rattle.std.proofs.Common.{◌≡◌, true, false, rules, arith}
use Rattle.std.proofs.lemmas.Iterator.{cases_from_all}
use Rattle.verdict.specs.Members.{members}
use Rattle.verdict.proofs.Counting.{yields_members, all_tested}
use Rattle.verdict.proofs.channels.Channels.judgeable.Goals as goal

pub returns : goal.returns
returns g c =
    let channels = c.args.self.now in
    let p = c.args.longest in
    let tested = all_tested (λ k. g.K.Curve.limits k p) (members channels) c.all.result
    (cases_from_all c.all.new.self _ _ (λ k. g.K.Curve.limits k p ≡ true) (λ k. g.K.Curve.limits k p ≡ false) c.all.ensures.ran (yields_members channels _ (cc)) (λ x q k. search rules) (λ x q k. search rules)) in
    (λ e. record { least = search (rules, arith); most = search (rules, arith); few = omega arith; within = tested.0 e }, λ judged. tested.1 judged.within)
