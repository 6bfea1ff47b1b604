use Rattle.std.proofs.Common.{ap, ◌∙◌, arith}
use Rattle.traffic.proofs.Uses.{curve_most}
use Rattle.verdict.specs.Members.{places}
use Rattle.verdict.specs.Sweeps.{curve_of}
use Rattle.verdict.proofs.Totals.{place_limits, place_within}
use Rattle.verdict.proofs.checked.Checked.curve_at.Goals as goal

pub curve-requires : goal.curve-requires
curve-requires g c = place_within _ _ _ (places c.args.self.now.channels.now) c.args.self.now.judgeable _ _ c.in-Some.ensures

pub returns-in-Some : goal.returns-in-Some
returns-in-Some g c =
    let laws = g.met.K.Curve.shaped _ _ c.args.self.now.judgeable.least c.args.self.now.judgeable.most (place_limits _ _ _ (places c.args.self.now.channels.now) c.args.self.now.judgeable _ _ c.in-Some.ensures) in
    record {
      value = c.curve.ensures ∙ ap (λ o. curve_of g.K.Curve.numbers o c.args.t) c.in-Some.ensures;
      bound = omega (arith, c.curve.ensures, curve_most _ _ laws c.args.t);
    }
