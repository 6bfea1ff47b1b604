use Rattle.std.proofs.Common.{◌+◌, ◌-◌, ◌/◌, ◌≤◌, [], ◌∷◌, ◌++◌, Some, sym, refl, ap, ◌∙◌, subst, arith}
use Rattle.verdict.specs.Demand.{works, blocking}
use Rattle.verdict.specs.Judged.{Judgeable}
use Rattle.verdict.specs.Least.{Probed, beside}
use Rattle.verdict.specs.Members.{rows_counted, size}
use Rattle.verdict.specs.Passes.{Passes}
use Rattle.verdict.proofs.Halving.{too_short, halved, halves_down, halves_up}
use Rattle.verdict.proofs.Lengthening.{Lawful, new_within, longest_least, longest_most, beside_judgeable, beside_works}
use Rattle.verdict.proofs.channels.Channels.halve.Given as given
use Rattle.verdict.proofs.channels.Channels.halve.Goals as goal

law : (g : given.Over) → Lawful g.K.Curve.numbers g.K.Curve.limits g.K.Curve.dated
law g = record { shaped = g.met.K.Curve.shaped; redated = g.met.K.Curve.redated; redatable = g.met.K.Curve.redatable }

pub longest-low-requires : goal.longest-low-requires
longest-low-requires g c = new_within _ _ _ (law g) _ _ _ _ c.requires.judged

pub overflow_sub-low : goal.overflow_sub-low
overflow_sub-low g c = omega (arith, c.longest-low.ensures, longest_least _ _ _ (law g) _ _ _ _ c.requires.judged)

pub loop-high-init : goal.loop-high-init
loop-high-init g c =
    let least = longest_least _ _ _ (law g) _ _ _ _ c.requires.judged in
    let most = longest_most _ _ _ (law g) _ _ _ _ c.requires.judged in
    let is = c.longest-low.ensures in
    record {
      order = omega (arith, is, most);
      floor = omega (arith, is, least);
      most = omega arith;
      passes = c.requires.passes;
      lower = too_short (omega (arith, is, least)) refl;
    }

pub probe-requires : goal.probe-requires
probe-requires g c =
    let ks = rows_counted c.args.self.now in
    let is = c.with.ensures.members ∙ ap (λ k. ks ++ k ∷ []) c.with_allowance.ensures in
    let b = c.loop-high.invariant in
    let middle = c.loop-high.low + (c.loop-high.high - c.loop-high.low) / 2 in
    let least : (g.K.Curve.numbers c.args.widest).longest ≤ middle = omega (arith, b.floor, b.order, c.loop-high-test.true) in
    let most : middle ≤ 40320 = omega (arith, b.most, b.order) in
    let there = beside_judgeable _ _ _ (law g) _ _ _ _ c.requires.judged middle least most in
    let loads = beside_works _ _ _ (law g) _ _ _ _ c.requires.judged in
    record {
      judged = subst (Judgeable g.K.Curve.limits c.args.longest (size c.with.result)) (sym is) (subst (λ n. Judgeable g.K.Curve.limits c.args.longest n (beside g.K.Curve.numbers g.K.Curve.dated c.args.longest ks c.args.widest middle)) (sym c.with.ensures.size) there);
      works = omega (arith, ap (works g.K.Curve.numbers) is, loads middle least most, loads 40320 (omega (arith, least, most)) (omega arith), c.requires.passes.works_fit);
    }

pub loop-high-preserved-in-None : goal.loop-high-preserved-in-None
loop-high-preserved-in-None g c =
    let ks = rows_counted c.args.self.now in
    let is = c.with.ensures.members ∙ ap (λ k. ks ++ k ∷ []) c.with_allowance.ensures in
    let b = c.loop-high.invariant in
    let middle = c.loop-high.low + (c.loop-high.high - c.loop-high.low) / 2 in
    let passes = subst (Passes g.K.Curve.numbers (blocking c.args.longest)) is c.in-None.ensures in
    halves_down _ _ _ (law g) _ _ _ _ c.requires.judged middle b (omega (arith, b.order, c.loop-high-test.true)) (omega (arith, b.order, c.loop-high-test.true)) passes

pub loop-high-preserved : goal.loop-high-preserved
loop-high-preserved g c =
    let ks = rows_counted c.args.self.now in
    let is = c.with.ensures.members ∙ ap (λ k. ks ++ k ∷ []) c.with_allowance.ensures in
    let b = c.loop-high.invariant in
    let middle = c.loop-high.low + (c.loop-high.high - c.loop-high.low) / 2 in
    let probed = subst (λ x. Probed g.K.Curve.numbers (blocking c.args.longest) x (Some c.in-Some.failing)) is c.in-Some.ensures in
    halves_up _ _ _ (law g) _ _ _ _ c.requires.judged middle b (omega (arith, b.order, c.loop-high-test.true)) (omega (arith, b.order, c.loop-high-test.true)) _ probed.1.0 probed.0 probed.1.1

pub returns : goal.returns
returns g c = halved _ _ _ (law g) _ _ _ _ c.requires.judged c.loop-high.invariant (omega arith)
