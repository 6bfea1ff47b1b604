use Rattle.std.proofs.Common.{◌≡◌, ◌+◌, eqb, false, ◌∷◌, length, take, sym, ap, ◌∙◌, false-eqb, arith, rules, tests}
use Rattle.std.proofs.lemmas.Iterator.{YieldsList-from_slice, IsFirst-from_position}
use Rattle.std.proofs.lemmas.List.{take_rest}
use Rattle.plan.specs.Format.{cut}
use Rattle.plan.proofs.Cuts.{cut_found, cut_not_found}
use Rattle.plan.proofs.cursor.LinesIterator.next.Goals as goal

pub returns-in_default-clause-steps : goal.returns-in_default-clause-steps
returns-in_default-clause-steps c =
    let text = c.self.inside.rest.now in
    let first = IsFirst-from_position _ _ c.position.result (λ b. b ≡ 10) (λ b. eqb b 10 ≡ false) c.position.ensures.ran (YieldsList-from_slice c.self.inside.rest.now cc) (λ x q k. search (rules, tests)) (λ x q k. search (rules, tests)) in
    sym c.self.view_is ∙ cut_not_found text (omega (arith, false-eqb (length text) 0 c.if-is_empty.ensures)) (rw c.in_default.is at first)

pub returns-clause-steps : goal.returns-clause-steps
returns-clause-steps c =
    let text = c.self.inside.rest.now in
    let first = IsFirst-from_position _ _ c.position.result (λ b. b ≡ 10) (λ b. eqb b 10 ≡ false) c.position.ensures.ran (YieldsList-from_slice c.self.inside.rest.now cc) (λ x q k. search (rules, tests)) (λ x q k. search (rules, tests)) in
    let found = rw c.in-Some.is at first in
    sym c.self.view_is ∙ cut_found text c.in-Some.end found.0 found.1 found.2 ∙ ap (λ rest. take c.in-Some.end text ∷ cut rest) (sym (take_rest text (c.in-Some.end + 1)))

pub returns-clause-goes : goal.returns-clause-goes
returns-clause-goes c = let shorter = ap length (returns-clause-steps c) in search (rules, arith)
