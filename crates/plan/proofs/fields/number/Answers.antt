use Rattle.std.proofs.Common.{IsUtf8, sym, ◌∙◌, subst}
use Rattle.plan.specs.Steps.{Padded}
use Rattle.std.proofs.lemmas.Bool.{both_ways}
use Rattle.plan.proofs.Decimals.{matched_some, matched_none, unpadded_decimal, utf8_decimal, number_parsed}
use Rattle.plan.proofs.fields.number.Goals as goal

pub returns-then-padded : goal.returns-then-padded
returns-then-padded c n small e = unpadded_decimal n small (subst Padded (sym e) (c.padded.ensures.0 c.if-padded.true))

pub returns-in_err-ok : goal.returns-in_err-ok
returns-in_err-ok c =
    rw c.from_residual.ensures (λ n small e.
    (matched_none c.from_utf8.result _ _ c.from_utf8.ensures.cases (sym c.ok.ensures.value ∙ c.in_err-ok.was)).1.0 (subst IsUtf8 e (utf8_decimal n small)))

pub returns : goal.returns
returns c =
    let text = (matched_some c.from_utf8.result _ _ c.from_utf8.ensures.cases c.in_ok-ok.field-0 (sym c.ok.ensures.value ∙ c.in_ok-ok.was)).0 in
    rw c.ok-2.ensures.value
    (number_parsed c.args.field.now c.parse.result (rw text at c.parse.ensures.value.0) (λ h. both_ways c.padded.result c.if-padded.false (c.padded.ensures.1 h)))
