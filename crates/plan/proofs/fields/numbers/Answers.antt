use Rattle.std.proofs.Common.{eqb, [], ◌∷◌, refl, arith, rules, tests}
use Rattle.std.proofs.lemmas.Iterator.Splits.{YieldsList-from_slice_split}
use Rattle.std.proofs.lemmas.Slice.{pushed}
use Rattle.plan.proofs.Pieces.{all_read, number_given, first_given, one_more}
use Rattle.plan.proofs.fields.numbers.Goals as goal
use Rattle.plan.proofs.fields.numbers.Goals.{in_default-via-in-Some+else-next-lt1, in_default-via-in_default}

pub returns-in_default : goal.returns-in_default
returns-in_default c ns small e =
    let first = first_given (YieldsList-from_slice_split _ (λ b. eqb b 32) _ c.split-fields.ensures.rest c.split-fields.ensures.done c.split-fields.ensures.closure (λ x b q k. search (rules, tests))) _ c.next.ensures.steps ns small e in
    let some = first.1 in
    let empty = first.2 in
    elim c.in_default.branch [
      | in_default-via-in-Some+else-next-lt1 w ↦ search (rules, arith)
      | in_default-via-in_default w ↦ let z = w.in_default.is in search rules
    ]

pub returns-in_default-number : goal.returns-in_default-number
returns-in_default-number c ns small e =
    let n = number_given (YieldsList-from_slice_split {s = c.split-fields.result} _ (λ b. eqb b 32) _ c.split-fields.ensures.rest c.split-fields.ensures.done c.split-fields.ensures.closure (λ x b q k. search (rules, tests))) c.in-Some-empty.field-0 c.loop-field.yielded c.next-in-loop-field.new.self c.in-Some-empty.ensures.steps c.into_iter-field-iterator.ensures.into_iter_gives c.loop-field.yielded_by c.in-Some.ensures.steps c.in-Some.field refl ns small e in
    c.in_default-number.ensures n.0 n.1 n.2

pub loop-field-preserved : goal.loop-field-preserved
loop-field-preserved c =
    one_more _ c.loop-field.yielded c.in-Some-number.n c.in-Some.field c.loop-field.invariant c.in-Some-number.ensures
    (pushed (c.in-Some-number.n ∷ []) refl c.in_ok-push.was c.push.ensures.items)

pub returns : goal.returns
returns c = (
  c.loop-field.invariant.0,
  all_read (YieldsList-from_slice_split {s = c.split-fields.result} _ (λ b. eqb b 32) _ c.split-fields.ensures.rest c.split-fields.ensures.done c.split-fields.ensures.closure (λ x b q k. search (rules, tests))) c.in-Some-empty.field-0 c.loop-field.yielded c.next-in-loop-field.new.self c.in-Some-empty.ensures.steps c.into_iter-field-iterator.ensures.into_iter_gives c.loop-field.yielded_by c.in-None.ensures.steps _ refl (omega (arith, c.in-Some-empty.len_below)) c.loop-field.invariant.1,
)
