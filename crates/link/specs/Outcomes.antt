-- The form of an answer: granted with what the link then holds, or refused with all as before.
use Rattle.std.specs.Prelude.{◌≡◌, Ok, Err, Result}
use Rattle.refusals.specs.declared.Refusal.{Refusal}
use Rattle.link.specs.Model.{Model}

module _ {X S : Type 0} where
  -- refused for this cause
  abbrev pub Refused : {U : Type 0} → Refusal → Model X S → Result U Refusal → Model X S → Type 0
  Refused e m r o = (r ≡ Err e) × (o ≡ m)

  -- one outcome: the model after it, or the cause of a refusal
  abbrev pub Answered : Result (Model X S) Refusal → Model X S → Result (Unit {0}) Refusal → Model X S → Type 0
  Answered (Ok n) m r o = (r ≡ Ok tt) × (o ≡ n)
  Answered (Err e) m r o = Refused e m r o
