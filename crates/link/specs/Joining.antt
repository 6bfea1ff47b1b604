-- What join answers: a hold and its confirm in one call.
use Rattle.std.specs.Prelude.{ℕ, Bool, Ok, Err, Result}
use Rattle.traffic.specs.Arrivals.{Steps}
use Rattle.traffic.specs.Curves.{Numbers}
use Rattle.refusals.specs.declared.Refusal.{Refusal}
use Rattle.link.specs.declared.state.Hold.{Hold}
use Rattle.link.specs.Holding.{Holds}
use Rattle.link.specs.Model.{Model}
use Rattle.link.specs.Settling.{Confirms}

module _ {X S : Type 0} (numbers : X → Numbers) (limits : X → ℕ → Bool) (steps : X → Steps S) where
  -- the hold is refused; or it is granted with so many points taken, and then confirmed
  abbrev pub Joined : Model X S → ℕ → X → Result ℕ Refusal → Model X S → Type 0
  Joined m mat k (Err e) o = Holds numbers limits steps m mat k (Err e) o
  Joined m mat k (Ok count) o =
      (h : Hold) × (n : Model X S) × Holds numbers limits steps m mat k (Ok (h, count)) n × Confirms n h (Ok tt) o
