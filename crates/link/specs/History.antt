-- What calls make of a link: any calls, with any arguments and every outcome.
use Rattle.std.specs.Prelude.{ℕ, Bool, List, [], ◌∷◌, Option, Result}
use Rattle.traffic.specs.Arrivals.{Steps}
use Rattle.traffic.specs.Curves.{Numbers}
use Rattle.refusals.specs.declared.Refusal.{Refusal}
use Rattle.link.specs.declared.state.Hold.{Hold}
use Rattle.link.specs.declared.state.Sent.{Sent}
use Rattle.link.specs.Model.{Model}
use Rattle.link.specs.Asking.{Stretches, Leasts}
use Rattle.link.specs.Holding.{Holds}
use Rattle.link.specs.Pieces.{Pieces}
use Rattle.link.specs.Sending.{Offers, Bulks}
use Rattle.link.specs.Settling.{Confirms, Cancels, Releases}
use Rattle.link.specs.Ticking.{Ticks}

-- a call, with what it was given and what it answered
pub data Call (X : Type 0) : Type 0 where
  held : ℕ → X → Result (Hold × ℕ) Refusal → Call X
  confirmed : Hold → Result (Unit {0}) (Refusal × Hold) → Call X
  cancelled : Hold → Result (Unit {0}) Refusal → Call X
  released : ℕ → Result (Unit {0}) Refusal → Call X
  offered : ℕ → ℕ → ℕ → Result (Unit {0}) Refusal → Call X
  bulked : ℕ → ℕ → Result (Unit {0}) Refusal → Call X
  ticked : Result (Option Sent) Refusal → Call X
  stretch_asked : Result ℕ Refusal → Call X
  least_asked : X → Result (ℕ × ℕ) Refusal → Call X
  pieced : List ℕ → List ℕ → Result (List ℕ) Refusal → Call X

-- calls, the last first, lead from one model to another
pub data History {X S : Type 0} (numbers : X → Numbers) (limits : X → ℕ → Bool) (dated : X → ℕ → X) (steps : X → Steps S) (m : Model X S) : List (Call X) → Model X S → Type 0 where
  opening : History numbers limits dated steps m [] m
  hold : {cs : List (Call X)} {n o : Model X S} (mat : ℕ) (k : X) (r : Result (Hold × ℕ) Refusal) →
      History numbers limits dated steps m cs n → Holds numbers limits steps n mat k r o → History numbers limits dated steps m (held mat k r ∷ cs) o
  confirm : {cs : List (Call X)} {n o : Model X S} (h : Hold) (r : Result (Unit {0}) (Refusal × Hold)) →
      History numbers limits dated steps m cs n → Confirms n h r o → History numbers limits dated steps m (confirmed h r ∷ cs) o
  cancel : {cs : List (Call X)} {n o : Model X S} (h : Hold) (r : Result (Unit {0}) Refusal) →
      History numbers limits dated steps m cs n → Cancels n h r o → History numbers limits dated steps m (cancelled h r ∷ cs) o
  release : {cs : List (Call X)} {n o : Model X S} (mat : ℕ) (r : Result (Unit {0}) Refusal) →
      History numbers limits dated steps m cs n → Releases n mat r o → History numbers limits dated steps m (released mat r ∷ cs) o
  offer : {cs : List (Call X)} {n o : Model X S} (mat place bytes : ℕ) (r : Result (Unit {0}) Refusal) →
      History numbers limits dated steps m cs n → Offers numbers limits steps n mat place bytes r o → History numbers limits dated steps m (offered mat place bytes r ∷ cs) o
  bulk : {cs : List (Call X)} {n o : Model X S} (place bytes : ℕ) (r : Result (Unit {0}) Refusal) →
      History numbers limits dated steps m cs n → Bulks n place bytes r o → History numbers limits dated steps m (bulked place bytes r ∷ cs) o
  tick : {cs : List (Call X)} {n o : Model X S} (r : Result (Option Sent) Refusal) →
      History numbers limits dated steps m cs n → Ticks n r o → History numbers limits dated steps m (ticked r ∷ cs) o
  stretch : {cs : List (Call X)} {n : Model X S} (r : Result ℕ Refusal) →
      History numbers limits dated steps m cs n → Stretches numbers limits n r → History numbers limits dated steps m (stretch_asked r ∷ cs) n
  least : {cs : List (Call X)} {n : Model X S} (k : X) (r : Result (ℕ × ℕ) Refusal) →
      History numbers limits dated steps m cs n → Leasts numbers limits dated n k r → History numbers limits dated steps m (least_asked k r ∷ cs) n
  piece : {cs : List (Call X)} {n : Model X S} (mats files : List ℕ) (r : Result (List ℕ) Refusal) →
      History numbers limits dated steps m cs n → Pieces n mats files r → History numbers limits dated steps m (pieced mats files r ∷ cs) n
