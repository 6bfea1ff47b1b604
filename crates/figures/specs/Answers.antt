-- What a link can answer, by its longest packet and its counted channels, whatever else it holds.
use Rattle.std.specs.Prelude.{◌≡◌, ℕ, ◌≤◌, false, List, [], ◌∷◌, length, None, Ok, Result}
use Rattle.traffic.specs.declared.Row.{Row}
use Rattle.traffic.specs.declared.mixture.MixtureState.TheVariants.{OfFirst}
use Rattle.link.specs.Asking.{Stretches, Leasts}
use Rattle.link.specs.History.{Call, History}
use Rattle.link.specs.Holding.{Holds, hold_cause, hold_of}
use Rattle.link.specs.Model.{Model, opened, channels}
use Rattle.link.specs.Outcomes.{Refused}
use Rattle.refusals.specs.declared.Refusal.{Refusal}
use Rattle.link.specs.declared.state.Hold.{Hold}
use Rattle.figures.specs.Kinds.{Kind, State, S, numbers, limits, dated, steps}

abbrev pub Link : Type 0
Link = Model Kind State

-- whatever hold answers to this mat and kind, it is this refusal, and nothing has changed
abbrev pub Refuses : Refusal → Link → ℕ → Kind → Type 0
Refuses e m mat k = (r : Result (Hold × ℕ) Refusal) (o : Link) → Holds numbers limits steps m mat k r o → Refused e m r o

-- whatever hold answers, it is a grant
abbrev pub Grants : Link → ℕ → Kind → Type 0
Grants m mat k = (r : Result (Hold × ℕ) Refusal) (o : Link) → Holds numbers limits steps m mat k r o → (count : ℕ) × (r ≡ Ok (hold_of m mat, count))

-- a hold that comes to the verdict: the kind keeps its limits, the mat has no counted row, and a row is free
abbrev pub Judges : Link → ℕ → Kind → Type 0
Judges m mat k = hold_cause limits m mat k ≡ None

-- an open link whose longest packet has p slots, and whose counted channels are these
pub record Counting (p : ℕ) (ks : List Kind) (m : Link) : Type 0 where
  pub unshut : m.terms.shut ≡ false
  pub longest : m.terms.longest ≡ p
  pub few : length m.rows ≤ 32
  pub counted : channels m.rows ≡ ks

-- on every such link a hold that comes to the verdict is refused so
abbrev pub RefusedOn : ℕ → List Kind → Kind → Refusal → Type 0
RefusedOn p ks k e = (m : Link) → Counting p ks m → (mat : ℕ) → Judges m mat k → Refuses e m mat k

-- on every such link a hold that comes to the verdict is granted
abbrev pub GrantedOn : ℕ → List Kind → Kind → Type 0
GrantedOn p ks k = (m : Link) → Counting p ks m → (mat : ℕ) → Judges m mat k → Grants m mat k

-- on every such link the least allowance is d, and the point f forbids one slot less
abbrev pub LeastOn : ℕ → List Kind → Kind → ℕ → ℕ → Type 0
LeastOn p ks k d f = (m : Link) → Counting p ks m → (r : Result (ℕ × ℕ) Refusal) → Leasts numbers limits dated m k r → r ≡ Ok (d, f)

-- on every such link the stretch is so many slots
abbrev pub StretchOn : ℕ → List Kind → ℕ → Type 0
StretchOn p ks slots = (m : Link) → Counting p ks m → (r : Result ℕ Refusal) → Stretches numbers limits m r → r ≡ Ok slots

-- calls with their answers, the last first, lead from one link to another
abbrev pub Leads : Link → List (Call Kind) → Link → Type 0
Leads = History numbers limits dated steps

-- a link just opened, with four rows and eight places
abbrev pub start : ℕ → Link
start p =
    let row : Row Kind State = record { kind = S 20 5 9; state = OfFirst None } in
    opened 0 p (row ∷ row ∷ row ∷ row ∷ []) 8

-- there is such a link: calls lead to it, and a hold of the kind comes to the verdict
abbrev pub Reached : ℕ → List Kind → Kind → Type 0
Reached p ks k = (cs : List (Call Kind)) × (m : Link) × Leads (start p) cs m × Counting p ks m × ((mat : ℕ) × Judges m mat k)
