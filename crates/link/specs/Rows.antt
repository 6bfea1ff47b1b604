-- The rows: their phases, what moves them, and how one is found.
use Rattle.std.specs.Borrow.{Bor}
use Rattle.std.specs.Prelude.{◌≡◌, ℕ, zero, suc, Bool, true, false, not, ◌&&◌, List, [], ◌∷◌, ◌==◌}
use Rattle.link.specs.declared.state.Record.{Record}
use Rattle.link.specs.declared.state.Phase.{Phase}
use Rattle.link.specs.declared.state.Phase.TheVariants.{Free, Held, Live, Leaving}
use Rattle.link.specs.declared.state.Event.{Event}
use Rattle.link.specs.declared.state.Event.TheVariants.{Hold, Confirm, Cancel, Release, Quiet}

-- a row at the opening
abbrev pub blank : Record
blank = record { mat = 0; serial = 0; phase = Free }

-- the phase that an event leads to; where the phase does not meet the event, the same
abbrev pub next : Phase → Event → Phase
next Free Hold = Held
next Held Confirm = Live
next Held Cancel = Free
next Held Release = Free
next Live Release = Leaving
next Leaving Quiet = Free
next p e = p

-- a record moved by an event
abbrev pub moved : Event → Record → Record
moved e r = record r { phase = next r.phase e }

-- all but free rows are counted
abbrev pub counts : Phase → Bool
counts Free = false
counts p = true

-- only a held row can be confirmed or cancelled
abbrev pub is_held : Phase → Bool
is_held Held = true
is_held p = false

-- only a live row takes packets
abbrev pub is_live : Phase → Bool
is_live Live = true
is_live p = false

-- a release is for held and live rows
abbrev pub may_release_lem : Phase → Bool
may_release_lem Held = true
may_release_lem Live = true
may_release_lem p = false

-- a released row whose packets may still be on their way
abbrev pub is_leaving : Phase → Bool
is_leaving Leaving = true
is_leaving p = false

-- whether the row of this record is counted
abbrev pub counted : Record → Bool
counted r = counts r.phase

-- what a row is looked for by: that it is free; that it is the counted one of a mat; that it is the held one with a hold's numbers
abbrev pub is_free : Record → Bool
is_free r = not (counts r.phase)

abbrev pub counted_of : ℕ → Record → Bool
counted_of mat r = r.mat == mat && counts r.phase

abbrev pub held_of : ℕ → ℕ → Record → Bool
held_of mat serial r = r.mat == mat && (r.serial == serial && is_held r.phase)

-- a closure that answers so of a record makes the test P
abbrev pub Tests : (Bor Record → Bool → Type 0) → (Record → Bool) → Type 0
Tests answers P = (r : Bor Record) (b : Bool) → answers r b → b ≡ P r.now

-- a release is what makes a row leave
abbrev pub releases : Event → Bool
releases Release = true
releases e = false

-- the list with one place changed
abbrev pub changed : {X : Type 0} → (X → X) → ℕ → List X → List X
changed f i [] = []
changed f zero (x ∷ xs) = f x ∷ xs
changed f (suc i) (x ∷ xs) = x ∷ changed f i xs

-- no row is leaving, so that a quiet slot has none to free
abbrev pub none_leaving : List Record → Bool
none_leaving [] = true
none_leaving (r ∷ rs) = not (is_leaving r.phase) && none_leaving rs
