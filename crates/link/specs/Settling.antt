-- What confirm, cancel and release answer, and what the link then holds.
use Rattle.std.specs.Prelude.{◌≡◌, ℕ, cond, Some, None, Ok, Err, Option, Result, ◌==◌}
use Rattle.std.specs.List.{slice_get}
use Rattle.refusals.specs.declared.Refusal.{Refusal}
use Rattle.refusals.specs.declared.Refusal.TheVariants.{Shut, Limits, NoSuchRow}
use Rattle.link.specs.declared.state.Event.{Event}
use Rattle.link.specs.declared.state.Event.TheVariants.{Confirm, Cancel, Release}
use Rattle.link.specs.declared.state.Hold.{Hold}
use Rattle.link.specs.Model.{FullRow, Model, find, with_rows, on_entry}
use Rattle.link.specs.Outcomes.{Answered}
use Rattle.link.specs.Packets.{is_mat_lem}
use Rattle.link.specs.Rows.{counted_of, held_of, changed, moved, may_release_lem}

module _ {X S : Type 0} where
  -- the row at a place moved by an event
  abbrev pub moved_at : Event → Model X S → ℕ → Model X S
  moved_at e m i = with_rows m (changed (on_entry (moved e)) i m.rows)

  -- the row found is moved
  abbrev pub settled_at : Event → Model X S → Option ℕ → Result (Model X S) Refusal
  settled_at e m None = Err NoSuchRow
  settled_at e m (Some i) = Ok (moved_at e m i)

  -- the row at the place given is moved
  abbrev pub settled_place : Event → Model X S → Result ℕ Refusal → Result (Model X S) Refusal
  settled_place e m (Err cause) = Err cause
  settled_place e m (Ok i) = Ok (moved_at e m i)

  -- confirm and cancel: the held row that has this hold's numbers, on this link
  abbrev pub settled : Event → Hold → Model X S → Result (Model X S) Refusal
  settled e h m =
      cond m.terms.shut (Err Shut)
      (cond (h.link == m.terms.name) (settled_at e m (find (held_of h.mat h.serial) m)) (Err NoSuchRow))

  -- a refused confirm gives the hold back
  abbrev pub GivenBack : Hold → Result (Model X S) Refusal → Model X S → Result (Unit {0}) (Refusal × Hold) → Model X S → Type 0
  GivenBack h (Ok n) m r o = (r ≡ Ok tt) × (o ≡ n)
  GivenBack h (Err e) m r o = (r ≡ Err (e, h)) × (o ≡ m)

  -- what confirm answers
  abbrev pub Confirms : Model X S → Hold → Result (Unit {0}) (Refusal × Hold) → Model X S → Type 0
  Confirms m h r o = GivenBack h (settled Confirm h m) m r o

  -- what cancel answers; refused, it gives nothing back
  abbrev pub Cancels : Model X S → Hold → Result (Unit {0}) Refusal → Model X S → Type 0
  Cancels m h r o = Answered (settled Cancel h m) m r o

  -- release: the counted row of the mat, if it is held or live
  abbrev pub release_row : Model X S → ℕ → Option (FullRow X S) → Result (Model X S) Refusal
  release_row m i None = Err NoSuchRow
  release_row m i (Some r) = cond (may_release_lem r.entry.phase) (Ok (moved_at Release m i)) (Err NoSuchRow)

  -- the row at the place found
  abbrev pub release_place : Model X S → Option ℕ → Result (Model X S) Refusal
  release_place m None = Err NoSuchRow
  release_place m (Some i) = release_row m i (slice_get m.rows i)

  -- the smallest cause, or what is granted
  abbrev pub release_outcome : Model X S → ℕ → Result (Model X S) Refusal
  release_outcome m mat =
      cond m.terms.shut (Err Shut) (cond (is_mat_lem mat) (release_place m (find (counted_of mat) m)) (Err Limits))

  -- what release answers
  abbrev pub Releases : Model X S → ℕ → Result (Unit {0}) Refusal → Model X S → Type 0
  Releases m mat r o = Answered (release_outcome m mat) m r o
