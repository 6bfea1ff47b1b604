-- What the sender's calls answer, and what the link then holds: offer and bulk.
use Rattle.std.specs.Prelude.{◌≡◌, ℕ, ◌+◌, Bool, true, false, cond, ◌&&◌, List, ◌∷◌, length, Some, None, Ok, Err, Option, Result, ◌==◌}
use Rattle.std.specs.List.{slice_get}
use Rattle.std.specs.Option.{option_map}
use Rattle.std.specs.List.Sorted.{IsPermutation}
use Rattle.traffic.specs.Arrivals.{Steps}
use Rattle.traffic.specs.Curves.{Numbers}
use Rattle.traffic.specs.declared.Row.{Row}
use Rattle.refusals.specs.declared.Refusal.{Refusal}
use Rattle.refusals.specs.declared.Refusal.TheVariants.{Shut, Limits, NoSuchRow, Unlawful, Full}
use Rattle.link.specs.declared.state.Bulk.{Bulk}
use Rattle.link.specs.declared.state.Packet.{Packet}
use Rattle.link.specs.Model.{FullRow, Model, find, with_rows, on_row}
use Rattle.link.specs.Outcomes.{Refused, Answered}
use Rattle.link.specs.Packets.{slots, offer_bytes_lem, bulk_bytes_lem, is_mat_lem}
use Rattle.link.specs.Rows.{counted_of, changed, is_live}

module _ {X S : Type 0} where
  -- one more accepted packet, with this waiting list
  abbrev pub queued : Model X S → List Packet → Model X S
  queued m ps = record m { offers = m.offers + 1; waiting = ps }

  -- a packet waits, wherever it lies in the bag; or all places are taken
  abbrev pub Waits : Packet → Model X S → Result (Unit {0}) Refusal → Model X S → Type 0
  Waits p m (Ok u) o =
      ((length m.waiting == m.terms.places) ≡ false) × IsPermutation (p ∷ m.waiting) o.waiting × (o ≡ queued m o.waiting)
  Waits p m (Err e) o = ((length m.waiting == m.terms.places) ≡ true) × (e ≡ Full) × (o ≡ m)

  module _ (numbers : X → Numbers) (limits : X → ℕ → Bool) (steps : X → Steps S) where
    -- the row after its kind's step, and when the packet is due; none if the kind does not take it
    abbrev pub admitted : ℕ → ℕ → ℕ → Row X S → Option (Row X S × ℕ)
    admitted p slot len w =
        cond (limits w.kind p)
        (option_map (λ s. (record { kind = w.kind; state = s }, slot + (numbers w.kind).allowance)) ((steps w.kind).step w.state slot len))
        None

    -- of an offer: the row's place, its kind and state after the step, and the packet; or the cause. The list may be full
    abbrev pub offer_admitted : Model X S → ℕ → ℕ → ℕ → ℕ → Option (Row X S × ℕ) → Result (ℕ × Row X S × Packet) Refusal
    offer_admitted m mat place bytes i None = Err Unlawful
    offer_admitted m mat place bytes i (Some (w, due)) =
        cond (length m.waiting == m.terms.places) (Err Full)
        (Ok (i, w, record { due = due; mat = mat; count = m.offers; place = place; bytes = bytes }))

    -- a packet is for a live row
    abbrev pub offer_row : Model X S → ℕ → ℕ → ℕ → ℕ → Option (FullRow X S) → Result (ℕ × Row X S × Packet) Refusal
    offer_row m mat place bytes i None = Err NoSuchRow
    offer_row m mat place bytes i (Some r) =
        cond (is_live r.entry.phase)
        (offer_admitted m mat place bytes i (admitted m.terms.longest m.clock (slots bytes) r.row))
        (Err NoSuchRow)

    -- the row at the place found
    abbrev pub offer_place : Model X S → ℕ → ℕ → ℕ → Option ℕ → Result (ℕ × Row X S × Packet) Refusal
    offer_place m mat place bytes None = Err NoSuchRow
    offer_place m mat place bytes (Some i) = offer_row m mat place bytes i (slice_get m.rows i)

    -- the smallest cause, or what is granted
    abbrev pub offer_outcome : Model X S → ℕ → ℕ → ℕ → Result (ℕ × Row X S × Packet) Refusal
    offer_outcome m mat place bytes =
        cond m.terms.shut (Err Shut)
        (cond (is_mat_lem mat && offer_bytes_lem bytes) (offer_place m mat place bytes (find (counted_of mat) m)) (Err Limits))

  -- accepted: the row has stepped and the packet waits, wherever it lies in the bag
  abbrev pub Offered : Result (ℕ × Row X S × Packet) Refusal → Model X S → Result (Unit {0}) Refusal → Model X S → Type 0
  Offered (Err e) m r o = Refused e m r o
  Offered (Ok (i, w, p)) m r o =
      (r ≡ Ok tt) × IsPermutation (p ∷ m.waiting) o.waiting
      × (o ≡ with_rows (queued m o.waiting) (changed (on_row w) i m.rows))

  -- what offer answers
  abbrev pub Offers : (X → Numbers) → (X → ℕ → Bool) → (X → Steps S) → Model X S → ℕ → ℕ → ℕ → Result (Unit {0}) Refusal → Model X S → Type 0
  Offers numbers limits steps m mat place bytes r o = Offered (offer_outcome numbers limits steps m mat place bytes) m r o

  -- the model with a bulk packet that waits for a quiet slot
  abbrev pub with_bulk : Model X S → Bulk → Model X S
  with_bulk m b = record m { bulk = Some b }

  -- one bulk packet waits at a time
  abbrev pub bulk_waits : Model X S → Bulk → Option Bulk → Result (Model X S) Refusal
  bulk_waits m b None = Ok (with_bulk m b)
  bulk_waits m b (Some c) = Err Full

  -- the smallest cause, or what is granted
  abbrev pub bulk_outcome : Model X S → ℕ → ℕ → Result (Model X S) Refusal
  bulk_outcome m place bytes =
      cond m.terms.shut (Err Shut)
      (cond (bulk_bytes_lem m.terms.longest bytes) (bulk_waits m (record { place = place; bytes = bytes }) m.bulk) (Err Limits))

  -- what bulk answers
  abbrev pub Bulks : Model X S → ℕ → ℕ → Result (Unit {0}) Refusal → Model X S → Type 0
  Bulks m place bytes r o = Answered (bulk_outcome m place bytes) m r o
