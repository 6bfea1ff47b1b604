-- What a tick answers, and what the link then holds.
use Rattle.std.specs.Prelude.{◌≡◌, ◌+◌, cond, ◌⊎◌, List, [], ◌∷◌, map, Some, None, Ok, Option, Result, nat_le}
use Rattle.std.specs.Option.{option_map}
use Rattle.std.specs.List.Sorted.{IsPermutation}
use Rattle.pool.specs.Elements.{First}
use Rattle.refusals.specs.declared.Refusal.{Refusal}
use Rattle.refusals.specs.declared.Refusal.TheVariants.{Shut, ClockEnd}
use Rattle.link.specs.declared.state.Air.{Air}
use Rattle.link.specs.declared.state.Event.TheVariants.{Quiet}
use Rattle.link.specs.declared.state.Packet.{Packet}
use Rattle.link.specs.declared.state.Sent.{Sent}
use Rattle.link.specs.Model.{Model, on_entry}
use Rattle.link.specs.Outcomes.{Refused}
use Rattle.link.specs.Packets.{packet_before, begun, begun_bulk, told, after}
use Rattle.link.specs.Rows.{moved}

-- what is on the air after the slot
abbrev pub carried_on : Option Air → Option Air
carried_on None = None
carried_on (Some a) = after a

module _ {X S : Type 0} where
  -- a waiting packet goes on the air, and these wait on
  abbrev pub going : Model X S → Packet → List Packet → Model X S
  going m p ps = record m { waiting = ps; air = Some (begun p) }

  -- a quiet slot: every leaving row becomes free, and the bulk packet goes on the air if there is one
  abbrev pub quiet : Model X S → Model X S
  quiet m = record m { rows = map (on_entry (moved Quiet)) m.rows; bulk = None; air = begun_bulk m.bulk }

  -- the start of a slot: what is on the air stays; else a packet goes on that none of those waiting precedes; if none waits, the slot is quiet
  abbrev pub Begins : Option Air → Model X S → Model X S → Type 0
  Begins (Some a) m n = n ≡ m
  Begins None m n =
      ((m.waiting ≡ []) × (n ≡ quiet m))
      ⊎ ((p : Packet) × First packet_before p m.waiting × IsPermutation m.waiting (p ∷ n.waiting) × (n ≡ going m p n.waiting))

  -- the clock rises by one, and the packet on the air has sent one slot more
  abbrev pub passed : Model X S → Model X S
  passed m = record m { clock = m.clock + 1; air = carried_on m.air; last = m.air }

  -- why a tick is refused, if it is
  abbrev pub tick_cause : Model X S → Option Refusal
  tick_cause m = cond m.terms.shut (Some Shut) (cond (nat_le 2000000000 m.clock) (Some ClockEnd) None)

  -- the tick answers what the slot carried
  abbrev pub Ticked : Option Refusal → Model X S → Result (Option Sent) Refusal → Model X S → Type 0
  Ticked (Some e) m r o = Refused e m r o
  Ticked None m r o = (n : Model X S) × Begins m.air m n × (r ≡ Ok (option_map told n.air)) × (o ≡ passed n)

  -- what tick answers
  abbrev pub Ticks : Model X S → Result (Option Sent) Refusal → Model X S → Type 0
  Ticks m r o = Ticked (tick_cause m) m r o
