-- The parts of a tick.
use Rattle.std.proofs.Common.{◌≡◌, List, map, None, Option, ap, ◌∙◌}
use Rattle.traffic.specs.declared.Curve.{Ghosts as CurveGhosts}
use Rattle.traffic.specs.declared.Traffic.{Ghosts as TrafficGhosts}
use Rattle.link.specs.declared.state.Air.{Air}
use Rattle.link.specs.declared.state.Bulk.{Bulk}
use Rattle.link.specs.declared.state.Event.TheVariants.{Quiet}
use Rattle.link.specs.declared.state.Link.{Link}
use Rattle.link.specs.declared.state.Record.{Record}
use Rattle.link.specs.Model.{Model, FullRow, model, joined, on_entry}
use Rattle.link.specs.Packets.{begun_bulk}
use Rattle.link.specs.Rows.{moved}
use Rattle.link.specs.Ticking.{quiet}
use Rattle.link.proofs.Joined.{joined_map}

module _ {X S : Type 0} where
  -- the model of a link with this table, this bulk packet and this on the air
  abbrev resting : {t : TrafficGhosts X S} {c : CurveGhosts X} → Link X S t c → List (FullRow X S) → Option Bulk → Option Air → Model X S
  resting l rs b a = record (model l) { rows = rs; bulk = b; air = a }

  pub rested : {t : TrafficGhosts X S} {c : CurveGhosts X} (l : Link X S t c) (es : List Record) (b : Option Bulk) (a : Option Air) →
      es ≡ map (moved Quiet) l.table.records → b ≡ None → a ≡ begun_bulk l.bulk →
      resting l (joined es l.rows.now) b a ≡ quiet (model l)
  rested l es b a e n h =
      ap (λ rs. resting l rs b a) (ap (λ (zs : List Record). joined zs l.rows.now) e ∙ joined_map (moved Quiet) l.table.records l.rows.now)
      ∙ ap (λ c. resting l (map (on_entry (moved Quiet)) (joined l.table.records l.rows.now)) c a) n
      ∙ ap (λ c. resting l (map (on_entry (moved Quiet)) (joined l.table.records l.rows.now)) None c) h
