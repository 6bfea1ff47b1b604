-- What a call leaves of the link and of the memory that its owner lent.
use Rattle.std.specs.Prelude.{◌≡◌, Ok, Err, Result}
use Rattle.traffic.specs.declared.Curve.{Ghosts as CurveGhosts}
use Rattle.traffic.specs.declared.Traffic.{Ghosts as TrafficGhosts}
use Rattle.pool.specs.Contents.{BeyondKept}
use Rattle.link.specs.declared.state.Link.{Link}

-- a refused call leaves the link, and all memory that it was lent, as it was
abbrev pub Kept : {L U E : Type 0} → Result U E → L → L → Type 0
Kept (Ok u) l k = Unit {0}
Kept (Err e) l k = k ≡ l

module _ {X S : Type 0} where
  -- the rows may have changed, and nothing else that is lent
  abbrev pub RowsOnly : {t : TrafficGhosts X S} {c : CurveGhosts X} → Link X S t c → Link X S t c → Type 0
  RowsOnly l k = (k.rows.ghost_name ≡ l.rows.ghost_name) × (k.waiting ≡ l.waiting)

  -- nothing that is lent has changed
  abbrev pub NothingLent : {t : TrafficGhosts X S} {c : CurveGhosts X} → Link X S t c → Link X S t c → Type 0
  NothingLent l k = (k.rows ≡ l.rows) × (k.waiting ≡ l.waiting)

  -- the places of waiting packets may have changed, and nothing else that is lent
  abbrev pub WaitingOnly : {t : TrafficGhosts X S} {c : CurveGhosts X} → Link X S t c → Link X S t c → Type 0
  WaitingOnly l k = (k.rows ≡ l.rows) × (k.waiting.places.ghost_name ≡ l.waiting.places.ghost_name) × BeyondKept l.waiting k.waiting

  -- rows and the places of waiting packets may have changed, and nothing else that is lent
  abbrev pub RowsAndWaiting : {t : TrafficGhosts X S} {c : CurveGhosts X} → Link X S t c → Link X S t c → Type 0
  RowsAndWaiting l k = (k.rows.ghost_name ≡ l.rows.ghost_name) × (k.waiting.places.ghost_name ≡ l.waiting.places.ghost_name) × BeyondKept l.waiting k.waiting
