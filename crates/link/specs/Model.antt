-- What a link holds, apart from how it lies in memory.
use Rattle.std.specs.Prelude.{ℕ, Bool, cond, not, ◌&&◌, List, [], ◌∷◌, map, length, take, None, Option, nat_le}
use Rattle.std.specs.List.{position}
use Rattle.traffic.specs.declared.Curve.{Ghosts as CurveGhosts}
use Rattle.traffic.specs.declared.Traffic.{Ghosts as TrafficGhosts}
use Rattle.traffic.specs.declared.Row.{Row}
use Rattle.pool.specs.Contents.{contents, capacity}
use Rattle.link.specs.declared.state.Air.{Air}
use Rattle.link.specs.declared.state.Bulk.{Bulk}
use Rattle.link.specs.declared.state.Link.{Link}
use Rattle.link.specs.declared.state.Packet.{Packet}
use Rattle.link.specs.declared.state.Record.{Record}
use Rattle.link.specs.Rows.{blank, counted}

-- what opening settles for good: the link's name, its longest packet in slots, the places of its waiting list, and whether it is shut
pub record Terms : Type 0 where
  pub name : ℕ
  pub longest : ℕ
  pub places : ℕ
  pub shut : Bool

-- a row: its mat, serial and phase beside its kind and state
pub record FullRow (X S : Type 0) : Type 0 where
  pub entry : Record
  pub row : Row X S

-- all that the rules speak of
pub record Model (X S : Type 0) : Type 0 where
  pub terms : Terms
  pub clock : ℕ
  -- how many holds were granted, and how many offers accepted
  pub serials : ℕ
  pub offers : ℕ
  pub rows : List (FullRow X S)
  -- the waiting packets, a bag: where one lies means nothing
  pub waiting : List Packet
  pub bulk : Option Bulk
  pub air : Option Air
  -- what the last tick carried
  pub last : Option Air

-- the longest packet is 1 to 255 slots, and there are 1 to 32 rows and 1 to 256 places
abbrev pub fitting : ℕ → ℕ → ℕ → Bool
fitting longest rows places =
    nat_le 1 longest && (nat_le longest 255 && (nat_le 1 rows && (nat_le rows 32 && (nat_le 1 places && nat_le places 256))))

-- the terms of a link that is opened so: shut where anything is outside its limit
abbrev pub terms_of : ℕ → ℕ → ℕ → ℕ → Terms
terms_of name longest rows places =
    record { name = name; longest = longest; places = places; shut = not (fitting longest rows places) }

-- each record beside its row
abbrev pub joined : {X S : Type 0} → List Record → List (Row X S) → List (FullRow X S)
joined [] ws = []
joined (e ∷ es) [] = []
joined (e ∷ es) (w ∷ ws) = record { entry = e; row = w } ∷ joined es ws

module _ {X S : Type 0} where
  -- what a link means
  abbrev pub model : {t : TrafficGhosts X S} {c : CurveGhosts X} → Link X S t c → Model X S
  model l = record {
    terms = terms_of l.name l.longest (length l.rows.now) (capacity l.waiting);
    clock = l.clock;
    serials = l.serials;
    offers = l.offers;
    rows = joined l.table.records l.rows.now;
    waiting = contents l.waiting;
    bulk = l.bulk;
    air = l.air;
    last = l.last;
  }

  -- a link as it is opened: all rows are free, and nothing waits or is on the air
  abbrev pub opened : ℕ → ℕ → List (Row X S) → ℕ → Model X S
  opened name longest rows places = record {
    terms = terms_of name longest (length rows) places;
    clock = 0;
    serials = 0;
    offers = 0;
    rows = map (λ w. record { entry = blank; row = w }) (take 32 rows);
    waiting = [];
    bulk = None;
    air = None;
    last = None;
  }

  -- the model with other rows
  abbrev pub with_rows : Model X S → List (FullRow X S) → Model X S
  with_rows m rows = record m { rows = rows }

  -- a row with its record changed
  abbrev pub on_entry : (Record → Record) → FullRow X S → FullRow X S
  on_entry f r = record r { entry = f r.entry }

  -- a row with another kind and state
  abbrev pub on_row : Row X S → FullRow X S → FullRow X S
  on_row w r = record r { row = w }

  -- the place of the first row whose record passes a test
  abbrev pub find : (Record → Bool) → Model X S → Option ℕ
  find P m = position (λ r. P r.entry) m.rows

  -- the kinds of the counted rows
  abbrev pub channels : List (FullRow X S) → List X
  channels [] = []
  channels (r ∷ rs) = cond (counted r.entry) (r.row.kind ∷ channels rs) (channels rs)
