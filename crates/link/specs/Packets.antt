-- Packets: their length in slots, the limits of their bytes, the order in which they wait, and what a slot sends of them.
use Rattle.std.specs.Prelude.{ℕ, ◌+◌, ◌*◌, ◌/◌, min, Bool, cond, ◌&&◌, ◌||◌, Some, None, Option, ◌==◌, nat_le, nat_lt}
use Rattle.std.specs.Option.{option_map}
use Rattle.link.specs.declared.state.Packet.{Packet}
use Rattle.link.specs.declared.state.Bulk.{Bulk}
use Rattle.link.specs.declared.state.Air.{Air}
use Rattle.link.specs.declared.state.Sent.{Sent}

-- a packet takes a slot for each 32 of its bytes, rounded up
abbrev pub slots : ℕ → ℕ
slots bytes = (bytes + 31) / 32

-- the bytes that an offer may have: those of 255 slots at most
abbrev pub offer_bytes_lem : ℕ → Bool
offer_bytes_lem bytes = nat_le 1 bytes && nat_le bytes 8160

-- the bytes that a bulk packet may have on a link whose longest packet has p slots
abbrev pub bulk_bytes_lem : ℕ → ℕ → Bool
bulk_bytes_lem p bytes = nat_le 1 bytes && nat_le bytes (32 * p)

-- a mat's number; 0 is none, and the largest is the largest of its type
abbrev pub is_mat_lem : ℕ → Bool
is_mat_lem mat = nat_le 1 mat

-- how many of a packet's bytes its first k slots carry
abbrev pub carried : ℕ → ℕ → ℕ
carried bytes k = min bytes (32 * k)

-- waiting packets go by due slot, then mat, then offer count
abbrev pub packet_before : Packet → Packet → Bool
packet_before x y =
    nat_lt x.due y.due || (x.due == y.due && (nat_lt x.mat y.mat || (x.mat == y.mat && nat_lt x.count y.count)))

-- a packet as it goes on the air, with nothing sent
abbrev pub begun : Packet → Air
begun p = record { mat = p.mat; place = p.place; bytes = p.bytes; sent = 0 }

-- a bulk packet as it goes on the air: its mat is 0
abbrev pub begun_file : Bulk → Air
begun_file b = record { mat = 0; place = b.place; bytes = b.bytes; sent = 0 }

-- the bulk packet that waits, if there is one
abbrev pub begun_bulk : Option Bulk → Option Air
begun_bulk b = option_map begun_file b

-- the slot sent next is the packet's last
abbrev pub ends : Air → Bool
ends a = nat_le (slots a.bytes) (a.sent + 1)

-- what a slot tells of the packet on the air
abbrev pub told : Air → Sent
told a = record { mat = a.mat; piece = a.sent; ended = ends a }

-- what is on the air after the slot
abbrev pub after : Air → Option Air
after a = cond (ends a) None (Some (record a { sent = a.sent + 1 }))

-- how many packets are on the air
abbrev pub on_air : Option Air → ℕ
on_air None = 0
on_air (Some a) = 1
