-- Which of two elements goes first, by the first field of the key in which they differ.
use Rattle.std.specs.Prelude.{Bool, ◌&&◌, ◌||◌, ◌==◌, nat_lt}
use Rattle.pool_runs.specs.declared.packet.Packet.{Packet}
use Rattle.pool_runs.specs.declared.point.Point.{Point}

-- by due slot, then mat, then offer count; where a packet lies does not count
abbrev pub packet_before : Packet → Packet → Bool
packet_before x y =
    nat_lt x.due y.due || (x.due == y.due && (nat_lt x.mat y.mat || (x.mat == y.mat && nat_lt x.count y.count)))

-- by t, then row
abbrev pub point_before : Point → Point → Bool
point_before x y = nat_lt x.t y.t || (x.t == y.t && nat_lt x.row y.row)
