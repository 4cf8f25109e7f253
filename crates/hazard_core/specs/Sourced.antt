-- What a cell takes of the frame that came, and of what came with it.
use Rattle.std.specs.Prelude.{ℕ, Option, Some, None, slice_index, length}
use Rattle.cell_core.specs.xdp_machine.State.{PacketIn}
use Rattle.cell_core.specs.declared.operator.Operator.{Operator}
use Rattle.cell_core.specs.declared.operator.Operator.TheVariants.{Byte, Length, Ifindex, Time}
use Rattle.hazard_core.specs.declared.rows.Source.{Source}

abbrev pub packet_of : Source → PacketIn
packet_of s = record { frame = s.frame.now; ifindex = s.ifindex; time = s.time }

abbrev pub taken_of : PacketIn → Operator → Option ℕ
taken_of packet (Byte i) = Some (slice_index packet.frame i)
taken_of packet Length = Some (length packet.frame)
taken_of packet Ifindex = Some packet.ifindex
taken_of packet Time = Some packet.time
taken_of packet op = None
