-- The packets of a capture start in range, over any maps in range.
use Rattle.std.specs.Prelude.{◌≡◌, if◌then◌else◌, ◌==◌, ℕ, ◌+◌, ◌*◌, ◌<◌, ◌≤◌, ◌^◌, Bool, true, false, List, [], ◌∷◌, length, map, Option, All}
use Rattle.std.specs.List.{AllByRecursion}
use Rattle.std.proofs.Common.{sym, subst, arith}
use Rattle.std.proofs.Math.Nat.{mul-le-mul_left}
use Rattle.beat_core.specs.declared.frame.TheConstants.{FRAME_LIMIT}
use Rattle.beat_core.specs.list_laws.Bytes.{IsBytes}
use Rattle.beat_core.proofs.list_laws_laws.ByteLaws.{all_bytes}
use Rattle.pcap_core.specs.Format.{Packet, Record, IsRecord, packets_of}
use Rattle.pcap_core.specs.Streaming.{Opened}
use Rattle.pcap_core.specs.Time.{unit_of, time_of}
use Rattle.xdp_state.specs.xdp_machine.State.{PacketIn, start}
use Rattle.xdp_machine.specs.Ranges.{IsInRange}
use Rattle.xdp_machine.proofs.RangeLaws.{starts_in_range}
use Rattle.xdp_maps.specs.State.{MapState, IsSound}
use Rattle.capture_run.specs.Captures.{HoldsCapture}
use Rattle.capture_run.specs.Runs.{packet_in}

-- a packet that starts in range, over any maps in range
abbrev pub Comes : PacketIn → Type 0
Comes packet = (maps : MapState) → IsSound maps → IsInRange (start packet maps)

pub packet_comes : (packet : PacketIn) → IsBytes packet.frame → length packet.frame ≤ FRAME_LIMIT → packet.ifindex < 2 ^ 32 → packet.time < 2 ^ 64 → Comes packet
packet_comes packet bytes room port time = λ maps sound. starts_in_range packet maps (all_bytes packet.frame bytes) (omega (arith, room)) port time sound

-- a time in nanoseconds has 64 bits
pub time_most : (seconds fraction unit : ℕ) → seconds < 2 ^ 32 → fraction < 2 ^ 32 → unit ≤ 1000 → seconds * 1000000000 + fraction * unit < 2 ^ 64
time_most seconds fraction unit s f u =
    let most : fraction * unit ≤ fraction * 1000 = mul-le-mul_left fraction u in
    omega (arith, most)

pub unit_by : (b : Bool) → (if b then 1 else 1000) ≤ 1000
unit_by true = omega arith
unit_by false = omega arith

records_come : (ifindex magic : ℕ) (rs : List Record) → ifindex < 2 ^ 32 → AllByRecursion IsRecord rs → AllByRecursion Comes (map (packet_in ifindex magic) (packets_of rs))
records_come ifindex magic [] port are = tt
records_come ifindex magic (r ∷ rs) port are = (
  packet_comes (packet_in ifindex magic r.packet) are.0.bytes are.0.len.1 port (time_most r.packet.seconds r.packet.fraction (unit_of magic) are.0.seconds are.0.fraction (unit_by (magic == 0xa1b23c4d))),
  records_come ifindex magic rs port are.1,
)

pub packets_come : (ifindex : ℕ) (opened : Opened) (held : Option (List ℕ)) (packets : List Packet) → ifindex < 2 ^ 32 → HoldsCapture opened held packets → AllByRecursion Comes (map (packet_in ifindex opened.magic) packets)
packets_come ifindex opened held packets port holds =
    subst (λ (ps : List Packet). AllByRecursion Comes (map (packet_in ifindex opened.magic) ps)) (sym holds.is.packets) (records_come ifindex opened.magic holds.is.records port holds.is.are_records)
