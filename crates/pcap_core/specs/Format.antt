-- What the bytes of a capture are: a header, then records, then nothing.
use Rattle.std.specs.Prelude.{◌≡◌, ℕ, ◌+◌, ◌<◌, ◌≤◌, ◌^◌, ◌⊎◌, List, [], ◌++◌, length, map, drop, Option, Some, None}
use Rattle.std.specs.List.{flat_map, AllByRecursion}
use Rattle.pcap_core.specs.declared.order.Order.{Order}
use Rattle.pcap_core.specs.declared.error.PcapError.{PcapError}
use Rattle.pcap_core.specs.declared.error.PcapError.TheVariants.{Short, Magic, Version, Link, Frame}
use Rattle.pcap_core.specs.Number.{number, spelled}
use Rattle.beat_core.specs.declared.frame.TheConstants.{FRAME_LIMIT}
use Rattle.list_laws.specs.Bytes.{IsBytes}

-- ---- the header

-- fractions of a second are microseconds, or nanoseconds
abbrev pub IsMagic : ℕ → Type 0
IsMagic n = (n ≡ 0xa1b2c3d4) ⊎ (n ≡ 0xa1b23c4d)

-- what a header says beside the version, 2.4, and the link type, 1
pub record Header : Type 0 where
  pub order : Order
  pub magic : ℕ
  pub zone : ℕ
  pub accuracy : ℕ
  pub snap : ℕ

pub record IsHeader (h : Header) : Type 0 where
  pub magic : IsMagic h.magic
  pub zone : h.zone < 2 ^ 32
  pub accuracy : h.accuracy < 2 ^ 32
  pub snap : h.snap < 2 ^ 32

-- its 24 bytes
abbrev pub header_bytes : Header → List ℕ
header_bytes h =
    spelled h.order 4 h.magic ++ (spelled h.order 2 2 ++ (spelled h.order 2 4 ++ (spelled h.order 4 h.zone ++ (spelled h.order 4 h.accuracy ++ (spelled h.order 4 h.snap ++ spelled h.order 4 1)))))

-- ---- records

-- a packet: when it came, and the bytes that were captured of it
pub record Packet : Type 0 where
  pub seconds : ℕ
  pub fraction : ℕ
  pub bytes : List ℕ

-- a packet, and how long it is said to have been on the wire
pub record Record : Type 0 where
  pub packet : Packet
  pub original : ℕ

-- how many bytes a record may hold
abbrev pub IsLength : ℕ → Type 0
IsLength n = (1 ≤ n) × (n ≤ FRAME_LIMIT)

pub record IsRecord (r : Record) : Type 0 where
  pub seconds : r.packet.seconds < 2 ^ 32
  pub fraction : r.packet.fraction < 2 ^ 32
  pub original : r.original < 2 ^ 32
  pub bytes : IsBytes r.packet.bytes
  pub len : IsLength (length r.packet.bytes)

-- its sixteen bytes of numbers, and the captured ones
abbrev pub record_bytes : Order → Record → List ℕ
record_bytes order r =
    spelled order 4 r.packet.seconds ++ (spelled order 4 r.packet.fraction ++ (spelled order 4 (length r.packet.bytes) ++ (spelled order 4 r.original ++ r.packet.bytes)))

abbrev pub packet_of : Record → Packet
packet_of r = r.packet

abbrev pub packets_of : List Record → List Packet
packets_of rs = map packet_of rs

-- the bytes of a capture
abbrev pub capture_bytes : Header → List Record → List ℕ
capture_bytes h rs = header_bytes h ++ flat_map (record_bytes h.order) rs

-- ---- what a capture holds up to its first fault

-- The captured length that the four numbers of a record announce
abbrev pub announced : Order → List ℕ → ℕ
announced order rest = number order 4 (drop 8 rest)

-- What is left at a place is the end, or begins with no whole record, of this number: then this is the
-- fault there. Numbers that are cut off, or a frame that is longer than what is left, are cut off where the
-- record begins. A length that no record has comes before that.
abbrev pub Ends : Order → ℕ → ℕ → List ℕ → Option PcapError → Type 0
Ends order index at rest None = rest ≡ []
Ends order index at rest (Some (Short place)) =
    (place ≡ at) × (0 < length rest) × (16 ≤ length rest → IsLength (announced order rest) × (length rest < 16 + announced order rest))
Ends order index at rest (Some (Frame i n)) = (i ≡ index) × (16 ≤ length rest) × (n ≡ announced order rest) × ¬ IsLength n
Ends order index at rest (Some Magic) = ⊥
Ends order index at rest (Some Version) = ⊥
Ends order index at rest (Some (Link n)) = ⊥

-- the magic number, the packets in their order, and the fault after them, if there is one
pub record Content : Type 0 where
  pub magic : ℕ
  pub packets : List Packet
  pub fault : Option PcapError

-- The bytes are a header and records, and then end or have a fault.
pub record IsContent (bytes : List ℕ) (c : Content) : Type 0 where
  pub header : Header
  pub is_header : IsHeader header
  pub records : List Record
  pub are_records : AllByRecursion IsRecord records
  pub rest : List ℕ
  pub spelling : bytes ≡ capture_bytes header records ++ rest
  pub magic : c.magic ≡ header.magic
  pub packets : c.packets ≡ packets_of records
  pub ends : Ends header.order (length records) (length (capture_bytes header records)) rest c.fault

-- ---- the first fault of a header

-- the order in which the first four bytes are a magic number
abbrev pub BeginsIn : Order → List ℕ → Type 0
BeginsIn order bytes = IsMagic (number order 4 bytes)

abbrev pub IsVersion : Order → List ℕ → Type 0
IsVersion order bytes = (number order 2 (drop 4 bytes) ≡ 2) × (number order 2 (drop 6 bytes) ≡ 4)

-- The bytes begin with no header, and this is its first fault.
abbrev pub IsHeaderFault : List ℕ → PcapError → Type 0
IsHeaderFault bytes (Short at) = (at ≡ 0) × (length bytes < 24)
IsHeaderFault bytes Magic = (24 ≤ length bytes) × ((order : Order) → ¬ BeginsIn order bytes)
IsHeaderFault bytes Version = (24 ≤ length bytes) × (order : Order) × BeginsIn order bytes × ¬ IsVersion order bytes
IsHeaderFault bytes (Link n) =
    (24 ≤ length bytes) × (order : Order) × BeginsIn order bytes × IsVersion order bytes × (n ≡ number order 4 (drop 20 bytes)) × ¬ (n ≡ 1)
IsHeaderFault bytes (Frame index length) = ⊥
