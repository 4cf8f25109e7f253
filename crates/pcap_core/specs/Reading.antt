-- What a reader of a capture gives, as functions of the bytes. That they read the format is a law.
use Rattle.std.specs.Prelude.{ℕ, zero, suc, ◌+◌, Bool, ◌==◌, nat_lt, nat_le, ◌&&◌, ◌||◌, not, if◌then◌else◌, List, [], ◌∷◌, length, take, drop, Option, Some, None, Result, Ok, Err}
use Rattle.pcap_core.specs.declared.order.Order.{Order}
use Rattle.pcap_core.specs.declared.order.Order.TheVariants.{Little, Big}
use Rattle.pcap_core.specs.declared.error.PcapError.{PcapError}
use Rattle.pcap_core.specs.declared.head.RecHead.{RecHead}
use Rattle.pcap_core.specs.declared.error.PcapError.TheVariants.{Short, Magic, Version, Link, Frame}
use Rattle.beat_core.specs.declared.frame.TheConstants.{FRAME_LIMIT}
use Rattle.pcap_core.specs.Number.{number}
use Rattle.pcap_core.specs.Format.{Packet, Content, announced}

-- ---- the header

abbrev pub is_magic : ℕ → Bool
is_magic n = n == 0xa1b2c3d4 || n == 0xa1b23c4d

abbrev pub is_version : Order → List ℕ → Bool
is_version order bytes = number order 2 (drop 4 bytes) == 2 && number order 2 (drop 6 bytes) == 4

-- the order in which the first four bytes are a magic number
abbrev pub order_of : List ℕ → Option Order
order_of bytes =
    if is_magic (number Little 4 bytes) then Some Little else if is_magic (number Big 4 bytes) then Some Big else None

-- the order, after its test of version and link type
abbrev pub tested : Option Order → List ℕ → Result Order PcapError
tested None bytes = Err Magic
tested (Some order) bytes =
    if is_version order bytes then (if number order 4 (drop 20 bytes) == 1 then Ok order else Err (Link (number order 4 (drop 20 bytes)))) else Err Version

unfoldable pub header_of : List ℕ → Result Order PcapError
header_of bytes = if nat_lt (length bytes) 24 then Err (Short 0) else tested (order_of bytes) bytes

-- ---- a record

abbrev pub is_length : ℕ → Bool
is_length n = nat_le 1 n && nat_le n FRAME_LIMIT

abbrev pub packet_at : Order → ℕ → List ℕ → Packet
packet_at order n rest =
    record { seconds = number order 4 rest; fraction = number order 4 (drop 4 rest); bytes = take n (drop 16 rest) }

-- what the four numbers in front say of record `index`, which begins at this place, or the fault there
unfoldable pub head_at : Order → ℕ → ℕ → List ℕ → Result RecHead PcapError
head_at order index at rest =
    let n = announced order rest in
    if nat_lt (length rest) 16 then Err (Short at) else if not (is_length n) then Err (Frame index n) else Ok (record { seconds = number order 4 rest; fraction = number order 4 (drop 4 rest); length = n })

-- the packet of which this is said, with these bytes
abbrev pub packet_of_head : RecHead → List ℕ → Packet
packet_of_head h bytes = record { seconds = h.seconds; fraction = h.fraction; bytes = bytes }

-- with the bytes that follow its numbers, and what follows them
abbrev pub with_head : Result RecHead PcapError → ℕ → List ℕ → Result (Option (Packet × List ℕ)) PcapError
with_head (Err fault) at rest = Err fault
with_head (Ok h) at rest =
    if nat_lt (length rest) (16 + h.length) then Err (Short at) else Ok (Some (packet_of_head h (take h.length (drop 16 rest)), drop (16 + h.length) rest))

-- the packet in front and what follows, none at the end, or the fault of record `index` at this place
unfoldable pub record_at : Order → ℕ → ℕ → List ℕ → Result (Option (Packet × List ℕ)) PcapError
record_at order index at rest = if length rest == 0 then Ok None else with_head (head_at order index at rest) at rest

-- ---- all records

-- the packets to come, and the fault after them
abbrev pub Coming : Type 0
Coming = List Packet × Option PcapError

-- with a record in front of what follows it
abbrev pub with_record : Result (Option (Packet × List ℕ)) PcapError → (Packet → List ℕ → Coming) → Coming
with_record (Err fault) later = ([], Some fault)
with_record (Ok None) later = ([], None)
with_record (Ok (Some r)) later = (r.0 ∷ (later r.0 r.1).0, (later r.0 r.1).1)

-- at most n records, from record `index` at a place
unfoldable pub records_within : ℕ → Order → ℕ → ℕ → List ℕ → Coming
records_within zero order index at rest = ([], None)
records_within (suc n) order index at rest =
    with_record (record_at order index at rest) (λ packet later. records_within n order (index + 1) (at + 16 + length packet.bytes) later)

-- all that come: no record is empty, so there are no more than bytes
unfoldable pub records_at : Order → ℕ → ℕ → List ℕ → Coming
records_at order index at rest = records_within (suc (length rest)) order index at rest

-- ---- the whole

abbrev pub content_from : ℕ → Coming → Content
content_from magic coming = record { magic = magic; packets = coming.0; fault = coming.1 }

-- what follows a header
abbrev pub with_header : Result Order PcapError → List ℕ → Result Content PcapError
with_header (Err fault) bytes = Err fault
with_header (Ok order) bytes = Ok (content_from (number order 4 bytes) (records_at order 0 24 (drop 24 bytes)))

-- what a capture holds, or the fault of its header
unfoldable pub content_of : List ℕ → Result Content PcapError
content_of bytes = with_header (header_of bytes) bytes
