-- The packets of a seed, as many as are asked for. Their draws follow one another: those of a packet are its frame's
-- length and then each of its bytes.
use Rattle.std.specs.Prelude.{ℕ, zero, suc, ◌+◌, ◌%◌, ◌==◌, nat_le, ◌&&◌, if◌then◌else◌, List, length, map, None}
use Rattle.std.specs.List.{range_with_len}
use Rattle.pcap_core.specs.declared.order.Order.TheVariants.{Little}
use Rattle.pcap_core.specs.Format.{Content, Header, Packet, Record}
use Rattle.flow_demo.specs.Draws.{draw, next_state, state_after}

-- ---- frames

-- a byte, by its place in the frame and its draw: at 6 it is below 16, and 0 at 7, 8 and 9, so that the four bytes from
-- place 6 on are one of 16 numbers
abbrev pub byte_at : ℕ → ℕ → ℕ
byte_at place n =
    if place == 6 then n % 256 % 16 else if nat_le 7 place && nat_le place 9 then 0 else n % 256

-- n bytes, from a state on
abbrev pub bytes_from : ℕ → ℕ → List ℕ
bytes_from s n = map (λ k. byte_at k (draw s k)) (range_with_len 0 n)

-- a frame has 14 to 64 bytes, as its first draw says
abbrev pub len_from : ℕ → ℕ
len_from s = 14 + draw s 0 % 51

abbrev pub frame_from : ℕ → List ℕ
frame_from s = bytes_from (next_state s) (len_from s)

-- the state after all draws of a frame
abbrev pub state_behind : ℕ → ℕ
state_behind s = state_after (next_state s) (len_from s)

-- ---- packets

-- the state before packet i, from 0
abbrev pub state_before : ℕ → ℕ → ℕ
state_before seed zero = seed
state_before seed (suc i) = state_behind (state_before seed i)

-- the packet that is drawn from a state on, and comes after so many seconds
abbrev pub packet_from : ℕ → ℕ → Packet
packet_from s seconds = record { seconds = seconds; fraction = 0; bytes = frame_from s }

-- packet i comes after i seconds
abbrev pub demo_packets : ℕ → ℕ → List Packet
demo_packets seed count = map (λ i. packet_from (state_before seed i) i) (range_with_len 0 count)

-- ---- the capture

-- all of a packet was captured
abbrev pub record_of : Packet → Record
record_of p = record { packet = p; original = length p.bytes }

-- numbers with the lowest byte first, fractions of microseconds, no zone, no accuracy, and frames of up to 65,535 bytes
abbrev pub demo_header : Header
demo_header = record { order = Little; magic = 0xa1b2c3d4; zone = 0; accuracy = 0; snap = 65535 }

-- what is read of it: these packets, and no fault after them
abbrev pub demo_content : ℕ → ℕ → Content
demo_content seed count = record { magic = 0xa1b2c3d4; packets = demo_packets seed count; fault = None }
