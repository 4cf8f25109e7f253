-- The packets of a seed are read back.
use Rattle.std.proofs.Common.{◌≡◌, ◌∙◌, ℕ, ◌<◌, ◌^◌, List, [], ◌∷◌, length, get_or, map, None, Ok, ap, arith, refl, inl, inr, lit<}
use Rattle.std.proofs.lemmas.Bool.{cases_lt}
use Rattle.std.proofs.lemmas.Bool.Decides.{nat_tests}
use Rattle.std.proofs.lemmas.List.{get_or_past}
use Rattle.std.proofs.lemmas.List.Elements.{All-map, recursion_from_All}
use Rattle.std.proofs.lemmas.List.FromFn.{get_or-map-range_with_len, get_or-range_with_len, length-map-range_with_len, length-range_with_len}
use Rattle.std.specs.List.{All, range_with_len}
use Rattle.elf_view.specs.list_laws.Bytes.{IsBytes}
use Rattle.pcap_core.specs.Format.{IsHeader, IsRecord, Packet, capture_bytes, packets_of}
use Rattle.pcap_core.specs.Reading.{content_of}
use Rattle.pcap_core.proofs.ContentLaws.{written-content_of}
use Rattle.flow_demo.specs.Draws.{draw, next_state}
use Rattle.flow_demo.specs.Packets.{byte_at, demo_content, demo_header, demo_packets, frame_from, len_from, packet_from, record_of, state_before}

byte_at-below : (place n : ℕ) → byte_at place n < 256
byte_at-below place n = grind (arith, nat_tests)

pub length-frame_from : (s : ℕ) → length (frame_from s) ≡ len_from s
length-frame_from s = length-map-range_with_len (λ k. byte_at k (draw (next_state s) k)) 0 (len_from s)

frame_from-bytes : (s : ℕ) → IsBytes (frame_from s)
frame_from-bytes s k =
    let byte = λ (k : ℕ). byte_at k (draw (next_state s) k) in
    elim (cases_lt k (len_from s)) [
      | inl below ↦ omega (arith, get_or-map-range_with_len byte 0 (len_from s) k k 0 below (omega arith), byte_at-below k (draw (next_state s) k))
      | inr past ↦ omega (arith, get_or_past (frame_from s) k 0 (omega (arith, past, length-frame_from s)))
    ]

record_of-is : (s seconds : ℕ) → seconds < 2 ^ 32 → IsRecord (record_of (packet_from s seconds))
record_of-is s seconds fits =
    let len = length-frame_from s in
    record {
      seconds = fits;
      fraction = lit< tt;
      original = omega (arith, len);
      bytes = frame_from-bytes s;
      len = (omega (arith, len), omega (arith, len));
    }

records_are : (seed count : ℕ) → count < 2 ^ 32 → All IsRecord (map record_of (demo_packets seed count))
records_are seed count fits =
    let places = range_with_len 0 count in
    All-map IsRecord record_of (demo_packets seed count)
    (All-map (λ p. IsRecord (record_of p)) (λ i. packet_from (state_before seed i) i) places
    (λ k d below.
    let inside : k < count = omega (arith, below, length-range_with_len 0 count) in
    record_of-is (state_before seed (get_or places k d)) (get_or places k d) (omega (arith, get_or-range_with_len 0 count k d inside))))

packets_of-record_of : (ps : List Packet) → packets_of (map record_of ps) ≡ ps
packets_of-record_of [] = refl
packets_of-record_of (p ∷ ps) = ap (λ qs. p ∷ qs) (packets_of-record_of ps)

demo_header-is : IsHeader demo_header
demo_header-is = record { magic = inl refl; zone = lit< tt; accuracy = lit< tt; snap = lit< tt }

pub demo_content-read : (seed count : ℕ) → count < 2 ^ 32
    → content_of (capture_bytes demo_header (map record_of (demo_packets seed count))) ≡ Ok (demo_content seed count)
demo_content-read seed count fits =
    let records = map record_of (demo_packets seed count) in
    written-content_of demo_header records demo_header-is (recursion_from_All IsRecord records (records_are seed count fits))
    ∙ ap (λ ps. Ok (record { magic = 0xa1b2c3d4; packets = ps; fault = None })) (packets_of-record_of (demo_packets seed count))
