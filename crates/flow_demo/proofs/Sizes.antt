-- How many bytes a capture has.
use Rattle.std.proofs.Common.{◌≡◌, ◌∙◌, ℕ, zero, suc, ◌+◌, ◌*◌, ◌≤◌, length, map, ap, arith, sym, add-one, length-append}
use Rattle.pcap_core.specs.declared.order.Order.TheVariants.{Little}
use Rattle.pcap_core.specs.Format.{Record, capture_bytes, record_bytes}
use Rattle.pcap_core.specs.Number.{spelled}
use Rattle.flow_demo.specs.Packets.{demo_header, demo_packets, packet_from, record_of, state_before}
use Rattle.flow_demo.proofs.Captures.{capture_bytes-more}
use Rattle.flow_demo.proofs.Reading.{length-frame_from}

length-record_bytes : (r : Record) → length (record_bytes Little r) ≡ 16 + length r.packet.bytes
unfolding spelled
length-record_bytes r = omega arith

pub length-demo_capture : (seed count : ℕ) → length (capture_bytes demo_header (map record_of (demo_packets seed count))) ≤ 24 + 80 * count
unfolding spelled
length-demo_capture seed zero = omega arith
length-demo_capture seed (suc n) =
    let len = λ (k : ℕ). length (capture_bytes demo_header (map record_of (demo_packets seed k))) in
    let before = capture_bytes demo_header (map record_of (demo_packets seed n)) in
    let last = record_of (packet_from (state_before seed n) n) in
    let grows : len (n + 1) ≡ length before + length (record_bytes Little last) = ap length (capture_bytes-more seed n) ∙ length-append before (record_bytes Little last) in
    let there : len (suc n) ≡ len (n + 1) = ap len (sym (add-one n)) in
    omega (arith, grows, there, length-record_bytes last, length-frame_from (state_before seed n), length-demo_capture seed n)
