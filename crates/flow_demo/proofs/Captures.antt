-- The bytes of captures.
use Rattle.std.proofs.Common.{◌≡◌, ◌∙◌, ℕ, ◌+◌, List, [], ◌∷◌, ◌++◌, map, refl, sym, ap, arith, append_assoc, add-one}
use Rattle.std.specs.List.{flat_map}
use Rattle.std.proofs.lemmas.List.{append-nil, map-append}
use Rattle.std.proofs.lemmas.List.Concat.{flat_map-append}
use Rattle.std.proofs.lemmas.List.FromFn.{map-range_with_len_more}
use Rattle.pcap_core.specs.Format.{Header, Packet, capture_bytes, header_bytes, record_bytes}
use Rattle.flow_demo.specs.Packets.{demo_header, demo_packets, packet_from, record_of, state_before, state_behind}

-- a capture with one packet more
capture_bytes-push : (h : Header) (ps : List Packet) (p : Packet)
    → capture_bytes h (map record_of (ps ++ p ∷ [])) ≡ capture_bytes h (map record_of ps) ++ record_bytes h.order (record_of p)
capture_bytes-push h ps p =
    let front = flat_map (record_bytes h.order) (map record_of ps) in
    let last = record_bytes h.order (record_of p) in
    ap (λ rs. header_bytes h ++ flat_map (record_bytes h.order) rs) (map-append record_of ps (p ∷ []))
    ∙ ap (λ bs. header_bytes h ++ bs) (flat_map-append (record_bytes h.order) (map record_of ps) (record_of p ∷ []))
    ∙ ap (λ bs. header_bytes h ++ (front ++ bs)) (append-nil last)
    ∙ sym (append_assoc (header_bytes h) front last)

pub capture_bytes-more : (seed n : ℕ)
    → capture_bytes demo_header (map record_of (demo_packets seed (n + 1)))
    ≡ capture_bytes demo_header (map record_of (demo_packets seed n)) ++ record_bytes demo_header.order (record_of (packet_from (state_before seed n) n))
capture_bytes-more seed n =
    let packet_at = λ (i : ℕ). packet_from (state_before seed i) i in
    ap (λ ps. capture_bytes demo_header (map record_of ps)) (map-range_with_len_more packet_at 0 n n (omega arith))
    ∙ capture_bytes-push demo_header (demo_packets seed n) (packet_at n)

pub state_before-more : (seed n : ℕ) → state_before seed (n + 1) ≡ state_behind (state_before seed n)
state_before-more seed n = rw add-one refl
