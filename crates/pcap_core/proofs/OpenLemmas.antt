-- What the calls of `Capture` answer, by the reading of its bytes.
use Rattle.std.proofs.Common.{◌≡◌, ℕ, ◌+◌, ◌-◌, ◌≤◌, List, [], ◌∷◌, length, take, drop, Option, Some, None, Result, Ok, Err, sym, ap, ◌∙◌, arith, length-drop}
use Rattle.std.proofs.lemmas.List.{take_rest, drop-drop, length-take}
use Rattle.pcap_core.specs.declared.order.Order.{Order}
use Rattle.pcap_core.specs.declared.error.PcapError.{PcapError}
use Rattle.pcap_core.specs.Number.{number}
use Rattle.pcap_core.specs.Format.{Packet, Content, IsLength}
use Rattle.pcap_core.specs.Reading.{header_of, record_at, Coming, with_record, records_at, content_from, with_header, content_of}
use Rattle.pcap_core.proofs.Heads.{done, failed}
use Rattle.pcap_core.proofs.ContentLaws.{records_at-step}
use Rattle.pcap_core.proofs.Records.{record_at-after}

pub opened : (bytes : List ℕ) (order : Order) (magic : ℕ) → Ok order ≡ header_of bytes → magic ≡ number order 4 bytes → done (content_from magic (records_at order 0 24 (drop 24 bytes))) ≡ content_of bytes
unfolding content_of
opened bytes order magic is m =
    ap (λ (n : ℕ). done (content_from n (records_at order 0 24 (drop 24 bytes)))) m ∙ ap (λ (o : Result Order PcapError). with_header o bytes) is

pub not_opened : (bytes : List ℕ) (fault : PcapError) → Err fault ≡ header_of bytes → failed {A = Content} fault ≡ content_of bytes
unfolding content_of
not_opened bytes fault is = ap (λ (o : Result Order PcapError). with_header o bytes) is

-- ---- what comes from a place on, by what is read of the range there

-- the range from a place to the end
abbrev pub left_at : ℕ → List ℕ → List ℕ
left_at at bytes = take (length bytes - at) (drop at bytes)

coming_by : (order : Order) (index at : ℕ) (bytes : List ℕ) (read : Result (Option (Packet × List ℕ)) PcapError) → record_at order index at (left_at at bytes) ≡ read → records_at order index at (drop at bytes) ≡ with_record read (λ p later. records_at order (index + 1) (at + 16 + length p.bytes) later)
coming_by order index at bytes read is =
    let whole : left_at at bytes ≡ drop at bytes = take_rest bytes at in
    records_at-step order index at (drop at bytes) ∙ ap (λ r. with_record r (λ p later. records_at order (index + 1) (at + 16 + length p.bytes) later)) (ap (record_at order index at) (sym whole) ∙ is)

pub coming_none : (order : Order) (index at : ℕ) (bytes : List ℕ) → record_at order index at (left_at at bytes) ≡ Ok None → records_at order index at (drop at bytes) ≡ ([], None)
coming_none order index at bytes is = coming_by order index at bytes (Ok None) is

pub coming_fault : (order : Order) (index at : ℕ) (bytes : List ℕ) (fault : PcapError) → record_at order index at (left_at at bytes) ≡ Err fault → records_at order index at (drop at bytes) ≡ ([], Some fault)
coming_fault order index at bytes fault is = coming_by order index at bytes (Err fault) is

-- after a packet
abbrev pub place_after : ℕ → Packet → ℕ
place_after at p = at + (16 + length p.bytes)

abbrev pub coming_after : Order → ℕ → ℕ → List ℕ → Packet → Coming
coming_after order index at bytes p = records_at order (index + 1) (place_after at p) (drop (place_after at p) bytes)

pub coming_packet : (order : Order) (index at : ℕ) (bytes : List ℕ) (p : Packet) → record_at order index at (left_at at bytes) ≡ Ok (Some (p, drop (16 + length p.bytes) (left_at at bytes))) → records_at order index at (drop at bytes) ≡ (p ∷ (coming_after order index at bytes p).0, (coming_after order index at bytes p).1)
coming_packet order index at bytes p is =
    let n = 16 + length p.bytes in
    let behind : drop n (left_at at bytes) ≡ drop (at + n) bytes = ap (drop n) (take_rest bytes at) ∙ drop-drop n at bytes in
    let place : at + 16 + length p.bytes ≡ at + n = omega arith in
    coming_by order index at bytes (Ok (Some (p, drop n (left_at at bytes)))) is
    ∙ ap (λ (k : ℕ). (p ∷ (records_at order (index + 1) k (drop n (left_at at bytes))).0, (records_at order (index + 1) k (drop n (left_at at bytes))).1)) place
    ∙ ap (λ (l : List ℕ). (p ∷ (records_at order (index + 1) (at + n) l).0, (records_at order (index + 1) (at + n) l).1)) behind

-- a packet lies within the bytes
pub packet_fits : (order : Order) (index at : ℕ) (bytes : List ℕ) (p : Packet) (later : List ℕ) → at ≤ length bytes → record_at order index at (left_at at bytes) ≡ Ok (Some (p, later)) → place_after at p ≤ length bytes
packet_fits order index at bytes p later within is =
    let a = record_at-after order index at (left_at at bytes) p later is in
    omega (arith, a.fits, length-take (length bytes - at) (drop at bytes), length-drop at bytes)

pub packet_len : (order : Order) (index at : ℕ) (bytes : List ℕ) (p : Packet) (later : List ℕ) → record_at order index at (left_at at bytes) ≡ Ok (Some (p, later)) → IsLength (length p.bytes)
packet_len order index at bytes p later is = (record_at-after order index at (left_at at bytes) p later is).len
