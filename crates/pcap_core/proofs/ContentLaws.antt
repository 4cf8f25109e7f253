-- All the records of a capture, and the whole of it.
use Rattle.std.proofs.Common.{◌≡◌, ℕ, zero, suc, ◌+◌, ◌<◌, List, [], ◌∷◌, ◌++◌, length, drop, Option, Some, None, Result, Ok, Err, refl, sym, ap, subst, ◌∙◌, arith, length-append, length-drop, append_assoc}
use Rattle.std.specs.List.{flat_map, AllByRecursion}
use Rattle.std.proofs.lemmas.List.{append-nil}
use Rattle.pcap_core.specs.declared.order.Order.{Order}
use Rattle.pcap_core.specs.declared.error.PcapError.{PcapError}
use Rattle.pcap_core.specs.Number.{number, spelled}
use Rattle.pcap_core.specs.Format.{Header, IsHeader, header_bytes, Packet, Record, IsRecord, record_bytes, packets_of, capture_bytes, Ends, Content, IsContent, IsHeaderFault}
use Rattle.pcap_core.specs.Reading.{header_of, record_at, Coming, with_record, records_within, records_at, content_from, with_header, content_of}
use Rattle.pcap_core.proofs.Numbers.{wide4}
use Rattle.pcap_core.proofs.Heads.{failed, done, ok_is, err_is, not_both, header_of-fault, fault-header_of}
use Rattle.pcap_core.proofs.Headers.{read_header, header_of-spelled, header-read, spelled-header_of, length-header_bytes}
use Rattle.pcap_core.proofs.Records.{IsFirst, IsAfter, record_at-says, record_at-after, record_at-spelled, spelled-record_at, ending, ends-record_at}
use Rattle.beat_core.specs.list_laws.Bytes.{IsBytes}
use Rattle.beat_core.proofs.list_laws_laws.ByteLaws.{IsBytes-drop}

-- ---- one record more

with_same : (read : Result (Option (Packet × List ℕ)) PcapError) (f g : Packet → List ℕ → Coming) → ((p : Packet) (later : List ℕ) → read ≡ Ok (Some (p, later)) → f p later ≡ g p later) → with_record read f ≡ with_record read g
with_same (Err fault) f g h = refl
with_same (Ok None) f g h = refl
with_same (Ok (Some r)) f g h = ap (λ (m : Coming). (r.0 ∷ m.0, m.1)) (h r.0 r.1 refl)

length-later : (rest later : List ℕ) (p : Packet) → IsAfter rest p later → length later < length rest
length-later rest later p a =
    omega (arith, ap length a.after, length-drop (16 + length p.bytes) rest, a.len.0, a.fits)

records-fuel : (n m : ℕ) (order : Order) (index at : ℕ) (rest : List ℕ) → length rest < n → length rest < m → records_within n order index at rest ≡ records_within m order index at rest
unfolding records_within
records-fuel zero m order index at rest hn hm = absurd (omega arith)
records-fuel (suc n) zero order index at rest hn hm = absurd (omega arith)
records-fuel (suc n) (suc m) order index at rest hn hm =
    with_same (record_at order index at rest) _ _ (λ p later read.
    let shorter = length-later rest later p (record_at-after order index at rest p later read) in
    records-fuel n m order (index + 1) (at + 16 + length p.bytes) later (omega arith) (omega arith))

-- the records from a place on: the first, and those after it
pub records_at-step : (order : Order) (index at : ℕ) (rest : List ℕ) → records_at order index at rest ≡ with_record (record_at order index at rest) (λ p later. records_at order (index + 1) (at + 16 + length p.bytes) later)
unfolding records_at records_within
records_at-step order index at rest =
    with_same (record_at order index at rest) _ _ (λ p later read.
    let shorter = length-later rest later p (record_at-after order index at rest p later read) in
    records-fuel (length rest) (suc (length later)) order (index + 1) (at + 16 + length p.bytes) later (omega arith) (omega arith))

-- where nothing is left, nothing comes
pub none_at_end : (order : Order) (index at : ℕ) → records_at order index at [] ≡ ([], None)
unfolding record_at
none_at_end order index at = records_at-step order index at []

-- ---- what is read is spelled

-- what was read from a place on is spelled there
record Reads (order : Order) (index at : ℕ) (rest : List ℕ) (c : Coming) : Type 0 where
  records : List Record
  are_records : AllByRecursion IsRecord records
  left : List ℕ
  spelling : rest ≡ flat_map (record_bytes order) records ++ left
  packets : c.0 ≡ packets_of records
  ends : Ends order (index + length records) (at + length (flat_map (record_bytes order) records)) left c.1

ends_at : (order : Order) (i j a b : ℕ) (left : List ℕ) (fault : Option PcapError) → i ≡ j → a ≡ b → Ends order i a left fault → Ends order j b left fault
ends_at order i j a b left fault si sa h =
    subst (λ (k : ℕ). Ends order k b left fault) si (subst (λ (k : ℕ). Ends order i k left fault) sa h)

length-record_bytes : (order : Order) (r : Record) → length (record_bytes order r) ≡ 16 + length r.packet.bytes
length-record_bytes order r =
    let w4 = wide4 order in
    let p = r.packet in
    omega (arith, length-append (spelled order 4 p.seconds) (spelled order 4 p.fraction ++ (spelled order 4 (length p.bytes) ++ (spelled order 4 r.original ++ p.bytes))), length-append (spelled order 4 p.fraction) (spelled order 4 (length p.bytes) ++ (spelled order 4 r.original ++ p.bytes)), length-append (spelled order 4 (length p.bytes)) (spelled order 4 r.original ++ p.bytes), length-append (spelled order 4 r.original) p.bytes, w4.len p.seconds, w4.len p.fraction, w4.len (length p.bytes), w4.len r.original)

reads_end : (order : Order) (index at : ℕ) (rest : List ℕ) (fault : Option PcapError) → Ends order index at rest fault → Reads order index at rest ([], fault)
reads_end order index at rest fault h = record {
  records = [];
  are_records = tt;
  left = rest;
  spelling = refl;
  packets = refl;
  ends = ends_at order index (index + 0) at (at + 0) rest fault (omega arith) (omega arith) h;
}

reads_more : (order : Order) (index at : ℕ) (rest : List ℕ) (p : Packet) (later : List ℕ) (c : Coming) → IsFirst order rest p later → Reads order (index + 1) (at + 16 + length p.bytes) later c → Reads order index at rest (p ∷ c.0, c.1)
reads_more order index at rest p later c f r =
    let flat = flat_map (record_bytes order) r.records in
    let len : length (record_bytes order f.first ++ flat) ≡ 16 + length p.bytes + length flat = omega (arith, length-append (record_bytes order f.first) flat, length-record_bytes order f.first, ap (λ (q : Packet). length q.bytes) f.same) in
    record {
      records = f.first ∷ r.records;
      are_records = (f.is_record, r.are_records);
      left = r.left;
      spelling = f.spelling ∙ ap (λ (l : List ℕ). record_bytes order f.first ++ l) r.spelling ∙ sym (append_assoc (record_bytes order f.first) flat r.left);
      packets = ap (λ (ps : List Packet). p ∷ ps) r.packets ∙ ap (λ (q : Packet). q ∷ packets_of r.records) (sym f.same);
      ends = ends_at order _ _ _ _ r.left c.1 (omega arith) (omega arith) r.ends;
    }

reads_by : (order : Order) (index at : ℕ) (rest : List ℕ) (read : Result (Option (Packet × List ℕ)) PcapError) (f : Packet → List ℕ → Coming) → IsBytes rest → record_at order index at rest ≡ read → ((p : Packet) (later : List ℕ) → record_at order index at rest ≡ Ok (Some (p, later)) → Reads order (index + 1) (at + 16 + length p.bytes) later (f p later)) → Reads order index at rest (with_record read f)
reads_by order index at rest (Err fault) f h is more = reads_end order index at rest (Some fault) (record_at-says order index at rest _ is)
reads_by order index at rest (Ok None) f h is more = reads_end order index at rest None (record_at-says order index at rest _ is)
reads_by order index at rest (Ok (Some r)) f h is more =
    reads_more order index at rest r.0 r.1 (f r.0 r.1) (record_at-spelled order index at rest r.0 r.1 h is) (more r.0 r.1 is)

reads-within : (n : ℕ) (order : Order) (index at : ℕ) (rest : List ℕ) → IsBytes rest → length rest < n → Reads order index at rest (records_within n order index at rest)
unfolding records_within
reads-within zero order index at rest h fuel = absurd (omega arith)
reads-within (suc n) order index at rest h fuel =
    reads_by order index at rest (record_at order index at rest) _ h refl (λ p later read.
    let a = record_at-after order index at rest p later read in
    let shorter = length-later rest later p a in
    let bytes = subst IsBytes (sym a.after) (IsBytes-drop (16 + length p.bytes) rest h) in
    reads-within n order (index + 1) (at + 16 + length p.bytes) later bytes (omega arith))

records_at-reads : (order : Order) (index at : ℕ) (rest : List ℕ) → IsBytes rest → Reads order index at rest (records_at order index at rest)
unfolding records_at
records_at-reads order index at rest h = reads-within (suc (length rest)) order index at rest h (omega arith)

-- ---- what is spelled is read

with_ending : (fault : Option PcapError) (f : Packet → List ℕ → Coming) → with_record (ending fault) f ≡ ([], fault)
with_ending None f = refl
with_ending (Some fault) f = refl

spelled-records : (order : Order) (records : List Record) (index at : ℕ) (left : List ℕ) (fault : Option PcapError) (n : ℕ) → AllByRecursion IsRecord records → Ends order (index + length records) (at + length (flat_map (record_bytes order) records)) left fault → length (flat_map (record_bytes order) records ++ left) < n → records_within n order index at (flat_map (record_bytes order) records ++ left) ≡ (packets_of records, fault)
unfolding records_within
spelled-records order records index at left fault zero are ends fuel = absurd (omega arith)
spelled-records order [] index at left fault (suc n) are ends fuel =
    let here = ends_at order (index + 0) index (at + 0) at left fault (omega arith) (omega arith) ends in
    ap (λ r. with_record r (λ p later. records_within n order (index + 1) (at + 16 + length p.bytes) later)) (ends-record_at order index at left fault here) ∙ with_ending fault _
spelled-records order (r ∷ rs) index at left fault (suc n) are ends fuel =
    let flat = flat_map (record_bytes order) rs in
    let parts : (record_bytes order r ++ flat) ++ left ≡ record_bytes order r ++ (flat ++ left) = append_assoc (record_bytes order r) flat left in
    let len = length-record_bytes order r in
    let read : record_at order index at ((record_bytes order r ++ flat) ++ left) ≡ Ok (Some (r.packet, flat ++ left)) = ap (record_at order index at) parts ∙ spelled-record_at order index at r (flat ++ left) are.0 in
    let later_ends = ends_at order _ (index + 1 + length rs) _ (at + 16 + length r.packet.bytes + length flat) left fault (omega arith) (omega (arith, length-append (record_bytes order r) flat)) ends in
    let later = spelled-records order rs (index + 1) (at + 16 + length r.packet.bytes) left fault n are.1 later_ends (omega (arith, ap length parts, length-append (record_bytes order r) (flat ++ left))) in
    ap (λ r'. with_record r' (λ p later. records_within n order (index + 1) (at + 16 + length p.bytes) later)) read ∙ ap (λ (m : Coming). (r.packet ∷ m.0, m.1)) later

spelled-records_at : (order : Order) (records : List Record) (index at : ℕ) (left : List ℕ) (fault : Option PcapError) → AllByRecursion IsRecord records → Ends order (index + length records) (at + length (flat_map (record_bytes order) records)) left fault → records_at order index at (flat_map (record_bytes order) records ++ left) ≡ (packets_of records, fault)
unfolding records_at
spelled-records_at order records index at left fault are ends =
    spelled-records order records index at left fault _ are ends (omega arith)

-- ---- the whole

content_by : (bytes : List ℕ) (read : Result Order PcapError) (c : Content) → IsBytes bytes → header_of bytes ≡ read → with_header read bytes ≡ Ok c → IsContent bytes c
content_by bytes (Err fault) c h is e = not_both c fault (sym e)
content_by bytes (Ok order) c h is e =
    let b = header_of-spelled bytes order h is in
    let header = read_header order bytes in
    let coming = records_at order 0 24 (drop 24 bytes) in
    let r = records_at-reads order 0 24 (drop 24 bytes) (IsBytes-drop 24 bytes h) in
    let flat = flat_map (record_bytes order) r.records in
    let read : IsContent bytes (content_from (number order 4 bytes) coming) = record {
      header = header;
      is_header = b.is_header;
      records = r.records;
      are_records = r.are_records;
      rest = r.left;
      spelling = b.spelling ∙ ap (λ (l : List ℕ). header_bytes header ++ l) r.spelling ∙ sym (append_assoc (header_bytes header) flat r.left);
      magic = refl;
      packets = r.packets;
      ends = ends_at order _ _ _ _ r.left coming.1 (omega arith) (omega (arith, length-append (header_bytes header) flat, length-header_bytes header)) r.ends;
    } in
    subst (λ (d : Content). IsContent bytes d) (ok_is _ c e) read

pub content_of-is : (bytes : List ℕ) (c : Content) → IsBytes bytes → content_of bytes ≡ Ok c → IsContent bytes c
unfolding content_of
content_of-is bytes c h e = content_by bytes (header_of bytes) c h refl e

same_content : (c : Content) (magic : ℕ) (packets : List Packet) (fault : Option PcapError) → c.magic ≡ magic → c.packets ≡ packets → c.fault ≡ fault → record { magic = magic; packets = packets; fault = fault } ≡ c
same_content c magic packets fault m p f = rw (← m, ← p, ← f) refl

spelled_content : (h : Header) (records : List Record) (rest : List ℕ) (c : Content) → IsHeader h → AllByRecursion IsRecord records → c.magic ≡ h.magic → c.packets ≡ packets_of records → Ends h.order (length records) (length (capture_bytes h records)) rest c.fault → content_of (capture_bytes h records ++ rest) ≡ Ok c
unfolding content_of
spelled_content h records rest c is are magic packets ends =
    let flat = flat_map (record_bytes h.order) records in
    let parts : capture_bytes h records ++ rest ≡ header_bytes h ++ (flat ++ rest) = append_assoc (header_bytes h) flat rest in
    let r = header-read h (flat ++ rest) is in
    let here = ends_at h.order _ (0 + length records) _ (24 + length flat) rest c.fault (omega arith) (omega (arith, length-append (header_bytes h) flat, length-header_bytes h)) ends in
    let coming : records_at h.order 0 24 (drop 24 (header_bytes h ++ (flat ++ rest))) ≡ (packets_of records, c.fault) = ap (records_at h.order 0 24) r.after ∙ spelled-records_at h.order records 0 24 rest c.fault are here in
    ap (λ (xs : List ℕ). with_header (header_of xs) xs) parts
    ∙ ap (λ (o : Result Order PcapError). with_header o (header_bytes h ++ (flat ++ rest))) (spelled-header_of h (flat ++ rest) is)
    ∙ ap (λ (n : ℕ). done (content_from n (records_at h.order 0 24 (drop 24 (header_bytes h ++ (flat ++ rest)))))) r.magic
    ∙ ap (λ (m : Coming). done (content_from h.magic m)) coming
    ∙ ap (λ (d : Content). done d) (same_content c h.magic (packets_of records) c.fault magic packets refl)

pub is-content_of : (bytes : List ℕ) (c : Content) → IsContent bytes c → content_of bytes ≡ Ok c
is-content_of bytes c i =
    ap content_of i.spelling ∙ spelled_content i.header i.records i.rest c i.is_header i.are_records i.magic i.packets i.ends

fault_by : (bytes : List ℕ) (read : Result Order PcapError) (e : PcapError) → header_of bytes ≡ read → with_header read bytes ≡ Err e → header_of bytes ≡ Err e
fault_by bytes (Err fault) e is p = is ∙ ap (λ (x : PcapError). failed x) (err_is {A = Content} fault e p)
fault_by bytes (Ok order) e is p = not_both _ e p

pub content_of-fault : (bytes : List ℕ) (e : PcapError) → content_of bytes ≡ Err e → IsHeaderFault bytes e
unfolding content_of
content_of-fault bytes e p = header_of-fault bytes e (fault_by bytes (header_of bytes) e refl p)

pub fault-content_of : (bytes : List ℕ) (e : PcapError) → IsBytes bytes → IsHeaderFault bytes e → content_of bytes ≡ Err e
unfolding content_of
fault-content_of bytes e h f = ap (λ (o : Result Order PcapError). with_header o bytes) (fault-header_of bytes e h f)

-- a capture that is written, with no fault after it
pub written-content_of : (h : Header) (rs : List Record) → IsHeader h → AllByRecursion IsRecord rs → content_of (capture_bytes h rs) ≡ Ok (record { magic = h.magic; packets = packets_of rs; fault = None })
written-content_of h rs is are =
    ap content_of (sym (append-nil (capture_bytes h rs))) ∙ spelled_content h rs [] (record { magic = h.magic; packets = packets_of rs; fault = None }) is are refl refl refl
