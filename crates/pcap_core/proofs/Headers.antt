-- A header without fault is spelled, and a spelled header has no fault.
use Rattle.std.proofs.Common.{◌≡◌, ℕ, ◌^◌, ◌<◌, ◌≤◌, List, ◌++◌, length, drop, Some, Ok, sym, ap, subst, ◌∙◌, arith, inl, inr, length-append}
use Rattle.pcap_core.specs.declared.order.Order.{Order}
use Rattle.pcap_core.specs.Number.{number, spelled}
use Rattle.pcap_core.specs.Format.{IsMagic, Header, IsHeader, header_bytes, BeginsIn}
use Rattle.pcap_core.specs.Reading.{order_of, header_of}
use Rattle.pcap_core.proofs.Numbers.{wide2, wide4}
use Rattle.pcap_core.proofs.Parts.{behind, number_behind, three_parts, four_parts, seven_before}
use Rattle.pcap_core.proofs.Heads.{IsTested, header_of-tested, tested-header_of, spelled-order_of}
use Rattle.beat_core.specs.list_laws.Bytes.{IsBytes}
use Rattle.beat_core.proofs.list_laws_laws.ByteLaws.{IsBytes-drop}

-- ---- what is read is spelled

-- the header of bytes whose header has no fault
abbrev pub read_header : Order → List ℕ → Header
read_header order bytes = record {
  order = order;
  magic = number order 4 bytes;
  zone = number order 4 (drop 8 bytes);
  accuracy = number order 4 (drop 12 bytes);
  snap = number order 4 (drop 16 bytes);
}

-- the bytes are this header, and what stands after it
pub record IsSpelled (order : Order) (bytes : List ℕ) : Type 0 where
  pub is_header : IsHeader (read_header order bytes)
  pub spelling : bytes ≡ header_bytes (read_header order bytes) ++ drop 24 bytes

pub header_of-spelled : (bytes : List ℕ) (order : Order) → IsBytes bytes → header_of bytes ≡ Ok order → IsSpelled order bytes
header_of-spelled bytes order h is =
    let t = header_of-tested bytes order is in
    let long : 24 ≤ length bytes = t.long in
    let w4 = wide4 order in
    let w2 = wide2 order in
    let m : bytes ≡ spelled order 4 (number order 4 bytes) ++ drop 4 bytes = number_behind order 4 w4 0 bytes h (omega arith) in
    let v1 : drop 4 bytes ≡ spelled order 2 2 ++ drop 6 bytes = number_behind order 2 w2 4 bytes h (omega arith) ∙ ap (λ (n : ℕ). spelled order 2 n ++ drop 6 bytes) t.version.0 in
    let v2 : drop 6 bytes ≡ spelled order 2 4 ++ drop 8 bytes = number_behind order 2 w2 6 bytes h (omega arith) ∙ ap (λ (n : ℕ). spelled order 2 n ++ drop 8 bytes) t.version.1 in
    let z : drop 8 bytes ≡ spelled order 4 (number order 4 (drop 8 bytes)) ++ drop 12 bytes = number_behind order 4 w4 8 bytes h (omega arith) in
    let a : drop 12 bytes ≡ spelled order 4 (number order 4 (drop 12 bytes)) ++ drop 16 bytes = number_behind order 4 w4 12 bytes h (omega arith) in
    let s : drop 16 bytes ≡ spelled order 4 (number order 4 (drop 16 bytes)) ++ drop 20 bytes = number_behind order 4 w4 16 bytes h (omega arith) in
    let l : drop 20 bytes ≡ spelled order 4 1 ++ drop 24 bytes = number_behind order 4 w4 20 bytes h (omega arith) ∙ ap (λ (n : ℕ). spelled order 4 n ++ drop 24 bytes) t.link in
    let back = four_parts (drop 8 bytes) _ _ _ _ (drop 12 bytes) (drop 16 bytes) (drop 20 bytes) (drop 24 bytes) z a s l in
    let front = three_parts bytes _ _ _ (drop 4 bytes) (drop 6 bytes) (drop 8 bytes) _ m v1 v2 back in
    record {
      is_header = record { magic = t.begins; zone = w4.below (drop 8 bytes) (IsBytes-drop 8 bytes h); accuracy = w4.below (drop 12 bytes) (IsBytes-drop 12 bytes h); snap = w4.below (drop 16 bytes) (IsBytes-drop 16 bytes h) };
      spelling = front ∙ sym (seven_before (spelled order 4 (number order 4 bytes)) (spelled order 2 2) (spelled order 2 4) (spelled order 4 (number order 4 (drop 8 bytes))) (spelled order 4 (number order 4 (drop 12 bytes))) (spelled order 4 (number order 4 (drop 16 bytes))) (spelled order 4 1) (drop 24 bytes));
    }

-- ---- what is spelled is read

-- A spelled header, and what stands after it: each number is read at its place.
pub record IsRead (h : Header) (rest : List ℕ) : Type 0 where
  pub magic : number h.order 4 (header_bytes h ++ rest) ≡ h.magic
  pub order : order_of (header_bytes h ++ rest) ≡ Some h.order
  pub tested : IsTested h.order (header_bytes h ++ rest)
  pub len : length (header_bytes h) ≡ 24
  pub after : drop 24 (header_bytes h ++ rest) ≡ rest

pub length-header_bytes : (h : Header) → length (header_bytes h) ≡ 24
length-header_bytes h =
    let o = h.order in
    omega (arith, length-append (spelled o 4 h.magic) (spelled o 2 2 ++ (spelled o 2 4 ++ (spelled o 4 h.zone ++ (spelled o 4 h.accuracy ++ (spelled o 4 h.snap ++ spelled o 4 1))))), length-append (spelled o 2 2) (spelled o 2 4 ++ (spelled o 4 h.zone ++ (spelled o 4 h.accuracy ++ (spelled o 4 h.snap ++ spelled o 4 1)))), length-append (spelled o 2 4) (spelled o 4 h.zone ++ (spelled o 4 h.accuracy ++ (spelled o 4 h.snap ++ spelled o 4 1))), length-append (spelled o 4 h.zone) (spelled o 4 h.accuracy ++ (spelled o 4 h.snap ++ spelled o 4 1)), length-append (spelled o 4 h.accuracy) (spelled o 4 h.snap ++ spelled o 4 1), length-append (spelled o 4 h.snap) (spelled o 4 1), (wide4 o).len h.magic, (wide2 o).len 2, (wide2 o).len 4, (wide4 o).len h.zone, (wide4 o).len h.accuracy, (wide4 o).len h.snap, (wide4 o).len 1)

magic_fits : (n : ℕ) → IsMagic n → n < 256 ^ 4
magic_fits n (inl e) = omega arith
magic_fits n (inr e) = omega arith

pub header-read : (h : Header) (rest : List ℕ) → IsHeader h → IsRead h rest
header-read h rest is =
    let o = h.order in
    let w4 = wide4 o in
    let w2 = wide2 o in
    let xs = header_bytes h ++ rest in
    let x6 = spelled o 4 1 ++ rest in
    let x5 = spelled o 4 h.snap ++ x6 in
    let x4 = spelled o 4 h.accuracy ++ x5 in
    let x3 = spelled o 4 h.zone ++ x4 in
    let x2 = spelled o 2 4 ++ x3 in
    let x1 = spelled o 2 2 ++ x2 in
    let spelling : xs ≡ spelled o 4 h.magic ++ x1 = seven_before (spelled o 4 h.magic) (spelled o 2 2) (spelled o 2 4) (spelled o 4 h.zone) (spelled o 4 h.accuracy) (spelled o 4 h.snap) (spelled o 4 1) rest in
    let d4 : drop 4 xs ≡ x1 = behind 0 4 xs (spelled o 4 h.magic) x1 spelling (w4.len h.magic) in
    let d6 : drop 6 xs ≡ x2 = behind 4 2 xs (spelled o 2 2) x2 d4 (w2.len 2) in
    let d8 : drop 8 xs ≡ x3 = behind 6 2 xs (spelled o 2 4) x3 d6 (w2.len 4) in
    let d12 : drop 12 xs ≡ x4 = behind 8 4 xs (spelled o 4 h.zone) x4 d8 (w4.len h.zone) in
    let d16 : drop 16 xs ≡ x5 = behind 12 4 xs (spelled o 4 h.accuracy) x5 d12 (w4.len h.accuracy) in
    let d20 : drop 20 xs ≡ x6 = behind 16 4 xs (spelled o 4 h.snap) x6 d16 (w4.len h.snap) in
    let d24 : drop 24 xs ≡ rest = behind 20 4 xs (spelled o 4 1) rest d20 (w4.len 1) in
    let magic : number o 4 xs ≡ h.magic = ap (number o 4) spelling ∙ w4.again h.magic x1 (magic_fits h.magic is.magic) in
    let major : number o 2 (drop 4 xs) ≡ 2 = ap (number o 2) d4 ∙ w2.again 2 x2 (omega arith) in
    let minor : number o 2 (drop 6 xs) ≡ 4 = ap (number o 2) d6 ∙ w2.again 4 x3 (omega arith) in
    let link : number o 4 (drop 20 xs) ≡ 1 = ap (number o 4) d20 ∙ w4.again 1 rest (omega arith) in
    let begins : BeginsIn o xs = subst IsMagic (sym magic) is.magic in
    let order : order_of xs ≡ Some o = ap order_of spelling ∙ spelled-order_of o h.magic x1 (subst (λ (ys : List ℕ). BeginsIn o ys) spelling begins) in
    let long : 24 ≤ length xs = omega (arith, length-append (header_bytes h) rest, length-header_bytes h) in
    record {
      magic = magic;
      order = order;
      tested = record { long = long; begins = begins; version = (major, minor); link = link };
      len = length-header_bytes h;
      after = d24;
    }

pub spelled-header_of : (h : Header) (rest : List ℕ) → IsHeader h → header_of (header_bytes h ++ rest) ≡ Ok h.order
spelled-header_of h rest is =
    let r = header-read h rest is in
    tested-header_of (header_bytes h ++ rest) h.order r.tested r.order
