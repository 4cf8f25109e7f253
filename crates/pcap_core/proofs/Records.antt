-- A record is read where it is spelled, and else the end or the fault there.
use Rattle.std.proofs.Common.{◌≡◌, ℕ, zero, suc, ◌+◌, ◌<◌, ◌≤◌, Bool, true, false, List, [], ◌++◌, length, take, drop, Option, Some, None, Result, Ok, Err, refl, sym, ap, subst, ◌∙◌, arith, inl, inr, length-append, length-drop}
use Rattle.std.specs.Prelude.{◌==◌, nat_lt, nat_le, ◌&&◌}
use Rattle.std.proofs.lemmas.Bool.{eqb-true, ne_eqb, ltb-true, ltb-false, lt-ltb, le-ltb, leb-true, le-leb}
use Rattle.std.proofs.lemmas.List.{length-take-le, take_at, drop-drop, take-append-drop, nil_from_length}
use Rattle.pcap_core.specs.declared.order.Order.{Order}
use Rattle.pcap_core.specs.declared.error.PcapError.{PcapError}
use Rattle.pcap_core.specs.declared.error.PcapError.TheVariants.{Short, Magic, Version, Link, Frame}
use Rattle.pcap_core.specs.Number.{number, spelled}
use Rattle.pcap_core.specs.Format.{Packet, Record, IsLength, IsRecord, record_bytes, announced, Ends}
use Rattle.pcap_core.specs.Reading.{is_length, packet_at, head_at, record_at}
use Rattle.pcap_core.proofs.Numbers.{wide4}
use Rattle.pcap_core.proofs.Parts.{behind, number_behind, four_parts, five_before}
use Rattle.pcap_core.proofs.Heads.{either}
use Rattle.beat_core.specs.declared.frame.TheConstants.{FRAME_LIMIT}
use Rattle.beat_core.specs.list_laws.Bytes.{IsBytes}
use Rattle.beat_core.proofs.list_laws_laws.ByteLaws.{IsBytes-drop, IsBytes-take}

-- ---- the cases of a record

is_length-true : (n : ℕ) → is_length n ≡ true → IsLength n
is_length-true n h = both (nat_le 1 n) (nat_le n FRAME_LIMIT) h (leb-true 1 n) (leb-true n FRAME_LIMIT) where
  both : (a b : Bool) → (a && b) ≡ true → (a ≡ true → 1 ≤ n) → (b ≡ true → n ≤ FRAME_LIMIT) → IsLength n
  both true true h f g = (f refl, g refl)
  both true false h f g = absurd cc
  both false b h f g = absurd cc

IsLength-is_length : (n : ℕ) → IsLength n → is_length n ≡ true
IsLength-is_length n h =
    let low : nat_le 1 n ≡ true = le-leb 1 n h.0 in
    let high : nat_le n FRAME_LIMIT ≡ true = le-leb n FRAME_LIMIT h.1 in
    rw (low, high) refl

is_length-false : (n : ℕ) → is_length n ≡ false → ¬ IsLength n
is_length-false n h m = let t : is_length n ≡ true = IsLength-is_length n m in absurd cc

-- a whole record stands in front, of this packet and with this after it
pub record IsWhole (order : Order) (rest : List ℕ) (read : Packet × List ℕ) : Type 0 where
  pub right : IsLength (announced order rest)
  pub fits : 16 + announced order rest ≤ length rest
  pub is : read ≡ (packet_at order (announced order rest) rest, drop (16 + announced order rest) rest)

-- what is read says what is left: nothing, a fault, or a whole record
abbrev pub Says : Order → ℕ → ℕ → List ℕ → Result (Option (Packet × List ℕ)) PcapError → Type 0
Says order index at rest (Err fault) = Ends order index at rest (Some fault)
Says order index at rest (Ok None) = rest ≡ []
Says order index at rest (Ok (Some read)) = IsWhole order rest read

some_from : (n : ℕ) → (n == 0) ≡ false → 0 < n
some_from zero h = absurd cc
some_from (suc n) h = omega arith

says : (order : Order) (index at : ℕ) (rest : List ℕ) → Says order index at rest (record_at order index at rest)
unfolding record_at head_at
says order index at rest = elim (either (length rest == 0)) [
  | inl none ↦ rw none (nil_from_length rest (eqb-true _ 0 none))
  | inr some ↦ elim (either (nat_lt (length rest) 16)) [
    | inl cut ↦ rw (some, cut) (refl, some_from (length rest) some, (λ long. absurd (omega (arith, ltb-true _ 16 cut, long))))
    | inr long ↦ elim (either (is_length (announced order rest))) [
      | inr wrong ↦ rw (some, long, wrong) (refl, ltb-false _ 16 long, refl, is_length-false _ wrong)
      | inl right ↦ elim (either (nat_lt (length rest) (16 + announced order rest))) [
        | inl cut ↦ rw (some, long, right, cut) (refl, some_from (length rest) some, (λ _. (is_length-true _ right, ltb-true _ _ cut)))
        | inr fits ↦ rw (some, long, right, fits) (record { right = is_length-true _ right; fits = ltb-false _ _ fits; is = refl })
      ]
    ]
  ]
]

pub record_at-says : (order : Order) (index at : ℕ) (rest : List ℕ) (read : Result (Option (Packet × List ℕ)) PcapError) → record_at order index at rest ≡ read → Says order index at rest read
record_at-says order index at rest read is = subst (λ r. Says order index at rest r) is (says order index at rest)

-- ---- what is read is spelled

-- a packet in front, with the numbers of its record
pub record IsFirst (order : Order) (rest : List ℕ) (packet : Packet) (later : List ℕ) : Type 0 where
  pub first : Record
  pub is_record : IsRecord first
  pub same : first.packet ≡ packet
  pub spelling : rest ≡ record_bytes order first ++ later

-- the record in front, where it is whole
abbrev first_record : Order → List ℕ → Record
first_record order rest = record { packet = packet_at order (announced order rest) rest; original = number order 4 (drop 12 rest) }

first_spelled : (order : Order) (rest : List ℕ) → IsBytes rest → IsLength (announced order rest) → 16 + announced order rest ≤ length rest → IsFirst order rest (packet_at order (announced order rest) rest) (drop (16 + announced order rest) rest)
first_spelled order rest h is long =
    let w4 = wide4 order in
    let n = announced order rest in
    let bytes = take n (drop 16 rest) in
    let later = drop (16 + n) rest in
    let len : length bytes ≡ n = length-take-le n (drop 16 rest) (omega (arith, length-drop 16 rest)) in
    let s : rest ≡ spelled order 4 (number order 4 rest) ++ drop 4 rest = number_behind order 4 w4 0 rest h (omega arith) in
    let f : drop 4 rest ≡ spelled order 4 (number order 4 (drop 4 rest)) ++ drop 8 rest = number_behind order 4 w4 4 rest h (omega arith) in
    let l : drop 8 rest ≡ spelled order 4 (length bytes) ++ drop 12 rest = number_behind order 4 w4 8 rest h (omega arith) ∙ ap (λ (k : ℕ). spelled order 4 k ++ drop 12 rest) (sym len) in
    let o : drop 12 rest ≡ spelled order 4 (number order 4 (drop 12 rest)) ++ drop 16 rest = number_behind order 4 w4 12 rest h (omega arith) in
    let b : drop 16 rest ≡ bytes ++ later = sym (take-append-drop n (drop 16 rest)) ∙ ap (λ (r : List ℕ). bytes ++ r) (drop-drop n 16 rest) in
    let four = four_parts rest _ _ _ _ (drop 4 rest) (drop 8 rest) (drop 12 rest) (drop 16 rest) s f l o in
    record {
      first = first_record order rest;
      is_record = record {
        seconds = w4.below rest h;
        fraction = w4.below (drop 4 rest) (IsBytes-drop 4 rest h);
        original = w4.below (drop 12 rest) (IsBytes-drop 12 rest h);
        bytes = IsBytes-take n (drop 16 rest) (IsBytes-drop 16 rest h);
        len = subst IsLength (sym len) is;
      };
      same = refl;
      spelling = four ∙ ap (λ (r : List ℕ). spelled order 4 (number order 4 rest) ++ (spelled order 4 (number order 4 (drop 4 rest)) ++ (spelled order 4 (length bytes) ++ (spelled order 4 (number order 4 (drop 12 rest)) ++ r)))) b ∙ sym (five_before (spelled order 4 (number order 4 rest)) (spelled order 4 (number order 4 (drop 4 rest))) (spelled order 4 (length bytes)) (spelled order 4 (number order 4 (drop 12 rest))) bytes later);
    }

-- what follows a packet that was read
pub record IsAfter (rest : List ℕ) (packet : Packet) (later : List ℕ) : Type 0 where
  pub len : IsLength (length packet.bytes)
  pub fits : 16 + length packet.bytes ≤ length rest
  pub after : later ≡ drop (16 + length packet.bytes) rest

pub record_at-after : (order : Order) (index at : ℕ) (rest : List ℕ) (packet : Packet) (later : List ℕ) → record_at order index at rest ≡ Ok (Some (packet, later)) → IsAfter rest packet later
record_at-after order index at rest packet later read =
    let w = record_at-says order index at rest _ read in
    let n = announced order rest in
    let bytes : packet.bytes ≡ take n (drop 16 rest) = ap (λ (r : Packet × List ℕ). r.0.bytes) w.is in
    let len : length packet.bytes ≡ n = ap length bytes ∙ length-take-le n (drop 16 rest) (omega (arith, length-drop 16 rest, w.fits)) in
    record {
      len = subst IsLength (sym len) w.right;
      fits = omega (arith, w.fits);
      after = ap (λ (r : Packet × List ℕ). r.1) w.is ∙ ap (λ (k : ℕ). drop (16 + k) rest) (sym len);
    }

pub record_at-spelled : (order : Order) (index at : ℕ) (rest : List ℕ) (packet : Packet) (later : List ℕ) → IsBytes rest → record_at order index at rest ≡ Ok (Some (packet, later)) → IsFirst order rest packet later
record_at-spelled order index at rest packet later h read =
    let w = record_at-says order index at rest _ read in
    subst (λ (r : Packet × List ℕ). IsFirst order rest r.0 r.1) (sym w.is) (first_spelled order rest h w.right w.fits)

-- ---- what is spelled is read

whole-record_at : (order : Order) (index at : ℕ) (rest : List ℕ) → IsLength (announced order rest) → 16 + announced order rest ≤ length rest → record_at order index at rest ≡ Ok (Some (packet_at order (announced order rest) rest, drop (16 + announced order rest) rest))
unfolding record_at head_at
whole-record_at order index at rest right fits =
    let some : (length rest == 0) ≡ false = ne_eqb (length rest) 0 (omega arith) in
    let long : nat_lt (length rest) 16 ≡ false = le-ltb (length rest) 16 (omega arith) in
    let known : is_length (announced order rest) ≡ true = IsLength-is_length _ right in
    let whole : nat_lt (length rest) (16 + announced order rest) ≡ false = le-ltb _ _ fits in
    rw (some, long, known, whole) refl

pub spelled-record_at : (order : Order) (index at : ℕ) (r : Record) (later : List ℕ) → IsRecord r → record_at order index at (record_bytes order r ++ later) ≡ Ok (Some (r.packet, later))
spelled-record_at order index at r later is =
    let w4 = wide4 order in
    let bytes = r.packet.bytes in
    let xs = record_bytes order r ++ later in
    let x4 = bytes ++ later in
    let x3 = spelled order 4 r.original ++ x4 in
    let x2 = spelled order 4 (length bytes) ++ x3 in
    let x1 = spelled order 4 r.packet.fraction ++ x2 in
    let spelling : xs ≡ spelled order 4 r.packet.seconds ++ x1 = five_before (spelled order 4 r.packet.seconds) (spelled order 4 r.packet.fraction) (spelled order 4 (length bytes)) (spelled order 4 r.original) bytes later in
    let d4 : drop 4 xs ≡ x1 = behind 0 4 xs (spelled order 4 r.packet.seconds) x1 spelling (w4.len r.packet.seconds) in
    let d8 : drop 8 xs ≡ x2 = behind 4 4 xs (spelled order 4 r.packet.fraction) x2 d4 (w4.len r.packet.fraction) in
    let d12 : drop 12 xs ≡ x3 = behind 8 4 xs (spelled order 4 (length bytes)) x3 d8 (w4.len (length bytes)) in
    let d16 : drop 16 xs ≡ x4 = behind 12 4 xs (spelled order 4 r.original) x4 d12 (w4.len r.original) in
    let seconds : number order 4 xs ≡ r.packet.seconds = ap (number order 4) spelling ∙ w4.again r.packet.seconds x1 is.seconds in
    let fraction : number order 4 (drop 4 xs) ≡ r.packet.fraction = ap (number order 4) d4 ∙ w4.again r.packet.fraction x2 is.fraction in
    let len : announced order xs ≡ length bytes = ap (number order 4) d8 ∙ w4.again (length bytes) x3 (omega (arith, is.len)) in
    let front : take (announced order xs) (drop 16 xs) ≡ bytes = ap (take (announced order xs)) d16 ∙ take_at bytes later (announced order xs) (sym len) in
    let after : drop (16 + announced order xs) xs ≡ later = behind 16 (announced order xs) xs bytes later d16 (sym len) in
    let fits : 16 + announced order xs ≤ length xs = omega (arith, ap length d16, length-append bytes later, length-drop 16 xs, is.len) in
    whole-record_at order index at xs (subst IsLength (sym len) is.len) fits
    ∙ rw (seconds, fraction, front, after) refl

-- what is read where the records end
abbrev pub ending : Option PcapError → Result (Option (Packet × List ℕ)) PcapError
ending None = Ok None
ending (Some fault) = Err fault

cut-record_at : (order : Order) (index at : ℕ) (rest : List ℕ) → 0 < length rest → (16 ≤ length rest → IsLength (announced order rest) × (length rest < 16 + announced order rest)) → record_at order index at rest ≡ Err (Short at)
unfolding record_at head_at
cut-record_at order index at rest left h =
    let some : (length rest == 0) ≡ false = ne_eqb (length rest) 0 (omega arith) in
    elim (either (nat_lt (length rest) 16)) [
      | inl cut ↦ rw (some, cut) refl
      | inr long ↦
          let b = h (ltb-false _ 16 long) in
          let known : is_length (announced order rest) ≡ true = IsLength-is_length _ b.0 in
          let cut : nat_lt (length rest) (16 + announced order rest) ≡ true = lt-ltb _ _ b.1 in
          rw (some, long, known, cut) refl
    ]

pub ends-record_at : (order : Order) (index at : ℕ) (rest : List ℕ) (fault : Option PcapError) → Ends order index at rest fault → record_at order index at rest ≡ ending fault
unfolding record_at head_at
ends-record_at order index at rest None e = rw e refl
ends-record_at order index at rest (Some (Short place)) e =
    rw e.0 (cut-record_at order index at rest e.1 e.2)
ends-record_at order index at rest (Some (Frame i n)) e =
    let some : (length rest == 0) ≡ false = ne_eqb (length rest) 0 (omega (arith, e.1)) in
    let long : nat_lt (length rest) 16 ≡ false = le-ltb (length rest) 16 e.1 in
    let wrong : is_length (announced order rest) ≡ false = elim (either (is_length (announced order rest))) [ inl right ↦ absurd (e.3 (subst IsLength (sym e.2) (is_length-true _ right))) | inr wrong ↦ wrong ] in
    rw (some, long, wrong, e.0, e.2) refl
ends-record_at order index at rest (Some Magic) e = absurd e
ends-record_at order index at rest (Some Version) e = absurd e
ends-record_at order index at rest (Some (Link n)) e = absurd e
