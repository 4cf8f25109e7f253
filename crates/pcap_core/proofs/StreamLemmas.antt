-- What is read of a part of a capture is what is read of the whole of it.
use Rattle.std.proofs.Common.{◌≡◌, ℕ, ◌+◌, ◌-◌, ◌<◌, ◌≤◌, true, false, List, [], ◌∷◌, length, take, drop, Option, Some, None, Result, Ok, Err, refl, sym, ap, ◌∙◌, arith, inl, inr, length-drop}
use Rattle.std.specs.Prelude.{◌==◌, nat_lt}
use Rattle.std.proofs.lemmas.Bool.{ne_eqb, ltb-true, ltb-false, lt-ltb, le-ltb}
use Rattle.std.proofs.lemmas.List.{length-take-le, take_all}
use Rattle.std.proofs.lemmas.Slice.{between_is}
use Rattle.byteorder.specs.Numbers.{little_from-take, big_from-take}
use Rattle.pcap_core.specs.declared.order.Order.{Order}
use Rattle.pcap_core.specs.declared.order.Order.TheVariants.{Little, Big}
use Rattle.pcap_core.specs.declared.head.RecHead.{RecHead}
use Rattle.pcap_core.specs.declared.error.PcapError.{PcapError}
use Rattle.pcap_core.specs.declared.error.PcapError.TheVariants.{Short}
use Rattle.pcap_core.specs.Number.{number}
use Rattle.pcap_core.specs.Format.{Packet}
use Rattle.pcap_core.specs.Reading.{order_of, tested, header_of, head_at, packet_of_head, with_head, record_at, with_record, records_at, content_from, with_header, content_of}
use Rattle.pcap_core.specs.Streaming.{Opened, Opens, ComesWith, Begins}
use Rattle.pcap_core.proofs.Heads.{either, failed, done, header_of-tested}
use Rattle.pcap_core.proofs.ContentLaws.{records_at-step}

-- ---- a number reads no byte past its end
number-take : (order : Order) (n m : ℕ) (xs : List ℕ) → n ≤ m → number order n (take m xs) ≡ number order n xs
unfolding number
number-take Little n m xs h = little_from-take 0 n m xs (omega arith)
number-take Big n m xs h = big_from-take 0 n m xs (omega arith)

number-within : (order : Order) (k n m : ℕ) (xs : List ℕ) → n ≤ m - k → number order n (drop k (take m xs)) ≡ number order n (drop k xs)
number-within order k n m xs h = ap (number order n) (sym (between_is xs k m)) ∙ number-take order n (m - k) (drop k xs) h

-- ---- a header
tested-take : (o : Option Order) (bytes : List ℕ) → tested o (take 24 bytes) ≡ tested o bytes
tested-take None bytes = refl
tested-take (Some order) bytes =
    let v1 : number order 2 (drop 4 (take 24 bytes)) ≡ number order 2 (drop 4 bytes) = number-within order 4 2 24 bytes (omega arith) in
    let v2 : number order 2 (drop 6 (take 24 bytes)) ≡ number order 2 (drop 6 bytes) = number-within order 6 2 24 bytes (omega arith) in
    let link : number order 4 (drop 20 (take 24 bytes)) ≡ number order 4 (drop 20 bytes) = number-within order 20 4 24 bytes (omega arith) in
    rw (v1, v2, link) refl

order_of-take : (bytes : List ℕ) → order_of (take 24 bytes) ≡ order_of bytes
order_of-take bytes =
    let little : number Little 4 (take 24 bytes) ≡ number Little 4 bytes = number-take Little 4 24 bytes (omega arith) in
    let big : number Big 4 (take 24 bytes) ≡ number Big 4 bytes = number-take Big 4 24 bytes (omega arith) in
    rw (little, big) refl

header_of-take : (bytes : List ℕ) → header_of (take 24 bytes) ≡ header_of bytes
unfolding header_of
header_of-take bytes = elim (either (nat_lt (length bytes) 24)) [
  | inl short ↦
      let all : take 24 bytes ≡ bytes = take_all 24 bytes (omega (arith, ltb-true _ 24 short)) in
      rw all refl
  | inr long ↦
      let many : length (take 24 bytes) ≡ 24 = length-take-le 24 bytes (ltb-false _ 24 long) in
      rw (many, long) (ap (λ o. tested o (take 24 bytes)) (order_of-take bytes) ∙ tested-take (order_of bytes) bytes)
]

pub opens : (header bytes : List ℕ) (order : Order) (magic : ℕ) → Ok order ≡ header_of header → magic ≡ number order 4 header → header ≡ take 24 bytes → Opens (done {A = Opened} (record { order = order; magic = magic })) bytes
unfolding content_of
opens header bytes order magic is m front =
    let whole : Ok order ≡ header_of bytes = is ∙ ap header_of front ∙ header_of-take bytes in
    let number_is : magic ≡ number order 4 bytes = m ∙ ap (number order 4) front ∙ number-take order 4 24 bytes (omega arith) in
    ((header_of-tested bytes order (sym whole)).long, ap (λ o. with_header o bytes) (sym whole) ∙ ap (λ n. done (content_from n (records_at order 0 24 (drop 24 bytes)))) (sym number_is))

pub opens_not : (header bytes : List ℕ) (fault : PcapError) → Err fault ≡ header_of header → header ≡ take 24 bytes → Opens (failed {A = Opened} fault) bytes
unfolding content_of
opens_not header bytes fault is front = ap (λ o. with_header o bytes) (sym (is ∙ ap header_of front ∙ header_of-take bytes))

-- ---- the numbers of a record
head_at-take : (order : Order) (index at : ℕ) (rest : List ℕ) → head_at order index at (take 16 rest) ≡ head_at order index at rest
unfolding head_at
head_at-take order index at rest = elim (either (nat_lt (length rest) 16)) [
  | inl short ↦
      let all : take 16 rest ≡ rest = take_all 16 rest (omega (arith, ltb-true _ 16 short)) in
      rw all refl
  | inr long ↦
      let many : length (take 16 rest) ≡ 16 = length-take-le 16 rest (ltb-false _ 16 long) in
      let seconds : number order 4 (take 16 rest) ≡ number order 4 rest = number-take order 4 16 rest (omega arith) in
      let fraction : number order 4 (drop 4 (take 16 rest)) ≡ number order 4 (drop 4 rest) = number-within order 4 4 16 rest (omega arith) in
      let len : number order 4 (drop 8 (take 16 rest)) ≡ number order 4 (drop 8 rest) = number-within order 8 4 16 rest (omega arith) in
      rw (many, long, seconds, fraction, len) refl
]

-- what comes, by what is read in front
coming_by : (order : Order) (index at : ℕ) (rest : List ℕ) (read : Result (Option (Packet × List ℕ)) PcapError) → record_at order index at rest ≡ read → records_at order index at rest ≡ with_record read (λ p later. records_at order (index + 1) (at + 16 + length p.bytes) later)
coming_by order index at rest read is =
    records_at-step order index at rest ∙ ap (λ r. with_record r (λ p later. records_at order (index + 1) (at + 16 + length p.bytes) later)) is

record_at-headed : (order : Order) (index at : ℕ) (rest : List ℕ) (head : Result RecHead PcapError) → 0 < length rest → head_at order index at rest ≡ head → record_at order index at rest ≡ with_head head at rest
unfolding record_at
record_at-headed order index at rest head left is =
    let some : (length rest == 0) ≡ false = ne_eqb (length rest) 0 (omega arith) in
    rw some (ap (λ h. with_head h at rest) is)

comes_with : (order : Order) (index at : ℕ) (rest : List ℕ) (h : RecHead) → record_at order index at rest ≡ with_head (Ok h) at rest → ComesWith order index at h rest
comes_with order index at rest h is = record {
  whole = λ fits.
      let long : nat_lt (length rest) (16 + h.length) ≡ false = le-ltb _ _ fits in
      let bytes = take h.length (drop 16 rest) in
      let many : length bytes ≡ h.length = length-take-le h.length (drop 16 rest) (omega (arith, fits, length-drop 16 rest)) in
      let read : record_at order index at rest ≡ Ok (Some (packet_of_head h bytes, drop (16 + h.length) rest)) = is ∙ rw long refl in
      coming_by order index at rest _ read
      ∙ ap (λ (n : ℕ). (packet_of_head h bytes ∷ (records_at order (index + 1) (at + 16 + n) (drop (16 + h.length) rest)).0, (records_at order (index + 1) (at + 16 + n) (drop (16 + h.length) rest)).1)) many;
  cut = λ short.
      let cut : nat_lt (length rest) (16 + h.length) ≡ true = lt-ltb _ _ short in
      let read : record_at order index at rest ≡ Err (Short at) = is ∙ rw cut refl in
      coming_by order index at rest _ read;
}

pub begins : (order : Order) (index at : ℕ) (numbers rest : List ℕ) (head : Result RecHead PcapError) → head ≡ head_at order index at numbers → numbers ≡ take 16 rest → 0 < length rest → Begins head order index at rest
begins order index at numbers rest head is front left =
    by_head head (record_at-headed order index at rest head left (sym (is ∙ ap (head_at order index at) front ∙ head_at-take order index at rest)))
  where
    by_head : (head : Result RecHead PcapError) → record_at order index at rest ≡ with_head head at rest → Begins head order index at rest
    by_head (Ok h) read = comes_with order index at rest h read
    by_head (Err fault) read = coming_by order index at rest (Err fault) read
