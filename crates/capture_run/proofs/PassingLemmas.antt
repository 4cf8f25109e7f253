-- How a reader goes on from record to record: each step's facts, joined.
use Rattle.std.proofs.Common.{◌≡◌, ℕ, ◌+◌, ◌<◌, ◌≤◌, true, List, [], ◌∷◌, ◌++◌, length, take, drop, Option, None, Ok, Err, refl, sym, ap, ◌∙◌, subst, arith, inl, inr, length-drop, take-add}
use Rattle.std.specs.Prelude.{nat_lt}
use Rattle.std.proofs.lemmas.Bool.{cases_lt, lt-ltb}
use Rattle.std.proofs.lemmas.List.{length-take, length-take-le, take_all, drop_all, drop-drop}
use Rattle.shelf_core.specs.Feeding.{Feeding}
use Rattle.beat_core.specs.list_laws.Bytes.{IsBytes}
use Rattle.beat_core.proofs.list_laws_laws.ByteLaws.{IsBytes-append}
use Rattle.pcap_core.proofs.ContentLaws.{none_at_end}
use Rattle.pcap_core.specs.declared.order.Order.{Order}
use Rattle.pcap_core.specs.declared.head.RecHead.{RecHead}
use Rattle.pcap_core.specs.declared.error.PcapError.{PcapError}
use Rattle.pcap_core.specs.declared.error.PcapError.TheVariants.{Short}
use Rattle.pcap_core.specs.Reading.{head_at, packet_of_head, record_at, Coming, records_within, records_at}
use Rattle.pcap_core.specs.Streaming.{ComesWith}
use Rattle.pcap_core.specs.Format.{Packet}
use Rattle.capture_run.specs.States.{ShelfState, Changes}
use Rattle.capture_run.specs.Passing.{Tells, GoesOn, coming_from}
use Rattle.capture_run.proofs.StateLaws.{tells_later}

-- ---- one call after another
pub tells_still : (a b : ShelfState) (name content : List ℕ) → Changes [] a b → Tells a name content → Tells b name content
tells_still a b name content c t = record { tells = tells_later a b c.later t.tells; there = c.others name tt ∙ t.there }

pub goes_on : (content : List ℕ) (a b c : Feeding) → GoesOn content a b → GoesOn content b c → GoesOn content a c
goes_on content a b c f g = record { ahead = g.ahead; bytes = λ h. g.bytes (f.bytes h) }

-- ---- bytes
-- those that were passed, with those that were given now
pub passed_more : (content given : List ℕ) (at need place : ℕ) → given ≡ take need (drop at content) → place ≡ at + length given → IsBytes given → IsBytes (take at content) → IsBytes (take place content)
passed_more content given at need place is here bytes passed =
    let P : List ℕ → Type 0 = IsBytes in
    let many : take (length given) (drop at content) ≡ given = front content given at need is in
    let whole : take place content ≡ take at content ++ given = ap (λ k. take k content) here ∙ take-add at (length given) content ∙ ap (λ l. take at content ++ l) many in
    subst P (sym whole) (IsBytes-append (take at content) given passed bytes)
  where
    front : (content given : List ℕ) (at need : ℕ) → given ≡ take need (drop at content) → take (length given) (drop at content) ≡ given
    front content given at need is = elim (cases_lt need (length (drop at content))) [
      | inl less ↦
          let len : length given ≡ need = ap length is ∙ length-take-le need (drop at content) (omega arith) in
          ap (λ k. take k (drop at content)) len ∙ sym is
      | inr all ↦
          let e : given ≡ drop at content = is ∙ take_all need (drop at content) all in
          take_all (length given) (drop at content) (omega (arith, ap length e)) ∙ sym e
    ]

-- ---- the end
pub none_from : (order : Order) (index : ℕ) (content : List ℕ) (f : Feeding) → length content ≤ f.at → coming_from order index content f ≡ ([], None)
none_from order index content f all = ap (records_at order index f.at) (drop_all f.at content all) ∙ none_at_end order index f.at

-- ---- the numbers in front
-- nothing comes only at the end
-- something comes only before it
pub some_left : (content given : List ℕ) (at need : ℕ) → given ≡ take need (drop at content) → 0 < length given → 0 < length (drop at content)
some_left content given at need is some = omega (arith, ap length is, length-take need (drop at content))

-- where the numbers were read, there are sixteen bytes
pub numbers_long : (order : Order) (index at : ℕ) (numbers : List ℕ) (h : RecHead) → Ok h ≡ head_at order index at numbers → 16 ≤ length numbers
unfolding head_at
numbers_long order index at numbers h is = elim (cases_lt (length numbers) 16) [
  | inl short ↦
      let cut : nat_lt (length numbers) 16 ≡ true = lt-ltb (length numbers) 16 short in
      let e : Ok h ≡ Err (Short at) = is ∙ rw cut refl in
      absurd (cc)
  | inr long ↦ long
]

-- ---- the packet behind them
-- after all of its numbers, a record's bytes stand sixteen further
pub body_place : (content : List ℕ) (at place n : ℕ) → place ≡ at + 16 → take n (drop place content) ≡ take n (drop 16 (drop at content))
body_place content at place n is = ap (λ k. take n (drop k content)) is ∙ ap (take n) (sym (drop-drop 16 at content))

-- the record with its packet, and what comes after it
pub comes_whole : (order : Order) (index : ℕ) (content : List ℕ) (h : RecHead) (packet : Packet) (old mid new : Feeding) → mid.at ≡ old.at + 16 → new.at ≡ mid.at + h.length → 0 < h.length → length new.given ≡ h.length → new.given ≡ take h.length (drop mid.at content) → packet ≡ packet_of_head h new.given → ComesWith order index old.at h (drop old.at content)
    → coming_from order index content old ≡ (packet ∷ (coming_from order (index + 1) content new).0, (coming_from order (index + 1) content new).1)
comes_whole order index content h packet old mid new numbers place some count given is comes =
    let rest = drop old.at content in
    let fits : 16 + h.length ≤ length rest = omega (arith, ap length given, length-take h.length (drop mid.at content), length-drop mid.at content, length-drop old.at content) in
    let bytes : take h.length (drop 16 rest) ≡ new.given = sym (body_place content old.at mid.at h.length numbers) ∙ sym given in
    let front : packet_of_head h (take h.length (drop 16 rest)) ≡ packet = ap (packet_of_head h) bytes ∙ sym is in
    let at : old.at + 16 + h.length ≡ new.at = omega arith in
    let later : drop (16 + h.length) rest ≡ drop new.at content = drop-drop (16 + h.length) old.at content ∙ ap (λ k. drop k content) (omega arith) in
    comes.whole fits
    ∙ ap (λ (p : Packet). (p ∷ (records_at order (index + 1) (old.at + 16 + h.length) (drop (16 + h.length) rest)).0, (records_at order (index + 1) (old.at + 16 + h.length) (drop (16 + h.length) rest)).1)) front
    ∙ ap (λ (k : ℕ). (packet ∷ (records_at order (index + 1) k (drop (16 + h.length) rest)).0, (records_at order (index + 1) k (drop (16 + h.length) rest)).1)) at
    ∙ ap (λ (l : List ℕ). (packet ∷ (records_at order (index + 1) new.at l).0, (records_at order (index + 1) new.at l).1)) later

-- the record whose packet is cut off
-- ---- a capture that has packets still
pub no_end : (c : Coming) (p : Packet) (rest : List Packet) (fault : Option PcapError) → c ≡ (p ∷ rest, None) → c ≡ ([], fault) → ⊥
no_end c p rest fault e f = let g : p ∷ rest ≡ [] = sym (ap (λ (m : Coming). m.0) e) ∙ ap (λ (m : Coming). m.0) f in absurd (cc)
