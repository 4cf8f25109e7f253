-- A header is read where it is spelled, and its first fault where it is not.
use Rattle.std.proofs.Common.{◌≡◌, ℕ, ◌<◌, ◌≤◌, ◌⊎◌, Bool, true, false, List, ◌++◌, length, drop, get_or, Option, Some, None, Result, Ok, Err, refl, sym, ap, subst, ◌∙◌, arith, inl, inr}
use Rattle.std.specs.Prelude.{◌==◌, nat_lt, ◌||◌}
use Rattle.std.proofs.lemmas.Bool.{eqb-true, eq-eqb, ltb-true, ltb-false, lt-ltb, le-ltb}
use Rattle.pcap_core.specs.declared.order.Order.{Order}
use Rattle.pcap_core.specs.declared.order.Order.TheVariants.{Little, Big}
use Rattle.pcap_core.specs.declared.error.PcapError.{PcapError}
use Rattle.pcap_core.specs.declared.error.PcapError.TheVariants.{Short, Magic, Version, Link, Frame}
use Rattle.pcap_core.specs.Number.{number, spelled}
use Rattle.pcap_core.specs.Format.{IsMagic, BeginsIn, IsVersion, IsHeaderFault}
use Rattle.pcap_core.specs.Reading.{is_magic, is_version, order_of, tested, header_of}
use Rattle.beat_core.specs.list_laws.Bytes.{IsBytes}
use Rattle.beat_core.proofs.list_laws_laws.BoolLaws.{both_of, either_of}

-- ---- tests and choices

pub either : (b : Bool) → (b ≡ true) ⊎ (b ≡ false)
either true = inl refl
either false = inr refl

abbrev pub failed : {A : Type 0} → PcapError → Result A PcapError
failed e = Err e

abbrev pub done : {A : Type 0} → A → Result A PcapError
done x = Ok x

pub err_is : {A : Type 0} (d e : PcapError) → failed {A = A} d ≡ failed e → d ≡ e
err_is d e p = cc

pub ok_is : {A : Type 0} (x y : A) → done x ≡ done y → x ≡ y
ok_is x y p = cc

pub not_both : {A B : Type 0} (x : A) (e : PcapError) → done x ≡ failed e → B
not_both x e p = absurd cc

abbrev pub some : {A : Type 0} → A → Option A
some x = Some x

pub some_is : {A : Type 0} (x y : A) → some x ≡ some y → x ≡ y
some_is x y p = cc

-- ---- the tests of a header

is_magic-true : (n : ℕ) → is_magic n ≡ true → IsMagic n
is_magic-true n h = elim (either_of (n == 0xa1b2c3d4) (n == 0xa1b23c4d) h) [
  | inl micro ↦ inl (eqb-true n 0xa1b2c3d4 micro)
  | inr nano ↦ inr (eqb-true n 0xa1b23c4d nano)
]

pub IsMagic-is_magic : (n : ℕ) → IsMagic n → is_magic n ≡ true
IsMagic-is_magic n (inl e) = rw e refl
IsMagic-is_magic n (inr e) = rw e refl

is_version-true : (order : Order) (bytes : List ℕ) → is_version order bytes ≡ true → IsVersion order bytes
is_version-true order bytes h =
    let both = both_of (number order 2 (drop 4 bytes) == 2) (number order 2 (drop 6 bytes) == 4) h in
    (eqb-true _ 2 both.0, eqb-true _ 4 both.1)

pub IsVersion-is_version : (order : Order) (bytes : List ℕ) → IsVersion order bytes → is_version order bytes ≡ true
IsVersion-is_version order bytes h = rw (h.0, h.1) refl

is_version-false : (order : Order) (bytes : List ℕ) → is_version order bytes ≡ false → ¬ IsVersion order bytes
is_version-false order bytes h v = let t : is_version order bytes ≡ true = IsVersion-is_version order bytes v in absurd cc

-- no four bytes are a magic number in both orders
one_order : (bytes : List ℕ) → get_or bytes 0 0 < 256 → get_or bytes 1 0 < 256 → get_or bytes 2 0 < 256 → get_or bytes 3 0 < 256 → BeginsIn Little bytes → BeginsIn Big bytes → ⊥
unfolding number
one_order bytes b0 b1 b2 b3 (inl l) (inl b) = omega arith
one_order bytes b0 b1 b2 b3 (inl l) (inr b) = omega arith
one_order bytes b0 b1 b2 b3 (inr l) (inl b) = omega arith
one_order bytes b0 b1 b2 b3 (inr l) (inr b) = omega arith

order_of-some : (order : Order) (bytes : List ℕ) → order_of bytes ≡ Some order → BeginsIn order bytes
order_of-some order bytes h = elim (either (is_magic (number Little 4 bytes))) [
  | inl little ↦
      let e : some Little ≡ Some order = (rw little refl) ∙ h in
      subst (λ (o : Order). BeginsIn o bytes) (some_is Little order e) (is_magic-true _ little)
  | inr other ↦ elim (either (is_magic (number Big 4 bytes))) [
    | inl big ↦
        let e : some Big ≡ Some order = (rw (other, big) refl) ∙ h in
        subst (λ (o : Order). BeginsIn o bytes) (some_is Big order e) (is_magic-true _ big)
    | inr neither ↦
        let e : None ≡ some order = (rw (other, neither) refl) ∙ h in
        absurd cc
  ]
]

order_of-none : (bytes : List ℕ) → order_of bytes ≡ None → (order : Order) → ¬ BeginsIn order bytes
order_of-none bytes h Little m =
    let t : is_magic (number Little 4 bytes) ≡ true = IsMagic-is_magic _ m in
    let e : some Little ≡ None = (rw t refl) ∙ h in
    absurd cc
order_of-none bytes h Big m = elim (either (is_magic (number Little 4 bytes))) [
  | inl little ↦
      let e : some Little ≡ None = (rw little refl) ∙ h in
      absurd cc
  | inr other ↦
      let t : is_magic (number Big 4 bytes) ≡ true = IsMagic-is_magic _ m in
      let e : some Big ≡ None = (rw (other, t) refl) ∙ h in
      absurd cc
]

-- a magic number shows its order, where the other order shows none
begins_in : (order : Order) (bytes : List ℕ) → (BeginsIn Little bytes → BeginsIn Big bytes → ⊥) → BeginsIn order bytes → order_of bytes ≡ Some order
begins_in Little bytes one m = let t : is_magic (number Little 4 bytes) ≡ true = IsMagic-is_magic _ m in rw t refl
begins_in Big bytes one m = elim (either (is_magic (number Little 4 bytes))) [
  | inl little ↦ absurd (one (is_magic-true _ little) m)
  | inr other ↦
      let t : is_magic (number Big 4 bytes) ≡ true = IsMagic-is_magic _ m in
      rw (other, t) refl
]

pub BeginsIn-order_of : (order : Order) (bytes : List ℕ) → IsBytes bytes → BeginsIn order bytes → order_of bytes ≡ Some order
BeginsIn-order_of order bytes h m = begins_in order bytes (one_order bytes (h 0) (h 1) (h 2) (h 3)) m

-- a magic number that is spelled shows its order
one_spelled : (order : Order) (n : ℕ) (rest : List ℕ) → BeginsIn Little (spelled order 4 n ++ rest) → BeginsIn Big (spelled order 4 n ++ rest) → ⊥
unfolding spelled
one_spelled Little n rest = one_order (spelled Little 4 n ++ rest) (omega arith) (omega arith) (omega arith) (omega arith)
one_spelled Big n rest = one_order (spelled Big 4 n ++ rest) (omega arith) (omega arith) (omega arith) (omega arith)

pub spelled-order_of : (order : Order) (n : ℕ) (rest : List ℕ) → BeginsIn order (spelled order 4 n ++ rest) → order_of (spelled order 4 n ++ rest) ≡ Some order
spelled-order_of order n rest m = begins_in order (spelled order 4 n ++ rest) (one_spelled order n rest) m

none_begins : (bytes : List ℕ) → ((order : Order) → ¬ BeginsIn order bytes) → order_of bytes ≡ None
none_begins bytes h = elim (either (is_magic (number Little 4 bytes))) [
  | inl little ↦ absurd (h Little (is_magic-true _ little))
  | inr other ↦ elim (either (is_magic (number Big 4 bytes))) [
    | inl big ↦ absurd (h Big (is_magic-true _ big))
    | inr neither ↦ rw (other, neither) refl
  ]
]

-- ---- the first fault of a header

tested-fault : (bytes : List ℕ) → 24 ≤ length bytes → (o : Option Order) (e : PcapError) → order_of bytes ≡ o → tested o bytes ≡ Err e → IsHeaderFault bytes e
tested-fault bytes long None e is p = subst (λ (x : PcapError). IsHeaderFault bytes x) (err_is {A = Order} Magic e p) (long, order_of-none bytes is)
tested-fault bytes long (Some order) e is p =
    let begins : BeginsIn order bytes = order_of-some order bytes is in
    elim (either (is_version order bytes)) [
      | inr wrong ↦
          let q : failed {A = Order} Version ≡ Err e = (rw wrong refl) ∙ p in
          subst (λ (x : PcapError). IsHeaderFault bytes x) (err_is Version e q) (long, order, begins, is_version-false order bytes wrong)
      | inl right ↦ elim (either (number order 4 (drop 20 bytes) == 1)) [
        | inl one ↦
            let q : done order ≡ Err e = (rw (right, one) refl) ∙ p in
            not_both order e q
        | inr other ↦
            let q : failed {A = Order} (Link (number order 4 (drop 20 bytes))) ≡ Err e = (rw (right, other) refl) ∙ p in
            let link : ¬ (number order 4 (drop 20 bytes) ≡ 1) = λ one. let t : (number order 4 (drop 20 bytes) == 1) ≡ true = eq-eqb _ 1 one in absurd cc in
            subst (λ (x : PcapError). IsHeaderFault bytes x) (err_is (Link (number order 4 (drop 20 bytes))) e q) (long, order, begins, is_version-true order bytes right, refl, link)
      ]
    ]

pub header_of-fault : (bytes : List ℕ) (e : PcapError) → header_of bytes ≡ Err e → IsHeaderFault bytes e
unfolding header_of
header_of-fault bytes e h = elim (either (nat_lt (length bytes) 24)) [
  | inl cut ↦
      let p : failed {A = Order} (Short 0) ≡ Err e = (rw cut refl) ∙ h in
      subst (λ (x : PcapError). IsHeaderFault bytes x) (err_is (Short 0) e p) (refl, ltb-true (length bytes) 24 cut)
  | inr whole ↦
      let p : tested (order_of bytes) bytes ≡ Err e = (rw whole refl) ∙ h in
      tested-fault bytes (ltb-false (length bytes) 24 whole) (order_of bytes) e refl p
]

-- a fault is the one that is read
pub fault-header_of : (bytes : List ℕ) (e : PcapError) → IsBytes bytes → IsHeaderFault bytes e → header_of bytes ≡ Err e
unfolding header_of
fault-header_of bytes (Short at) h f =
    let cut : nat_lt (length bytes) 24 ≡ true = lt-ltb (length bytes) 24 f.1 in
    rw (cut, f.0) refl
fault-header_of bytes Magic h f =
    let whole : nat_lt (length bytes) 24 ≡ false = le-ltb (length bytes) 24 f.0 in
    let none : order_of bytes ≡ None = none_begins bytes f.1 in
    rw whole (ap (λ (o : Option Order). tested o bytes) none)
fault-header_of bytes Version h f =
    let whole : nat_lt (length bytes) 24 ≡ false = le-ltb (length bytes) 24 f.0 in
    let begins : order_of bytes ≡ Some f.1 = BeginsIn-order_of f.1 bytes h f.2 in
    let wrong : is_version f.1 bytes ≡ false = elim (either (is_version f.1 bytes)) [ inl right ↦ absurd (f.3 (is_version-true f.1 bytes right)) | inr wrong ↦ wrong ] in
    rw whole (ap (λ (o : Option Order). tested o bytes) begins ∙ rw wrong refl)
fault-header_of bytes (Link n) h f =
    let whole : nat_lt (length bytes) 24 ≡ false = le-ltb (length bytes) 24 f.0 in
    let begins : order_of bytes ≡ Some f.1 = BeginsIn-order_of f.1 bytes h f.2 in
    let right : is_version f.1 bytes ≡ true = IsVersion-is_version f.1 bytes f.3 in
    let other : (number f.1 4 (drop 20 bytes) == 1) ≡ false = elim (either (number f.1 4 (drop 20 bytes) == 1)) [ inl one ↦ absurd (f.5 (f.4 ∙ eqb-true _ 1 one)) | inr other ↦ other ] in
    rw whole (ap (λ (o : Option Order). tested o bytes) begins ∙ rw (right, other, f.4) refl)
fault-header_of bytes (Frame index len) h f = absurd f

-- ---- a header that is read

-- what a header without fault has
pub record IsTested (order : Order) (bytes : List ℕ) : Type 0 where
  pub long : 24 ≤ length bytes
  pub begins : BeginsIn order bytes
  pub version : IsVersion order bytes
  pub link : number order 4 (drop 20 bytes) ≡ 1

tested-ok : (bytes : List ℕ) → 24 ≤ length bytes → (o : Option Order) (order : Order) → order_of bytes ≡ o → tested o bytes ≡ Ok order → IsTested order bytes
tested-ok bytes long None order is p = absurd cc
tested-ok bytes long (Some first) order is p =
    let begins : BeginsIn first bytes = order_of-some first bytes is in
    elim (either (is_version first bytes)) [
      | inr wrong ↦
          let q : failed {A = Order} Version ≡ Ok order = (rw wrong refl) ∙ p in
          not_both order Version (sym q)
      | inl right ↦ elim (either (number first 4 (drop 20 bytes) == 1)) [
        | inl one ↦
            let q : done first ≡ Ok order = (rw (right, one) refl) ∙ p in
            subst (λ (o : Order). IsTested o bytes) (ok_is first order q) (record { long = long; begins = begins; version = is_version-true first bytes right; link = eqb-true _ 1 one })
        | inr other ↦
            let q : failed {A = Order} (Link (number first 4 (drop 20 bytes))) ≡ Ok order = (rw (right, other) refl) ∙ p in
            not_both order _ (sym q)
      ]
    ]

pub header_of-tested : (bytes : List ℕ) (order : Order) → header_of bytes ≡ Ok order → IsTested order bytes
unfolding header_of
header_of-tested bytes order h = elim (either (nat_lt (length bytes) 24)) [
  | inl cut ↦
      let p : failed {A = Order} (Short 0) ≡ Ok order = (rw cut refl) ∙ h in
      not_both order (Short 0) (sym p)
  | inr whole ↦
      let p : tested (order_of bytes) bytes ≡ Ok order = (rw whole refl) ∙ h in
      tested-ok bytes (ltb-false (length bytes) 24 whole) (order_of bytes) order refl p
]

-- the other way round, where the first four bytes show the order
pub tested-header_of : (bytes : List ℕ) (order : Order) → IsTested order bytes → order_of bytes ≡ Some order → header_of bytes ≡ Ok order
unfolding header_of
tested-header_of bytes order t is =
    let whole : nat_lt (length bytes) 24 ≡ false = le-ltb (length bytes) 24 t.long in
    let right : is_version order bytes ≡ true = IsVersion-is_version order bytes t.version in
    let one : (number order 4 (drop 20 bytes) == 1) ≡ true = eq-eqb _ 1 t.link in
    rw whole (ap (λ (o : Option Order). tested o bytes) is ∙ rw (right, one) refl)
