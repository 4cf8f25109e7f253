-- What the nets tell of counters, of numbers, and of many bits or words of which one counts.
use Rattle.std.specs.Prelude.{◌≡◌, ◌≢◌, ℕ, zero, suc, ◌+◌, ◌<◌, ◌≤◌, ◌==◌, nat_lt, if◌then◌else◌, not, Bool, true, false, ◌&&◌, List, [], ◌∷◌, length, map}
use Rattle.std.specs.List.{list_any, range_with_len}
use Rattle.std.specs.Int.Bits.{or_zero_l, or_zero_r}
use Rattle.std.proofs.Common.{get_or, refl, sym, ap, ◌∙◌, arith, ◌⊎◌, inl, inr}
use Rattle.std.proofs.lemmas.Bool.{lt-ltb, eq-eqb, ne_eqb, eqb-true, cases_eq}
use Rattle.net_core.specs.declared.tree.Op.TheVariants.{Or, NotEqual}
use Rattle.net_core.specs.declared.tree.UnaryOp.TheVariants.{Not, ReduceOr}
use Rattle.net_core.specs.Nets.{Tree, TConst, TRead}
use Rattle.net_core.specs.Value.{word, bit, number_of, apply, apply_unary, Env, value}
use Rattle.net_core.proofs.BitLaws.{or_bits}
use Rattle.control_net.specs.RingNet.Ring.{slot, lap, IsNear}
use Rattle.control_net.proofs.RingNet.RingLaws.{apart}
use Rattle.turn_net.specs.HostNet.Trees.{any_of}
use Rattle.turn_net.specs.HostNet.Values.{one_word}

pub some_number : (w n : ℕ) → apply_unary ReduceOr (word w n) ≡ bit (nat_lt 0 n)
some_number w zero = refl
some_number w (suc n) = let o : suc n ≢ 0 = omega arith in ap (λ b. bit (if b then false else true)) (ne_eqb (suc n) 0 o) ∙ sym (ap bit (lt-ltb 0 (suc n) (omega arith)))

-- ---- counters: slots and laps are the same where the numbers are
laps_same : (k : Bool) → apply NotEqual (bit k) (bit k) ≡ bit false
laps_same true = refl
laps_same false = refl

laps_differ : (k l : Bool) → k ≢ l → apply NotEqual (bit l) (bit k) ≡ bit true
laps_differ true true o = absurd (o refl)
laps_differ true false o = refl
laps_differ false true o = refl
laps_differ false false o = absurd (o refl)

either : (x l : Bool) → apply_unary Not (apply Or (bit (if x then false else true)) (bit l)) ≡ bit (x && not l)
either true true = refl
either true false = refl
either false true = refl
either false false = refl

pub counted : (n w a b : ℕ) → IsNear n a b
    → apply_unary Not (apply Or (apply NotEqual (word w (slot n b)) (word w (slot n a))) (apply NotEqual (bit (lap n b)) (bit (lap n a)))) ≡ bit (b == a)
counted n w a b near = elim (cases_eq b a) [
  | inl e ↦
      ap (λ k. apply_unary Not (apply Or (bit (if slot n k == slot n a then false else true)) (apply NotEqual (bit (lap n k)) (bit (lap n a))))) e
      ∙ ap (λ y. apply_unary Not (apply Or (bit (if slot n a == slot n a then false else true)) y)) (laps_same (lap n a))
      ∙ either (slot n a == slot n a) false
      ∙ ap (λ x. bit (x && true)) (eq-eqb (slot n a) (slot n a) refl)
      ∙ sym (ap bit (eq-eqb b a e))
  | inr o ↦ by o (slot n b == slot n a) refl ∙ sym (ap bit (ne_eqb b a o))
]
  where
    by : b ≢ a → (x : Bool) → (slot n b == slot n a) ≡ x → apply_unary Not (apply Or (bit (if slot n b == slot n a then false else true)) (apply NotEqual (bit (lap n b)) (bit (lap n a)))) ≡ bit false
    by o true e =
        let apart_laps : lap n a ≢ lap n b = λ f. o (sym ((apart.equal n a b near).0 (sym (eqb-true (slot n b) (slot n a) e), f))) in
        (λ j. apply_unary Not (apply Or (bit (if e j then false else true)) (laps_differ (lap n a) (lap n b) apart_laps j))) ∙ either true true
    by o false e =
        ap (λ x. apply_unary Not (apply Or (bit (if x then false else true)) (apply NotEqual (bit (lap n b)) (bit (lap n a))))) e
        ∙ either false (if number_of (lap n b) == number_of (lap n a) then false else true)

-- ---- bits of which one is 1
pub any_bit : {N : Type 0} (v : Env N) (ts : List (Tree N)) (none : Tree N) (lets : ℕ → Bool) (a : ℕ) → ((k : ℕ) → k < length ts → value v (get_or ts k none) ≡ bit (lets (a + k)))
    → value v (any_of ts (TConst (word 1 0))) ≡ bit (list_any lets (range_with_len a (length ts)))
any_bit v [] none lets a h = refl
any_bit v (t ∷ ts) none lets a h =
    let z : a + 0 ≡ a = omega arith in
    let rest = any_bit v ts none lets (a + 1) (λ k l. let y : a + suc k ≡ a + 1 + k = omega arith in h (suc k) (omega (arith, l)) ∙ ap (λ n. bit (lets n)) y) in
    (λ j. apply Or ((h 0 (omega arith) ∙ ap (λ n. bit (lets n)) z) j) (rest j)) ∙ or_bits (lets a) (list_any lets (range_with_len (a + 1) (length ts)))

-- ---- words of which one is a number
module _ {N : Type 0} (v : Env N) (none : N) (named number : ℕ) where
  abbrev Show : List N → ℕ → Type 0
  Show ns a = (k : ℕ) → k < length ns → v.net (get_or ns k none) ≡ word 64 (one_word named number (a + k))

  rest : (n : N) (ns : List N) (a : ℕ) → Show (n ∷ ns) a → Show ns (a + 1)
  rest n ns a h k l = let y : a + suc k ≡ a + 1 + k = omega arith in h (suc k) (omega (arith, l)) ∙ ap (λ i. word 64 (one_word named number i)) y

  here : (n : N) (ns : List N) (a : ℕ) (b : Bool) → Show (n ∷ ns) a → (named == a) ≡ b → v.net n ≡ word 64 (if b then number else 0)
  here n ns a b h e = let z : a + 0 ≡ a = omega arith in h 0 (omega arith) ∙ ap (λ i. word 64 (one_word named number i)) z ∙ ap (λ t. word 64 (if t then number else 0)) e

  abbrev all : List N → Tree N
  all ns = any_of (map TRead ns) (TConst (word 64 0))

  -- the number is that of none of these
  pub no_word : (ns : List N) (a : ℕ) → (named < a) ⊎ (a + length ns ≤ named) → Show ns a → value v (all ns) ≡ word 64 0
  no_word [] a o h = refl
  no_word (n ∷ ns) a o h =
      let apart : named ≢ a = elim o [ inl l ↦ omega (arith, l) | inr l ↦ omega (arith, l) ] in
      let further : (named < a + 1) ⊎ (a + 1 + length ns ≤ named) = elim o [ inl l ↦ inl (omega (arith, l)) | inr l ↦ inr (omega (arith, l)) ] in
      (λ j. apply Or (here n ns a false h (ne_eqb named a apart) j) (no_word ns (a + 1) further (rest n ns a h) j)) ∙ ap (word 64) (or_zero_l 0)

  -- it is that of one
  pub some_word : (ns : List N) (a : ℕ) → a ≤ named → named < a + length ns → Show ns a → value v (all ns) ≡ word 64 number
  some_word [] a l m h = absurd (omega (arith, l, m))
  some_word (n ∷ ns) a l m h = elim (cases_eq named a) [
    | inl e ↦ (λ j. apply Or (here n ns a true h (eq-eqb named a e) j) (no_word ns (a + 1) (inl (omega (arith, e))) (rest n ns a h) j)) ∙ ap (word 64) (or_zero_r number)
    | inr o ↦ let o' : named ≢ a = o in (λ j. apply Or (here n ns a false h (ne_eqb named a o) j) (some_word ns (a + 1) (omega (arith, l)) (omega (arith, m)) (rest n ns a h) j)) ∙ ap (word 64) (or_zero_l number)
  ]
