-- Tests of slots as expressions.
use Rattle.std.specs.Prelude.{◌==◌, ◌&&◌, bit_and, max}
use Rattle.std.proofs.Common.{◌≡◌, ◌⊎◌, inl, inr, ℕ, zero, suc, ◌+◌, ◌<◌, ◌≤◌, Bool, true, false, All, List, [], ◌∷◌, ◌++◌, length, length-append, take, drop, get_or, refl, sym, ◌∙◌, ap, subst, arith}
use Rattle.std.proofs.lemmas.Bool.{cases_lt}
use Rattle.std.proofs.lemmas.List.{get_or-map, get_or_default, length-map, get_or-take, get_or-drop, get_or_append_left, get_or-append-add, length-take-le, length-drop}
use Rattle.block_core.proofs.list_laws_laws.AllLaws.{all_left, all_right}
use Rattle.net_core.specs.Nets.{Tree, TBinary}
use Rattle.net_core.specs.Value.{Env}
use Rattle.net_core.specs.declared.tree.Op.TheVariants.{And, Equal}
use Rattle.overlay_net.specs.cell_core.Cells.{bit}
use Rattle.cell_nets.specs.declared.operand.Operand.{Operand}
use Rattle.cell_nets.specs.declared.operand.Operand.TheVariants.{Known}
use Rattle.cell_nets.specs.Operands.{IsAvailable}
use Rattle.cell_nets.specs.Parts.{IsPart, IsSlice}
use Rattle.cell_nets.proofs.ExpressionPartLaws.{part_same, part_of, binary_part, same_is, test_is}
use Rattle.array_net.specs.Words.{word_width}
use Rattle.hash_net.specs.declared.slot_net.slots.SlotNets.{SlotNets}
use Rattle.hash_net.specs.SlotNet.Slots.{SlotOperands, slot_operands, slots_of, slot_past, all_of, operands_of}
use Rattle.hash_net.specs.SlotNet.Choosing.{AreTests, operand_at, same_bits, is_under}

-- ---- expressions of one bit
pub equal_test :
    {N : Type 0} (ins : List (Operand N)) (w : ℕ) (f g : Env N → ℕ) (x y t : Tree N) → 0 < w → t ≡ TBinary Equal x y → IsSlice ins 2 w f x → IsSlice ins 2 w g y → IsPart ins 3 1 (λ v. bit (f v == g v)) t
equal_test ins w f g x y t some e p q = part_of ins 3 3 1 _ (TBinary Equal x y) t (omega arith) e (binary_part ins 2 2 w w 1 f g (λ a b. bit (a == b)) Equal x y (test_is w some) (λ a b. refl) refl p.part q.part)

both_bits : (a b : Bool) → bit_and (bit a) (bit b) ≡ bit (a && b)
both_bits true true = refl
both_bits true false = refl
both_bits false true = refl
both_bits false false = refl

pub and_test :
    {N : Type 0} (ins : List (Operand N)) (d : ℕ) (f g : Env N → Bool) (x y t : Tree N) → 3 ≤ d → t ≡ TBinary And x y → IsPart ins d 1 (λ v. bit (f v)) x → IsPart ins 3 1 (λ v. bit (g v)) y → IsPart ins (d + 1) 1 (λ v. bit (f v && g v)) t
and_test ins d f g x y t three e p q =
    part_of ins (suc (max d 3)) (d + 1) 1 _ (TBinary And x y) t (omega arith) e
    (part_same ins (suc (max d 3)) 1 _ _ (TBinary And x y) (λ v h. both_bits (f v) (g v)) (binary_part ins d 3 1 1 1 (λ v. bit (f v)) (λ v. bit (g v)) bit_and And x y (same_is 1) (λ a b. refl) refl p q))

-- ---- lists of tests
module _ {N : Type 0} (args : List (Operand N)) (hit : ℕ → Env N → Bool) where
  pub no_tests : (first : ℕ) (ts : List (Tree N)) → length ts ≡ 0 → AreTests args hit first ts
  no_tests first ts e = record { each = λ ins n d all l. absurd (omega arith) }

  pub tests_push :
      (first n : ℕ) (ts : List (Tree N)) (t : Tree N) → length ts ≡ n → AreTests args hit first ts → ((ins : List (Operand N)) → All (IsAvailable ins) args → IsPart ins 8 1 (λ v. bit (hit (first + n) v)) t)
      → AreTests args hit first (ts ++ t ∷ [])
  tests_push first n ts t e h last = record { each = λ ins k d all l. by_order ins k d all l (cases_lt k (length ts)) }
    where
      by_order : (ins : List (Operand N)) (k : ℕ) (d : Tree N) → All (IsAvailable ins) args → k < length (ts ++ t ∷ []) → (k < length ts) ⊎ (length ts ≤ k) → IsPart ins 8 1 (λ v. bit (hit (first + k) v)) (get_or (ts ++ t ∷ []) k d)
      by_order ins k d all l (inl less) = subst (IsPart ins 8 1 (λ v. bit (hit (first + k) v))) (sym (get_or_append_left ts (t ∷ []) d k less)) (h.each ins k d all less)
      by_order ins k d all l (inr over) =
          let s : k ≡ n = omega (arith, length-append ts (t ∷ [])) in
          let z : length ts + 0 ≡ k = omega arith in
          subst (λ m. IsPart ins 8 1 (λ v. bit (hit (first + m) v)) (get_or (ts ++ t ∷ []) k d)) (sym s)
          (subst (IsPart ins 8 1 (λ v. bit (hit (first + n) v))) (sym (ap (λ m. get_or (ts ++ t ∷ []) m d) (sym z) ∙ get_or-append-add ts (t ∷ []) 0 d)) (last ins all))

  pub tests_before : (first : ℕ) (ts : List (Tree N)) (t : Tree N) → AreTests args hit first (ts ++ t ∷ []) → AreTests args hit first ts
  tests_before first ts t h = record { each = λ ins k d all l. subst (IsPart ins 8 1 (λ v. bit (hit (first + k) v))) (get_or_append_left ts (t ∷ []) d k l) (h.each ins k d all (omega (arith, length-append ts (t ∷ [])))) }

  pub last_test : (first : ℕ) (ts : List (Tree N)) (t : Tree N) → AreTests args hit first (ts ++ t ∷ []) → (ins : List (Operand N)) → All (IsAvailable ins) args → IsPart ins 8 1 (λ v. bit (hit (first + length ts) v)) t
  last_test first ts t h ins all =
      let z : length ts + 0 ≡ length ts = omega arith in
      subst (IsPart ins 8 1 (λ v. bit (hit (first + length ts) v))) (ap (λ m. get_or (ts ++ t ∷ []) m t) (sym z) ∙ get_or-append-add ts (t ∷ []) 0 t) (h.each ins (length ts) t all (omega (arith, length-append ts (t ∷ []))))

  pub tests_take : (n : ℕ) (ts : List (Tree N)) → n ≤ length ts → AreTests args hit 0 ts → AreTests args hit 0 (take n ts)
  tests_take n ts inside h = record {
    each = λ ins k d all l.
        let m = length-take-le n ts inside in
        subst (IsPart ins 8 1 (λ v. bit (hit (0 + k) v))) (sym (get_or-take n ts k d (omega arith))) (h.each ins k d all (omega arith));
  }

  pub tests_drop : (n : ℕ) (ts : List (Tree N)) → AreTests args hit 0 ts → AreTests args hit n (drop n ts)
  tests_drop n ts h = record {
    each = λ ins k d all l.
        let m = length-drop n ts in
        let s : 0 + (n + k) ≡ n + k = omega arith in
        subst (λ i. IsPart ins 8 1 (λ v. bit (hit i v)) (get_or (drop n ts) k d)) s (subst (IsPart ins 8 1 (λ v. bit (hit (0 + (n + k)) v))) (sym (get_or-drop n ts k d)) (h.each ins (n + k) d all (omega arith)));
  }

-- ---- operands of one slot among those of all
pub of_slot : {N : Type 0} (Q : Operand N → Type 0) (ns : List (SlotOperands N)) (n : ℕ) (d : SlotOperands N) → n < length ns → All Q (operands_of ns) → All Q (all_of (get_or ns n d))
of_slot Q [] n d l h = absurd (omega arith)
of_slot Q (x ∷ ns) zero d l h = all_left Q (all_of x) (operands_of ns) h
of_slot Q (x ∷ ns) (suc n) d l h = of_slot Q ns n d (omega arith) (all_right Q (all_of x) (operands_of ns) h)

pub of_key : {N : Type 0} (Q : Operand N → Type 0) (keys : List (Operand N)) (ns : List (SlotOperands N)) → All Q (keys ++ operands_of ns) → All Q keys
of_key Q keys ns h = all_left Q keys (operands_of ns) h

pub of_slots : {N : Type 0} (Q : Operand N → Type 0) (keys : List (Operand N)) (ns : List (SlotOperands N)) → All Q (keys ++ operands_of ns) → All Q (operands_of ns)
of_slots Q keys ns h = all_right Q keys (operands_of ns) h

-- ---- one word of a key more
pub under_more :
    {N : Type 0} (ins : List (Operand N)) (bytes w width : ℕ) (key : List (Operand N)) (slot : SlotOperands N) (a b : Operand N) (x y t : Tree N) → w < length slot.key → w < length key → a ≡ get_or slot.key w a → b ≡ get_or key w b → width ≡ word_width bytes w → t ≡ TBinary And x y
    → IsPart ins (3 + w) 1 (λ v. bit (is_under v bytes key slot w)) x → IsPart ins 3 1 (λ v. bit (same_bits v width a b)) y → IsPart ins (3 + (w + 1)) 1 (λ v. bit (is_under v bytes key slot (w + 1))) t
under_more ins bytes w width key slot a b x y t there also a_is b_is wide e p q =
    let s : suc w ≡ w + 1 = omega arith in
    let l : a ≡ operand_at slot.key w = a_is ∙ get_or_default slot.key w a (Known 0) there in
    let r : b ≡ operand_at key w = b_is ∙ get_or_default key w b (Known 0) also in
    subst (λ n. IsPart ins (3 + n) 1 (λ v. bit (is_under v bytes key slot n)) t) s
    (part_of ins (3 + w + 1) (3 + suc w) 1 _ t t (omega arith) refl
    (and_test ins (3 + w) (λ v. is_under v bytes key slot w) (λ v. same_bits v (word_width bytes w) (operand_at slot.key w) (operand_at key w)) x y t (omega arith) e p
    (part_same ins 3 1 _ _ y (λ v f i. bit (same_bits v (wide i) (l i) (r i))) q)))

-- ---- one slot more
pub slot_item : {N : Type 0} (slots : List (SlotNets N)) (n : ℕ) (x : SlotNets N) → n < length slots → x ≡ get_or slots n x → get_or (slots_of slots) n slot_past ≡ slot_operands x
slot_item slots n x l is = get_or-map slot_operands slots n x slot_past l ∙ ap slot_operands (sym is)

pub slot_all : {N : Type 0} (Q : SlotOperands N → Type 0) (slots : List (SlotNets N)) (n : ℕ) (x : SlotNets N) → n < length slots → x ≡ get_or slots n x → All Q (slots_of slots) → Q (slot_operands x)
slot_all Q slots n x l is h = subst Q (slot_item slots n x l is) (h n slot_past (omega (arith, length-map slots slot_operands)))

pub item_push :
    {N : Type 0} (args : List (Operand N)) (hits : Env N → SlotOperands N → Bool) (slots : List (SlotNets N)) (n : ℕ) (x : SlotNets N) (ts all : List (Tree N)) (t : Tree N) → length ts ≡ n → n < length slots → x ≡ get_or slots n x → all ≡ ts ++ t ∷ []
    → ((ins : List (Operand N)) → All (IsAvailable ins) args → All (IsAvailable ins) (operands_of (slots_of slots))) → AreTests args (λ n v. hits v (get_or (slots_of slots) n slot_past)) 0 ts
    → ((ins : List (Operand N)) → All (IsAvailable ins) args → All (IsAvailable ins) (all_of (slot_operands x)) → IsPart ins 8 1 (λ v. bit (hits v (slot_operands x))) t) → AreTests args (λ n v. hits v (get_or (slots_of slots) n slot_past)) 0 all
item_push args hits slots n x ts all t count l is pushed sub h one =
    let e = slot_item slots n x l is in
    let z : n ≡ 0 + n = omega arith in
    subst (AreTests args (λ n v. hits v (get_or (slots_of slots) n slot_past)) 0) (sym pushed)
    (tests_push args (λ n v. hits v (get_or (slots_of slots) n slot_past)) 0 n ts t count h (λ ins there.
    let mine : All (IsAvailable ins) (all_of (slot_operands x)) = subst (λ s. All (IsAvailable ins) (all_of s)) e (of_slot (IsAvailable ins) (slots_of slots) n slot_past (omega (arith, length-map slots slot_operands)) (sub ins there)) in
    subst (λ k. IsPart ins 8 1 (λ v. bit (hits v (get_or (slots_of slots) k slot_past))) t) z (subst (λ s. IsPart ins 8 1 (λ v. bit (hits v s)) t) (sym e) (one ins there mine))))
