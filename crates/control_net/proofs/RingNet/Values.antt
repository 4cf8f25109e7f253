-- What the nets of slots and laps tell.
use Rattle.std.specs.Prelude.{◌≡◌, ◌≢◌, ℕ, suc, ◌+◌, ◌-◌, ◌^◌, ◌<◌, ◌≤◌, ◌==◌, nat_lt, cond, Bool, true, false}
use Rattle.std.proofs.Common.{not, refl, sym, ap, ◌∙◌, arith, inl, inr}
use Rattle.std.proofs.lemmas.Bool.{eqb-true, eqb-false, eq-eqb, ne_eqb, lt-ltb, le-ltb, cases_eq}
use Rattle.std.proofs.Math.Nat.{mod-eq_of_lt}
use Rattle.block_core.proofs.list_laws_laws.BoolLaws.{by_test}
use Rattle.net_core.specs.declared.tree.Word.{Word}
use Rattle.net_core.specs.declared.tree.Op.TheVariants.{Add, Or, Equal, NotEqual}
use Rattle.net_core.specs.declared.tree.UnaryOp.TheVariants.{Not}
use Rattle.net_core.specs.Value.{word, bit, apply, apply_unary, conditional}
use Rattle.net_core.proofs.BitLaws.{not_bit}
use Rattle.control_net.specs.RingNet.Ring.{slot, lap, IsNear}
use Rattle.control_net.proofs.RingNet.RingLaws.{slot_small, same_slot, around}

-- ---- two numbers, by the slots that are the same or not, and the laps
differ_bits : (x k l r : Bool) → (x ≡ true → l ≡ k → r ≡ false) → (x ≡ true → l ≡ not k → r ≡ true) → (x ≡ false → r ≡ true) → apply Or (bit (cond x false true)) (apply NotEqual (bit l) (bit k)) ≡ bit r
differ_bits true true true r f g h = ap bit (sym (f refl refl))
differ_bits true true false r f g h = ap bit (sym (g refl refl))
differ_bits true false true r f g h = ap bit (sym (g refl refl))
differ_bits true false false r f g h = ap bit (sym (f refl refl))
differ_bits false true true r f g h = ap bit (sym (h refl))
differ_bits false true false r f g h = ap bit (sym (h refl))
differ_bits false false true r f g h = ap bit (sym (h refl))
differ_bits false false false r f g h = ap bit (sym (h refl))

room_bits : (x k l r : Bool) → (x ≡ true → l ≡ k → r ≡ true) → (x ≡ true → l ≡ not k → r ≡ false) → (x ≡ false → r ≡ true) → apply Or (bit (cond x false true)) (apply Equal (bit l) (bit k)) ≡ bit r
room_bits true true true r f g h = ap bit (sym (f refl refl))
room_bits true true false r f g h = ap bit (sym (g refl refl))
room_bits true false true r f g h = ap bit (sym (g refl refl))
room_bits true false false r f g h = ap bit (sym (f refl refl))
room_bits false true true r f g h = ap bit (sym (h refl))
room_bits false true false r f g h = ap bit (sym (h refl))
room_bits false false true r f g h = ap bit (sym (h refl))
room_bits false false false r f g h = ap bit (sym (h refl))

module _ (n w a b : ℕ) (h : IsNear n a b) where
  slots_same : (slot n b == slot n a) ≡ true → slot n a ≡ slot n b
  slots_same e = sym (eqb-true (slot n b) (slot n a) e)

  pub differ_value : apply Or (apply NotEqual (word w (slot n b)) (word w (slot n a))) (apply NotEqual (bit (lap n b)) (bit (lap n a))) ≡ bit (nat_lt a b)
  differ_value = differ_bits (slot n b == slot n a) (lap n a) (lap n b) (nat_lt a b)
      (λ e k. let q = (same_slot n a b h (slots_same e)).equal k in le-ltb a b (omega arith))
      (λ e k. let q = (same_slot n a b h (slots_same e)).full k in lt-ltb a b (omega (arith, h.some)))
      (λ e. elim (cases_eq a b) [
        | inl q ↦ absurd (eqb-false (slot n b) (slot n a) e (ap (slot n) (sym q)))
        | inr o ↦ let o' : a ≢ b = o in lt-ltb a b (omega (arith, h.after))
      ])

  pub room_value : apply Or (apply NotEqual (word w (slot n b)) (word w (slot n a))) (apply Equal (bit (lap n b)) (bit (lap n a))) ≡ bit (nat_lt b (a + n))
  room_value = room_bits (slot n b == slot n a) (lap n a) (lap n b) (nat_lt b (a + n))
      (λ e k. let q = (same_slot n a b h (slots_same e)).equal k in lt-ltb b (a + n) (omega (arith, h.some)))
      (λ e k. let q = (same_slot n a b h (slots_same e)).full k in le-ltb b (a + n) (omega arith))
      (λ e. elim (cases_eq (a + n) b) [
        | inl q ↦ absurd (eqb-false (slot n b) (slot n a) e (sym (around n a b h.some q).0))
        | inr o ↦ let o' : a + n ≢ b = o in lt-ltb b (a + n) (omega (arith, h.most))
      ])

-- ---- the next frame's slot and lap
-- a choice by one bit
pub chosen : (b : Bool) (x y : Word) → conditional (bit b) x y ≡ cond b x y
chosen true x y = refl
chosen false x y = refl

at_last : (n s : ℕ) → 0 < n → (s == n - 1) ≡ (s + 1 == n)
at_last n s h = elim (cases_eq (s + 1) n) [
  | inl e ↦ eq-eqb s (n - 1) (omega arith) ∙ sym (eq-eqb (s + 1) n e)
  | inr o ↦ let o' : s + 1 ≢ n = o in ne_eqb s (n - 1) (λ e. o (omega arith)) ∙ sym (ne_eqb (s + 1) n o)
]

module _ (n w k : ℕ) (h : 0 < n) where
  pub next_lap : conditional (bit (slot n k == n - 1)) (apply_unary Not (bit (lap n k))) (bit (lap n k)) ≡ bit (lap n (suc k))
  next_lap =
      chosen (slot n k == n - 1) (apply_unary Not (bit (lap n k))) (bit (lap n k))
      ∙ ap (λ b. cond b (apply_unary Not (bit (lap n k))) (bit (lap n k))) (at_last n (slot n k) h)
      ∙ by_test (λ b. cond b (apply_unary Not (bit (lap n k))) (bit (lap n k)) ≡ bit (cond b (not (lap n k)) (lap n k))) (slot n k + 1 == n) (λ e. not_bit (lap n k)) (λ e. refl)

  pub next_slot : n ≤ 2 ^ w → conditional (bit (slot n k == n - 1)) (word w 0) (apply Add (word w (slot n k)) (word w 1)) ≡ word w (slot n (suc k))
  next_slot l =
      let s = slot_small n k h in
      chosen (slot n k == n - 1) (word w 0) (apply Add (word w (slot n k)) (word w 1))
      ∙ ap (λ b. cond b (word w 0) (apply Add (word w (slot n k)) (word w 1))) (at_last n (slot n k) h)
      ∙ by_test (λ b. cond b (word w 0) (apply Add (word w (slot n k)) (word w 1)) ≡ word w (cond b 0 (suc (slot n k)))) (slot n k + 1 == n) (λ e. refl)
      (λ e.
      let o' : slot n k + 1 ≢ n = eqb-false (slot n k + 1) n e in
      let lt : slot n k + 1 < 2 ^ w = omega arith in
      ap (word w) (mod-eq_of_lt lt ∙ omega arith))
