-- Conditions on values that are read.
use Rattle.std.proofs.Common.{◌≡◌, ℕ, pos, zero, suc, ◌-◌, ◌^◌, ◌<◌, ◌==◌, Bool, true, false, not, if◌then◌else◌, List, [], length, refl, sym, ◌∙◌, ap, subst, arith}
use Rattle.std.specs.Prelude.{Some, None}
use Rattle.std.proofs.Math.Nat.{pow-le-pow_right, mod-eq_of_lt}
use Rattle.xdp_machine.specs.bpf_isa.declared.operation.Width.{Width}
use Rattle.xdp_machine.specs.bpf_isa.declared.operation.Width.TheVariants.{Bits32, Bits64}
use Rattle.xdp_machine.specs.bpf_isa.declared.operation.JumpCode.{JumpCode}
use Rattle.xdp_machine.specs.bpf_isa.declared.operation.JumpCode.TheVariants.{Jeq, Jne, Jgt, Jge, Jlt, Jle}
use Rattle.xdp_machine.specs.Arithmetic.{low, bits_in, holds}
use Rattle.xdp_machine.specs.Values.{Value}
use Rattle.xdp_machine.specs.Values as is
use Rattle.xdp_machine.specs.State.{PacketIn}
use Rattle.xdp_machine.specs.Pointers.{compared, in_order}
use Rattle.kind_core.specs.declared.number.Number.{Number}
use Rattle.kind_core.specs.declared.number.Number.TheVariants.{Known, Between}
use Rattle.kind_core.specs.declared.kind.Kind.{Kind}
use Rattle.kind_core.specs.declared.kind.Kind.TheVariants.{Unset, Num, Packet, Var, End, Maybe}
use Rattle.cell_core.specs.Cells.{CellView, IsRun, cell_at, bit, on}
use Rattle.cell_core.specs.CellLaws.{ValuesFit}
use Rattle.cell_core.specs.Formed.{AreFormed}
use Rattle.cell_core.specs.declared.operator.Operator.TheVariants.{Constant}
use Rattle.operator_cells.specs.Making.{Makes, operated}
use Rattle.operator_cells.specs.HeldCells.RegisterCells.{PointerView, pointer_at, key_of, number_of}
use Rattle.edge_cells.specs.Testing.{is_order, is_equality, is_equal, is_open, null_holds, place_of, found_of, IsReady, is_number, Tests}
use Rattle.edge_cells.specs.Meeting.{number_in}
use Rattle.operator_cells.proofs.MakingLaws.{grown}
use Rattle.operator_cells.proofs.MakingLaws.{not_bit}

pub bit_small : (b : Bool) → bit b < 2
bit_small true = omega arith
bit_small false = omega arith

low_same : (n : ℕ) → n < 2 ^ 64 → low 64 n ≡ n
low_same n h = mod-eq_of_lt {n = n} {m = 2 ^ 64} h

-- ---- null

null_same : (code : JumpCode) (t : Bool) (q : ℕ) (key : List ℕ) (taken : Bool) → is_equality code ≡ true
    → compared Bits64 code (if t then is.Entry q key (pos 0) else is.Number 0) (is.Number 0) ≡ Some taken → null_holds code t ≡ taken
null_same Jeq true q key taken e h = cc
null_same Jeq false q key taken e h = cc
null_same Jne true q key taken e h = cc
null_same Jne false q key taken e h = cc
null_same code t q key taken e h = absurd (cc)

null_same_right : (code : JumpCode) (t : Bool) (q : ℕ) (key : List ℕ) (taken : Bool) → is_equality code ≡ true
    → compared Bits64 code (is.Number 0) (if t then is.Entry q key (pos 0) else is.Number 0) ≡ Some taken → null_holds code t ≡ taken
null_same_right Jeq true q key taken e h = cc
null_same_right Jeq false q key taken e h = cc
null_same_right Jne true q key taken e h = cc
null_same_right Jne false q key taken e h = cc
null_same_right code t q key taken e h = absurd (cc)

left_null : (ps : List PointerView) (w : Width) (code : JumpCode) (r n p : ℕ) (b : Kind) (q : ℕ) (old new : List CellView) (c : ℕ) → is_open w code (Maybe r n) b ≡ true
    → Makes old new c (λ packet v. bit (null_holds code (on (v (pointer_at ps p).found)))) → Tests ps w code (Maybe r n) p b q old new c
left_null ps Bits64 code r n p (Num (Known zero)) q old new c needed made = record {
  grows = made.grows;
  there = made.there;
  is_bit = λ packet v run. subst (λ (x : ℕ). x < 2) (sym (made.value packet v run)) (bit_small _);
  value = λ decls packet v s t taken run left right h.
      made.value packet v run ∙ ap bit (null_same code (on (v (pointer_at ps p).found)) r (key_of decls v r (pointer_at ps p)) taken needed
      (ap (λ (x : Value). compared Bits64 code x (is.Number 0)) (sym left) ∙ ap (compared Bits64 code s) (sym right) ∙ h));
}
left_null ps w code r n p b q old new c needed made = absurd (cc)

right_null : (ps : List PointerView) (w : Width) (code : JumpCode) (a : Kind) (p r n q : ℕ) (old new : List CellView) (c : ℕ) → is_open w code a (Maybe r n) ≡ true
    → Makes old new c (λ packet v. bit (null_holds code (on (v (pointer_at ps q).found)))) → Tests ps w code a p (Maybe r n) q old new c
right_null ps Bits64 code (Num (Known zero)) p r n q old new c needed made = record {
  grows = made.grows;
  there = made.there;
  is_bit = λ packet v run. subst (λ (x : ℕ). x < 2) (sym (made.value packet v run)) (bit_small _);
  value = λ decls packet v s t taken run left right h.
      made.value packet v run ∙ ap bit (null_same_right code (on (v (pointer_at ps q).found)) r (key_of decls v r (pointer_at ps q)) taken needed
      (ap (compared Bits64 code (is.Number 0)) (sym right) ∙ ap (λ (x : Value). compared Bits64 code x t) (sym left) ∙ h));
}
right_null ps Bits32 code Unset p r n q old new c needed made = absurd (cc)
right_null ps w code a p r n q old new c needed made = absurd (cc)

pub null_left : (ps : List PointerView) (w : Width) (code : JumpCode) (a : Kind) (p : ℕ) (b : Kind) (q : ℕ) (old new : List CellView) (c f : ℕ) → found_of ps a p ≡ Some f → is_open w code a b ≡ true
    → Makes old new c (λ packet v. bit (null_holds code (on (v f)))) → Tests ps w code a p b q old new c
null_left ps w code (Maybe r n) p b q old new c f e needed made =
    let is : f ≡ (pointer_at ps p).found = cc in
    left_null ps w code r n p b q old new c needed (subst (λ (x : ℕ). Makes old new c (λ packet v. bit (null_holds code (on (v x))))) is made)
null_left ps w code a p b q old new c f e needed made = absurd (cc)

pub null_right : (ps : List PointerView) (w : Width) (code : JumpCode) (a : Kind) (p : ℕ) (b : Kind) (q : ℕ) (old new : List CellView) (c f : ℕ) → found_of ps b q ≡ Some f → is_open w code a b ≡ true
    → Makes old new c (λ packet v. bit (null_holds code (on (v f)))) → Tests ps w code a p b q old new c
null_right ps w code a p (Maybe r n) q old new c f e needed made =
    let is : f ≡ (pointer_at ps q).found = cc in
    right_null ps w code a p r n q old new c needed (subst (λ (x : ℕ). Makes old new c (λ packet v. bit (null_holds code (on (v x))))) is made)
null_right ps w code a p b q old new c f e needed made = absurd (cc)

not_not : (b : Bool) → not (not b) ≡ b
not_not true = refl
not_not false = refl

-- the bit of equality with zero, and the other one
zero_is : (n : ℕ) → n < 2 ^ 64 → (low 64 n == low 64 0) ≡ not (on n)
zero_is zero h = refl
zero_is (suc n) h = ap (λ (m : ℕ). m == 0) (low_same (suc n) h) ∙ sym (not_not (suc n == 0))

-- a value of a cell that was there, against the constant 0
null_bit : (old mid : List CellView) (z f : ℕ) → ValuesFit → AreFormed old → f < length old → Makes old mid z (operated (Constant 0) [] 0 1)
    → (packet : PacketIn) (v : ℕ → ℕ) → IsRun packet mid v → (low 64 (v f) == low 64 (v z)) ≡ not (on (v f))
null_bit old mid z f fit formed there zeroed packet v run =
    ap (λ (n : ℕ). low 64 (v f) == low 64 n) (zeroed.value packet v run)
    ∙ zero_is (v f) (omega (arith, fit packet old v (zeroed.grows.run packet v run) f there, pow-le-pow_right {n = 2} (omega arith) {i = (cell_at old f).width} {j = 64} (formed.each f there).width))

pub null_equal : (old mid new : List CellView) (z c f : ℕ) (code : JumpCode) → ValuesFit → AreFormed old → f < length old → is_equal code ≡ true
    → Makes old mid z (operated (Constant 0) [] 0 1) → Makes mid new c (λ packet v. bit (low 64 (v f) == low 64 (v z))) → Makes old new c (λ packet v. bit (null_holds code (on (v f))))
null_equal old mid new z c f code fit formed there equal zeroed made = record {
  grows = grown zeroed.grows made.grows;
  there = made.there;
  value = λ packet v run. made.value packet v run ∙ ap bit (null_bit old mid z f fit formed there zeroed packet v (made.grows.run packet v run))
      ∙ ap (λ (t : Bool). bit (if t then not (on (v f)) else on (v f))) (sym equal);
}

pub null_other : (old mid more new : List CellView) (z n c f : ℕ) (code : JumpCode) → ValuesFit → AreFormed old → f < length old → is_equal code ≡ false
    → Makes old mid z (operated (Constant 0) [] 0 1) → Makes mid more n (λ packet v. bit (low 64 (v f) == low 64 (v z))) → Makes more new c (λ packet v. low 1 (2 ^ 64 - 1 - v n))
    → Makes old new c (λ packet v. bit (null_holds code (on (v f))))
null_other old mid more new z n c f code fit formed there equal zeroed null made = record {
  grows = grown zeroed.grows (grown null.grows made.grows);
  there = made.there;
  value = λ packet v run. let earlier = made.grows.run packet v run in
      made.value packet v run
      ∙ ap (λ (x : ℕ). low 1 (2 ^ 64 - 1 - x)) (null.value packet v earlier ∙ ap bit (null_bit old mid z f fit formed there zeroed packet v (null.grows.run packet v earlier)))
      ∙ not_bit (not (on (v f))) ∙ ap bit (not_not (on (v f)))
      ∙ ap (λ (t : Bool). bit (if t then not (on (v f)) else on (v f))) (sym equal);
}

-- ---- numbers

tests_numbers : (ps : List PointerView) (w : Width) (code : JumpCode) (x : Number) (p : ℕ) (y : Number) (q : ℕ) (old new : List CellView) (c : ℕ)
    → Makes old new c (λ packet v. bit (holds code (bits_in w) (low (bits_in w) (number_of v x p)) (low (bits_in w) (number_of v y q)))) → Tests ps w code (Num x) p (Num y) q old new c
tests_numbers ps w code x p y q old new c made = record {
  grows = made.grows;
  there = made.there;
  is_bit = λ packet v run. subst (λ (n : ℕ). n < 2) (sym (made.value packet v run)) (bit_small _);
  value = λ decls packet v s t taken run left right h.
      let same : Some (holds code (bits_in w) (low (bits_in w) (number_of v x p)) (low (bits_in w) (number_of v y q))) ≡ Some taken =
      ap (λ (z : Value). compared w code z (is.Number (number_of v y q))) (sym left) ∙ ap (compared w code s) (sym right) ∙ h in
      let truth : holds code (bits_in w) (low (bits_in w) (number_of v x p)) (low (bits_in w) (number_of v y q)) ≡ taken = cc same in
      made.value packet v run ∙ ap bit truth;
}

-- ---- places

order_same : (code : JumpCode) (a b : ℕ) (taken : Bool) → is_order code ≡ true → in_order code (pos a) (pos b) ≡ Some taken → holds code 64 a b ≡ taken
order_same Jgt a b taken e h = cc
order_same Jge a b taken e h = cc
order_same Jlt a b taken e h = cc
order_same Jle a b taken e h = cc
order_same code a b taken e h = absurd (cc)

cut_twice : (n : ℕ) → n < 2 ^ 63 → low 64 (low 64 n) ≡ n
cut_twice n h = ap (low 64) (low_same n (omega (arith, h))) ∙ low_same n (omega (arith, h))

places_value : (code : JumpCode) (a b : ℕ) (taken : Bool) → is_order code ≡ true → a < 2 ^ 63 → b < 2 ^ 63 → in_order code (pos a) (pos b) ≡ Some taken
    → bit (holds code 64 (low 64 (low 64 a)) (low 64 (low 64 b))) ≡ bit taken
places_value code a b taken e h g cmp = ap (λ (n : ℕ). bit (holds code 64 n (low 64 (low 64 b)))) (cut_twice a h) ∙ ap (λ (n : ℕ). bit (holds code 64 a n)) (cut_twice b g) ∙ ap bit (order_same code a b taken e cmp)

abbrev Placed : JumpCode → Kind → Kind → List CellView → List CellView → ℕ → Type 0
Placed code a b old new c = Makes old new c (λ packet v. bit (holds code 64 (low 64 (low 64 (place_of packet a))) (low 64 (low 64 (place_of packet b)))))

tests_end : (ps : List PointerView) (w : Width) (code : JumpCode) (o p : ℕ) (b : Kind) (q : ℕ) (old new : List CellView) (c : ℕ) → found_of ps b q ≡ None → is_open w code (Packet o) b ≡ true
    → Placed code (Packet o) b old new c → Tests ps w code (Packet o) p b q old new c
tests_end ps Bits64 code o p End q old new c none needed made = record {
  grows = made.grows;
  there = made.there;
  is_bit = λ packet v run. subst (λ (n : ℕ). n < 2) (sym (made.value packet v run)) (bit_small _);
  value = λ decls packet v s t taken run left right h.
      made.value packet v run ∙ places_value code o (length packet.frame) taken needed left.1 right.1
      (ap (λ (z : Value). compared Bits64 code z (is.Packet (pos (length packet.frame)))) (sym left.0) ∙ ap (compared Bits64 code s) (sym right.0) ∙ h);
}
tests_end ps w code o p b q old new c none needed made = absurd (cc)

tests_from_end : (ps : List PointerView) (w : Width) (code : JumpCode) (p : ℕ) (b : Kind) (q : ℕ) (old new : List CellView) (c n : ℕ) → IsReady n ps b q → found_of ps b q ≡ None → is_open w code End b ≡ true
    → Placed code End b old new c → Tests ps w code End p b q old new c
tests_from_end ps Bits64 code p (Packet o) q old new c n ready none needed made = record {
  grows = made.grows;
  there = made.there;
  is_bit = λ packet v run. subst (λ (n : ℕ). n < 2) (sym (made.value packet v run)) (bit_small _);
  value = λ decls packet v s t taken run left right h.
      made.value packet v run ∙ places_value code (length packet.frame) o taken needed left.1 right.1
      (ap (λ (z : Value). compared Bits64 code z (is.Packet (pos o))) (sym left.0) ∙ ap (compared Bits64 code s) (sym right.0) ∙ h);
}
tests_from_end ps w code p (Var b f) q old new c n ready none needed made = absurd ready
tests_from_end ps w code p b q old new c n ready none needed made = absurd (cc)

-- of a number only a condition with a number, or with what a lookup answered, needs a cell
number_open : (ps : List PointerView) (w : Width) (code : JumpCode) (x : Number) (b : Kind) (q : ℕ) → found_of ps b q ≡ None → is_open w code (Num x) b ≡ true → (y : Number) × (b ≡ Num y)
number_open ps w code x (Num y) q none needed = (y, refl)
number_open ps w code x (Maybe r n) q none needed = absurd (cc)
number_open ps Bits32 code x b q none needed = absurd (cc)
number_open ps Bits64 code (Known zero) b q none needed = absurd (cc)
number_open ps Bits64 code (Known (suc a)) b q none needed = absurd (cc)
number_open ps Bits64 code (Between lo hi) b q none needed = absurd (cc)

-- two numbers, where the first is one
pub both_numbers : (ps : List PointerView) (w : Width) (code : JumpCode) (a b : Kind) (q : ℕ) → is_number a ≡ true → found_of ps b q ≡ None → is_open w code a b ≡ true → (a ≡ Num (number_in a)) × (b ≡ Num (number_in b))
both_numbers ps w code (Num x) b q h none needed = let y = number_open ps w code x b q none needed in (refl, y.1 ∙ ap (λ (k : Kind). Num (number_in k)) (sym y.1))
both_numbers ps w code a b q h none needed = absurd (cc)

tests_both : (ps : List PointerView) (w : Width) (code : JumpCode) (a : Kind) (p : ℕ) (b : Kind) (q : ℕ) (old new : List CellView) (c : ℕ) → (a ≡ Num (number_in a)) × (b ≡ Num (number_in b))
    → Makes old new c (λ packet v. bit (holds code (bits_in w) (low (bits_in w) (number_of v (number_in a) p)) (low (bits_in w) (number_of v (number_in b) q)))) → Tests ps w code a p b q old new c
tests_both ps w code a p b q old new c are made =
    subst (λ (k : Kind). Tests ps w code k p b q old new c) (sym are.0)
    (subst (λ (k : Kind). Tests ps w code (Num (number_in a)) p k q old new c) (sym are.1) (tests_numbers ps w code (number_in a) p (number_in b) q old new c made))

pub tests_places : (ps : List PointerView) (w : Width) (code : JumpCode) (a : Kind) (p : ℕ) (b : Kind) (q : ℕ) (old new : List CellView) (c n : ℕ) → IsReady n ps a p → IsReady n ps b q → found_of ps a p ≡ None → found_of ps b q ≡ None
    → is_number a ≡ false → is_open w code a b ≡ true → Placed code a b old new c → Tests ps w code a p b q old new c
tests_places ps w code (Packet o) p b q old new c n first second none nil other needed made = tests_end ps w code o p b q old new c nil needed made
tests_places ps w code End p b q old new c n first second none nil other needed made = tests_from_end ps w code p b q old new c n second nil needed made
tests_places ps w code (Var k f) p b q old new c n first second none nil other needed made = absurd first
tests_places ps w code (Num x) p b q old new c n first second none nil other needed made = absurd (cc)
tests_places ps w code (Maybe r m) p b q old new c n first second none nil other needed made = absurd (cc)
tests_places ps Bits32 code a p b q old new c n first second none nil other needed made = absurd (cc)
tests_places ps Bits64 code a p b q old new c n first second none nil other needed made = absurd (cc)

pub tests_numbers_of : (ps : List PointerView) (w : Width) (code : JumpCode) (a : Kind) (p : ℕ) (b : Kind) (q : ℕ) (old new : List CellView) (c : ℕ) (x y : Number) → x ≡ number_in a → y ≡ number_in b
    → (a ≡ Num (number_in a)) × (b ≡ Num (number_in b)) → Makes old new c (λ packet v. bit (holds code (bits_in w) (low (bits_in w) (number_of v x p)) (low (bits_in w) (number_of v y q))))
    → Tests ps w code a p b q old new c
tests_numbers_of ps w code a p b q old new c x y e f are made = tests_both ps w code a p b q old new c are
    (subst (λ (n : Number). Makes old new c (λ packet v. bit (holds code (bits_in w) (low (bits_in w) (number_of v (number_in a) p)) (low (bits_in w) (number_of v n q))))) f
    (subst (λ (n : Number). Makes old new c (λ packet v. bit (holds code (bits_in w) (low (bits_in w) (number_of v n p)) (low (bits_in w) (number_of v y q))))) e made))
