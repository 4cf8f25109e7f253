-- Conditional jumps are sound.
use Rattle.std.proofs.Common.{◌≡◌, ℕ, zero, suc, ◌+◌, ◌==◌, ◌≤◌, ◌⊎◌, inl, inr, ℤ, pos, ◌+ℤ◌, int_le, int_lt, Bool, true, false, not, cond, refl, sym, ap, ◌∙◌, subst, arith, Option, Some, None, Result, Ok, Err, IfOk, List, [], ◌∷◌, map, get_or}
use Rattle.std.specs.Prelude.{◌≤ℤ◌}
use Rattle.std.proofs.lemmas.Int.{ints}
use Rattle.std.proofs.lemmas.Bool.Decides.{nat_tests}
use Rattle.xdp_machine.specs.bpf_isa.declared.operation.Width.{Width}
use Rattle.xdp_machine.specs.bpf_isa.declared.operation.Width.TheVariants.{Bits32, Bits64}
use Rattle.xdp_machine.specs.bpf_isa.declared.operation.JumpCode.{JumpCode}
use Rattle.xdp_machine.specs.bpf_isa.declared.operation.JumpCode.TheVariants.{Jeq, Jne, Jgt, Jge, Jlt, Jle}
use Rattle.xdp_machine.specs.bpf_isa.declared.operation.Op.{Op}
use Rattle.xdp_machine.specs.xdp_maps.State.{MapState}
use Rattle.xdp_machine.specs.Values.{Value}
use Rattle.xdp_machine.specs.Values as is
use Rattle.xdp_machine.specs.Arithmetic.{bits_in, low, holds}
use Rattle.xdp_machine.specs.Pointers.{compared}
use Rattle.xdp_machine.specs.State as machine
use Rattle.xdp_machine.specs.State.{Machine}
use Rattle.xdp_machine.specs.Step as step
use Rattle.kind_core.specs.declared.number.Number.{Number}
use Rattle.kind_core.specs.declared.number.Number.TheVariants.{Known, Between}
use Rattle.kind_core.specs.declared.kind.Kind.{Kind}
use Rattle.kind_core.specs.declared.kind.Kind.TheVariants.{Unset, Num, Packet, Var, End, Maybe, Entry}
use Rattle.kind_core.specs.declared.kind.Kinds.{Kinds}
use Rattle.kind_core.specs.declared.conditions.Condition.{Condition}
use Rattle.kind_core.specs.declared.conditions.Condition.TheVariants.{BoundsTest, BaseTest}
use Rattle.kind_core.specs.declared.effects.Effect.{Effect}
use Rattle.kind_core.specs.declared.effects.Effect.TheVariants.{Compared}
use Rattle.kind_core.specs.declared.refinements.Refinement.{Refinement}
use Rattle.kind_core.specs.declared.refinements.Refinement.TheVariants.{IsNull, IsEntry, IsChecked}
use Rattle.xdp_state.specs.declared.refusal.Why.{Why}
use Rattle.kind_core.specs.Kinds.{register}
use Rattle.kind_core.specs.Tests.{◌>>=◌}
use Rattle.kind_core.specs.Bases.{raised_base}
use Rattle.kind_core.specs.Conditions.{base_test, bounds_test, mirrored, null_test, against_number, null_condition, pointer_condition, condition_of}
use Rattle.kind_core.specs.Profile.{profiled}
use Rattle.kind_core.specs.Effects.{operand, jump, effect_as, effect_of}
use Rattle.kind_core.specs.Edges.{refined, refined_all, raised, on_edge, changed, decision, decided_as}
use Rattle.kind_core.specs.Describes.{World, Describes, DescribesNumber, DescribesMachine}
use Rattle.kind_core.specs.Soundness.{ConditionsAreSound}
use Rattle.kind_core.proofs.Sound.{number_of}
use Rattle.kind_core.proofs.SoundBases.{raised_from}
use Rattle.kind_core.proofs.TestLaws.{bind_ok}
use Rattle.kind_core.proofs.OperandLaws.{operand_described}

-- ---- what is learnt of the answer of a lookup
refined_null : (w : World) (maps : MapState) (n : ℕ) (x : Value) (k : Kind) (v : Value) → x ≡ w.gave n → x ≡ is.Number 0 → Describes w maps k v → Describes w maps (refined (IsNull n) k) v
refined_null w maps n x (Maybe q t) v g e d =
    (elim (t == n) as (λ b. ((t == n) ≡ b) → Describes w maps (cond b (Num (Known 0)) (Maybe q t)) v) [
      | true ↦ λ f. let same : t ≡ n = grind (arith, nat_tests) in d.1 ∙ (ap w.gave same ∙ (sym g ∙ e))
      | false ↦ λ f. d
    ]) refl
refined_null w maps n x k v g e d = d

entry_of : (w : World) (maps : MapState) (q : ℕ) (key : List ℕ) (o : ℤ) (r t : ℕ) (v : Value) → v ≡ is.Entry q key o → Describes w maps (Maybe r t) v → Describes w maps (Entry r 0) v
entry_of w maps q key o r t v e (before, gave, inl z) = cc
entry_of w maps q key o r t v e (before, gave, inr h) = h

refined_entry : (w : World) (maps : MapState) (n p : ℕ) (key : List ℕ) (o : ℤ) (x : Value) (k : Kind) (v : Value) → x ≡ w.gave n → x ≡ is.Entry p key o → Describes w maps k v → Describes w maps (refined (IsEntry n) k) v
refined_entry w maps n p key o x (Maybe q t) v g e d =
    (elim (t == n) as (λ b. ((t == n) ≡ b) → Describes w maps (cond b (Entry q 0) (Maybe q t)) v) [
      | true ↦ λ f. let same : t ≡ n = grind (arith, nat_tests) in entry_of w maps p key o q t v (d.1 ∙ (ap w.gave same ∙ (sym g ∙ e))) d
      | false ↦ λ f. d
    ]) refl
refined_entry w maps n p key o x k v g e d = d

-- what is learnt of the bytes from a base on
refined_checked : (w : World) (maps : MapState) (n : ℕ) (z : ℤ) (place : ℕ) (k : Kind) (v : Value) → w.gave n ≡ is.Packet (pos place) → (pos place +ℤ z) ≤ℤ pos w.frame → Describes w maps k v
    → Describes w maps (refined (IsChecked n z) k) v
refined_checked w maps n z place (Var b f) v g there d =
    (elim (b.node == n) as (λ t. ((b.node == n) ≡ t) → Describes w maps (cond t (Var (raised_base z b) f) (Var b f)) v) [
      | true ↦ λ h. let same : b.node ≡ n = grind (arith, nat_tests) in raised_from w b f z v place (ap w.gave same ∙ g) there d
      | false ↦ λ h. d
    ]) refl
refined_checked w maps n z place k v g there d = d

refined_list : (w : World) (maps : MapState) (f : Kind → Kind) → ((k : Kind) (v : Value) → Describes w maps k v → Describes w maps (f k) v) → (ks : List Kind) (vs : List Value)
    → ((s : ℕ) → Describes w maps (get_or ks s Unset) (get_or vs s is.Unset)) → (s : ℕ) → Describes w maps (get_or (map f ks) s Unset) (get_or vs s is.Unset)
refined_list w maps f h [] vs d s = tt
refined_list w maps f h (k ∷ ks) vs d zero = h k (get_or vs zero is.Unset) (d zero)
refined_list w maps f h (k ∷ ks) [] d (suc s) = refined_list w maps f h ks [] (λ t. d (suc t)) s
refined_list w maps f h (k ∷ ks) (v ∷ vs) d (suc s) = refined_list w maps f h ks vs (λ t. d (suc t)) s

refined_machine : (w : World) (r : Refinement) (k : Kinds) (m : Machine) → ((x : Kind) (v : Value) → Describes w m.maps x v → Describes w m.maps (refined r x) v)
    → DescribesMachine w k m → DescribesMachine w (refined_all r k) m
refined_machine w r k m h d = record {
  registers = refined_list w m.maps (refined r) h k.registers m.registers d.registers;
  slots = refined_list w m.maps (refined r) h k.slots m.stack d.slots;
  checked = d.checked;
  frame = d.frame;
}

-- ---- what is learnt of the end of the packet
raised_machine : (w : World) (n : ℕ) (k : Kinds) (m : Machine) → n ≤ w.frame → DescribesMachine w k m → DescribesMachine w (raised n k) m
raised_machine w n k m h d = record { registers = d.registers; slots = d.slots; checked = omega (arith, d.checked, d.frame); frame = d.frame }

-- the condition has a meaning, and the jump goes along an edge that is there
abbrev Decides : World → Kinds → Machine → Option Bool → Condition → Type 0
Decides w k m o x = (taken : Bool) × (o ≡ Some taken) × ((decision (Ok x) ≡ None) ⊎ (decision (Ok x) ≡ Some taken)) × DescribesMachine w (on_edge taken x k) m

bounds_decide : (w : World) (k : Kinds) (m : Machine) (edge : Bool) (n : ℕ) (t : Bool) → DescribesMachine w k m → (t ≡ edge → n ≤ w.frame) → Decides w k m (Some t) (BoundsTest edge n)
bounds_decide w k m true n true d h = (true, refl, inl refl, raised_machine w n k m (h refl) d)
bounds_decide w k m false n true d h = (true, refl, inl refl, d)
bounds_decide w k m true n false d h = (false, refl, inl refl, d)
bounds_decide w k m false n false d h = (false, refl, inl refl, raised_machine w n k m (h refl) d)

before_end : (w : World) (k : Kinds) (m : Machine) (c : JumpCode) (o : ℕ) → DescribesMachine w k m
    → IfOk (bounds_test c o) (Decides w k m (compared Bits64 c (is.Packet (pos o)) (is.Packet (pos w.frame))))
before_end w k m Jgt o d = bounds_decide w k m false o (int_lt (pos w.frame) (pos o)) d (λ h. grind (arith, ints, nat_tests))
before_end w k m Jge o d = bounds_decide w k m false (o + 1) (int_le (pos w.frame) (pos o)) d (λ h. grind (arith, ints, nat_tests))
before_end w k m Jlt o d = bounds_decide w k m true (o + 1) (int_lt (pos o) (pos w.frame)) d (λ h. grind (arith, ints, nat_tests))
before_end w k m Jle o d = bounds_decide w k m true o (int_le (pos o) (pos w.frame)) d (λ h. grind (arith, ints, nat_tests))
before_end w k m c o d = tt

behind_end : (w : World) (k : Kinds) (m : Machine) (c : JumpCode) (o : ℕ) → DescribesMachine w k m
    → IfOk (bounds_test (mirrored c) o) (Decides w k m (compared Bits64 c (is.Packet (pos w.frame)) (is.Packet (pos o))))
behind_end w k m Jgt o d = bounds_decide w k m true (o + 1) (int_lt (pos o) (pos w.frame)) d (λ h. grind (arith, ints, nat_tests))
behind_end w k m Jge o d = bounds_decide w k m true o (int_le (pos o) (pos w.frame)) d (λ h. grind (arith, ints, nat_tests))
behind_end w k m Jlt o d = bounds_decide w k m false o (int_lt (pos w.frame) (pos o)) d (λ h. grind (arith, ints, nat_tests))
behind_end w k m Jle o d = bounds_decide w k m false (o + 1) (int_le (pos w.frame) (pos o)) d (λ h. grind (arith, ints, nat_tests))
behind_end w k m c o d = tt

-- ---- places that are not known
base_decides : (w : World) (k : Kinds) (m : Machine) (edge : Bool) (n : ℕ) (z : ℤ) (t : Bool) (place : ℕ) → DescribesMachine w k m → w.gave n ≡ is.Packet (pos place)
    → (t ≡ edge → (pos place +ℤ z) ≤ℤ pos w.frame) → Decides w k m (Some t) (BaseTest edge n z)
base_decides w k m true n z true place d g h = (true, refl, inl refl, refined_machine w (IsChecked n z) k m (λ x v p. refined_checked w m.maps n z place x v g (h refl) p) d)
base_decides w k m false n z true place d g h = (true, refl, inl refl, d)
base_decides w k m true n z false place d g h = (false, refl, inl refl, d)
base_decides w k m false n z false place d g h = (false, refl, inl refl, refined_machine w (IsChecked n z) k m (λ x v p. refined_checked w m.maps n z place x v g (h refl) p) d)

base_before : (w : World) (k : Kinds) (m : Machine) (c : JumpCode) (n : ℕ) (f : ℤ) (p : ℕ) → w.gave n ≡ is.Packet (pos p) → DescribesMachine w k m
    → IfOk (base_test c n f) (Decides w k m (compared Bits64 c (is.Packet (pos p +ℤ f)) (is.Packet (pos w.frame))))
base_before w k m Jgt n f p g d = base_decides w k m false n f (int_lt (pos w.frame) (pos p +ℤ f)) p d g (λ h. omega (arith, ints))
base_before w k m Jge n f p g d = base_decides w k m false n (f +ℤ pos 1) (int_le (pos w.frame) (pos p +ℤ f)) p d g (λ h. omega (arith, ints))
base_before w k m Jlt n f p g d = base_decides w k m true n (f +ℤ pos 1) (int_lt (pos p +ℤ f) (pos w.frame)) p d g (λ h. omega (arith, ints))
base_before w k m Jle n f p g d = base_decides w k m true n f (int_le (pos p +ℤ f) (pos w.frame)) p d g (λ h. omega (arith, ints))
base_before w k m c n f p g d = tt

base_behind : (w : World) (k : Kinds) (m : Machine) (c : JumpCode) (n : ℕ) (f : ℤ) (p : ℕ) → w.gave n ≡ is.Packet (pos p) → DescribesMachine w k m
    → IfOk (base_test (mirrored c) n f) (Decides w k m (compared Bits64 c (is.Packet (pos w.frame)) (is.Packet (pos p +ℤ f))))
base_behind w k m Jgt n f p g d = base_decides w k m true n (f +ℤ pos 1) (int_lt (pos p +ℤ f) (pos w.frame)) p d g (λ h. omega (arith, ints))
base_behind w k m Jge n f p g d = base_decides w k m true n f (int_le (pos p +ℤ f) (pos w.frame)) p d g (λ h. omega (arith, ints))
base_behind w k m Jlt n f p g d = base_decides w k m false n f (int_lt (pos w.frame) (pos p +ℤ f)) p d g (λ h. omega (arith, ints))
base_behind w k m Jle n f p g d = base_decides w k m false n (f +ℤ pos 1) (int_le (pos w.frame) (pos p +ℤ f)) p d g (λ h. omega (arith, ints))
base_behind w k m c n f p g d = tt

-- ---- null tests
-- what a test against 0 answers of null and of an entry
pub record Answers (equal : Bool) (x : Value) (o : Option Bool) : Type 0 where
  pub null : x ≡ is.Number 0 → o ≡ Some equal
  pub entry : (q : ℕ) (key : List ℕ) (z : ℤ) → x ≡ is.Entry q key z → o ≡ Some (not equal)

null_decides : (w : World) (k : Kinds) (m : Machine) (equal : Bool) (a : Kind) (x : Value) (o : Option Bool) → DescribesMachine w k m → Describes w m.maps a x → Answers equal x o
    → IfOk (null_test equal a) (Decides w k m o)
null_decides w k m true (Maybe q n) x o d (before, gave, inl z) h =
    (true, h.null z, inl refl, refined_machine w (IsNull n) k m (λ y v. refined_null w m.maps n x y v gave z) d)
null_decides w k m true (Maybe q n) x o d (before, gave, inr (key, there, z)) h =
    (false, h.entry q key (pos 0) z, inl refl, refined_machine w (IsEntry n) k m (λ y v. refined_entry w m.maps n q key (pos 0) x y v gave z) d)
null_decides w k m false (Maybe q n) x o d (before, gave, inl z) h =
    (false, h.null z, inl refl, refined_machine w (IsNull n) k m (λ y v. refined_null w m.maps n x y v gave z) d)
null_decides w k m false (Maybe q n) x o d (before, gave, inr (key, there, z)) h =
    (true, h.entry q key (pos 0) z, inl refl, refined_machine w (IsEntry n) k m (λ y v. refined_entry w m.maps n q key (pos 0) x y v gave z) d)
null_decides w k m equal (Entry q p) x o d (key, there, z) h = (not equal, h.entry q key (pos p) z, inr refl, d)
null_decides w k m equal a x o d p h = tt

-- what is compared with a number
abbrev AnswersBy : JumpCode → Number → Value → Option Bool → Type 0
AnswersBy Jeq (Known zero) x o = Answers true x o
AnswersBy Jne (Known zero) x o = Answers false x o
AnswersBy c n x o = Unit {0}

number_decides : (w : World) (k : Kinds) (m : Machine) (c : JumpCode) (a : Kind) (n : Number) (x : Value) (o : Option Bool) → DescribesMachine w k m → Describes w m.maps a x → AnswersBy c n x o
    → IfOk (against_number c a n) (Decides w k m o)
number_decides w k m Jeq a (Known zero) x o d p h = null_decides w k m true a x o d p h
number_decides w k m Jne a (Known zero) x o d p h = null_decides w k m false a x o d p h
number_decides w k m c a n x o d p h = tt

answers_left : (c : JumpCode) (n : Number) (x y : Value) → DescribesNumber n y → AnswersBy c n x (compared Bits64 c x y)
answers_left Jeq (Known zero) x y h = record { null = λ e. rw (e, h) refl; entry = λ q key z e. rw (e, h) refl }
answers_left Jne (Known zero) x y h = record { null = λ e. rw (e, h) refl; entry = λ q key z e. rw (e, h) refl }
answers_left c n x y h = tt

answers_right : (c : JumpCode) (n : Number) (x y : Value) → DescribesNumber n y → AnswersBy c n x (compared Bits64 c y x)
answers_right Jeq (Known zero) x y h = record { null = λ e. rw (e, h) refl; entry = λ q key z e. rw (e, h) refl }
answers_right Jne (Known zero) x y h = record { null = λ e. rw (e, h) refl; entry = λ q key z e. rw (e, h) refl }
answers_right c n x y h = tt

null_condition_decides : (w : World) (k : Kinds) (m : Machine) (c : JumpCode) (a b : Kind) (x y : Value) → DescribesMachine w k m → Describes w m.maps a x → Describes w m.maps b y
    → IfOk (null_condition c a b) (Decides w k m (compared Bits64 c x y))
null_condition_decides w k m c a (Num n) x y d p q = number_decides w k m c a n x (compared Bits64 c x y) d p (answers_left c n x y q)
null_condition_decides w k m c (Num n) b x y d p q = number_decides w k m c b n y (compared Bits64 c x y) d q (answers_right c n y x p)
null_condition_decides w k m c a b x y d p q = tt

-- ---- all conditions
pointers_decide : (w : World) (k : Kinds) (m : Machine) (c : JumpCode) (a b : Kind) (x y : Value) → DescribesMachine w k m → Describes w m.maps a x → Describes w m.maps b y
    → IfOk (pointer_condition c a b) (Decides w k m (compared Bits64 c x y))
pointers_decide w k m c (Packet o) End x y d p q = rw (p, q) (before_end w k m c o d)
pointers_decide w k m c End (Packet o) x y d p q = rw (p, q) (behind_end w k m c o d)
pointers_decide w k m c (Var b f) End x y d p q = rw (p.value, q) (base_before w k m c b.node f p.place p.gave d)
pointers_decide w k m c End (Var b f) x y d p q = rw (p, q.value) (base_behind w k m c b.node f q.place q.gave d)
pointers_decide w k m c a b x y d p q = null_condition_decides w k m c a b x y d p q

condition_decides : (w : World) (k : Kinds) (m : Machine) (wd : Width) (c : JumpCode) (a b : Kind) (x y : Value) → DescribesMachine w k m → Describes w m.maps a x → Describes w m.maps b y
    → IfOk (condition_of wd c a b) (Decides w k m (compared wd c x y))
condition_decides w k m wd c (Num (Known i)) (Num (Known j)) x y d p q = rw (p, q) (holds c (bits_in wd) (low (bits_in wd) i) (low (bits_in wd) j), refl, inr refl, d)
condition_decides w k m wd c (Num (Known i)) (Num (Between lo hi)) x y d p q = rw (p, q.1) (holds c (bits_in wd) (low (bits_in wd) i) (low (bits_in wd) q.0), refl, inl refl, d)
condition_decides w k m wd c (Num (Between lo hi)) (Num n) x y d p q =
    let v = number_of n y q in
    rw (p.1, v.1) (holds c (bits_in wd) (low (bits_in wd) p.0) (low (bits_in wd) v.0), refl, inl refl, d)
condition_decides w k m Bits64 c a b x y d p q = pointers_decide w k m c a b x y d p q
condition_decides w k m Bits32 c a b x y d p q = tt

-- a jump
compared_sound : (w : World) (k : Kinds) (m : Machine) (o : Option Bool) (r : Result Condition Why) → IfOk r (Decides w k m o)
    → IfOk (r >>= (λ x. Ok (Compared x))) (λ e. (taken : Bool) × (o ≡ Some taken) × ((decision r ≡ None) ⊎ (decision r ≡ Some taken)) × DescribesMachine w (changed w.node false taken k e) m)
compared_sound w k m o (Ok x) g = g
compared_sound w k m o (Err e) g = tt

pub conditions_are_sound : ConditionsAreSound
unfolding effect_of
conditions_are_sound w k m i wd c s st op =
    let o = compared wd c (machine.register m.registers i.dst) (step.operand m.registers i s) in
    let P : Op → Effect → Type 0 = λ p e. (taken : Bool) × (o ≡ Some taken) × ((decided_as k i p ≡ None) ⊎ (decided_as k i p ≡ Some taken)) × DescribesMachine w (changed w.node false taken k e) m in
    bind_ok (profiled i k) (λ _. effect_as m.maps.decls k i i.op) (P i.op) (λ u e.
    subst (λ p. IfOk (effect_as m.maps.decls k i p) (P p)) (sym op)
    (compared_sound w k m o (jump k i wd c s)
    (condition_decides w k m wd c (register k i.dst) (operand k i s) (machine.register m.registers i.dst) (step.operand m.registers i s) st.described
    (st.described.registers i.dst) (operand_described w k m i s st.described))))
