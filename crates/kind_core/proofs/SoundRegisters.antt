-- Instructions that write their destination are sound.
use Rattle.std.proofs.Common.{◌≡◌, ℕ, ℤ, pos, ◌+ℤ◌, zero, suc, ◌^◌, ◌<◌, ◌⊎◌, inl, inr, ◌==◌, ◌&&◌, ◌||◌, Bool, true, false, cond, refl, sym, ap, subst, arith, Option, Some, None, Result, Ok, Err, IfOk, List, [], ◌∷◌, length, get_or, set, slice_set}
use Rattle.std.specs.Prelude.{unsigned_abs}
use Rattle.std.specs.Int.{w64, cast_unsigned}
use Rattle.std.proofs.lemmas.Int.{ints}
use Rattle.xdp_machine.specs.bpf_isa.declared.operation.Src.{Src}
use Rattle.xdp_machine.specs.bpf_isa.declared.operation.Src.TheVariants.{K, X}
use Rattle.xdp_machine.specs.bpf_isa.declared.operation.Width.{Width}
use Rattle.xdp_machine.specs.bpf_isa.declared.operation.AluCode.{AluCode}
use Rattle.xdp_machine.specs.bpf_isa.declared.operation.Op.{Op}
use Rattle.xdp_machine.specs.bpf_isa.declared.operation.Op.TheVariants.{Alu, Neg, End as EndOp, Swap, LoadImm, Load, LoadSigned}
use Rattle.xdp_machine.specs.bpf_isa.declared.instruction.Insn.{Insn}
use Rattle.xdp_machine.specs.bpf_isa.Rules.{Allows, rules_of}
use Rattle.xdp_machine.proofs.NumberLaws.{big_word}
use Rattle.xdp_machine.specs.xdp_maps.State.{MapState}
use Rattle.xdp_machine.specs.Values.{Value}
use Rattle.xdp_machine.specs.Values as is
use Rattle.xdp_machine.specs.Arithmetic.{bits_in, low, negated, ordered}
use Rattle.xdp_machine.specs.State as machine
use Rattle.xdp_machine.specs.State.{Machine, with_registers}
use Rattle.xdp_machine.specs.Pointers as values
use Rattle.xdp_machine.specs.Memory as memory
use Rattle.xdp_machine.specs.Step as step
use Rattle.kind_core.specs.declared.kind.Kind.{Kind}
use Rattle.kind_core.specs.declared.kind.Kind.TheVariants.{Unset, Num, Var}
use Rattle.kind_core.specs.declared.base.Bounds.{Bounds}
use Rattle.kind_core.specs.declared.kind.Kinds.{Kinds}
use Rattle.kind_core.specs.declared.effects.Effect.{Effect}
use Rattle.kind_core.specs.declared.effects.Effect.TheVariants.{NewBase}
use Rattle.xdp_state.specs.declared.refusal.Why.{Why}
use Rattle.xdp_state.specs.declared.refusal.Why.TheVariants as why
use Rattle.kind_core.specs.Numbers.{from_one, end_bits}
use Rattle.kind_core.specs.Bases.{new_base}
use Rattle.kind_core.specs.Kinds.{register, with_register}
use Rattle.kind_core.specs.Tests.{◌>>=◌, passed, readable, read_if, number_in}
use Rattle.kind_core.specs.Pointers.{combined}
use Rattle.kind_core.specs.Access.{loaded_plain, loaded_signed}
use Rattle.kind_core.specs.Profile.{writes_destination, in_profile, keeps_stack_end, reads_destination, reads_source, others_read, registers_read, profiled}
use Rattle.kind_core.specs.Effects.{operand, assigned, renumbered, based, if_based, effect_as, effect_of}
use Rattle.kind_core.specs.Edges.{constant, changed}
use Rattle.kind_core.specs.Describes.{World, Describes, DescribesMachine}
use Rattle.kind_core.specs.Soundness.{Stands, at_reference, IsNext, RegistersAreSound}
use Rattle.kind_core.proofs.Sound.{Gives, number_of, of_number, one_is}
use Rattle.kind_core.proofs.TestLaws.{bind_ok, bind_passed}
use Rattle.kind_core.proofs.OperandLaws.{operand_described}
use Rattle.kind_core.proofs.BoundLaws.{negated_below, end_below}
use Rattle.kind_core.proofs.Later.{later_machine, next, next_later, looked, looked_later, looked_here}
use Rattle.kind_core.proofs.SoundBases.{GivesBase, based_gives}
use Rattle.xdp_machine.specs.Ranges.{IsInRange}
use Rattle.xdp_machine.proofs.PartLaws.{register_in_range}
use Rattle.kind_core.proofs.SoundPointers.{HasPlace, has_place, combined_sound}
use Rattle.kind_core.proofs.SoundLoads.{loaded_plain_sound, loaded_signed_sound}
use Rattle.kind_core.proofs.MachineSteps.{assigned_at, changed_number, renumbered_is}

-- a kind and its value are written at one place
pub set_described : (w : World) (maps : MapState) (ks : List Kind) (vs : List Value) (r : ℕ) (k : Kind) (v : Value) → length ks ≡ length vs
    → ((s : ℕ) → Describes w maps (get_or ks s Unset) (get_or vs s is.Unset)) → Describes w maps k v
    → (s : ℕ) → Describes w maps (get_or (set ks r k) s Unset) (get_or (set vs r v) s is.Unset)
set_described w maps [] [] r k v e d h s = tt
set_described w maps [] (b ∷ vs) r k v e d h s = absurd (omega arith)
set_described w maps (a ∷ ks) [] r k v e d h s = absurd (omega arith)
set_described w maps (a ∷ ks) (b ∷ vs) zero k v e d h zero = h
set_described w maps (a ∷ ks) (b ∷ vs) zero k v e d h (suc s) = d (suc s)
set_described w maps (a ∷ ks) (b ∷ vs) (suc r) k v e d h zero = d zero
set_described w maps (a ∷ ks) (b ∷ vs) (suc r) k v e d h (suc s) = set_described w maps ks vs r k v (omega arith) (λ t. d (suc t)) h s

put_described : (w : World) (k : Kinds) (m : Machine) (r : ℕ) (x : Kind) (v : Value) → DescribesMachine w k m → length k.registers ≡ length m.registers → Describes w m.maps x v
    → DescribesMachine w (with_register k r x) (record m { registers = slice_set m.registers r v })
put_described w k m r x v d len h = record {
  registers = set_described w m.maps k.registers m.registers r x v len d.registers h;
  slots = d.slots;
  checked = d.checked;
  frame = d.frame;
}

-- what an instruction makes of a machine that kinds describe, if they are changed by its effect
abbrev pub Leaves : World → Kinds → Machine → Bool → Option Machine → Effect → Type 0
Leaves w k m is_ref o e = (n : Machine) × (o ≡ Some n) × DescribesMachine w (changed w.node is_ref false k e) n

assigned_sound : (w : World) (k : Kinds) (m : Machine) (i : Insn) (is_ref : Bool) → Stands w k m → (i.dst == 10) ≡ false → (r : Result Kind Why) (o : Option Value)
    → IfOk r (Gives w m.maps o) → IfOk (assigned i r) (Leaves w k m is_ref (with_registers m (step.assigned m.registers i o)))
assigned_sound w k m i is_ref st h (Err e) o g = tt
assigned_sound w k m i is_ref st h (Ok x) o (v, e, d) = (record m { registers = slice_set m.registers i.dst v }, assigned_at m i o v h e, put_described w k m i.dst x v st.described st.registers d)

renumbered_gives : (w : World) (maps : MapState) (bits : ℕ) (f : ℕ → ℕ) (a : Kind) (x : Value) → ((y : ℕ) → f y < 2 ^ bits) → Describes w maps a x
    → IfOk (number_in a >>= (λ n. Ok (Num (from_one bits f n)))) (Gives w maps (changed_number f x))
renumbered_gives w maps bits f (Num n) x short d = let u = number_of n x d in rw (u.1) (is.Number (f u.0), refl, of_number _ _ (one_is bits f n u.0 (short u.0) u.2))
renumbered_gives w maps bits f a x short d = tt

renumbered_sound : (w : World) (k : Kinds) (m : Machine) (i : Insn) (is_ref : Bool) (bits : ℕ) (f : ℕ → ℕ) → ((y : ℕ) → f y < 2 ^ bits) → Stands w k m → (i.dst == 10) ≡ false
    → IfOk (assigned i (renumbered k i (from_one bits f))) (Leaves w k m is_ref (with_registers m (step.renumbered m.registers i f)))
renumbered_sound w k m i is_ref bits f short st h =
    subst (λ o. IfOk (assigned i (renumbered k i (from_one bits f))) (Leaves w k m is_ref (with_registers m o))) (sym (renumbered_is m.registers i f))
    (assigned_sound w k m i is_ref st h (renumbered k i (from_one bits f)) (changed_number f (machine.register m.registers i.dst))
    (renumbered_gives w m.maps bits f (register k i.dst) (machine.register m.registers i.dst) short (st.described.registers i.dst)))

operand_readable : (k : Kinds) (i : Insn) (wd : Width) (c : AluCode) (s : Src) → read_if (reads_source (Alu wd c s)) (register k i.src) ≡ passed → readable (operand k i s) ≡ passed
operand_readable k i wd c K h = refl
operand_readable k i wd c X h = h

constant_described : (w : World) (maps : MapState) (is_ref : Bool) (i : Insn)
    → Describes w maps (constant is_ref i.imm) (cond is_ref (is.Map (low 32 (cast_unsigned w64 i.imm))) (is.Number (cast_unsigned w64 i.imm)))
constant_described w maps true i = refl
constant_described w maps false i = refl

plain_source : (b : Bool) → cond b passed (Err why.Instruction) ≡ passed → b ≡ true
plain_source true h = refl
plain_source false h = cc

-- the same at the next node of the run
abbrev pub LeavesNext : World → Kinds → Machine → Bool → Option Machine → Effect → Type 0
LeavesNext w k m is_ref o e = (n : Machine) × (o ≡ Some n) × ((v : World) × IsNext w v × DescribesMachine v (changed w.node is_ref false k e) n)

on_next : (w : World) (k : Kinds) (m : Machine) (is_ref : Bool) (o : Option Machine) (r : Result Effect Why) → IfOk r (Leaves w k m is_ref o) → IfOk r (LeavesNext w k m is_ref o)
on_next w k m is_ref o (Ok e) (n, made, d) = (n, made, (next w, (next_later w, refl), later_machine w (next w) (changed w.node is_ref false k e) n (next_later w) d))
on_next w k m is_ref o (Err y) g = tt

-- a new base, which the world of the next node has
new_base_described : (w : World) (maps : MapState) (bounds : Bounds) (o : Option Value) → (g : GivesBase o bounds) → Describes (looked w (is.Packet (pos g.place))) maps (Var (new_base w.node bounds) (pos 0)) (is.Packet (pos g.place))
new_base_described w maps bounds o g = record {
  place = g.place;
  before = omega arith;
  gave = looked_here w (is.Packet (pos g.place));
  low = g.low;
  high = g.high;
  inside = g.inside;
  least = omega (arith, ints);
  most = omega (arith, ints);
  checked = let low = g.high in let high = g.inside in omega (arith, ints);
  value = ap is.Packet (still (pos g.place));
}
  where
    still : (z : ℤ) → z ≡ z +ℤ pos 0
    still z = omega (arith, ints)

new_base_leaves : (w : World) (k : Kinds) (m : Machine) (i : Insn) (is_ref : Bool) (bounds : Bounds) (o : Option Value) → Stands w k m → (i.dst == 10) ≡ false → GivesBase o bounds
    → LeavesNext w k m is_ref (with_registers m (step.assigned m.registers i o)) (NewBase i.dst bounds)
new_base_leaves w k m i is_ref bounds o st h g =
    let v : Value = is.Packet (pos g.place) in
    let u = looked w v in (
      record m { registers = slice_set m.registers i.dst v },
      assigned_at m i o v h g.made,
      (
        u,
        (looked_later w v, refl),
        put_described u k m i.dst (Var (new_base w.node bounds) (pos 0)) v (later_machine w u k m (looked_later w v) st.described) st.registers (new_base_described w m.maps bounds o g),
      ),
    )

either_base : (o : Option Bounds) → (o ≡ None) ⊎ ((bounds : Bounds) × (o ≡ Some bounds))
either_base None = inl refl
either_base (Some bounds) = inr (bounds, refl)

operand_place : (m : Machine) (i : Insn) (s : Src) → IsInRange m → HasPlace (step.operand m.registers i s)
operand_place m i K h = tt
operand_place m i X h = has_place m.maps.decls (machine.register m.registers i.src) (register_in_range m.maps.decls m.registers i.src h.registers)

-- arithmetic with two operands
arithmetic_sound : (w : World) (k : Kinds) (m : Machine) (i : Insn) (is_ref : Bool) (wd : Width) (c : AluCode) (s : Src) → Stands w k m → (i.dst == 10) ≡ false → readable (operand k i s) ≡ passed
    → IfOk (effect_as m.maps.decls k i (Alu wd c s)) (LeavesNext w k m is_ref (with_registers m (step.assigned m.registers i (values.combined wd c i.offset (machine.register m.registers i.dst) (step.operand m.registers i s)))))
arithmetic_sound w k m i is_ref wd c s st h r =
    let a = register k i.dst in
    let b = operand k i s in
    let x = machine.register m.registers i.dst in
    let y = step.operand m.registers i s in
    let o = values.combined wd c i.offset x y in
    let first = st.described.registers i.dst in
    let second = operand_described w k m i s st.described in
    let P : Effect → Type 0 = LeavesNext w k m is_ref (with_registers m (step.assigned m.registers i o)) in
    let plain = on_next w k m is_ref (with_registers m (step.assigned m.registers i o)) (assigned i (combined m.maps.decls wd c i.offset s a b))
    (assigned_sound w k m i is_ref st h (combined m.maps.decls wd c i.offset s a b) o (combined_sound w m.maps m.maps.decls st.values wd c i.offset s a b x y (has_place m.maps.decls x (register_in_range m.maps.decls m.registers i.dst st.range.registers)) (operand_place m i s st.range) r first second)) in
    elim (either_base (based k.offsets wd c a b)) [
      | inl none ↦ subst (λ t. IfOk (if_based i t (assigned i (combined m.maps.decls wd c i.offset s a b))) P) (sym none) plain
      | inr (bounds, some) ↦
          subst (λ t. IfOk (if_based i t (assigned i (combined m.maps.decls wd c i.offset s a b))) P) (sym some)
          (new_base_leaves w k m i is_ref bounds o st h (based_gives w m.maps k.offsets wd c i.offset a b x y bounds some first second))
    ]

by_operation : (refs : List ℕ) (w : World) (k : Kinds) (m : Machine) (i : Insn) (op : Op) → Stands w k m → writes_destination op ≡ true → (i.dst == 10) ≡ false
    → Allows (rules_of op).imm i.imm → in_profile i op ≡ passed → read_if (reads_source op) (register k i.src) ≡ passed
    → IfOk (effect_as m.maps.decls k i op) (LeavesNext w k m (at_reference refs m) (step.effect refs m i op))
by_operation refs w k m i (Alu wd c s) st e h l p q = arithmetic_sound w k m i (at_reference refs m) wd c s st h (operand_readable k i wd c s q)
by_operation refs w k m i (Neg wd) st e h l p q = on_next w k m (at_reference refs m) (step.effect refs m i (Neg wd)) (effect_as m.maps.decls k i (Neg wd)) (renumbered_sound w k m i (at_reference refs m) (bits_in wd) (negated (bits_in wd)) (negated_below wd) st h)
by_operation refs w k m i (EndOp s) st e h l p q =
    on_next w k m (at_reference refs m) (step.effect refs m i (EndOp s)) (effect_as m.maps.decls k i (EndOp s))
    (renumbered_sound w k m i (at_reference refs m) (end_bits (unsigned_abs i.imm)) (ordered s (unsigned_abs i.imm)) (λ y. end_below s i.imm y l) st h)
by_operation refs w k m i Swap st e h l p q =
    on_next w k m (at_reference refs m) (step.effect refs m i Swap) (effect_as m.maps.decls k i Swap)
    (renumbered_sound w k m i (at_reference refs m) 64 (ordered X (unsigned_abs i.imm)) (λ y. big_word i.imm y l) st h)
by_operation refs w k m i LoadImm st e h l p q =
    let v : Value = cond (at_reference refs m) (is.Map (low 32 (cast_unsigned w64 i.imm))) (is.Number (cast_unsigned w64 i.imm)) in
    on_next w k m (at_reference refs m) (step.effect refs m i LoadImm) (effect_as m.maps.decls k i LoadImm) (
      record m { registers = slice_set m.registers i.dst v },
      assigned_at m i (step.constant refs m.place i) v h (ap (λ t. cond t (Some v) None) (plain_source (i.src == 0) p)),
      put_described w k m i.dst (constant (at_reference refs m) i.imm) v st.described st.registers (constant_described w m.maps (at_reference refs m) i),
    )
by_operation refs w k m i (Load size) st e h l p q =
    on_next w k m (at_reference refs m) (step.effect refs m i (Load size)) (effect_as m.maps.decls k i (Load size))
    (assigned_sound w k m i (at_reference refs m) st h (loaded_plain m.maps.decls k (register k i.src) i.offset size)
    (memory.loaded_plain m (machine.register m.registers i.src) i.offset size)
    (loaded_plain_sound w k m (register k i.src) (machine.register m.registers i.src) i.offset size st.described st.range (st.described.registers i.src)))
by_operation refs w k m i (LoadSigned size) st e h l p q =
    on_next w k m (at_reference refs m) (step.effect refs m i (LoadSigned size)) (effect_as m.maps.decls k i (LoadSigned size))
    (assigned_sound w k m i (at_reference refs m) st h (loaded_signed m.maps.decls k (register k i.src) i.offset size)
    (memory.loaded_signed m (machine.register m.registers i.src) i.offset size)
    (loaded_signed_sound w k m (register k i.src) (machine.register m.registers i.src) i.offset size st.described st.range (st.described.registers i.src)))
by_operation refs w k m i op st e h l p q = cc

kept : (a b c : Bool) → cond ((a && b) || c) (Err why.Instruction) passed ≡ passed → a ≡ true → b ≡ false
kept true true c h e = cc
kept true false c h e = refl
kept false b c h e = cc

pub registers_are_sound : RegistersAreSound
unfolding effect_of
registers_are_sound refs w k m i st legal writes =
    bind_ok (profiled i k) (λ _. effect_as m.maps.decls k i i.op) (LeavesNext w k m (at_reference refs m) (step.effect refs m i i.op)) (λ u e.
    let a = bind_passed (in_profile i i.op) (λ _. keeps_stack_end i >>= (λ _. registers_read i k)) u e in
    let b = bind_passed (keeps_stack_end i) (λ _. registers_read i k) u a.2 in
    let c = bind_passed (read_if (reads_destination i.op) (register k i.dst)) (λ _. read_if (reads_source i.op) (register k i.src) >>= (λ _. others_read i k i.op)) u b.2 in
    let d = bind_passed (read_if (reads_source i.op) (register k i.src)) (λ _. others_read i k i.op) u c.2 in
    by_operation refs w k m i i.op st writes (kept (writes_destination i.op) (i.dst == 10) _ b.1 writes) legal.imm a.1 d.1)
