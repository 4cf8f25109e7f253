-- Where offsets do not vary, no place is not known.
use Rattle.std.proofs.Common.{◌≡◌, ℕ, zero, suc, ◌/◌, ◌%◌, ◌==◌, ◌&&◌, int_le, ℤ, pos, negsuc, ◌+ℤ◌, Bool, true, false, cond, refl, sym, subst, Option, Some, None, Result, Ok, Err, IfOk, List, [], ◌∷◌, map, drop, set, get_or, replicate}
use Rattle.std.specs.Prelude.{unsigned_abs}
use Rattle.std.specs.Ordering.{int_eq}
use Rattle.std.specs.Int.{w64, cast_unsigned}
use Rattle.xdp_machine.specs.bpf_isa.declared.operation.Src.{Src}
use Rattle.xdp_machine.specs.bpf_isa.declared.operation.Src.TheVariants.{K, X}
use Rattle.xdp_machine.specs.bpf_isa.declared.operation.Size.{Size}
use Rattle.xdp_machine.specs.bpf_isa.declared.operation.Size.TheVariants.{W, Dw}
use Rattle.xdp_machine.specs.bpf_isa.declared.operation.Width.{Width}
use Rattle.xdp_machine.specs.bpf_isa.declared.operation.Width.TheVariants.{Bits32, Bits64}
use Rattle.xdp_machine.specs.bpf_isa.declared.operation.AluCode.{AluCode}
use Rattle.xdp_machine.specs.bpf_isa.declared.operation.AluCode.TheVariants.{Add, Sub, Mov}
use Rattle.xdp_machine.specs.bpf_isa.declared.operation.Op.{Op}
use Rattle.xdp_machine.specs.bpf_isa.declared.operation.Op.TheVariants.{Alu, Neg, End as EndOp, Swap, Ja, Jump, Call, Exit, LoadImm, Load, LoadSigned, StoreImm, Store, Atomic, Abs, Ind}
use Rattle.xdp_machine.specs.bpf_isa.declared.instruction.Insn.{Insn}
use Rattle.xdp_machine.specs.bpf_isa.declared.helper.Helper.{Helper}
use Rattle.xdp_machine.specs.bpf_isa.Helpers.{helper_of}
use Rattle.xdp_machine.specs.xdp_maps.declared.decl.MapDecl.{MapDecl}
use Rattle.xdp_machine.specs.Atomics.{fetches}
use Rattle.kind_core.specs.declared.number.Number.{Number}
use Rattle.kind_core.specs.declared.kind.Kind.{Kind}
use Rattle.kind_core.specs.declared.kind.Kind.TheVariants.{Unset, Num, Packet, Var, End, Stack, Ctx, MapRef, Maybe, Entry, Stale, Mixed}
use Rattle.kind_core.specs.declared.kind.Kinds.{Kinds}
use Rattle.kind_core.specs.declared.kind.Offsets.{Offsets}
use Rattle.kind_core.specs.declared.kind.Offsets.TheVariants.{Fixed, Varying}
use Rattle.kind_core.specs.declared.conditions.Condition.{Condition}
use Rattle.kind_core.specs.declared.conditions.Condition.TheVariants.{Decided, Open, NullTest, BoundsTest, BaseTest}
use Rattle.kind_core.specs.declared.effects.Effect.{Effect}
use Rattle.kind_core.specs.declared.effects.Effect.TheVariants.{Nothing, Register, NewBase, Constant, Slot, Lookup, Answered, Changed, Compared}
use Rattle.kind_core.specs.declared.helpers.Answer.{Answer}
use Rattle.kind_core.specs.declared.helpers.Answer.TheVariants.{EntryOrNull, Plainly, AfterChange}
use Rattle.kind_core.specs.declared.helpers.Prototype.{Prototype}
use Rattle.kind_core.specs.declared.places.Place.{Place}
use Rattle.kind_core.specs.declared.places.Place.TheVariants.{InPacket, InStack, InEntry}
use Rattle.kind_core.specs.declared.refinements.Refinement.{Refinement}
use Rattle.kind_core.specs.declared.refinements.Refinement.TheVariants.{IsNull, IsEntry, IsStale, IsChecked}
use Rattle.xdp_state.specs.declared.refusal.Why.{Why}
use Rattle.xdp_state.specs.declared.refusal.Why.TheVariants as why
use Rattle.kind_core.specs.NumberBounds.{any_number}
use Rattle.kind_core.specs.Kinds.{register, value_bytes, is_hash, answering, first_registers}
use Rattle.kind_core.specs.Tests.{◌>>=◌, number_in, readable, within}
use Rattle.kind_core.specs.Joins.{join_kind, join_list, join_offsets}
use Rattle.kind_core.specs.Places.{accessed}
use Rattle.kind_core.specs.Pointers.{distance, stack_at, moved, sum, less_number, less_packet, less_end, difference, copied, computed, combined}
use Rattle.kind_core.specs.Access.{from_context, from_slot, found, loaded, is_context, loaded_plain, loaded_signed, to_slot, underlying, stored_at, stored, comparand, compares, changed_at}
use Rattle.kind_core.specs.Calls.{prototype_of, declared, argument_fits, change_of, answer_of, called_as, called}
use Rattle.kind_core.specs.Profile.{profiled}
use Rattle.kind_core.specs.Effects.{immediate, operand, assigned, renumbered, alu, jump, based, if_based, effect_as, effect_of}
use Rattle.kind_core.specs.Edges.{refined, refined_all, raised, agrees, on_edge, constant, changed, changed_if, transferred}
use Rattle.kind_core.specs.FixedOffsets.{is_var, HaveNoVar, IsFixed, StaysFixed}
use Rattle.kind_core.proofs.TestLaws.{bind_all}

abbrev NotVar : Kind → Type 0
NotVar k = is_var k ≡ false

-- ---- arithmetic
stack_fixed : (z : ℤ) → IfOk (stack_at z) NotVar
stack_fixed z = by_test (int_le (negsuc 511) z && int_le z (pos 0))
  where
    by_test : (t : Bool) → IfOk (cond t (Ok (Stack z)) (Err why.Offset)) NotVar
    by_test true = refl
    by_test false = tt

moved_fixed : (decls : List MapDecl) (back : Bool) (k : Kind) (n : Number) → NotVar k → IfOk (moved decls back k n) NotVar
moved_fixed decls back (Packet o) n h = bind_all (distance back n) _ NotVar (λ z. bind_all (within (pos o +ℤ z) 0 256) (λ a. Ok (Packet a)) NotVar (λ a. refl))
moved_fixed decls back (Var b f) n h = absurd (cc)
moved_fixed decls back (Stack o) n h = bind_all (distance back n) _ NotVar (λ z. stack_fixed (o +ℤ z))
moved_fixed decls back (Entry q o) n h = bind_all (distance back n) _ NotVar (λ z. bind_all (within (pos o +ℤ z) 0 (value_bytes decls q)) (λ a. Ok (Entry q a)) NotVar (λ a. refl))
moved_fixed decls back k n h = tt

sum_fixed : (decls : List MapDecl) (a b : Kind) → NotVar a → NotVar b → IfOk (sum decls a b) NotVar
sum_fixed decls (Num a) (Num b) p q = refl
sum_fixed decls (Num a) k p q = moved_fixed decls false k a q
sum_fixed decls k (Num b) p q = moved_fixed decls false k b p
sum_fixed decls a b p q = tt

less_fixed : (decls : List MapDecl) (a : Kind) (n : Number) → NotVar a → IfOk (less_number decls a n) NotVar
less_fixed decls (Num a) n p = refl
less_fixed decls k n p = moved_fixed decls true k n p

packets_fixed : (a : Kind) (p : ℕ) → IfOk (less_packet a p) NotVar
packets_fixed (Packet o) p = refl
packets_fixed (Var b f) p = refl
packets_fixed End p = refl
packets_fixed k p = tt

ends_fixed : (a : Kind) → IfOk (less_end a) NotVar
ends_fixed (Packet o) = refl
ends_fixed (Var b f) = refl
ends_fixed End = refl
ends_fixed k = tt

difference_fixed : (decls : List MapDecl) (a b : Kind) → NotVar a → IfOk (difference decls a b) NotVar
difference_fixed decls k (Num b) p = less_fixed decls k b p
difference_fixed decls k (Packet o) p = packets_fixed k o
difference_fixed decls k (Var b f) p = ends_fixed k
difference_fixed decls k End p = ends_fixed k
difference_fixed decls k j p = tt

copied_fixed : (w : Width) (count : ℕ) (k : Kind) → NotVar k → IfOk (copied w count k) NotVar
copied_fixed Bits64 zero k h = h
copied_fixed Bits64 (suc count) k h = bind_all (number_in k) _ NotVar (λ n. refl)
copied_fixed Bits32 count k h = bind_all (number_in k) _ NotVar (λ n. refl)

computed_fixed : (w : Width) (c : AluCode) (signed : Bool) (s : Src) (a b : Kind) → IfOk (computed w c signed s a b) NotVar
computed_fixed w c signed s a b = bind_all (number_in a) _ NotVar (λ x. bind_all (number_in b) _ NotVar (λ y. refl))

combined_fixed : (decls : List MapDecl) (w : Width) (c : AluCode) (offset : ℤ) (s : Src) (a b : Kind) → NotVar a → NotVar b → IfOk (combined decls w c offset s a b) NotVar
combined_fixed decls w Mov offset s a b p q = copied_fixed w (unsigned_abs offset) b q
combined_fixed decls Bits64 Add offset s a b p q = sum_fixed decls a b p q
combined_fixed decls Bits64 Sub offset s a b p q = difference_fixed decls a b p
combined_fixed decls w c offset s a b p q = computed_fixed w c (int_eq offset (pos 1)) s a b

-- ---- loads and stores
slot_fixed : (size : Size) (a : ℕ) (k : Kind) → NotVar k → IfOk (from_slot size a k) NotVar
slot_fixed Dw a k h = h
slot_fixed size a k h = bind_all (number_in k) _ NotVar (λ n. refl)

found_fixed : (slots : List Kind) (size : Size) (place : Place) → HaveNoVar slots → IfOk (found slots size place) NotVar
found_fixed slots size InPacket h = refl
found_fixed slots size (InStack a) h = bind_all (readable (get_or slots (a / 8) Unset)) _ NotVar (λ u. slot_fixed size (a % 8) (get_or slots (a / 8) Unset) (h (a / 8)))
found_fixed slots size InEntry h = refl

loaded_fixed : (decls : List MapDecl) (k : Kinds) (base : Kind) (offset : ℤ) (size : Size) → IsFixed k → IfOk (loaded decls k base offset size) NotVar
unfolding loaded
loaded_fixed decls k base offset size h = bind_all (accessed decls k.checked base offset size) _ NotVar (λ place. found_fixed k.slots size place h.slots)

field_fixed : (a b c d : Bool) → IfOk (cond a (Ok (Packet 0)) (cond b (Ok End) (cond c (Ok (Num (any_number 32))) (cond d (Ok (Num (any_number 32))) (Err why.Offset))))) NotVar
field_fixed true b c d = refl
field_fixed false true c d = refl
field_fixed false false true d = refl
field_fixed false false false true = refl
field_fixed false false false false = tt

context_fixed : (offset : ℤ) (size : Size) → IfOk (from_context offset size) NotVar
context_fixed offset W = field_fixed (int_eq offset (pos 0)) (int_eq offset (pos 4)) (int_eq offset (pos 12)) (int_eq offset (pos 16))
context_fixed offset size = tt

either_fixed : (t : Bool) (a b : Result Kind Why) → IfOk a NotVar → IfOk b NotVar → IfOk (cond t a b) NotVar
either_fixed true a b p q = p
either_fixed false a b p q = q

plain_fixed : (decls : List MapDecl) (k : Kinds) (base : Kind) (offset : ℤ) (size : Size) → IsFixed k → IfOk (loaded_plain decls k base offset size) NotVar
unfolding loaded_plain
plain_fixed decls k base offset size h = either_fixed (is_context base) (from_context offset size) (loaded decls k base offset size) (context_fixed offset size) (loaded_fixed decls k base offset size h)

signed_fixed : (decls : List MapDecl) (k : Kinds) (base : Kind) (offset : ℤ) (size : Size) → IfOk (loaded_signed decls k base offset size) NotVar
unfolding loaded_signed
signed_fixed decls k base offset size =
    either_fixed (is_context base) (Err why.Offset) _ tt (bind_all (loaded decls k base offset size) _ NotVar (λ x. bind_all (number_in x) _ NotVar (λ n. refl)))

-- ---- effects
abbrev FixedEffect : Effect → Type 0
FixedEffect (Register r x) = NotVar x
FixedEffect (NewBase r bounds) = ⊥
FixedEffect (Slot s x) = NotVar x
FixedEffect e = Unit {0}

put_fixed : (size : Size) (a : ℕ) (old x : Kind) → NotVar x → IfOk (to_slot size a old x) NotVar
put_fixed Dw a old x h = h
put_fixed size a old x h = bind_all (number_in x) _ NotVar (λ n. bind_all (underlying old) _ NotVar (λ m. refl))

put_effect : (s : ℕ) (r : Result Kind Why) → IfOk r NotVar → IfOk (r >>= (λ y. Ok (Slot s y))) FixedEffect
put_effect s (Ok y) h = h
put_effect s (Err e) h = tt

stored_at_fixed : (slots : List Kind) (size : Size) (x : Kind) (place : Place) → NotVar x → IfOk (stored_at slots size x place) FixedEffect
stored_at_fixed slots size x InPacket h = bind_all (number_in x) (λ n. Ok Nothing) FixedEffect (λ n. tt)
stored_at_fixed slots size x (InStack a) h = put_effect (a / 8) (to_slot size (a % 8) (get_or slots (a / 8) Unset) x) (put_fixed size (a % 8) (get_or slots (a / 8) Unset) x h)
stored_at_fixed slots size x InEntry h = bind_all (number_in x) (λ n. Ok Nothing) FixedEffect (λ n. tt)

stored_fixed : (decls : List MapDecl) (k : Kinds) (base : Kind) (offset : ℤ) (size : Size) (x : Kind) → NotVar x → IfOk (stored decls k base offset size x) FixedEffect
unfolding stored
stored_fixed decls k base offset size x h = bind_all (accessed decls k.checked base offset size) _ FixedEffect (λ place. stored_at_fixed k.slots size x place h)

assigned_fixed : (i : Insn) (r : Result Kind Why) → IfOk r NotVar → IfOk (assigned i r) FixedEffect
assigned_fixed i (Ok x) h = h
assigned_fixed i (Err e) h = tt

renumbered_fixed : (k : Kinds) (i : Insn) (f : Number → Number) → IfOk (renumbered k i f) NotVar
renumbered_fixed k i f = bind_all (number_in (register k i.dst)) _ NotVar (λ n. refl)

operand_fixed : (k : Kinds) (i : Insn) (s : Src) → IsFixed k → NotVar (operand k i s)
operand_fixed k i K h = refl
operand_fixed k i X h = h.registers i.src

never_based : (offsets : Offsets) (w : Width) (c : AluCode) (a b : Kind) → offsets ≡ Fixed → based offsets w c a b ≡ None
never_based Fixed w c a b h = refl
never_based Varying w c a b h = absurd (cc)

arithmetic_fixed : (decls : List MapDecl) (k : Kinds) (i : Insn) (w : Width) (c : AluCode) (s : Src) → IsFixed k → IfOk (effect_as decls k i (Alu w c s)) FixedEffect
arithmetic_fixed decls k i w c s h =
    let none = never_based k.offsets w c (register k i.dst) (operand k i s) h.offsets in
    subst (λ o. IfOk (if_based i o (assigned i (alu decls k i (Alu w c s)))) FixedEffect) (sym none)
    (assigned_fixed i (alu decls k i (Alu w c s)) (combined_fixed decls w c i.offset s (register k i.dst) (operand k i s) (h.registers i.dst) (operand_fixed k i s h)))

taking_fixed : (a b : Bool) (r : ℕ) → FixedEffect (cond a (Register 0 (Num (any_number 64))) (cond b (Register r (Num (any_number 64))) Nothing))
taking_fixed true b r = refl
taking_fixed false true r = refl
taking_fixed false false r = tt

changed_at_fixed : (k : Kinds) (i : Insn) (p : Place) → IfOk (changed_at k i p) FixedEffect
changed_at_fixed k i InPacket = tt
changed_at_fixed k i (InStack a) = tt
changed_at_fixed k i InEntry =
    bind_all (number_in (register k i.src)) _ FixedEffect (λ _. bind_all (comparand i k) _ FixedEffect (λ _. taking_fixed (compares i) (fetches (cast_unsigned w64 i.imm)) i.src))

change_fixed : (t : Bool) (q : ℕ) → FixedEffect (cond t (Changed q) Answered)
change_fixed true q = tt
change_fixed false q = tt

answer_fixed : (decls : List MapDecl) (k : Kinds) (a : Answer) → IfOk (answer_of decls k a) FixedEffect
answer_fixed decls k EntryOrNull = bind_all (declared decls (register k 1)) (λ q. Ok (Lookup q)) FixedEffect (λ q. tt)
answer_fixed decls k Plainly = tt
answer_fixed decls k AfterChange = bind_all (declared decls (register k 1)) (λ q. Ok (change_of decls q)) FixedEffect (λ q. change_fixed (is_hash decls q) q)

called_as_fixed : (decls : List MapDecl) (k : Kinds) (p : Prototype) → IfOk (called_as decls k p) FixedEffect
called_as_fixed decls k p =
    bind_all (argument_fits decls k p 0) _ FixedEffect (λ _.
    bind_all (argument_fits decls k p 1) _ FixedEffect (λ _.
    bind_all (argument_fits decls k p 2) _ FixedEffect (λ _.
    bind_all (argument_fits decls k p 3) _ FixedEffect (λ _. bind_all (argument_fits decls k p 4) _ FixedEffect (λ _. answer_fixed decls k p.answer)))))

called_fixed : (decls : List MapDecl) (k : Kinds) (id : ℤ) (h : Option Helper) → IfOk (called decls k id h) FixedEffect
called_fixed decls k id None = tt
called_fixed decls k id (Some h) = called_as_fixed decls k (prototype_of h)

effect_fixed : (decls : List MapDecl) (k : Kinds) (i : Insn) (op : Op) → IsFixed k → IfOk (effect_as decls k i op) FixedEffect
effect_fixed decls k i (Alu w c s) h = arithmetic_fixed decls k i w c s h
effect_fixed decls k i (Neg w) h = assigned_fixed i (alu decls k i (Neg w)) (renumbered_fixed k i _)
effect_fixed decls k i (EndOp s) h = assigned_fixed i (alu decls k i (EndOp s)) (renumbered_fixed k i _)
effect_fixed decls k i Swap h = assigned_fixed i (alu decls k i Swap) (renumbered_fixed k i _)
effect_fixed decls k i (Ja w) h = tt
effect_fixed decls k i (Jump w c s) h = bind_all (jump k i w c s) (λ x. Ok (Compared x)) FixedEffect (λ x. tt)
effect_fixed decls k i Call h = called_fixed decls k i.imm (helper_of i.imm)
effect_fixed decls k i Exit h = bind_all (number_in (register k 0)) (λ n. Ok Nothing) FixedEffect (λ n. tt)
effect_fixed decls k i LoadImm h = tt
effect_fixed decls k i (Load size) h = assigned_fixed i (loaded_plain decls k (register k i.src) i.offset size) (plain_fixed decls k (register k i.src) i.offset size h)
effect_fixed decls k i (LoadSigned size) h = assigned_fixed i (loaded_signed decls k (register k i.src) i.offset size) (signed_fixed decls k (register k i.src) i.offset size)
effect_fixed decls k i (StoreImm size) h = stored_fixed decls k (register k i.dst) i.offset size (immediate i) refl
effect_fixed decls k i (Store size) h = stored_fixed decls k (register k i.dst) i.offset size (register k i.src) (h.registers i.src)
effect_fixed decls k i (Atomic size) h = bind_all (accessed decls k.checked (register k i.dst) i.offset size) _ FixedEffect (λ p. changed_at_fixed k i p)
effect_fixed decls k i (Abs size) h = tt
effect_fixed decls k i (Ind size) h = tt

-- ---- what effects leave
set_fixed : (ks : List Kind) (r : ℕ) (x : Kind) → HaveNoVar ks → NotVar x → HaveNoVar (set ks r x)
set_fixed [] r x h p s = refl
set_fixed (k ∷ ks) zero x h p zero = p
set_fixed (k ∷ ks) zero x h p (suc s) = h (suc s)
set_fixed (k ∷ ks) (suc r) x h p zero = h zero
set_fixed (k ∷ ks) (suc r) x h p (suc s) = set_fixed ks r x (λ t. h (suc t)) p s

drop_fixed : (n : ℕ) (ks : List Kind) → HaveNoVar ks → HaveNoVar (drop n ks)
drop_fixed zero ks h s = h s
drop_fixed (suc n) [] h s = refl
drop_fixed (suc n) (k ∷ ks) h s = drop_fixed n ks (λ t. h (suc t)) s

answer_kinds : (x : Kind) (ks : List Kind) → NotVar x → HaveNoVar ks → HaveNoVar (x ∷ Unset ∷ Unset ∷ Unset ∷ Unset ∷ Unset ∷ ks)
answer_kinds x ks p h zero = p
answer_kinds x ks p h (suc zero) = refl
answer_kinds x ks p h (suc (suc zero)) = refl
answer_kinds x ks p h (suc (suc (suc zero))) = refl
answer_kinds x ks p h (suc (suc (suc (suc zero)))) = refl
answer_kinds x ks p h (suc (suc (suc (suc (suc zero))))) = refl
answer_kinds x ks p h (suc (suc (suc (suc (suc (suc s)))))) = h s

answering_fixed : (x : Kind) (k : Kinds) → NotVar x → IsFixed k → IsFixed (answering x k)
answering_fixed x k p h = record { offsets = h.offsets; registers = answer_kinds x (drop 6 k.registers) p (drop_fixed 6 k.registers h.registers); slots = h.slots }

choice_fixed : (t : Bool) (a b : Kind) → NotVar a → NotVar b → NotVar (cond t a b)
choice_fixed true a b p q = p
choice_fixed false a b p q = q

refined_fixed : (r : Refinement) (k : Kind) → NotVar k → NotVar (refined r k)
refined_fixed (IsNull n) (Maybe q m) h = choice_fixed (m == n) _ (Maybe q m) refl refl
refined_fixed (IsEntry n) (Maybe q m) h = choice_fixed (m == n) (Entry q 0) (Maybe q m) refl refl
refined_fixed (IsStale t) (Maybe q m) h = choice_fixed (q == t) Stale (Maybe q m) refl refl
refined_fixed (IsStale t) (Entry q o) h = choice_fixed (q == t) Stale (Entry q o) refl refl
refined_fixed (IsChecked n z) (Var b f) h = absurd (cc)
refined_fixed r k h = h

map_fixed : (r : Refinement) (ks : List Kind) → HaveNoVar ks → HaveNoVar (map (refined r) ks)
map_fixed r [] h s = refl
map_fixed r (k ∷ ks) h zero = refined_fixed r k (h zero)
map_fixed r (k ∷ ks) h (suc s) = map_fixed r ks (λ t. h (suc t)) s

all_fixed : (r : Refinement) (k : Kinds) → IsFixed k → IsFixed (refined_all r k)
all_fixed r k h = record { offsets = h.offsets; registers = map_fixed r k.registers h.registers; slots = map_fixed r k.slots h.slots }

if_fixed : (t : Bool) (a b : Kinds) → IsFixed a → IsFixed b → IsFixed (cond t a b)
if_fixed true a b p q = p
if_fixed false a b p q = q

edge_fixed : (taken : Bool) (x : Condition) (k : Kinds) → IsFixed k → IsFixed (on_edge taken x k)
edge_fixed taken (NullTest equal n) k h = all_fixed _ k h
edge_fixed taken (BoundsTest edge n) k h = if_fixed (agrees taken edge) (raised n k) k (record { offsets = h.offsets; registers = h.registers; slots = h.slots }) h
edge_fixed taken (BaseTest edge n z) k h = if_fixed (agrees taken edge) (refined_all (IsChecked n z) k) k (all_fixed (IsChecked n z) k h) h
edge_fixed taken (Decided b) k h = h
edge_fixed taken Open k h = h

constant_fixed : (t : Bool) (a b : Kind) → NotVar a → NotVar b → NotVar (cond t a b)
constant_fixed t a b p q = choice_fixed t a b p q

changed_fixed : (node : ℕ) (is_ref taken : Bool) (k : Kinds) (e : Effect) → FixedEffect e → IsFixed k → IsFixed (changed node is_ref taken k e)
changed_fixed node is_ref taken k Nothing p h = h
changed_fixed node is_ref taken k (Register r x) p h = record { offsets = h.offsets; registers = set_fixed k.registers r x h.registers p; slots = h.slots }
changed_fixed node is_ref taken k (NewBase r bounds) p h = absurd p
changed_fixed node is_ref taken k (Constant r imm) p h =
    record { offsets = h.offsets; registers = set_fixed k.registers r (constant is_ref imm) h.registers (choice_fixed is_ref _ _ refl refl); slots = h.slots }
changed_fixed node is_ref taken k (Slot s x) p h = record { offsets = h.offsets; registers = h.registers; slots = set_fixed k.slots s x h.slots p }
changed_fixed node is_ref taken k (Lookup q) p h = answering_fixed (Maybe q node) k refl h
changed_fixed node is_ref taken k Answered p h = answering_fixed (Num (any_number 64)) k refl h
changed_fixed node is_ref taken k (Changed q) p h = all_fixed (IsStale q) (answering (Num (any_number 64)) k) (answering_fixed (Num (any_number 64)) k refl h)
changed_fixed node is_ref taken k (Compared x) p h = edge_fixed taken x k h

transferred_fixed : (decls : List MapDecl) (k : Kinds) (i : Insn) (node : ℕ) (is_ref taken : Bool) → IsFixed k → IsFixed (transferred decls k i node is_ref taken)
unfolding effect_of
transferred_fixed decls k i node is_ref taken h = by_effect (effect_of decls k i) (bind_all (profiled i k) _ FixedEffect (λ u. effect_fixed decls k i i.op h))
  where
    by_effect : (r : Result Effect Why) → IfOk r FixedEffect → IsFixed (changed_if node is_ref taken k r)
    by_effect (Ok e) p = changed_fixed node is_ref taken k e p h
    by_effect (Err w) p = h

-- ---- joins
join_fixed : (a b : Kind) → NotVar a → NotVar (join_kind a b)
join_fixed Unset b h = refl
join_fixed a Unset h = refl
join_fixed (Num a) (Num b) h = refl
join_fixed (Packet o) (Packet p) h = choice_fixed _ (Packet o) Mixed refl refl
join_fixed (Var a f) b h = absurd (cc)
join_fixed End End h = refl
join_fixed (Stack o) (Stack p) h = choice_fixed _ (Stack o) Mixed refl refl
join_fixed Ctx Ctx h = refl
join_fixed (MapRef q) (MapRef r) h = choice_fixed _ (MapRef q) Mixed refl refl
join_fixed (Maybe q n) (Maybe r m) h = choice_fixed _ (Maybe q n) Mixed refl refl
join_fixed (Entry q o) (Entry r p) h = choice_fixed _ (Entry q o) Mixed refl refl
join_fixed Stale Stale h = refl
join_fixed a b h = refl

joins_fixed : (as' bs : List Kind) → HaveNoVar as' → HaveNoVar (join_list as' bs)
joins_fixed [] bs h s = h s
joins_fixed (a ∷ as') [] h s = refl
joins_fixed (a ∷ as') (b ∷ bs) h zero = join_fixed a b (h zero)
joins_fixed (a ∷ as') (b ∷ bs) h (suc s) = joins_fixed as' bs (λ t. h (suc t)) s

zeros_fixed : (n s : ℕ) (k : Kind) → NotVar k → NotVar (get_or (replicate n k) s Unset)
zeros_fixed zero s k h = refl
zeros_fixed (suc n) zero k h = h
zeros_fixed (suc n) (suc s) k h = zeros_fixed n s k h

firsts_fixed : HaveNoVar first_registers
firsts_fixed zero = refl
firsts_fixed (suc zero) = refl
firsts_fixed (suc (suc zero)) = refl
firsts_fixed (suc (suc (suc zero))) = refl
firsts_fixed (suc (suc (suc (suc zero)))) = refl
firsts_fixed (suc (suc (suc (suc (suc zero))))) = refl
firsts_fixed (suc (suc (suc (suc (suc (suc zero)))))) = refl
firsts_fixed (suc (suc (suc (suc (suc (suc (suc zero))))))) = refl
firsts_fixed (suc (suc (suc (suc (suc (suc (suc (suc zero)))))))) = refl
firsts_fixed (suc (suc (suc (suc (suc (suc (suc (suc (suc zero))))))))) = refl
firsts_fixed (suc (suc (suc (suc (suc (suc (suc (suc (suc (suc zero)))))))))) = refl
firsts_fixed (suc (suc (suc (suc (suc (suc (suc (suc (suc (suc (suc r))))))))))) = refl

pub both_fixed : (a b : Offsets) → a ≡ Fixed → join_offsets a b ≡ Fixed
both_fixed Fixed b h = refl
both_fixed Varying b h = absurd (cc)

pub stays_fixed : StaysFixed
stays_fixed = record {
  starts = record { offsets = refl; registers = firsts_fixed; slots = λ s. zeros_fixed 64 s _ refl };
  joins = λ k j p q. record { offsets = both_fixed k.offsets j.offsets p.offsets; registers = joins_fixed k.registers j.registers p.registers; slots = joins_fixed k.slots j.slots p.slots };
  transfers = transferred_fixed;
}
