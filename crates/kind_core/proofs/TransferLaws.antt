-- What holds of the kinds on edges: they are of 11 registers and 64 slots, and but for conditional jumps they are one on both edges.
use Rattle.std.proofs.Common.{◌≡◌, ℕ, ℤ, suc, ◌/◌, ◌%◌, Bool, true, false, List, [], ◌∷◌, length, get_or, Option, Some, None, Result, Ok, Err, IfOk, refl, sym, ◌∙◌, ap, arith, length-drop}
use Rattle.std.specs.Prelude.{if◌then◌else◌}
use Rattle.std.proofs.lemmas.List.{length-set, length-map}
use Rattle.std.specs.Int.{w64, cast_unsigned}
use Rattle.xdp_machine.specs.bpf_isa.declared.operation.Op.{Op}
use Rattle.xdp_machine.specs.bpf_isa.declared.operation.Op.TheVariants.{Alu, Ja, Jump, Call, Exit, LoadImm, Load, LoadSigned, StoreImm, Store, Atomic}
use Rattle.xdp_machine.specs.bpf_isa.declared.operation.Size.{Size}
use Rattle.xdp_machine.specs.bpf_isa.declared.instruction.Insn.{Insn}
use Rattle.xdp_machine.specs.bpf_isa.declared.helper.Helper.{Helper}
use Rattle.xdp_machine.specs.bpf_isa.Helpers.{helper_of}
use Rattle.xdp_machine.specs.xdp_maps.declared.decl.MapDecl.{MapDecl}
use Rattle.xdp_machine.specs.Atomics.{fetches}
use Rattle.kind_core.specs.declared.base.Bounds.{Bounds}
use Rattle.kind_core.specs.NumberBounds.{any_number}
use Rattle.kind_core.specs.declared.kind.Kind.{Kind}
use Rattle.kind_core.specs.declared.kind.Kind.TheVariants.{Num, Unset}
use Rattle.kind_core.specs.declared.kind.Kinds.{Kinds}
use Rattle.kind_core.specs.declared.conditions.Condition.{Condition}
use Rattle.kind_core.specs.declared.conditions.Condition.TheVariants.{Decided, Open, NullTest, BoundsTest, BaseTest}
use Rattle.kind_core.specs.declared.effects.Effect.{Effect}
use Rattle.kind_core.specs.declared.effects.Effect.TheVariants.{Nothing, Register, NewBase, Constant, Slot, Lookup, Answered, Changed, Compared}
use Rattle.kind_core.specs.declared.helpers.Answer.{Answer}
use Rattle.kind_core.specs.declared.helpers.Answer.TheVariants.{EntryOrNull, Plainly, AfterChange}
use Rattle.kind_core.specs.declared.helpers.Prototype.{Prototype}
use Rattle.kind_core.specs.declared.places.Place.{Place}
use Rattle.kind_core.specs.declared.places.Place.TheVariants.{InPacket, InStack, InEntry}
use Rattle.kind_core.specs.declared.refinements.Refinement.TheVariants.{IsStale, IsChecked}
use Rattle.xdp_state.specs.declared.refusal.Why.{Why}
use Rattle.kind_core.specs.Tests.{number_in}
use Rattle.kind_core.specs.Joins.{join_list, joined}
use Rattle.kind_core.specs.Kinds.{register, is_hash, answering}
use Rattle.kind_core.specs.Places.{accessed}
use Rattle.kind_core.specs.Access.{loaded_plain, loaded_signed, stored, stored_at, changed_at, comparand, taking, compares, to_slot}
use Rattle.kind_core.specs.Calls.{prototype_of, called_as, called, answer_of, change_of, declared, argument_fits}
use Rattle.kind_core.specs.Profile.{profiled}
use Rattle.kind_core.specs.Effects.{alu, operand, based, if_based, assigned, effect_as, effect_of, immediate}
use Rattle.kind_core.specs.Edges.{refined, refined_all, agrees, on_edge, raised, changed, changed_if, transferred}
use Rattle.kind_core.proofs.TestLaws.{bind_all}

-- ---- sizes

pub record IsSized (k : Kinds) : Type 0 where
  pub registers : length k.registers ≡ 11
  pub slots : length k.slots ≡ 64

join_length : (xs ys : List Kind) → length xs ≡ length ys → length (join_list xs ys) ≡ length ys
join_length (x ∷ xs) (y ∷ ys) h = ap suc (join_length xs ys (omega (arith, h)))
join_length (x ∷ xs) [] h = absurd (omega (arith, h))
join_length [] ys h = omega (arith, h)

pub joined_sized : (k j : Kinds) → IsSized k → IsSized j → IsSized (joined k j)
joined_sized k j h l = record {
  registers = join_length k.registers j.registers (h.registers ∙ sym l.registers) ∙ l.registers;
  slots = join_length k.slots j.slots (h.slots ∙ sym l.slots) ∙ l.slots;
}

answering_sized : (x : Kind) (k : Kinds) → IsSized k → IsSized (answering x k)
answering_sized x k h = record { registers = omega (arith, length-drop 6 k.registers, h.registers); slots = h.slots }

edge_sized : (taken : Bool) (x : Condition) (k : Kinds) → IsSized k → IsSized (on_edge taken x k)
edge_sized taken (NullTest equal n) k h = record { registers = length-map k.registers _ ∙ h.registers; slots = length-map k.slots _ ∙ h.slots }
edge_sized taken (BoundsTest edge n) k h = by_side (agrees taken edge)
  where
    by_side : (b : Bool) → IsSized (if b then raised n k else k)
    by_side true = record { registers = h.registers; slots = h.slots }
    by_side false = h
edge_sized taken (BaseTest edge n z) k h = by_side (agrees taken edge)
  where
    by_side : (b : Bool) → IsSized (if b then refined_all (IsChecked n z) k else k)
    by_side true = record { registers = length-map k.registers _ ∙ h.registers; slots = length-map k.slots _ ∙ h.slots }
    by_side false = h
edge_sized taken (Decided b) k h = h
edge_sized taken Open k h = h

changed_sized : (node : ℕ) (is_ref taken : Bool) (k : Kinds) (e : Effect) → IsSized k → IsSized (changed node is_ref taken k e)
changed_sized node is_ref taken k Nothing h = h
changed_sized node is_ref taken k (Register r x) h = record { registers = length-set k.registers r x ∙ h.registers; slots = h.slots }
changed_sized node is_ref taken k (NewBase r bounds) h = record { registers = length-set k.registers r _ ∙ h.registers; slots = h.slots }
changed_sized node is_ref taken k (Constant r imm) h = record { registers = length-set k.registers r _ ∙ h.registers; slots = h.slots }
changed_sized node is_ref taken k (Slot s x) h = record { registers = h.registers; slots = length-set k.slots s x ∙ h.slots }
changed_sized node is_ref taken k (Lookup q) h = answering_sized _ k h
changed_sized node is_ref taken k Answered h = answering_sized _ k h
changed_sized node is_ref taken k (Changed q) h =
    let a = answering_sized (Num (any_number 64)) k h in
    record { registers = length-map (answering (Num (any_number 64)) k).registers (refined (IsStale q)) ∙ a.registers; slots = length-map (answering (Num (any_number 64)) k).slots (refined (IsStale q)) ∙ a.slots }
changed_sized node is_ref taken k (Compared x) h = edge_sized taken x k h

pub transferred_sized : (decls : List MapDecl) (k : Kinds) (i : Insn) (node : ℕ) (is_ref taken : Bool) → IsSized k → IsSized (transferred decls k i node is_ref taken)
transferred_sized decls k i node is_ref taken h = by_effect (effect_of decls k i)
  where
    by_effect : (r : Result Effect Why) → IsSized (changed_if node is_ref taken k r)
    by_effect (Ok e) = changed_sized node is_ref taken k e h
    by_effect (Err w) = h

-- ---- instructions that know one thing, whatever edge is meant

abbrev Fixed : Effect → Type 0
Fixed e = (node : ℕ) (is_ref taken : Bool) (k : Kinds) → changed node is_ref taken k e ≡ changed node is_ref false k e

assigned_fixed : (i : Insn) (r : Result Kind Why) → IfOk (assigned i r) Fixed
assigned_fixed i r = bind_all r (λ x. Ok (Register i.dst x)) Fixed (λ x node is_ref taken k. refl)

change_fixed : (decls : List MapDecl) (q : ℕ) → Fixed (change_of decls q)
change_fixed decls q = by_kind (is_hash decls q)
  where
    by_kind : (b : Bool) → Fixed (if b then Changed q else Answered)
    by_kind true = λ node is_ref taken k. refl
    by_kind false = λ node is_ref taken k. refl

answer_fixed : (decls : List MapDecl) (k : Kinds) (a : Answer) → IfOk (answer_of decls k a) Fixed
answer_fixed decls k EntryOrNull = bind_all (declared decls (register k 1)) (λ q. Ok (Lookup q)) Fixed (λ q node is_ref taken j. refl)
answer_fixed decls k Plainly = λ node is_ref taken j. refl
answer_fixed decls k AfterChange = bind_all (declared decls (register k 1)) (λ q. Ok (change_of decls q)) Fixed (λ q. change_fixed decls q)

fixed_as : (decls : List MapDecl) (k : Kinds) (p : Prototype) → IfOk (called_as decls k p) Fixed
fixed_as decls k p =
    bind_all (argument_fits decls k p 0) _ Fixed (λ a.
    bind_all (argument_fits decls k p 1) _ Fixed (λ b.
    bind_all (argument_fits decls k p 2) _ Fixed (λ c. bind_all (argument_fits decls k p 3) _ Fixed (λ d. bind_all (argument_fits decls k p 4) _ Fixed (λ e. answer_fixed decls k p.answer)))))

called_fixed : (decls : List MapDecl) (k : Kinds) (i : Insn) (o : Option Helper) → IfOk (called decls k i.imm o) Fixed
called_fixed decls k i None = tt
called_fixed decls k i (Some h) = fixed_as decls k (prototype_of h)

stored_at_fixed : (slots : List Kind) (size : Size) (x : Kind) (place : Place) → IfOk (stored_at slots size x place) Fixed
stored_at_fixed slots size x InPacket = bind_all (number_in x) (λ n. Ok Nothing) Fixed (λ n node is_ref taken k. refl)
stored_at_fixed slots size x (InStack a) = bind_all (to_slot size (a % 8) (get_or slots (a / 8) Unset) x) (λ y. Ok (Slot (a / 8) y)) Fixed (λ y node is_ref taken k. refl)
stored_at_fixed slots size x InEntry = bind_all (number_in x) (λ n. Ok Nothing) Fixed (λ n node is_ref taken k. refl)

stored_fixed : (decls : List MapDecl) (k : Kinds) (base : Kind) (offset : ℤ) (size : Size) (x : Kind) → IfOk (stored decls k base offset size x) Fixed
unfolding stored
stored_fixed decls k base offset size x = bind_all _ _ Fixed (λ place. stored_at_fixed k.slots size x place)

taking_fixed : (i : Insn) → Fixed (taking i)
taking_fixed i = by_code (compares i) (fetches (cast_unsigned w64 i.imm))
  where
    by_code : (b f : Bool) → Fixed (if b then Register 0 (Num (any_number 64)) else if f then Register i.src (Num (any_number 64)) else Nothing)
    by_code true f = λ node is_ref taken k. refl
    by_code false true = λ node is_ref taken k. refl
    by_code false false = λ node is_ref taken k. refl

changed_at_fixed : (k : Kinds) (i : Insn) (place : Place) → IfOk (changed_at k i place) Fixed
changed_at_fixed k i InPacket = tt
changed_at_fixed k i (InStack a) = tt
changed_at_fixed k i InEntry = bind_all (number_in (register k i.src)) _ Fixed (λ n. bind_all (comparand i k) _ Fixed (λ u. taking_fixed i))

abbrev pub is_jump : Op → Bool
is_jump (Jump w c s) = true
is_jump op = false

effect_fixed : (decls : List MapDecl) (k : Kinds) (i : Insn) (op : Op) → is_jump op ≡ false → IfOk (effect_as decls k i op) Fixed
effect_fixed decls k i (Jump w c s) h = let bad : true ≡ false = h in absurd (cc)
effect_fixed decls k i (Alu w c s) h = by_base (based k.offsets w c (register k i.dst) (operand k i s))
  where
    by_base : (o : Option Bounds) → IfOk (if_based i o (assigned i (alu decls k i (Alu w c s)))) Fixed
    by_base (Some bounds) = λ node is_ref taken j. refl
    by_base None = assigned_fixed i (alu decls k i (Alu w c s))
effect_fixed decls k i (Ja w) h = λ node is_ref taken j. refl
effect_fixed decls k i Call h = called_fixed decls k i (helper_of i.imm)
effect_fixed decls k i Exit h = bind_all (number_in (register k 0)) (λ n. Ok Nothing) Fixed (λ n node is_ref taken j. refl)
effect_fixed decls k i LoadImm h = λ node is_ref taken j. refl
effect_fixed decls k i (StoreImm size) h = stored_fixed decls k (register k i.dst) i.offset size (immediate i)
effect_fixed decls k i (Store size) h = stored_fixed decls k (register k i.dst) i.offset size (register k i.src)
effect_fixed decls k i (Load size) h = assigned_fixed i (loaded_plain decls k (register k i.src) i.offset size)
effect_fixed decls k i (LoadSigned size) h = assigned_fixed i (loaded_signed decls k (register k i.src) i.offset size)
effect_fixed decls k i (Atomic size) h = bind_all (accessed decls k.checked (register k i.dst) i.offset size) (λ place. changed_at k i place) Fixed (λ place. changed_at_fixed k i place)
effect_fixed decls k i op h = assigned_fixed i (alu decls k i op)

pub transferred_fixed : (decls : List MapDecl) (k : Kinds) (i : Insn) (node : ℕ) (is_ref taken : Bool) → is_jump i.op ≡ false → transferred decls k i node is_ref taken ≡ transferred decls k i node is_ref false
unfolding effect_of
transferred_fixed decls k i node is_ref taken h = by_effect (effect_of decls k i) (bind_all (profiled i k) _ Fixed (λ u. effect_fixed decls k i i.op h))
  where
    by_effect : (r : Result Effect Why) → IfOk r Fixed → changed_if node is_ref taken k r ≡ changed_if node is_ref false k r
    by_effect (Ok e) f = f node is_ref taken k
    by_effect (Err w) f = refl
