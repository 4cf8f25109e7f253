-- The kinds on the edges that leave an instruction.
use Rattle.std.specs.Prelude.{ℕ, ℤ, pos, ◌==◌, min, max, Bool, true, false, not, if◌then◌else◌, Option, Some, None, Result, Ok, Err, List, map}
use Rattle.std.specs.Int.{w64, cast_unsigned}
use Rattle.xdp_machine.specs.bpf_isa.declared.operation.Op.{Op}
use Rattle.xdp_machine.specs.bpf_isa.declared.operation.Op.TheVariants.{Jump}
use Rattle.xdp_machine.specs.bpf_isa.declared.instruction.Insn.{Insn}
use Rattle.xdp_machine.specs.xdp_maps.declared.decl.MapDecl.{MapDecl}
use Rattle.xdp_machine.specs.Arithmetic.{low}
use Rattle.kind_core.specs.declared.number.Number.TheVariants.{Known}
use Rattle.kind_core.specs.declared.kind.Kind.{Kind}
use Rattle.kind_core.specs.declared.kind.Kind.TheVariants.{Num, Var, MapRef, Maybe, Entry, Stale}
use Rattle.kind_core.specs.declared.kind.Kinds.{Kinds}
use Rattle.kind_core.specs.declared.conditions.Condition.{Condition}
use Rattle.kind_core.specs.declared.conditions.Condition.TheVariants.{Decided, Open, NullTest, BoundsTest, BaseTest}
use Rattle.kind_core.specs.declared.effects.Effect.{Effect}
use Rattle.kind_core.specs.declared.effects.Effect.TheVariants.{Nothing, Register, NewBase, Constant, Slot, Lookup, Answered, Changed, Compared}
use Rattle.kind_core.specs.declared.refinements.Refinement.{Refinement}
use Rattle.kind_core.specs.declared.refinements.Refinement.TheVariants.{IsNull, IsEntry, IsStale, IsChecked}
use Rattle.xdp_state.specs.declared.refusal.Why.{Why}
use Rattle.kind_core.specs.NumberBounds.{any_number}
use Rattle.kind_core.specs.Bases.{new_base, raised_base}
use Rattle.kind_core.specs.Kinds.{with_register, with_slot, answering}
use Rattle.kind_core.specs.Effects.{effect_of, jump}

-- what becomes of a kind: the answer of a lookup is null, or an entry; entries of a map may be gone; so many bytes from a base on are there
abbrev pub refined : Refinement → Kind → Kind
refined (IsNull n) (Maybe q m) = if m == n then Num (Known 0) else Maybe q m
refined (IsEntry n) (Maybe q m) = if m == n then Entry q 0 else Maybe q m
refined (IsStale r) (Maybe q m) = if q == r then Stale else Maybe q m
refined (IsStale r) (Entry q o) = if q == r then Stale else Entry q o
refined (IsChecked n z) (Var b f) = if b.node == n then Var (raised_base z b) f else Var b f
refined r k = k

abbrev pub refined_all : Refinement → Kinds → Kinds
refined_all r k = record k { registers = map (refined r) k.registers; slots = map (refined r) k.slots }

-- more bytes of the packet are checked, 256 at most
abbrev pub raised : ℕ → Kinds → Kinds
raised n k = record k { checked = max k.checked (min n 256) }

-- whether an edge is the one that is meant
abbrev pub agrees : Bool → Bool → Bool
agrees true b = b
agrees false b = not b

-- on an edge of a conditional jump
abbrev pub on_edge : Bool → Condition → Kinds → Kinds
on_edge taken (NullTest equal n) k = refined_all (if agrees taken equal then IsNull n else IsEntry n) k
on_edge taken (BoundsTest edge n) k = if agrees taken edge then raised n k else k
on_edge taken (BaseTest edge n z) k = if agrees taken edge then refined_all (IsChecked n z) k else k
on_edge taken (Decided b) k = k
on_edge taken Open k = k

-- a number of 64 bits, or a map
abbrev pub constant : Bool → ℤ → Kind
constant is_ref imm = if is_ref then MapRef (low 32 (cast_unsigned w64 imm)) else Num (Known (cast_unsigned w64 imm))

-- the kinds after an instruction at a node
abbrev pub changed : ℕ → Bool → Bool → Kinds → Effect → Kinds
changed node is_ref taken k Nothing = k
changed node is_ref taken k (Register r x) = with_register k r x
changed node is_ref taken k (NewBase r bounds) = with_register k r (Var (new_base node bounds) (pos 0))
changed node is_ref taken k (Constant r imm) = with_register k r (constant is_ref imm)
changed node is_ref taken k (Slot s x) = with_slot k s x
changed node is_ref taken k (Lookup q) = answering (Maybe q node) k
changed node is_ref taken k Answered = answering (Num (any_number 64)) k
changed node is_ref taken k (Changed q) = refined_all (IsStale q) (answering (Num (any_number 64)) k)
changed node is_ref taken k (Compared x) = on_edge taken x k

-- an instruction that is refused changes nothing
abbrev pub changed_if : ℕ → Bool → Bool → Kinds → Result Effect Why → Kinds
changed_if node is_ref taken k (Ok e) = changed node is_ref taken k e
changed_if node is_ref taken k (Err w) = k

abbrev pub transferred : List MapDecl → Kinds → Insn → ℕ → Bool → Bool → Kinds
transferred decls k i node is_ref taken = changed_if node is_ref taken k (effect_of decls k i)

-- An edge of a conditional jump is absent where the condition is decided against it.
abbrev pub decision : Result Condition Why → Option Bool
decision (Ok (Decided taken)) = Some taken
decision (Ok Open) = None
decision (Ok (NullTest equal n)) = None
decision (Ok (BoundsTest edge n)) = None
decision (Ok (BaseTest edge n z)) = None
decision (Err w) = None

abbrev pub decided_as : Kinds → Insn → Op → Option Bool
decided_as k i (Jump w c s) = decision (jump k i w c s)
decided_as k i op = None

abbrev pub decided : Kinds → Insn → Option Bool
decided k i = decided_as k i i.op
