-- What an instruction reads for its result, and whether the result takes a stage of its own.
use Rattle.std.specs.Prelude.{ℕ, ◌+◌, ℤ, ◌&&◌, ◌||◌, not, Bool, true, false, if◌then◌else◌, List, [], ◌∷◌}
use Rattle.xdp_state.specs.bpf_isa.declared.operation.AluCode.{AluCode}
use Rattle.xdp_state.specs.bpf_isa.declared.operation.AluCode.TheVariants.{Add, Sub, Mul, Div, Mod, Mov, Lsh, Rsh, Arsh}
use Rattle.xdp_state.specs.bpf_isa.declared.operation.Size.{Size}
use Rattle.xdp_state.specs.bpf_isa.declared.operation.Size.TheVariants.{Dw}
use Rattle.xdp_state.specs.bpf_isa.declared.operation.Src.{Src}
use Rattle.xdp_state.specs.bpf_isa.declared.operation.Src.TheVariants.{K, X}
use Rattle.xdp_state.specs.bpf_isa.declared.operation.Op.{Op}
use Rattle.xdp_state.specs.bpf_isa.declared.operation.Op.TheVariants.{Alu, Neg, End, Swap, Call, Load, LoadSigned, StoreImm, Store, Atomic}
use Rattle.xdp_state.specs.bpf_isa.declared.instruction.Insn.{Insn}
use Rattle.xdp_state.specs.bpf_isa.Helpers.{helper_of}
use Rattle.xdp_state.specs.xdp_maps.declared.decl.MapDecl.{MapDecl}
use Rattle.xdp_state.specs.xdp_machine.Memory.{bytes_in}
use Rattle.kind_core.specs.declared.number.Number.TheVariants.{Known, Between}
use Rattle.kind_core.specs.declared.kind.Kind.{Kind}
use Rattle.kind_core.specs.declared.kind.Kind.TheVariants.{Num, Stack, Entry, Var}
use Rattle.kind_core.specs.declared.kind.Kinds.{Kinds}
use Rattle.kind_core.specs.Kinds.{register}
use Rattle.kind_core.specs.Access.{compares}
use Rattle.row_rules.specs.declared.place_rows.span.Span.{Span}
use Rattle.cell_core.specs.Cells.{bit}
use Rattle.row_rules.specs.PlaceRows.Spans.{no_place, one, region, pending_of, spans_row}
use Rattle.row_rules.specs.PlaceRows.Calls.{call_reads}

-- the operands of arithmetic: a move reads its source alone
abbrev pub left_of : Insn → AluCode → Span
left_of i Mov = no_place
left_of i c = one i.dst

abbrev pub right_of : Insn → Src → Span
right_of i K = no_place
right_of i X = one i.src

-- a store of less than eight bytes reads the slot of which it leaves a part, and one to a place that is not known all bytes that it may leave
abbrev pub in_slot : Kind → ℤ → Size → Span
in_slot (Stack o) offset Dw = no_place
in_slot (Stack o) offset size = region (Stack o) offset (bytes_in size)
in_slot (Var b f) offset size = region (Var b f) offset (bytes_in size)
in_slot k offset size = no_place

abbrev pub left_over : Kinds → Insn → Size → Span
left_over k i size = in_slot (register k i.dst) i.offset size

-- the pointer of a store, where the place is not known
abbrev pub is_var : Kind → Bool
is_var (Var b f) = true
is_var k = false

abbrev pub pointer_read : Kinds → Insn → Span
pointer_read k i = if is_var (register k i.dst) then one i.dst else no_place

-- what CMPXCHG compares with
abbrev pub compared_span : Insn → Span
compared_span i = if compares i then one 0 else no_place

-- What an instruction reads for its result: of an access to an entry the pointer and what is pending of the map, of an old value all registers
-- that the instruction reads.
abbrev pub reads_as : List MapDecl → Kinds → Insn → Op → List Span
reads_as decls k i (Alu w c s) = left_of i c ∷ right_of i s ∷ no_place ∷ no_place ∷ []
reads_as decls k i (Neg w) = one i.dst ∷ no_place ∷ no_place ∷ no_place ∷ []
reads_as decls k i (End s) = one i.dst ∷ no_place ∷ no_place ∷ no_place ∷ []
reads_as decls k i Swap = one i.dst ∷ no_place ∷ no_place ∷ no_place ∷ []
reads_as decls k i (Load size) = one i.src ∷ region (register k i.src) i.offset (bytes_in size) ∷ pending_of (register k i.src) ∷ no_place ∷ []
reads_as decls k i (LoadSigned size) = one i.src ∷ region (register k i.src) i.offset (bytes_in size) ∷ pending_of (register k i.src) ∷ no_place ∷ []
reads_as decls k i (StoreImm size) = left_over k i size ∷ pointer_read k i ∷ no_place ∷ no_place ∷ []
reads_as decls k i (Store size) = one i.src ∷ left_over k i size ∷ pointer_read k i ∷ no_place ∷ []
reads_as decls k i (Atomic size) = one i.dst ∷ one i.src ∷ compared_span i ∷ pending_of (register k i.dst) ∷ []
reads_as decls k i Call = call_reads decls k (helper_of i.imm)
reads_as decls k i op = no_place ∷ no_place ∷ no_place ∷ no_place ∷ []

-- ---- heavy results
abbrev pub is_number : Kind → Bool
is_number (Num n) = true
is_number k = false

abbrev pub is_entry : Kind → Bool
is_entry (Entry q o) = true
is_entry k = false

abbrev pub is_known : Kind → Bool
is_known (Num (Known n)) = true
is_known k = false

-- a shift by a count that is not known
abbrev pub shifts_openly : Kinds → Insn → Src → Bool
shifts_openly k i K = false
shifts_openly k i X = not (is_known (register k i.src))

-- a number that is not known makes a new place of a pointer into the packet
abbrev pub is_unknown : Kind → Bool
is_unknown (Num (Between lo hi)) = true
is_unknown k = false

abbrev pub source_unknown : Kinds → Insn → Src → Bool
source_unknown k i K = false
source_unknown k i X = is_unknown (register k i.src)

abbrev pub sums : Kinds → Kinds → Insn → Src → Bool
sums k after i s = is_number (register after i.dst) || (is_var (register after i.dst) && (is_unknown (register k i.dst) || source_unknown k i s))

-- A result takes a stage of its own: of arithmetic that carries, but for a move of a pointer by a known number; of a shift by a count that is not
-- known.
abbrev pub arithmetic_is_heavy : Kinds → Kinds → Insn → AluCode → Src → Bool
arithmetic_is_heavy k after i Add s = sums k after i s
arithmetic_is_heavy k after i Sub s = is_number (register after i.dst)
arithmetic_is_heavy k after i Mul s = is_number (register after i.dst)
arithmetic_is_heavy k after i Div s = is_number (register after i.dst)
arithmetic_is_heavy k after i Mod s = is_number (register after i.dst)
arithmetic_is_heavy k after i Lsh s = shifts_openly k i s
arithmetic_is_heavy k after i Rsh s = shifts_openly k i s
arithmetic_is_heavy k after i Arsh s = shifts_openly k i s
arithmetic_is_heavy k after i c s = false

-- the same of helpers, of loads from entries, of loads and stores at places that are not known, and of old values
abbrev pub is_heavy : Kinds → Kinds → Insn → Op → Bool
is_heavy k after i (Alu w c s) = arithmetic_is_heavy k after i c s
is_heavy k after i (Neg w) = true
is_heavy k after i Call = true
is_heavy k after i (Atomic size) = true
is_heavy k after i (Load size) = is_entry (register k i.src) || is_var (register k i.src)
is_heavy k after i (LoadSigned size) = is_entry (register k i.src) || is_var (register k i.src)
is_heavy k after i (StoreImm size) = is_var (register k i.dst)
is_heavy k after i (Store size) = is_var (register k i.dst)
is_heavy k after i op = false

-- the row of a result, by the rows of places: the greatest of what is read, and one later where it takes a stage of its own
abbrev pub result_as : (ℕ → ℕ) → List MapDecl → Kinds → Kinds → Insn → Op → ℕ
result_as row decls k after i op = spans_row row (reads_as decls k i op) + bit (is_heavy k after i op)

abbrev pub result_row : (ℕ → ℕ) → List MapDecl → Kinds → Kinds → Insn → ℕ
result_row row decls k after i = result_as row decls k after i i.op
