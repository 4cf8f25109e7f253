-- Where an instruction writes its result, and what it may write into a map.
use Rattle.std.specs.Prelude.{ℕ, ◌-◌, max, Bool, if◌then◌else◌, Option, Some, None, List, [], ◌∷◌}
use Rattle.std.specs.List.{list_any}
use Rattle.std.specs.Int.{w64, cast_unsigned}
use Rattle.xdp_state.specs.bpf_isa.declared.operation.Op.{Op}
use Rattle.xdp_state.specs.bpf_isa.declared.operation.Op.TheVariants.{Alu, Neg, End, Swap, Call, LoadImm, Load, LoadSigned, StoreImm, Store, Atomic}
use Rattle.xdp_state.specs.bpf_isa.declared.instruction.Insn.{Insn}
use Rattle.xdp_state.specs.bpf_isa.Helpers.{helper_of}
use Rattle.xdp_state.specs.xdp_maps.declared.decl.MapDecl.{MapDecl}
use Rattle.xdp_state.specs.xdp_machine.Memory.{bytes_in}
use Rattle.xdp_state.specs.xdp_machine.Atomics.{fetches}
use Rattle.kind_core.specs.declared.kind.Kind.{Kind}
use Rattle.kind_core.specs.declared.kind.Kind.TheVariants.{Entry}
use Rattle.kind_core.specs.declared.kind.Kinds.{Kinds}
use Rattle.kind_core.specs.Kinds.{register}
use Rattle.kind_core.specs.Access.{compares}
use Rattle.cell_core.specs.Rows.{numbers}
use Rattle.row_rules.specs.declared.place_rows.span.Span.{Span}
use Rattle.row_rules.specs.declared.place_rows.recording.Record.{Record}
use Rattle.row_rules.specs.PlaceRows.Spans.{no_place, one, region, map_of, spans_row}
use Rattle.row_rules.specs.PlaceRows.Origins.{has_data}
use Rattle.row_rules.specs.PlaceRows.Calls.{call_writes, called_on}
use Rattle.row_rules.specs.PlaceRows.Reading.{compared_span, result_row}

-- the old value goes into R0 or the source
abbrev pub old_value : Insn → Span
old_value i = if compares i then one 0 else (if fetches (cast_unsigned w64 i.imm) then one i.src else no_place)

abbrev pub writes_as : Kinds → Insn → Op → List Span
writes_as k i (Alu w c s) = one i.dst ∷ no_place ∷ []
writes_as k i (Neg w) = one i.dst ∷ no_place ∷ []
writes_as k i (End s) = one i.dst ∷ no_place ∷ []
writes_as k i Swap = one i.dst ∷ no_place ∷ []
writes_as k i LoadImm = one i.dst ∷ no_place ∷ []
writes_as k i (Load size) = one i.dst ∷ no_place ∷ []
writes_as k i (LoadSigned size) = one i.dst ∷ no_place ∷ []
writes_as k i (StoreImm size) = region (register k i.dst) i.offset (bytes_in size) ∷ no_place ∷ []
writes_as k i (Store size) = region (register k i.dst) i.offset (bytes_in size) ∷ no_place ∷ []
writes_as k i (Atomic size) = old_value i ∷ no_place ∷ []
writes_as k i Call = one 0 ∷ call_writes (helper_of i.imm) ∷ []
writes_as k i op = no_place ∷ no_place ∷ []

-- ---- writes of maps
-- through a pointer to an entry
abbrev pub through : Kind → List Span → Option Record
through (Entry q o) takes = Some (record { map = q; takes = takes })
through k takes = None

-- The write of a map that an instruction may make, and what it takes: of a store and an atomic change the pointer, the source, and what is compared.
abbrev pub record_as : List MapDecl → Kinds → Insn → Op → Option Record
record_as decls k i (StoreImm size) = through (register k i.dst) (one i.dst ∷ no_place ∷ no_place ∷ [])
record_as decls k i (Store size) = through (register k i.dst) (one i.dst ∷ one i.src ∷ no_place ∷ [])
record_as decls k i (Atomic size) = through (register k i.dst) (one i.dst ∷ one i.src ∷ compared_span i ∷ [])
record_as decls k i Call = called_on decls k (helper_of i.imm) (map_of (register k 1))
record_as decls k i op = None

-- ---- rows
-- whether there is data in a place of these spans
abbrev pub is_open_in : Kinds → Span → Bool
is_open_in k s = list_any (has_data k) (numbers s.from (s.end - s.from))

-- The row of all that an instruction makes, by the rows of places: of its result, where what it writes has data, and of what its write of a map takes.
abbrev pub taken_row : (ℕ → ℕ) → Option Record → ℕ
taken_row row (Some r) = spans_row row r.takes
taken_row row None = 0

abbrev pub made_row : (ℕ → ℕ) → List MapDecl → Kinds → Kinds → Insn → ℕ
made_row row decls k after i = max (if list_any (is_open_in after) (writes_as k i i.op) then result_row row decls k after i else 0) (taken_row row (record_as decls k i i.op))
