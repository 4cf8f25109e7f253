-- What stands after a node.
use Rattle.std.specs.Prelude.{ℕ, ◌+◌, ◌≤◌, ◌==◌, max, nat_lt, Bool, false, if◌then◌else◌, Option, Some, None, List, [], ◌∷◌, get_or}
use Rattle.std.specs.List.{list_any}
use Rattle.xdp_state.specs.bpf_isa.declared.operation.Op.{Op}
use Rattle.xdp_state.specs.bpf_isa.declared.operation.Op.TheVariants.{Jump}
use Rattle.xdp_state.specs.bpf_isa.declared.instruction.Insn.{Insn}
use Rattle.xdp_state.specs.xdp_maps.declared.decl.MapDecl.{MapDecl}
use Rattle.xdp_state.specs.Reasons.{most_stages}
use Rattle.kind_core.specs.declared.kind.Kinds.{Kinds}
use Rattle.kind_core.specs.Edges.{decided}
use Rattle.cell_core.specs.Cells.{bit}
use Rattle.row_rules.specs.declared.place_rows.origin.Origin.{Origin}
use Rattle.row_rules.specs.declared.place_rows.span.Span.{Span}
use Rattle.row_rules.specs.declared.place_rows.recording.Record.{Record}
use Rattle.row_rules.specs.declared.node_rows.joining.Arrival.{Arrival}
use Rattle.row_rules.specs.declared.node_rows.node.AfterNode.{AfterNode}
use Rattle.row_rules.specs.PlaceRows.Spans.{one, pending, pending_place, is_in}
use Rattle.row_rules.specs.PlaceRows.Origins.{has_data, row_at, span_row, spans_row, every_row, by_place}
use Rattle.row_rules.specs.PlaceRows.Reading.{right_of, reads_as, is_heavy}
use Rattle.row_rules.specs.PlaceRows.Writing.{writes_as, record_as}

-- the row of a result: the greatest of what is read, and one later where it takes a stage of its own
abbrev pub result_row : List MapDecl → Kinds → Kinds → Insn → List (Option Origin) → ℕ
result_row decls k after i os = spans_row os (reads_as decls k i i.op) + bit (is_heavy k after i i.op)

-- the row of the edges that leave: that of the guard, and of a jump that is not decided also one after what is compared
abbrev pub undecided_row : List (Option Origin) → Insn → Op → ℕ → Option Bool → ℕ
undecided_row os i (Jump w c s) guard None = max guard (1 + max (span_row os (one i.dst)) (span_row os (right_of i s)))
undecided_row os i op guard d = guard

abbrev pub leaving_row : List (Option Origin) → Kinds → Insn → ℕ → ℕ
leaving_row os k i guard = undecided_row os i i.op guard (decided k i)

-- ---- what is written
abbrev pub written : Kinds → List Span → Origin → List (Option Origin) → ℕ → Option Origin
written after spans o os place = if list_any (is_in place) spans then (if has_data after place then Some o else None) else get_or os place None

abbrev pub is_some_place : List Span → Bool
is_some_place [] = false
is_some_place (s ∷ ss) = nat_lt s.from s.end

-- After a write of a map all that it takes is pending, what was pending before it, its guard, and its answer.
abbrev pub pending_row : List (Option Origin) → Record → ℕ → ℕ
pending_row os r least = max (max least (span_row os (pending r.map))) (spans_row os r.takes)

abbrev pub noted : List (Option Origin) → Option Record → ℕ → ℕ → ℕ → Option Origin → Option Origin
noted os (Some r) maker least place o = if place == pending_place r.map then Some (record { maker = maker; row = pending_row os r least }) else o
noted os None maker least place o = o

-- the origins after an instruction
abbrev pub origin_behind : List MapDecl → Kinds → Kinds → Insn → ℕ → ℕ → List (Option Origin) → ℕ → Option Origin
origin_behind decls k after i maker guard os place =
    noted os (record_as decls k i i.op) maker (if is_some_place (writes_as k i i.op) then max guard (result_row decls k after i os) else guard) place
    (written after (writes_as k i i.op) (record { maker = maker; row = result_row decls k after i os }) os place)

abbrev pub origins_behind : List MapDecl → Kinds → Kinds → Insn → ℕ → ℕ → List (Option Origin) → List (Option Origin)
origins_behind decls k after i maker guard os = by_place (origin_behind decls k after i maker guard os)

-- The row of a node: the greatest of its edges and of all origins at it and after it. What it does not make itself an earlier node made.
abbrev pub behind : List MapDecl → Kinds → Kinds → Insn → ℕ → ℕ → List (Option Origin) → AfterNode
behind decls k after i maker guard os = record {
  edge = leaving_row os k i guard;
  origins = record { places = origins_behind decls k after i maker guard os };
  row = max (max (leaving_row os k i guard) (every_row os)) (every_row (origins_behind decls k after i maker guard os));
}

-- no row there exceeds the most stages
abbrev pub IsLow : AfterNode → Type 0
IsLow b = (b.edge ≤ most_stages) × ((i : ℕ) → row_at b.origins.places i ≤ most_stages)

abbrev pub IsLowArrival : Arrival → Type 0
IsLowArrival a = (a.row ≤ most_stages) × ((i : ℕ) → row_at a.origins.places i ≤ most_stages)
