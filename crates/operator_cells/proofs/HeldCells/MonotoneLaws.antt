-- What is computed from the rows of places grows with them.
use Rattle.std.proofs.Common.{ℕ, ◌-◌, ◌≤◌, Bool, true, false, if◌then◌else◌, Option, Some, None, List, [], ◌∷◌, arith}
use Rattle.std.specs.List.{list_any}
use Rattle.cell_core.specs.bpf_isa.declared.operation.Op.{Op}
use Rattle.cell_core.specs.bpf_isa.declared.operation.Op.TheVariants.{Jump}
use Rattle.cell_core.specs.bpf_isa.declared.instruction.Insn.{Insn}
use Rattle.cell_core.specs.xdp_maps.declared.decl.MapDecl.{MapDecl}
use Rattle.kind_core.specs.declared.kind.Kinds.{Kinds}
use Rattle.kind_core.specs.Edges.{decided}
use Rattle.cell_core.specs.Rows.{greatest, numbers}
use Rattle.row_rules.specs.declared.place_rows.span.Span.{Span}
use Rattle.row_rules.specs.declared.place_rows.recording.Record.{Record}
use Rattle.row_rules.specs.PlaceRows.Spans.{one, span_row, spans_row}
use Rattle.row_rules.specs.PlaceRows.Reading.{right_of, reads_as, result_row}
use Rattle.row_rules.specs.PlaceRows.Writing.{writes_as, record_as, is_open_in, taken_row, made_row}
use Rattle.operator_cells.specs.HeldCells.Rows.{undecided_row, leaving_row, is_some_place, written_row}

if_below : (b : Bool) (m n : ℕ) → m ≤ n → (if b then m else 0) ≤ (if b then n else 0)
if_below true m n l = omega (arith, l)
if_below false m n l = omega arith

-- the guard stands in no later row than the edges that leave
pub guard_below : (row : ℕ → ℕ) (k : Kinds) (i : Insn) (guard : ℕ) → guard ≤ leaving_row row k i guard
guard_below row k i guard = by i.op (decided k i)
  where
    by : (op : Op) (d : Option Bool) → guard ≤ undecided_row row i op guard d
    by (Jump w c s) None = omega arith
    by (Jump w c s) (Some b) = omega arith
    by op d = omega arith

module _ (f g : ℕ → ℕ) (below : (place : ℕ) → f place ≤ g place) where
  pub greatest_below : (places : List ℕ) → greatest f places ≤ greatest g places
  greatest_below [] = omega arith
  greatest_below (p ∷ ps) = omega (arith, below p, greatest_below ps)

  pub span_below : (s : Span) → span_row f s ≤ span_row g s
  span_below s = greatest_below (numbers s.from (s.end - s.from))

  pub spans_below : (ss : List Span) → spans_row f ss ≤ spans_row g ss
  spans_below [] = omega arith
  spans_below (s ∷ ss) = omega (arith, span_below s, spans_below ss)

  pub taken_below : (r : Option Record) → taken_row f r ≤ taken_row g r
  taken_below None = omega arith
  taken_below (Some r) = spans_below r.takes

  pub result_below : (decls : List MapDecl) (k after : Kinds) (i : Insn) → result_row f decls k after i ≤ result_row g decls k after i
  result_below decls k after i = omega (arith, spans_below (reads_as decls k i i.op))

  pub made_below : (decls : List MapDecl) (k after : Kinds) (i : Insn) → made_row f decls k after i ≤ made_row g decls k after i
  made_below decls k after i = omega (
    arith,
    if_below (list_any (is_open_in after) (writes_as k i i.op)) (result_row f decls k after i) (result_row g decls k after i) (result_below decls k after i),
    taken_below (record_as decls k i i.op),
  )

  pub written_below : (decls : List MapDecl) (k after : Kinds) (i : Insn) → written_row f decls k after i ≤ written_row g decls k after i
  written_below decls k after i = omega (
    arith,
    if_below (is_some_place (writes_as k i i.op)) (result_row f decls k after i) (result_row g decls k after i) (result_below decls k after i),
    taken_below (record_as decls k i i.op),
  )

  pub leaving_below : (k : Kinds) (i : Insn) (guard : ℕ) → leaving_row f k i guard ≤ leaving_row g k i guard
  leaving_below k i guard = by i.op (decided k i)
    where
      by : (op : Op) (d : Option Bool) → undecided_row f i op guard d ≤ undecided_row g i op guard d
      by (Jump w c s) None = omega (arith, span_below (one i.dst), span_below (right_of i s))
      by (Jump w c s) (Some b) = omega arith
      by op d = omega arith
