use Rattle.std.proofs.Common.{ℕ, List}
use Rattle.cell_core.specs.xdp_maps.declared.decl.MapDecl.{MapDecl}
use Rattle.operator_cells.specs.Making.{seen}
use Rattle.operator_cells.specs.Rising.{RiseAll}
use Rattle.operator_cells.specs.row_rules.PlaceRows.Spans.{slots_of, span_row}
use Rattle.operator_cells.specs.HeldCells.RegisterCells.{PointerView}
use Rattle.operator_cells.specs.HeldCells.Rows.{held_row}
use Rattle.site_cells.specs.Words.{HoldsBytes}
use Rattle.site_cells.proofs.words.stack_bytes.Given as goal

abbrev pub invariant-loop-i : goal.invariant-loop-i
invariant-loop-i l = ((decls : List MapDecl) (ps : List PointerView) (node : ℕ) → HoldsBytes decls ps node l.kinds l.held (seen l.initial.cells.items) (seen l.cells.items) l.at l.i l.bytes.items)
    × ((ps : List PointerView) → RiseAll (seen l.initial.cells.items) (seen l.cells.items) l.bytes.items (λ row. span_row (held_row row ps l.held l.kinds) (slots_of l.at l.count)))
