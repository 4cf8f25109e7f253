-- In which rows stands what new cells make.
use Rattle.std.specs.Prelude.{ℕ, ℤ, ◌≤◌, max, if◌then◌else◌, List, [], ◌∷◌}
use Rattle.std.specs.List.{list_any}
use Rattle.cell_core.specs.bpf_isa.declared.operation.Size.{Size}
use Rattle.cell_core.specs.bpf_isa.declared.operation.Size.TheVariants.{Dw}
use Rattle.cell_core.specs.xdp_machine.Memory.{bytes_in}
use Rattle.kind_core.specs.declared.kind.Kind.{Kind}
use Rattle.kind_core.specs.declared.kind.Kinds.{Kinds}
use Rattle.cell_core.specs.Cells.{CellView}
use Rattle.cell_core.specs.Rows.{AreRows}
use Rattle.operator_cells.specs.Rising.{GrowsTo}
use Rattle.operator_cells.specs.row_rules.declared.place_rows.span.Span.{Span}
use Rattle.operator_cells.specs.row_rules.PlaceRows.Spans.{no_place, region, span_row}
use Rattle.operator_cells.specs.row_rules.PlaceRows.Origins.{open_row}
use Rattle.operator_cells.specs.row_rules.PlaceRows.Reading.{in_slot}
use Rattle.operator_cells.specs.row_rules.PlaceRows.Writing.{is_open_in}
use Rattle.operator_cells.specs.declared.held_cells.machine_cells.RegisterCells.{RegisterCells}
use Rattle.operator_cells.specs.HeldCells.RegisterCells.{PointerView}
use Rattle.operator_cells.specs.HeldCells.Rows.{value_row, held_row, LeavesTo}

-- More cells, none in a later row than the result, and all in row 0 where the kind has no data; and what number c holds, by this kind, stands in no
-- later row than the result.
pub record ValueTo (old new : List CellView) (ps : List PointerView) (x : Kind) (c : ℕ) (result : (ℕ → ℕ) → ℕ) : Type 0 where
  pub grows : GrowsTo old new (λ row. open_row x (result row))
  pub value : (row : ℕ → ℕ) → AreRows new row → value_row row ps x c ≤ result row

-- The row of what a store leaves: of what it stores, and of the slot of which it leaves a part.
abbrev pub left_row : (ℕ → ℕ) → List PointerView → Size → Kind → ℕ → ℕ
left_row row ps Dw a p = 0
left_row row ps size a p = value_row row ps a p

abbrev pub stored_row : (ℕ → ℕ) → List PointerView → RegisterCells → Kinds → Kind → ℤ → Size → Kind → ℕ → ℕ
stored_row row ps h k base offset size b q = max (value_row row ps b q) (span_row (held_row row ps h k) (in_slot base offset size))

-- the places that it writes
abbrev pub stored_in : Kind → ℤ → Size → List Span
stored_in base offset size = region base offset (bytes_in size) ∷ no_place ∷ []

-- More cells, and what is held after a store through a pointer.
abbrev pub StoresTo : List PointerView → Kinds → RegisterCells → Kinds → RegisterCells → Kind → ℤ → Size → Kind → ℕ → List CellView → List CellView → Type 0
StoresTo ps k h after next base offset size b q old new =
    LeavesTo (λ row. held_row row ps h k) ps h after next old new (stored_in base offset size)
    (λ row. if list_any (is_open_in after) (stored_in base offset size) then stored_row row ps h k base offset size b q else 0) (λ row. stored_row row ps h k base offset size b q)
