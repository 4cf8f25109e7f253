-- A packet takes in a row: all cells of the row, in their order, from those that it holds.
use Rattle.std.specs.Prelude.{ℕ, suc, ◌==◌, not, if◌then◌else◌, List, [], ◌∷◌, map as map_list, slice_index, replicate, length}
use Rattle.cell_core.specs.xdp_machine.State.{PacketIn}
use Rattle.cell_core.specs.declared.operator.Operator.{Operator}
use Rattle.cell_core.specs.declared.operator.Operator.TheVariants.{Wire, Phi, Found, Answer}
use Rattle.cell_core.specs.Cells.{CellView, number, bits_from, bit, on}
use Rattle.cell_core.specs.Sites.{ProgramView}
use Rattle.hazard_core.specs.Tables.{TableState}
use Rattle.hazard_core.specs.StageValues.{Pointer, Null, StageValues, stage_value, pointer_in, with_cell, pending, is_null}
use Rattle.hazard_core.specs.Overlay.{found_pointer, answer_over}

-- the pointer of the first edge that is on, or of the last
abbrev pub phi_pointer : StageValues → List ℕ → Pointer
phi_pointer h [] = Null
phi_pointer h (e ∷ []) = Null
phi_pointer h (e ∷ x ∷ []) = pointer_in h x
phi_pointer h (e ∷ x ∷ d ∷ more) = if on (stage_value h e) then pointer_in h x else phi_pointer h (d ∷ more)

-- a pointer goes with its cell: a read finds it, copies and joins of its cell have it too
abbrev pub cell_pointer : ProgramView → (ℕ → ℕ) → ℕ → TableState → StageValues → CellView → Operator → Pointer
cell_pointer p row r t h c (Found j) = found_pointer p t h (pending p row r j) j
cell_pointer p row r t h c Wire = pointer_in h (slice_index c.ins 0)
cell_pointer p row r t h c Phi = phi_pointer h c.ins
cell_pointer p row r t h c op = Null

abbrev pub cell_number : ProgramView → (ℕ → ℕ) → ℕ → TableState → PacketIn → StageValues → CellView → Operator → ℕ
cell_number p row r t packet h c (Found j) = bit (not (is_null (found_pointer p t h (pending p row r j) j)))
cell_number p row r t packet h c (Answer j) = answer_over p t h (pending p row r j) j
cell_number p row r t packet h c op = number packet op (map_list (stage_value h) c.ins)

-- cell k made in row r
abbrev pub with_made : ProgramView → (ℕ → ℕ) → ℕ → TableState → PacketIn → StageValues → ℕ → CellView → StageValues
with_made p row r t packet h k c =
    if row k == r
    then with_cell h k (bits_from (cell_number p row r t packet h c c.op) c.from c.width) (cell_pointer p row r t h c c.op)
    else h

-- of these cells, from number k on, those of row r
abbrev pub made_from : ProgramView → (ℕ → ℕ) → ℕ → TableState → PacketIn → ℕ → List CellView → StageValues → StageValues
made_from p row r t packet k [] h = h
made_from p row r t packet k (c ∷ cs) h = made_from p row r t packet (suc k) cs (with_made p row r t packet h k c)

unfoldable pub with_row : ProgramView → (ℕ → ℕ) → ℕ → TableState → PacketIn → StageValues → StageValues
with_row p row r t packet h = made_from p row r t packet 0 p.cells h

-- before the first row
abbrev pub nothing_held : ProgramView → StageValues
nothing_held p = record { values = replicate (length p.cells) 0; pointers = replicate (length p.cells) Null }
