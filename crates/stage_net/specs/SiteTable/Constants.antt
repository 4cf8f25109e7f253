-- Numbers that are the same for all packets, in packets that do not hold all rows yet.
use Rattle.std.specs.Prelude.{◌≡◌, ℕ, ◌<◌, ◌==◌, Bool, ◌||◌, length, slice_index}
use Rattle.std.proofs.Common.{◌⊎◌}
use Rattle.hazard_core.specs.cell_core.declared.operator.Operator.{Operator}
use Rattle.hazard_core.specs.cell_core.declared.operator.Operator.TheVariants.{Constant}
use Rattle.hazard_core.specs.cell_core.Cells.{CellView, cell_at, bits_from}
use Rattle.hazard_core.specs.cell_core.Sites.{ProgramView}
use Rattle.hazard_core.specs.StageValues.{StageValues, stage_value}
use Rattle.row_plan.specs.Plan.{Plan}

-- the number of a cell that is one, 0 for others
abbrev pub number_as : Operator → ℕ → ℕ → ℕ
number_as (Constant n) from width = bits_from n from width
number_as op from width = 0

abbrev pub constant_number : CellView → ℕ
constant_number c = number_as c.op c.from c.width

-- it stands in the first row, or it is 0
abbrev pub is_early : ProgramView → Plan → ℕ → Bool
is_early p plan k = slice_index plan.rows k == 0 || constant_number (cell_at p.cells k) == 0

-- A number past the first row is 0, as what a packet holds of rows that it has not taken in.
abbrev pub AreEarly : ProgramView → (ℕ → ℕ) → Type 0
AreEarly p row = (k : ℕ) → k < length p.cells → (row k ≡ 0) ⊎ (constant_number (cell_at p.cells k) ≡ 0)

-- Of the rows below r a packet holds the numbers.
abbrev pub HoldsConstants : ProgramView → (ℕ → ℕ) → ℕ → StageValues → Type 0
HoldsConstants p row r h =
    (k n : ℕ) → k < length p.cells → row k < r → (cell_at p.cells k).op ≡ Constant n → stage_value h k ≡ bits_from n (cell_at p.cells k).from (cell_at p.cells k).width
