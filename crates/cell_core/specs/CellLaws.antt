-- What holds of all values of cells.
use Rattle.std.specs.Prelude.{ℕ, ◌≡◌, ◌≢◌, ◌^◌, ◌<◌, true, List, length, slice_index}
use Rattle.xdp_state.specs.xdp_machine.State.{PacketIn}
use Rattle.cell_core.specs.Cells.{CellView, IsRun, cell_at, is_read}
use Rattle.cell_core.specs.Formed.{AreFormed, divides}

-- Every value fits its width.
abbrev pub ValuesFit : Type 0
ValuesFit = (packet : PacketIn) (cells : List CellView) (v : ℕ → ℕ) → IsRun packet cells v → (k : ℕ) → k < length cells → v k < 2 ^ (cell_at cells k).width

-- the reads have the same values
abbrev pub SameReads : List CellView → (ℕ → ℕ) → (ℕ → ℕ) → Type 0
SameReads cells v w = (k : ℕ) → k < length cells → is_read (cell_at cells k).op ≡ true → v k ≡ w k

-- The values of the reads decide those of all cells.
abbrev pub ReadsDecide : Type 0
ReadsDecide =
    (packet : PacketIn) (cells : List CellView) (v w : ℕ → ℕ) → AreFormed cells → IsRun packet cells v → IsRun packet cells w → SameReads cells v w
    → (k : ℕ) → k < length cells → v k ≡ w k

-- Whatever values the reads are to have, if they fit there are values of the cells with these.
abbrev pub HaveValues : Type 0
HaveValues =
    (packet : PacketIn) (cells : List CellView) (given : ℕ → ℕ) → AreFormed cells
    → ((k : ℕ) → k < length cells → is_read (cell_at cells k).op ≡ true → given k < 2 ^ (cell_at cells k).width)
    → (v : ℕ → ℕ) × IsRun packet cells v × SameReads cells v given

-- No divisor is 0, whatever the reads hold.
abbrev pub DivisorsAreSome : Type 0
DivisorsAreSome =
    (packet : PacketIn) (cells : List CellView) (v : ℕ → ℕ) → AreFormed cells → IsRun packet cells v
    → (k : ℕ) → k < length cells → divides (cell_at cells k).op ≡ true → v (slice_index (cell_at cells k).ins 1) ≢ 0
