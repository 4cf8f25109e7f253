-- The cells that come with a packet, and what is kept of its frame for them.
use Rattle.std.specs.Prelude.{◌≡◌, ℕ, ◌/◌, ◌≤◌, Bool, not, ◌&&◌, Option, Some, None, List, length, Contains}
use Rattle.std.specs.List.{AllByRecursion, filter}
use Rattle.hazard_core.specs.cell_core.declared.operator.Operator.{Operator}
use Rattle.hazard_core.specs.cell_core.declared.operator.Operator.TheVariants.{Byte, Ifindex, Time}
use Rattle.hazard_core.specs.cell_core.Cells.{CellView, cell_at, is_read}
use Rattle.hazard_core.specs.cell_core.Rows.{numbers}
use Rattle.hazard_core.specs.cell_core.Sites.{ProgramView}
use Rattle.overlay_net.specs.cell_nets.Computing.{is_outside}
use Rattle.frame_net.specs.declared.held.Kept.{Kept}
use Rattle.frame_net.specs.declared.held.Kept.TheVariants as kept
use Rattle.frame_net.specs.Gather.{IsKept}
use Rattle.row_net.specs.Lists.{varies}

-- what is to be kept of a frame for the number of an operator, beside its length
abbrev pub kept_for : Operator → Option Kept
kept_for (Byte i) = Some (kept.Word (i / 8))
kept_for Ifindex = Some kept.Ifindex
kept_for Time = Some kept.Time
kept_for op = None

-- one of these cells takes it
abbrev pub IsTakenBy : List CellView → List ℕ → Kept → Type 0
IsTakenBy cells listed what = (k : ℕ) × Contains listed k × (kept_for (cell_at cells k).op ≡ Some what)

-- what is kept for cells: what one of them takes, and nothing else
pub record AreKeptFor (cells : List CellView) (listed : List ℕ) (list : List Kept) : Type 0 where
  pub few : length list ≤ 255
  pub words : AllByRecursion IsKept list
  pub taken : (what : Kept) → IsTakenBy cells listed what → Contains list what
  pub only : (what : Kept) → Contains list what → IsTakenBy cells listed what

-- the cells that vary and come with a packet, which reads do not
abbrev pub comes : Operator → Bool
comes op = is_outside op && not (is_read op)

abbrev pub is_source : ProgramView → List Bool → ℕ → Bool
is_source p needed k = varies p needed k && comes (cell_at p.cells k).op

abbrev pub source_list : ProgramView → List Bool → List ℕ
source_list p needed = filter (is_source p needed) (numbers 0 (length p.cells))
