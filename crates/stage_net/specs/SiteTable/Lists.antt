-- Which cells and pointers each place holds in registers, and which pointers it makes.
use Rattle.std.specs.Prelude.{ℕ, ◌==◌, nat_lt, nat_le, not, Bool, ◌&&◌, ◌||◌, List, length, slice_index}
use Rattle.std.specs.List.{filter, list_any}
use Rattle.hazard_core.specs.cell_core.Cells.{cell_at}
use Rattle.hazard_core.specs.cell_core.Rows.{numbers}
use Rattle.hazard_core.specs.cell_core.Sites.{ProgramView}
use Rattle.overlay_net.specs.cell_nets.Computing.{is_outside}
use Rattle.row_plan.specs.Plan.{Plan, answer_cells}
use Rattle.row_net.specs.Needed.{flag}
use Rattle.row_net.specs.Lists.{varies}

-- a later row takes it, or the answer does and this is the last row
abbrev pub goes_on : ProgramView → Plan → ℕ → ℕ → Bool
goes_on p plan at k = nat_lt at (slice_index plan.kept k) || at == plan.last && list_any (λ c. c == k) (answer_cells p)

-- a site takes it or it reads one, and packets have not committed: it stays up to there, also where no row in between takes it
abbrev pub is_awaited : Plan → List Bool → ℕ → ℕ → Bool
is_awaited plan parts at k = nat_le at plan.commit && flag parts k

-- it is there in this row, and is held for one of these
abbrev pub stays : ProgramView → Plan → List Bool → ℕ → ℕ → Bool
stays p plan parts at k = nat_le (slice_index plan.rows k) at && (goes_on p plan at k || is_awaited plan parts at k)

-- it is computed in this row
abbrev pub is_computed : ProgramView → Plan → ℕ → ℕ → Bool
is_computed p plan at k = not (is_outside (cell_at p.cells k).op) && slice_index plan.rows k == at

-- a cell that is needed and may have a pointer, be its number the same for all packets or not
abbrev pub has_pointer : List Bool → List Bool → ℕ → Bool
has_pointer needed points k = flag needed k && flag points k

-- ---- the cells and the pointers of a place, in the order of their numbers
abbrev pub is_held : ProgramView → Plan → List Bool → List Bool → ℕ → ℕ → Bool
is_held p plan needed parts at k = varies p needed k && stays p plan parts at k

abbrev pub is_held_pointer : ProgramView → Plan → List Bool → List Bool → List Bool → ℕ → ℕ → Bool
is_held_pointer p plan needed parts points at k = has_pointer needed points k && stays p plan parts at k

abbrev pub is_made_pointer : ProgramView → Plan → List Bool → List Bool → ℕ → ℕ → Bool
is_made_pointer p plan needed points at k = has_pointer needed points k && is_computed p plan at k

abbrev pub held_cells : ProgramView → Plan → List Bool → List Bool → ℕ → List ℕ
held_cells p plan needed parts at = filter (is_held p plan needed parts at) (numbers 0 (length p.cells))

abbrev pub held_pointers : ProgramView → Plan → List Bool → List Bool → List Bool → ℕ → List ℕ
held_pointers p plan needed parts points at = filter (is_held_pointer p plan needed parts points at) (numbers 0 (length p.cells))

abbrev pub made_pointers : ProgramView → Plan → List Bool → List Bool → ℕ → List ℕ
made_pointers p plan needed points at = filter (is_made_pointer p plan needed points at) (numbers 0 (length p.cells))
