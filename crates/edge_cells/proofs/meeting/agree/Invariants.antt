use Rattle.std.proofs.Common.{◌≡◌, ◌<◌, ℕ, get_or, false}
use Rattle.operator_cells.specs.declared.held_cells.way.Way.{Way}
use Rattle.edge_cells.specs.Meeting.{kind_at, held_at, is_known}
use Rattle.edge_cells.proofs.meeting.agree.Given as goal

abbrev pub invariant-loop-way : goal.invariant-loop-way
invariant-loop-way l = (i : ℕ) (d : Way) → i < l.way-index → (is_known (kind_at l.part (get_or l.ways i d).kinds) ≡ false) × (held_at l.part (get_or l.ways i d).held ≡ l.cell)
