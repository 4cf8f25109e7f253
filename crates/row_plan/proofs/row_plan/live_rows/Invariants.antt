use Rattle.std.proofs.Common.{◌≡◌, ◌<◌, ℕ, length, slice_index, get_or}
use Rattle.std.specs.declared.vec.Vec.{Vec}
use Rattle.std.specs.declared.alloc.Global.{Global}
use Rattle.row_plan.specs.Plan.{live_cells}
use Rattle.row_plan.proofs.row_plan.live_rows.Given as goal

abbrev pub invariant-loop-at : goal.invariant-loop-at
invariant-loop-at l = record {
  count : length l.lists.items ≡ l.at;
  lists : (at : ℕ) (d : Vec ℕ Global) → at < l.at → (get_or l.lists.items at d).items ≡ live_cells (slice_index l.rows) (slice_index l.kept) at (length l.rows);
}
