use Rattle.std.proofs.Common.{◌≡◌, length}
use Rattle.hazard_core.specs.Rows.{phi_pointer}
use Rattle.hazard_core.proofs.rows.phi_pointer.Given as goal

abbrev pub invariant-loop-left : goal.invariant-loop-left
invariant-loop-left l = phi_pointer l.held l.left ≡ phi_pointer l.fn.held l.fn.ins

abbrev pub decreases-loop-left : goal.decreases-loop-left
decreases-loop-left l = length l.left
