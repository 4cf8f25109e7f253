use Rattle.std.proofs.Common.{◌≡◌, take}
use Rattle.pipe_core.proofs.planned.rows_of.Given as goal

abbrev pub invariant-loop-cell : goal.invariant-loop-cell
invariant-loop-cell l = l.rows.items ≡ take l.cell l.plan.rows
