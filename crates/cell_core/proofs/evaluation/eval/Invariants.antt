use Rattle.std.proofs.Common.{◌≡◌}
use Rattle.cell_core.specs.Passing.{IsPassed}
use Rattle.cell_core.specs.View.{program_of, packet_of}
use Rattle.cell_core.proofs.evaluation.eval.Given as goal

abbrev pub invariant-loop-cell : goal.invariant-loop-cell
invariant-loop-cell l =
    IsPassed (packet_of l.packet) l.maps (program_of l.program) l.cell-index l.values.items l.own l.done × (l.own.decls ≡ l.maps.decls)
