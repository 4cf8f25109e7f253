use Rattle.std.proofs.Common.{◌≡◌, ◌++◌, drop}
use Rattle.clock_sim.specs.Layouts.{operands_from, port_operands, port_widths}
use Rattle.clock_sim.proofs.layout.port_operands_of.Given as goal

abbrev pub invariant-loop-port : goal.invariant-loop-port
invariant-loop-port l = l.all.items ++ operands_from l.port (drop l.port port_widths) ≡ port_operands
