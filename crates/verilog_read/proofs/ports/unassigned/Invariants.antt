use Rattle.std.proofs.Common.{◌≡◌, drop}
use Rattle.net_core.specs.View.{netlist_of}
use Rattle.verilog_read.specs.Designs.{unassigned}
use Rattle.verilog_read.proofs.ports.unassigned.Given as goal

abbrev pub invariant-loop-k : goal.invariant-loop-k
invariant-loop-k l = unassigned 0 (netlist_of l.partial).assigns l.ports ≡ unassigned l.k (netlist_of l.partial).assigns (drop l.k l.ports)
