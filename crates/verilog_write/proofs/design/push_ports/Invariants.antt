-- What stands for the items so far was added.
use Rattle.std.proofs.Common.{◌≡◌, length, take}
use Rattle.net_core.specs.View.{netlist_of}
use Rattle.verilog_write.specs.Adds.{AddsLine}
use Rattle.verilog_write.proofs.Sections.{section, port_at}
use Rattle.verilog_write.proofs.design.push_ports.Given as goal

abbrev pub invariant-loop-k : goal.invariant-loop-k
invariant-loop-k l = (l.ports ≡ l.design.ports.items) × AddsLine l.initial.text.items l.text.items (section (port_at (netlist_of l.design) (length l.design.ports.items)) 0 (take l.k l.design.ports.items))
