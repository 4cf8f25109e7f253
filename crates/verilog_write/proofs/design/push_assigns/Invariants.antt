-- What stands for the items so far was added.
use Rattle.std.proofs.Common.{◌≡◌, take}
use Rattle.net_core.specs.View.{netlist_of}
use Rattle.verilog_write.specs.Adds.{AddsLine}
use Rattle.verilog_write.proofs.Sections.{section, assign_at}
use Rattle.verilog_write.proofs.design.push_assigns.Given as goal

abbrev pub invariant-loop-k : goal.invariant-loop-k
invariant-loop-k l = (l.assigns ≡ l.names.design.now.assigns.items) × AddsLine l.initial.text.items l.text.items (section (assign_at (netlist_of l.names.design.now)) 0 (take l.k l.names.design.now.assigns.items))
