-- What stands for the items so far was added.
use Rattle.std.proofs.Common.{◌≡◌, length, take}
use Rattle.net_core.specs.View.{netlist_of}
use Rattle.verilog_write.specs.Adds.{AddsLine}
use Rattle.verilog_write.proofs.Sections.{section, declared_at}
use Rattle.verilog_write.proofs.design.push_declared.Given as goal

abbrev pub invariant-loop-k : goal.invariant-loop-k
invariant-loop-k l = (l.declared ≡ l.names.design.now.declared.items) × AddsLine l.initial.text.items l.text.items (section (declared_at (netlist_of l.names.design.now)) (length l.names.design.now.ports.items) (take l.k l.names.design.now.declared.items)) × (l.ports ≡ l.names.design.now.ports.items)
