use Rattle.std.proofs.Common.{◌≡◌, ◌≤◌}
use Rattle.net_core.specs.declared.tree.Net.{Net}
use Rattle.net_core.specs.declared.tree.Parts.{size-Parts}
use Rattle.net_core.specs.View.{netlist_of, trees_of}
use Rattle.design_rules.specs.FormedScope.{sorts, parts_known}
use Rattle.net_optimize.proofs.reading.+reads.Given as goal

abbrev pub invariant-parts_known-loop-left : goal.invariant-parts_known-loop-left
invariant-parts_known-loop-left l = record {
  same : parts_known (sorts (netlist_of l.there.design.now) l.there.wires) (trees_of l.left) ≡ parts_known (sorts (netlist_of l.there.design.now) l.there.wires) (trees_of l.fn.parts);
  depth : size-Parts Net l.left ≤ size-Parts Net l.fn.parts;
}
