use Rattle.std.proofs.Common.{◌≡◌, ◌≤◌}
use Rattle.net_core.specs.declared.tree.Net.{Net}
use Rattle.net_core.specs.declared.tree.Parts.{size-Parts}
use Rattle.net_core.specs.View.{netlist_of, trees_of}
use Rattle.net_core.specs.Width.{concatenation_width, parts_width}
use Rattle.net_core.specs.Width.{scope_before}
use Rattle.net_core.proofs.typed.+width_of.Given as goal

abbrev pub invariant-width_behind-loop-left : goal.invariant-width_behind-loop-left
invariant-width_behind-loop-left l = record {
  same : concatenation_width l.sum (parts_width (scope_before (netlist_of l.design) l.before) (trees_of l.left)) ≡ concatenation_width l.fn.front (parts_width (scope_before (netlist_of l.design) l.before) (trees_of l.fn.parts));
  depth : size-Parts Net l.left ≤ size-Parts Net l.fn.parts;
}
