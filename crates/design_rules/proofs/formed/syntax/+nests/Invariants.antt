use Rattle.std.proofs.Common.{◌≤◌, ◌↔◌}
use Rattle.net_core.specs.declared.tree.Net.{Net}
use Rattle.net_core.specs.declared.tree.Parts.{size-Parts}
use Rattle.net_core.specs.View.{trees_of}
use Rattle.design_rules.specs.FormedSyntax.{parts_depth}
use Rattle.design_rules.proofs.formed.syntax.+nests.Given as goal

abbrev pub invariant-parts_nest-loop-left : goal.invariant-parts_nest-loop-left
invariant-parts_nest-loop-left l = record {
  same : (parts_depth (trees_of l.left) ≤ l.most) ↔ (parts_depth (trees_of l.fn.parts) ≤ l.most);
  depth : size-Parts Net l.left ≤ size-Parts Net l.fn.parts;
}
