use Rattle.std.proofs.Common.{◌≡◌, ◌≤◌}
use Rattle.net_core.specs.declared.tree.Net.{Net}
use Rattle.net_core.specs.declared.tree.Parts.{size-Parts}
use Rattle.net_core.specs.View.{trees_of}
use Rattle.design_rules.specs.FormedSyntax.{parts_apart}
use Rattle.design_rules.proofs.formed.syntax.+apart.Given as goal

abbrev pub invariant-parts_apart-loop-left : goal.invariant-parts_apart-loop-left
invariant-parts_apart-loop-left l = record {
  same : parts_apart (trees_of l.left) ≡ parts_apart (trees_of l.fn.parts);
  depth : size-Parts Net l.left ≤ size-Parts Net l.fn.parts;
}
