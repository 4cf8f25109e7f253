use Rattle.std.proofs.Common.{◌≡◌, ◌≤◌, ◌&&◌, ◌||◌}
use Rattle.net_core.specs.declared.tree.Net.{Net}
use Rattle.net_core.specs.declared.tree.Parts.{size-Parts}
use Rattle.net_core.specs.View.{trees_of}
use Rattle.net_core.specs.ProductRules.Products.{made_by_product, parts_product, parts_flat}
use Rattle.net_core.proofs.product_rules.trees.+tree.Given as goal

abbrev pub invariant-in_parts-loop-left : goal.invariant-in_parts-loop-left
invariant-in_parts-loop-left l = record {
  product : (l.found.product || parts_product (made_by_product l.marks) (trees_of l.left)) ≡ parts_product (made_by_product l.marks) (trees_of l.fn.parts);
  apart : (l.found.apart && parts_flat (made_by_product l.marks) (trees_of l.left)) ≡ parts_flat (made_by_product l.marks) (trees_of l.fn.parts);
  depth : size-Parts Net l.left ≤ size-Parts Net l.fn.parts;
}
