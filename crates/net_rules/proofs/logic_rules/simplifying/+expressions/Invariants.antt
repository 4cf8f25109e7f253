use Rattle.std.proofs.Common.{◌≡◌, ◌≤◌, map}
use Rattle.net_core.specs.declared.tree.Net.{Net}
use Rattle.net_core.specs.declared.tree.Parts.{size-Parts}
use Rattle.net_core.specs.View.{tree_of, trees_of}
use Rattle.net_core.specs.Value.{Env, concatenated_parts}
use Rattle.net_rules.specs.NetSizes.Fitting.{AreFitting, sizes_of}
use Rattle.net_rules.specs.LogicRules.Known.{AreKnown}
use Rattle.net_core.proofs.PartLaws.{before}
use Rattle.net_rules.proofs.logic_rules.simplifying.+expressions.Given as goal

abbrev pub invariant-simple_parts-loop-left : goal.invariant-simple_parts-loop-left
invariant-simple_parts-loop-left l = record {
  done : (v : Env Net) → AreFitting (sizes_of l.sizes) v → AreKnown v l.known → before v (map tree_of l.prefix.items) (concatenated_parts v (trees_of l.left)) ≡ concatenated_parts v (trees_of l.fn.parts);
  depth : size-Parts Net l.left ≤ size-Parts Net l.fn.parts;
}
