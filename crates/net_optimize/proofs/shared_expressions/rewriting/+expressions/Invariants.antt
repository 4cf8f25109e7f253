use Rattle.std.proofs.Common.{◌≡◌, ◌≤◌, map}
use Rattle.net_core.specs.declared.tree.Net.{Net}
use Rattle.net_core.specs.declared.tree.Parts.{size-Parts}
use Rattle.net_core.specs.Nets.{Trees}
use Rattle.net_core.specs.View.{tree_of, trees_of, wire_of}
use Rattle.net_core.specs.Value.{Env, concatenated_parts}
use Rattle.net_core.specs.Chains.{parts_before}
use Rattle.net_optimize.specs.SharedExpressions.Standing.{Stand}
use Rattle.net_optimize.proofs.shared_expressions.rewriting.+expressions.Given as goal

abbrev pub invariant-rewritten_parts-loop-left : goal.invariant-rewritten_parts-loop-left
invariant-rewritten_parts-loop-left l = record {
  done : (v u : Env Net) → Stand l.table.numbers.items (map wire_of l.table.wires.items) v u → (ps : Trees Net)
      → concatenated_parts v ps ≡ concatenated_parts u (trees_of l.left) → concatenated_parts v (parts_before (map tree_of l.prefix.items) ps) ≡ concatenated_parts u (trees_of l.fn.all);
  depth : size-Parts Net l.left ≤ size-Parts Net l.fn.all;
}
