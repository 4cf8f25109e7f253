use Rattle.std.proofs.Common.{◌≡◌, ◌≤◌}
use Rattle.net_core.specs.declared.tree.Net.{Net}
use Rattle.net_core.specs.declared.tree.Parts.{size-Parts}
use Rattle.net_core.specs.View.{trees_of}
use Rattle.net_core.specs.Value.{Env, concatenated_parts}
use Rattle.register_rules.specs.EqualRegisters.Alike.{AreAlike}
use Rattle.register_rules.proofs.equal_registers.alike.+alike.Given as goal

abbrev pub invariant-are_alike-loop-left : goal.invariant-are_alike-loop-left
invariant-are_alike-loop-left l = record {
  same : (v w : Env Net) → AreAlike l.firsts.registers.now l.firsts.left.now l.firsts.right.now v w → concatenated_parts v (trees_of l.left) ≡ concatenated_parts w (trees_of l.right) → concatenated_parts v (trees_of l.fn.a) ≡ concatenated_parts w (trees_of l.fn.b);
  depth : size-Parts Net l.left ≤ size-Parts Net l.fn.a;
}
