use Rattle.std.proofs.Common.{◌≡◌, ◌≤◌}
use Rattle.net_core.specs.declared.tree.Word.{Word}
use Rattle.net_core.specs.declared.tree.Net.{Net}
use Rattle.net_core.specs.declared.tree.Parts.{size-Parts}
use Rattle.net_core.specs.View.{trees_of}
use Rattle.net_core.specs.Value.{Env, concatenated_parts}
use Rattle.register_rules.specs.NarrowRegisters.Narrow.{widened}
use Rattle.register_rules.proofs.narrow_registers.narrowing.+expressions.Given as goal

abbrev pub invariant-narrow_parts-loop-left : goal.invariant-narrow_parts-loop-left
invariant-narrow_parts-loop-left l = record {
  done : (v : Env Net) (x : Word) → concatenated_parts v (trees_of l.left) ≡ widened l.rest x → concatenated_parts v (trees_of l.fn.parts) ≡ widened l.z x;
  depth : size-Parts Net l.left ≤ size-Parts Net l.fn.parts;
}
