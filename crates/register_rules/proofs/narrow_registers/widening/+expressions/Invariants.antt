use Rattle.std.proofs.Common.{◌≡◌, ◌≤◌, map}
use Rattle.net_core.specs.declared.tree.Net.{Net}
use Rattle.net_core.specs.declared.tree.Parts.{size-Parts}
use Rattle.net_core.specs.View.{tree_of, trees_of}
use Rattle.net_core.specs.Value.{Env, concatenated_parts}
use Rattle.register_rules.specs.NarrowRegisters.Narrow.{coding_of, AreNarrowed}
use Rattle.net_core.proofs.PartLaws.{before}
use Rattle.register_rules.proofs.narrow_registers.widening.+expressions.Given as goal

abbrev pub invariant-wide_parts-loop-left : goal.invariant-wide_parts-loop-left
invariant-wide_parts-loop-left l = record {
  done : (v t : Env Net) → AreNarrowed (coding_of l.codes) v t → before t (map tree_of l.prefix.items) (concatenated_parts v (trees_of l.left)) ≡ concatenated_parts v (trees_of l.fn.parts);
  depth : size-Parts Net l.left ≤ size-Parts Net l.fn.parts;
}
