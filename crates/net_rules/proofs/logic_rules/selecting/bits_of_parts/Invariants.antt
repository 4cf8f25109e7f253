use Rattle.std.proofs.Common.{◌≡◌}
use Rattle.net_core.specs.declared.tree.Net.{Net}
use Rattle.net_core.specs.View.{trees_of}
use Rattle.net_core.specs.Value.{Env, concatenated_parts, part_select}
use Rattle.net_rules.specs.NetSizes.Fitting.{AreFitting, sizes_of}
use Rattle.net_rules.proofs.logic_rules.selecting.bits_of_parts.Given as goal

abbrev pub invariant-loop-left : goal.invariant-loop-left
invariant-loop-left l =
    (v : Env Net) → AreFitting (sizes_of l.sizes) v → part_select (concatenated_parts v (trees_of l.left)) l.high l.low ≡ part_select (concatenated_parts v (trees_of l.parts)) l.high l.low
