use Rattle.std.proofs.Common.{◌≤◌}
use Rattle.net_core.specs.declared.tree.Net.{Net}
use Rattle.net_core.specs.declared.tree.Parts.{size-Parts}
use Rattle.net_core.specs.View.{trees_of}
use Rattle.clock_sim.proofs.ValueLemmas.{Joining}
use Rattle.clock_sim.proofs.emit.+value.Given as goal

abbrev pub invariant-joined-loop-left : goal.invariant-joined-loop-left
invariant-joined-loop-left l = record {
  less : size-Parts Net l.left ≤ size-Parts Net l.fn.parts;
  done : Joining l.operands l.fn.first (trees_of l.fn.parts) (trees_of l.left) l.fn.builder l.builder l.front;
}
