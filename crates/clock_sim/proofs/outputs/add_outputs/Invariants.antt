use Rattle.std.proofs.Common.{◌≡◌, length, map}
use Rattle.net_core.specs.View.{assign_of}
use Rattle.clock_sim.specs.Flat.{Extends, AreOperands}
use Rattle.clock_sim.specs.Edges.{AreSlots, ShowsAll}
use Rattle.clock_sim.proofs.outputs.add_outputs.Given as goal

abbrev pub invariant-loop-port : goal.invariant-loop-port
invariant-loop-port l = record {
  extends : Extends l.initial.builder l.builder;
  operands : AreOperands l.operands (length l.builder.slots);
  count : length l.shown.items ≡ l.port;
  slots : AreSlots l.shown.items (length l.builder.slots);
  shows : ShowsAll l.initial.builder l.builder l.operands (map assign_of l.assigns) l.shown.items;
}
