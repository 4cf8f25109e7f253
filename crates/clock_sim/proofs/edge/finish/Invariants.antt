use Rattle.std.proofs.Common.{◌≡◌, length, drop}
use Rattle.clock_sim.specs.Edges.{applied, AreStores}
use Rattle.clock_sim.proofs.edge.finish.Given as goal

abbrev pub invariant-loop-s : goal.invariant-loop-s
invariant-loop-s l = record {
  there : AreStores (drop l.s-index l.stores) (length l.slots);
  made : applied l.slots (drop l.s-index l.stores) l.contents ≡ applied l.slots l.stores l.initial.contents;
}
