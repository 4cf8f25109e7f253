use Rattle.std.proofs.Common.{◌≡◌, map, drop}
use Rattle.net_core.specs.declared.tree.Net.{Net}
use Rattle.net_core.specs.Clock.{assigned}
use Rattle.net_core.specs.Value.{Env}
use Rattle.net_core.specs.View.{assign_of}
use Rattle.clock_sim.specs.Edges.{AreShown}
use Rattle.clock_sim.proofs.outputs.assigned.Given as goal

abbrev pub invariant-loop-a : goal.invariant-loop-a
invariant-loop-a l = record {
  kept : l.builder ≡ l.initial.builder;
  typed : AreShown l.operands (drop l.a-index (map assign_of l.assigns));
  same : (v : Env Net) → assigned v (drop l.a-index (map assign_of l.assigns)) l.port ≡ assigned v (map assign_of l.assigns) l.port;
}
