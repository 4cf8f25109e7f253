use Rattle.std.proofs.Common.{◌≡◌, length, map, take}
use Rattle.net_core.specs.declared.tree.Net.{Net}
use Rattle.net_core.specs.View.{wire_of}
use Rattle.net_core.specs.Value.{Env}
use Rattle.design_rules.specs.SolvedWires.Solving.{Solves}
use Rattle.net_optimize.specs.Folding.{AreKnown, AreSameWires}
use Rattle.net_optimize.proofs.wires.folded_wires.Given as goal

abbrev pub invariant-loop-wire : goal.invariant-loop-wire
invariant-loop-wire l = record {
  wires : length l.folded.items ≡ l.wire-index;
  known : length l.known.items ≡ l.wire-index;
  same : (v : Env Net) → Solves v 0 (map wire_of l.wires) → AreSameWires v (take l.wire-index (map wire_of l.wires)) (map wire_of l.folded.items) × AreKnown v l.known.items;
}
