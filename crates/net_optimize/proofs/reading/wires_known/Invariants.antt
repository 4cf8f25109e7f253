use Rattle.std.proofs.Common.{◌≡◌, ◌<◌, ℕ, get_or, map, true}
use Rattle.net_core.specs.Nets.{WireTree}
use Rattle.net_core.specs.View.{netlist_of, wire_of}
use Rattle.design_rules.specs.FormedScope.{sorts, right_known}
use Rattle.net_optimize.proofs.reading.wires_known.Given as goal

abbrev pub invariant-loop-k : goal.invariant-loop-k
invariant-loop-k l = record {
  all : l.all ≡ l.design.wires.items;
  known : (i : ℕ) (x : WireTree) → i < l.k → x ≡ get_or (map wire_of l.design.wires.items) i x → right_known (sorts (netlist_of l.design) i) x.right ≡ true;
}
