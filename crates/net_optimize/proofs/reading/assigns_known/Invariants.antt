use Rattle.std.proofs.Common.{◌≡◌, ◌<◌, ℕ, get_or, map, true}
use Rattle.net_core.specs.Nets.{AssignTree}
use Rattle.net_core.specs.View.{netlist_of, assign_of}
use Rattle.design_rules.specs.FormedScope.{sorts, reads_known}
use Rattle.net_optimize.proofs.reading.assigns_known.Given as goal

abbrev pub invariant-loop-k : goal.invariant-loop-k
invariant-loop-k l = record {
  all : l.all ≡ l.there.design.now.assigns.items;
  known : (i : ℕ) (x : AssignTree) → i < l.k → x ≡ get_or (map assign_of l.there.design.now.assigns.items) i x → reads_known (sorts (netlist_of l.there.design.now) l.there.wires) x.value ≡ true;
}
