use Rattle.std.proofs.Common.{◌≡◌, ◌<◌, ℕ, get_or, map, true}
use Rattle.net_core.specs.declared.tree.Net.{Net}
use Rattle.net_core.specs.Nets.{StatementTree}
use Rattle.net_core.specs.View.{netlist_of, statement_of}
use Rattle.design_rules.specs.FormedScope.{sorts, reads_known}
use Rattle.design_rules.specs.FormedSyntax.{trees_pass}
use Rattle.net_optimize.proofs.reading.always_known.Given as goal

abbrev pub invariant-loop-k : goal.invariant-loop-k
invariant-loop-k l = record {
  all : l.all ≡ l.there.design.now.always.items;
  known : (i : ℕ) (x : StatementTree Net) → i < l.k → x ≡ get_or (map statement_of l.there.design.now.always.items) i x → trees_pass (reads_known (sorts (netlist_of l.there.design.now) l.there.wires)) x ≡ true;
}
