use Rattle.std.proofs.Common.{◌≡◌, ◌≤◌}
use Rattle.net_core.specs.declared.tree.Net.{Net}
use Rattle.net_core.specs.declared.tree.Stmts.{size-Stmts}
use Rattle.net_core.specs.View.{netlist_of, statements_of}
use Rattle.design_rules.specs.FormedSyntax.{all_trees_pass}
use Rattle.design_rules.specs.FormedScope.{sorts, reads_known}
use Rattle.net_optimize.proofs.reading.+stmt_reads.Given as goal

abbrev pub invariant-stmts_known-loop-left : goal.invariant-stmts_known-loop-left
invariant-stmts_known-loop-left l = record {
  same : all_trees_pass (reads_known (sorts (netlist_of l.there.design.now) l.there.wires)) (statements_of l.left) ≡ all_trees_pass (reads_known (sorts (netlist_of l.there.design.now) l.there.wires)) (statements_of l.fn.stmts);
  depth : size-Stmts Net l.left ≤ size-Stmts Net l.fn.stmts;
}
