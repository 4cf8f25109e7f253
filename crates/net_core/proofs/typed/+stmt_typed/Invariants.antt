use Rattle.std.proofs.Common.{◌≡◌, ◌≤◌}
use Rattle.net_core.specs.declared.tree.Net.{Net}
use Rattle.net_core.specs.declared.tree.Stmts.{size-Stmts}
use Rattle.net_core.specs.View.{netlist_of, statements_of}
use Rattle.net_core.specs.Width.{register_widths, memory_widths, statements_typed}
use Rattle.net_core.specs.Width.{scope_before}
use Rattle.net_core.proofs.typed.+stmt_typed.Given as goal

abbrev pub invariant-stmts_typed-loop-left : goal.invariant-stmts_typed-loop-left
invariant-stmts_typed-loop-left l = record {
  same : statements_typed (scope_before (netlist_of l.design) l.before) (register_widths l.design.declared.items) (memory_widths l.design.declared.items) (statements_of l.left) ≡ statements_typed (scope_before (netlist_of l.design) l.before) (register_widths l.design.declared.items) (memory_widths l.design.declared.items) (statements_of l.fn.stmts);
  depth : size-Stmts Net l.left ≤ size-Stmts Net l.fn.stmts;
}
