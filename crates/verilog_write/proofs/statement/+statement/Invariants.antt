-- Whatever adds the statements that are left has added all of them.
use Rattle.std.proofs.Common.{ℕ, ◌≤◌, List}
use Rattle.net_core.specs.declared.tree.Net.{Net}
use Rattle.net_core.specs.declared.tree.Stmts.{size-Stmts}
use Rattle.net_core.specs.Names.{name_of}
use Rattle.net_core.specs.View.{netlist_of, statements_of}
use Rattle.verilog_write.specs.VerilogGrammar.Grammar.{register_name, memory_name, statement_trees_lexemes}
use Rattle.verilog_write.specs.Adds.{AddsLine}
use Rattle.verilog_write.specs.Writable.{AreStatementsWritable}
use Rattle.verilog_write.proofs.statement.+statement.Given as goal

abbrev pub invariant-push_statements-loop-left : goal.invariant-push_statements-loop-left
invariant-push_statements-loop-left l = record {
  rest : (new : List ℕ) → AddsLine l.text.items new (statement_trees_lexemes (name_of (netlist_of l.names.design.now)) (register_name (netlist_of l.names.design.now)) (memory_name (netlist_of l.names.design.now)) (statements_of l.left))
      → AddsLine l.fn.text.items new (statement_trees_lexemes (name_of (netlist_of l.names.design.now)) (register_name (netlist_of l.names.design.now)) (memory_name (netlist_of l.names.design.now)) (statements_of l.fn.more));
  writable : AreStatementsWritable (netlist_of l.names.design.now) (statements_of l.left);
  depth : size-Stmts Net l.left ≤ size-Stmts Net l.fn.more;
}
