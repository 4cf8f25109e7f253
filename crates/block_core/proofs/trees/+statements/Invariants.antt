use Rattle.std.proofs.Common.{◌≡◌, ◌≤◌, map}
use Rattle.net_core.specs.declared.tree.Stmt.{size-Stmt}
use Rattle.net_core.specs.declared.tree.Stmts.{size-Stmts}
use Rattle.net_core.specs.View.{statement_of, statements_of}
use Rattle.block_core.specs.Rename.{rename_statements}
use Rattle.net_core.specs.Chains.{statements_before}
use Rattle.block_core.specs.View.{resolve_in}
use Rattle.block_core.specs.Range.{statements_in_range}
use Rattle.block_core.proofs.trees.+statements.Given as goal

abbrev pub decreases-link_stmt : goal.decreases-link_stmt
decreases-link_stmt g l = size-Stmt _ l.stmt.now

abbrev pub decreases-link_stmts : goal.decreases-link_stmts
decreases-link_stmts g l = size-Stmts _ l.stmts.now

abbrev pub invariant-link_stmts-loop-left : goal.invariant-link_stmts-loop-left
invariant-link_stmts-loop-left g l = record {
  done : statements_before (map statement_of l.prefix.items) (rename_statements (resolve_in g.P.Part.place l.starts) l.registers l.memories (statements_of l.left))
      ≡ rename_statements (resolve_in g.P.Part.place l.starts) l.registers l.memories (statements_of l.fn.stmts);
  range : statements_in_range (rename_statements (resolve_in g.P.Part.place l.starts) l.registers l.memories (statements_of l.left))
      ≡ statements_in_range (rename_statements (resolve_in g.P.Part.place l.starts) l.registers l.memories (statements_of l.fn.stmts));
  depth : size-Stmts _ l.left ≤ size-Stmts _ l.fn.stmts;
}
