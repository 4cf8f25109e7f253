use Rattle.std.proofs.Common.{ap, append_assoc, arith}
use Rattle.net_core.specs.declared.tree.Net.{Net}
use Rattle.net_core.specs.declared.tree.Stmt.TheViews.{sized-Then}
use Rattle.net_core.specs.declared.tree.Stmts.{size-Stmts}
use Rattle.verilog_write.proofs.AddsLemmas.{from_ok, line_more, word_line}
use Rattle.verilog_write.proofs.statement.+statement.Goals as goal

pub push_statement-returns-in_ok-push_else-in-IfElse : goal.push_statement-returns-in_ok-push_else-in-IfElse
push_statement-returns-in_ok-push_else-in-IfElse t c =
    rw c.in-IfElse.is (from_ok c.push_statement-in-IfElse-2.result c.push_statement-in-IfElse-2.ensures (λ last. record {
      read = λ before h.
          simp (append_assoc, c.deref-in-IfElse.ensures, c.deref-in-IfElse-2.ensures) at
          (last.read _ (c.in_ok-push_else-in-IfElse.ensures.read _ (c.in_ok-push_statement-in-IfElse.ensures.read _ (c.in_ok-push_condition-in-IfElse.ensures.read _ h))));
    }))

pub push_statements-loop-left-preserved : goal.push_statements-loop-left-preserved
push_statements-loop-left-preserved t c =
    let z = sized-Then Net c.in-Then.first c.in-Then.rest in
    let whole = ap (size-Stmts Net) c.in-Then.is in
    let part = ap (size-Stmts Net) c.deref-left.ensures in
    record {
      rest = λ new k.
          c.loop-left.invariant.rest new (rw c.in-Then.is (line_more (word_line c.in_ok-push_statement.ensures c.in_ok-push_line.ensures.read) (rw c.deref-left.ensures at k)));
      writable = rw c.deref-left.ensures (rw c.in-Then.is at c.loop-left.invariant.writable).1;
      depth = omega (arith, z, whole, part, c.loop-left.invariant.depth);
    }
