use Rattle.std.proofs.Common.{ap, sym, ◌∙◌, arith}
use Rattle.net_core.specs.declared.tree.Net.{Net}
use Rattle.net_core.specs.declared.tree.Stmt.TheViews.{sized-Then}
use Rattle.net_core.specs.declared.tree.Stmts.{size-Stmts}
use Rattle.net_core.proofs.TestLemmas.{all_three, behind_test}
use Rattle.net_core.proofs.typed.+stmt_typed.Goals as goal

pub stmt_typed-returns-in-IfElse : goal.stmt_typed-returns-in-IfElse
stmt_typed-returns-in-IfElse t c = rw c.in-IfElse.is
    (all_three c.is_condition-in-IfElse.ensures
    (rw c.deref-in-IfElse.ensures at c.stmt_typed-in-IfElse.ensures)
    (rw c.deref-in-IfElse-2.ensures at c.stmt_typed-in-IfElse-2.ensures))

pub stmts_typed-loop-left-preserved : goal.stmts_typed-loop-left-preserved
stmts_typed-loop-left-preserved t c =
    let z = sized-Then Net c.in-Then.a c.in-Then.more in
    let whole = ap (size-Stmts Net) c.in-Then.is in
    let part = ap (size-Stmts Net) c.deref-left.ensures in
    record {
      same = rw c.deref-left.ensures (behind_test (sym c.stmt_typed.ensures ∙ c.if-not-stmt_typed.false) (rw c.in-Then.is at c.loop-left.invariant.same));
      depth = omega (arith, z, whole, part, c.loop-left.invariant.depth);
    }
