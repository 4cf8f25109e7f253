use Rattle.std.proofs.Common.{ap, ◌∙◌, arith}
use Rattle.net_core.specs.declared.tree.Net.{Net}
use Rattle.net_core.specs.declared.tree.Word.{Word}
use Rattle.net_core.specs.declared.tree.Stmt.TheViews.{sized-Then}
use Rattle.net_core.specs.declared.tree.Stmts.{size-Stmts}
use Rattle.net_core.specs.Value.{value}
use Rattle.net_core.specs.Clock.{done}
use Rattle.net_core.specs.View.{tree_of, statement_of}
use Rattle.event_sim.specs.Views.{env_in}
use Rattle.event_sim.proofs.Choices.{done_first}
use Rattle.event_sim.proofs.Reading.{first_statement, more_statements}
use Rattle.event_sim.proofs.execute.+execute.Goals as goal

pub execute-returns-else-value_of-eq0 : goal.execute-returns-else-value_of-eq0
execute-returns-else-value_of-eq0 t c =
    rw c.in-IfElse.is
    (c.execute-else-value_of-eq0.ensures ∙ ap (λ a. done (env_in c.args.values.now) (statement_of a) c.args.next.now) c.deref-else-value_of-eq0.ensures
    ∙ done_first (value (env_in c.args.values.now) (tree_of c.in-IfElse.c)) (done (env_in c.args.values.now) (statement_of c.in-IfElse.a.value) c.args.next.now) (done (env_in c.args.values.now) (statement_of c.in-IfElse.b.value) c.args.next.now) (λ z. c.if-value_of-eq0.false (ap (λ (x : Word). x.value) c.value_of-in-IfElse.ensures ∙ z)))

pub execute_all-execute-requires : goal.execute_all-execute-requires
execute_all-execute-requires t c =
    let r = rw c.in-Then.is at c.loop-left.invariant.reads in
    let z = sized-Then Net c.in-Then.a c.in-Then.more in
    let whole = ap (size-Stmts Net) c.in-Then.is in
    (omega (arith, z, whole, c.loop-left.invariant.less, c.decreases), first_statement (env_in c.args.values.now) _ _ r)

pub execute_all-loop-left-preserved : goal.execute_all-loop-left-preserved
execute_all-loop-left-preserved t c =
    let z = sized-Then Net c.in-Then.a c.in-Then.more in
    let whole = ap (size-Stmts Net) c.in-Then.is in
    let part = ap (size-Stmts Net) c.deref-left.ensures in
    let r = rw c.in-Then.is at c.loop-left.invariant.reads in
    record {
      less = omega (arith, z, whole, part, c.loop-left.invariant.less);
      reads = rw c.deref-left.ensures (more_statements (env_in c.args.values.now) _ _ r);
      done = rw (c.deref-left.ensures, c.execute.ensures) (rw c.in-Then.is at c.loop-left.invariant.done);
    }
