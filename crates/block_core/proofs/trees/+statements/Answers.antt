use Rattle.std.proofs.Common.{rules, ◌<◌, List, map, ap, ◌∙◌, sym, refl, arith}
use Rattle.std.proofs.lemmas.Result.{err_from_is_err_and}
use Rattle.net_core.specs.declared.tree.Net.{Net}
use Rattle.net_core.specs.declared.tree.Stmt.TheViews.{sized-Then}
use Rattle.net_core.specs.declared.tree.Stmt.{Stmt, size-Stmt}
use Rattle.net_core.specs.declared.tree.Stmts.{size-Stmts}
use Rattle.net_core.specs.Nets.{SThen}
use Rattle.net_core.specs.View.{statement_of, statements_of}
use Rattle.block_core.specs.Rename.{rename_statement, rename_statements}
use Rattle.net_core.specs.Chains.{statements_before}
use Rattle.block_core.specs.View.{resolve_in}
use Rattle.block_core.proofs.LinkedTrees.{block_linked, when_linked, when_else_linked, store_linked, statements_step}
use Rattle.block_core.proofs.trees.+statements.Goals as goal

pub link_stmt-returns-in_ok-block-in-Block-clause-linked : goal.link_stmt-returns-in_ok-block-in-Block-clause-linked
link_stmt-returns-in_ok-block-in-Block-clause-linked g t c =
    let f = resolve_in g.P.Part.place c.args.starts.now in
    block_linked f c.args.registers c.args.memories _ _ _ _ (ap statement_of c.in-Block.is)
    (c.in_ok-more-in-Block.ensures.linked ∙ ap (λ x. rename_statements f c.args.registers c.args.memories (statements_of x)) c.deref.ensures) c.in_ok-block-in-Block.ensures

pub link_stmt-returns-in_ok-when-in-If-clause-linked : goal.link_stmt-returns-in_ok-when-in-If-clause-linked
link_stmt-returns-in_ok-when-in-If-clause-linked g t c =
    let f = resolve_in g.P.Part.place c.args.starts.now in
    when_linked f c.args.registers c.args.memories _ _ _ _ _ _ (ap statement_of c.in-If.is) c.in_ok-c-in-If.ensures.linked
    (c.in_ok-a-in-If.ensures.linked ∙ ap (λ x. rename_statement f c.args.registers c.args.memories (statement_of x)) c.deref-in-If.ensures) c.in_ok-when-in-If.ensures

pub link_stmt-returns-in_ok-when_else-in-IfElse-clause-linked : goal.link_stmt-returns-in_ok-when_else-in-IfElse-clause-linked
link_stmt-returns-in_ok-when_else-in-IfElse-clause-linked g t c =
    let f = resolve_in g.P.Part.place c.args.starts.now in
    when_else_linked f c.args.registers c.args.memories _ _ _ _ _ _ _ _ (ap statement_of c.in-IfElse.is) c.in_ok-c-in-IfElse.ensures.linked
    (c.in_ok-a-in-IfElse.ensures.linked ∙ ap (λ x. rename_statement f c.args.registers c.args.memories (statement_of x)) c.deref-in-IfElse.ensures)
    (c.in_ok-b-in-IfElse.ensures.linked ∙ ap (λ x. rename_statement f c.args.registers c.args.memories (statement_of x)) c.deref-in-IfElse-2.ensures) c.in_ok-when_else-in-IfElse.ensures

pub link_stmt-returns-in_ok-behind-in-Store-clause-linked : goal.link_stmt-returns-in_ok-behind-in-Store-clause-linked
link_stmt-returns-in_ok-behind-in-Store-clause-linked g t c =
    store_linked (resolve_in g.P.Part.place c.args.starts.now) c.args.registers c.args.memories _ _ _ _ _ _ _ _ (ap statement_of c.in-Store.is)
    c.in_ok-behind-in-Store.ensures.number c.in_ok-i-in-Store.ensures.linked c.in_ok-e-in-Store.ensures.linked refl

pub link_stmts-loop-left-init : goal.link_stmts-loop-left-init
link_stmts-loop-left-init g t c = record {
  done = ap (λ (xs : List (Stmt Net)). statements_before (map statement_of xs) (rename_statements (resolve_in g.P.Part.place c.args.starts.now) c.args.registers c.args.memories (statements_of c.args.stmts.now))) c.new-prefix.ensures.items;
  range = refl;
  depth = omega arith;
}

pub link_stmts-link_stmt-requires : goal.link_stmts-link_stmt-requires
link_stmts-link_stmt-requires g t c =
    let z = sized-Then _ c.in-Then.first c.in-Then.more in
    let whole = ap (size-Stmts _) c.in-Then.is in
    let lt : size-Stmt _ c.in-Then.first < t = omega (arith, z, whole, c.loop-left.invariant.depth, c.decreases) in
    search rules

pub link_stmts-loop-left-preserved : goal.link_stmts-loop-left-preserved
link_stmts-loop-left-preserved g t c =
    let z = sized-Then _ c.in-Then.first c.in-Then.more in
    let whole = ap (size-Stmts _) c.in-Then.is in
    let part = ap (size-Stmts _) c.deref-left.ensures in
    record {
      done = statements_step (resolve_in g.P.Part.place c.args.starts.now) c.args.registers c.args.memories c.loop-left.prefix.items _ _ _ (statements_of c.loop-left.left.now) _ _ c.in_ok-push.ensures.items c.in_ok-link_stmt.ensures.linked
          (ap statements_of c.in-Then.is ∙ sym (ap (λ l. SThen (statement_of c.in-Then.first) (statements_of l)) c.deref-left.ensures)) c.loop-left.invariant.done;
      range = rw c.deref-left.ensures (rw c.in_ok-link_stmt.ensures.range at (rw c.in-Then.is at c.loop-left.invariant.range));
      depth = omega (arith, z, whole, part, c.loop-left.invariant.depth);
    }

-- ---- what was linked is in range, or not
pub link_stmt-returns-in_ok-block-in-Block-clause-range : goal.link_stmt-returns-in_ok-block-in-Block-clause-range
link_stmt-returns-in_ok-block-in-Block-clause-range g t c = rw (c.in-Block.is, ← c.deref.ensures) c.in_ok-more-in-Block.ensures.range

pub link_stmt-returns-in_ok-when-in-If-clause-range : goal.link_stmt-returns-in_ok-when-in-If-clause-range
link_stmt-returns-in_ok-when-in-If-clause-range g t c = rw (c.in-If.is, ← c.deref-in-If.ensures, c.in_ok-c-in-If.ensures.range) c.in_ok-a-in-If.ensures.range

pub link_stmt-returns-in_ok-when_else-in-IfElse-clause-range : goal.link_stmt-returns-in_ok-when_else-in-IfElse-clause-range
link_stmt-returns-in_ok-when_else-in-IfElse-clause-range g t c =
    rw (c.in-IfElse.is, ← c.deref-in-IfElse.ensures, ← c.deref-in-IfElse-2.ensures, c.in_ok-c-in-IfElse.ensures.range, c.in_ok-a-in-IfElse.ensures.range) c.in_ok-b-in-IfElse.ensures.range

pub link_stmt-returns-in_ok-behind-in-Store-clause-range : goal.link_stmt-returns-in_ok-behind-in-Store-clause-range
link_stmt-returns-in_ok-behind-in-Store-clause-range g t c = rw (c.in-Store.is, c.in_ok-i-in-Store.ensures.range, c.in_ok-e-in-Store.ensures.range) c.in_ok-behind-in-Store.ensures.range

pub link_stmt-returns-in_err-e-in-Store-clause-range : goal.link_stmt-returns-in_err-e-in-Store-clause-range
link_stmt-returns-in_err-e-in-Store-clause-range g t c =
    let p = err_from_is_err_and c.from_residual-in_err-e-in-Store.result c.from_residual-in_err-e-in-Store.ensures.1 in
    rw (p.1, p.2, c.in-Store.is) (λ many. rw (c.in_ok-i-in-Store.ensures.range, c.in_err-e-in-Store.ensures.range many))

pub link_stmt-returns-in_err-behind-in-Store-clause-range : goal.link_stmt-returns-in_err-behind-in-Store-clause-range
link_stmt-returns-in_err-behind-in-Store-clause-range g t c =
    let p = err_from_is_err_and c.from_residual-in_err-behind-in-Store.result c.from_residual-in_err-behind-in-Store.ensures.1 in
    rw (p.1, p.2, c.in-Store.is) (λ many. rw (c.in_ok-i-in-Store.ensures.range, c.in_ok-e-in-Store.ensures.range) (c.in_err-behind-in-Store.ensures.range many))
