use Rattle.std.proofs.Common.{arith, sym, ap, subst}
use Rattle.std.proofs.lemmas.Bool.{and_parts}
use Rattle.net_core.specs.declared.tree.Net.{Net}
use Rattle.net_core.specs.declared.tree.Stmt.TheViews.{sized-Then}
use Rattle.net_core.specs.declared.tree.Stmts.{size-Stmts}
use Rattle.net_core.specs.View.{statement_of, statements_of}
use Rattle.net_core.specs.Clock.{done, all_done}
use Rattle.net_rules.specs.NetSizes.Staying.{HaveSizes}
use Rattle.net_rules.proofs.net_sizes.keeping.+keeping.Goals as goal

pub stmts_keep-loop-left-preserved : goal.stmts_keep-loop-left-preserved
stmts_keep-loop-left-preserved t c = record {
  keeps = λ both onward.
      let parts = and_parts c.stmt_keeps-all.result c.loop-left.all both in
      let registers = c.args.sizes.now.registers.items in
      c.loop-left.invariant.keeps parts.1 (λ v known s h.
      let next = done v (statement_of c.in-Then.stmt) s in
      subst (λ l. HaveSizes registers (all_done v (statements_of l) s)) (sym c.in-Then.is)
      (subst (λ l. HaveSizes registers (all_done v (statements_of l) next)) c.deref-left.ensures
      (onward v known next (c.stmt_keeps-all.ensures parts.0 v known s h))));
  depth = omega (arith, sized-Then Net c.in-Then.stmt c.in-Then.more, ap (size-Stmts Net) c.in-Then.is, ap (size-Stmts Net) c.deref-left.ensures, c.loop-left.invariant.depth);
}
