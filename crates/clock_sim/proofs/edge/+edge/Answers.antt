use Rattle.std.specs.Prelude.{◌==◌}
use Rattle.std.proofs.Common.{◌<◌, ◌&&◌, length, refl, sym, ap, subst, ◌∙◌, arith}
use Rattle.std.proofs.lemmas.Bool.{and_parts}
use Rattle.std.proofs.lemmas.Grind.{get_or_default_zero}
use Rattle.std.proofs.lemmas.List.{length-set}
use Rattle.net_core.specs.declared.tree.Net.{Net}
use Rattle.net_core.specs.declared.tree.Stmt.{size-Stmt}
use Rattle.net_core.specs.declared.tree.Stmt.TheViews.{sized-If, sized-IfElse, sized-Then}
use Rattle.net_core.specs.declared.tree.Stmts.{size-Stmts}
use Rattle.net_core.specs.View.{tree_of, statement_of, statements_of}
use Rattle.net_core.specs.Width.{width_of, statement_typed}
use Rattle.clock_sim.specs.Flat.{scope_of}
use Rattle.clock_sim.specs.Edges.{Picks, widths_at, sizes_of}
use Rattle.clock_sim.proofs.BuilderLemmas.{extends_none, extends_more, operands_later}
use Rattle.clock_sim.proofs.StatementLemmas.{slots_set, slot_at, edge_later, stores_push, set_there, block_executes, if_executes, else_executes, set_executes, store_executes, end_executes, executing_more}
use Rattle.clock_sim.proofs.edge.+edge.Goals as goal

pub add_statement-add_statement-requires : goal.add_statement-add_statement-requires
add_statement-add_statement-requires t c =
    let n = c.args.operands.now in
    let typed = rw c.in-If.is at c.requires.typed in
    let parts = and_parts (width_of (scope_of n) (tree_of c.in-If.c) == 1) (statement_typed (scope_of n) (widths_at n.registers.items) (sizes_of n.memories.items) (statement_of c.in-If.a.value)) typed in
    let z = sized-If Net c.in-If.c c.in-If.a in
    let whole = ap (size-Stmt Net) c.in-If.is in
    let part = ap (size-Stmt Net) c.deref-in-If.ensures in
    let e = extends_more _ _ _ c.in_ok-test-in-If.ensures.adds.extends c.in_ok-inner-in-If.ensures.adds.extends in (
      omega (arith, z, whole, part, c.decreases),
      (rw c.deref-in-If.ensures parts.1, (operands_later _ _ _ e c.requires.operands, (c.in_ok-inner-in-If.ensures.adds.there, edge_later _ _ _ _ e c.requires.edge))),
    )

pub add_statement-add_statement-requires-in-IfElse : goal.add_statement-add_statement-requires-in-IfElse
add_statement-add_statement-requires-in-IfElse t c =
    let n = c.args.operands.now in
    let typed = rw c.in-IfElse.is at c.requires.typed in
    let first = statement_typed (scope_of n) (widths_at n.registers.items) (sizes_of n.memories.items) (statement_of c.in-IfElse.a.value) in
    let second = statement_typed (scope_of n) (widths_at n.registers.items) (sizes_of n.memories.items) (statement_of c.in-IfElse.b.value) in
    let parts = and_parts (width_of (scope_of n) (tree_of c.in-IfElse.c) == 1) (first && second) typed in
    let both = and_parts first second parts.1 in
    let z = sized-IfElse Net c.in-IfElse.c c.in-IfElse.a c.in-IfElse.b in
    let whole = ap (size-Stmt Net) c.in-IfElse.is in
    let part = ap (size-Stmt Net) c.deref-in-IfElse.ensures in
    let f = c.in_ok-turned-in-IfElse.ensures.adds.extends in
    let g = c.in_ok-other-in-IfElse.ensures.adds.extends in
    let e = extends_more _ _ _ (extends_more _ _ _ (extends_more _ _ _ c.in_ok-test-in-IfElse.ensures.adds.extends c.in_ok-inner-in-IfElse.ensures.adds.extends) f) g in
    let there = c.in_ok-inner-in-IfElse.ensures.adds.there in (
      omega (arith, z, whole, part, c.decreases),
      (rw c.deref-in-IfElse.ensures both.0, (operands_later _ _ _ e c.requires.operands, (omega (arith, there, f.grows, g.grows), edge_later _ _ _ _ e c.requires.edge))),
    )

pub add_statement-picked-requires-clause-second : goal.add_statement-picked-requires-clause-second
add_statement-picked-requires-clause-second t c =
    let typed = rw c.in-Set.is at c.requires.typed in
    let there = set_there c.args.operands.now.registers.items c.in-Set.register _ typed in
    let later = edge_later _ _ _ _ c.in_ok-value-in-Set.ensures.adds.extends c.requires.edge in
    let count = later.count in
    let inside : c.in-Set.register < length c.args.edge.now.next.items = omega arith in
    subst (λ k. k < length c.value_of-in-Set.new.builder.slots) (sym c.index.ensures) (slot_at _ _ later.next c.in-Set.register c.index.result.now inside)

pub add_statement-returns-in_ok-add_statements-in-Block-clause-executes : goal.add_statement-returns-in_ok-add_statements-in-Block-clause-executes
add_statement-returns-in_ok-add_statements-in-Block-clause-executes t c =
    let executes = rw c.deref.ensures at c.in_ok-add_statements-in-Block.ensures.executes in
    rw c.in-Block.is (block_executes _ _ _ _ _ _ _ executes)

pub add_statement-returns-in_ok-add_statement-in-If-clause-extends : goal.add_statement-returns-in_ok-add_statement-in-If-clause-extends
add_statement-returns-in_ok-add_statement-in-If-clause-extends t c = extends_more _ _ _ (extends_more _ _ _ c.in_ok-test-in-If.ensures.adds.extends c.in_ok-inner-in-If.ensures.adds.extends) c.in_ok-add_statement-in-If.ensures.extends

pub add_statement-returns-in_ok-add_statement-in-If-clause-executes : goal.add_statement-returns-in_ok-add_statement-in-If-clause-executes
add_statement-returns-in_ok-add_statement-in-If-clause-executes t c =
    let executes = rw c.deref-in-If.ensures at c.in_ok-add_statement-in-If.ensures.executes in
    rw c.in-If.is (if_executes _ _ _ _ _ _ _ _ _ _ _ _ c.in_ok-test-in-If.ensures.adds.extends c.in_ok-inner-in-If.ensures.adds.extends c.requires.edge c.in_ok-test-in-If.ensures.values c.in_ok-inner-in-If.ensures.guards executes)

pub add_statement-returns-in_ok-add_statement-in-IfElse-2-clause-extends : goal.add_statement-returns-in_ok-add_statement-in-IfElse-2-clause-extends
add_statement-returns-in_ok-add_statement-in-IfElse-2-clause-extends t c =
    let test = extends_more _ _ _ c.in_ok-test-in-IfElse.ensures.adds.extends c.in_ok-inner-in-IfElse.ensures.adds.extends in
    let tests = extends_more _ _ _ (extends_more _ _ _ test c.in_ok-turned-in-IfElse.ensures.adds.extends) c.in_ok-other-in-IfElse.ensures.adds.extends in
    extends_more _ _ _ (extends_more _ _ _ tests c.in_ok-add_statement-in-IfElse.ensures.extends) c.in_ok-add_statement-in-IfElse-2.ensures.extends

pub add_statement-returns-in_ok-add_statement-in-IfElse-2-clause-executes : goal.add_statement-returns-in_ok-add_statement-in-IfElse-2-clause-executes
add_statement-returns-in_ok-add_statement-in-IfElse-2-clause-executes t c =
    let first = rw c.deref-in-IfElse.ensures at c.in_ok-add_statement-in-IfElse.ensures.executes in
    let second = rw c.deref-in-IfElse-2.ensures at c.in_ok-add_statement-in-IfElse-2.ensures.executes in
    rw c.in-IfElse.is
    (else_executes _ _ _ _ _ _ _ _ _ _ _ _ _ _ _ _ _ _ _ c.in_ok-test-in-IfElse.ensures.adds.extends c.in_ok-inner-in-IfElse.ensures.adds.extends c.in_ok-turned-in-IfElse.ensures.adds.extends c.in_ok-other-in-IfElse.ensures.adds.extends
    c.in_ok-add_statement-in-IfElse.ensures.extends c.requires.edge c.in_ok-test-in-IfElse.ensures.values c.in_ok-inner-in-IfElse.ensures.guards c.in_ok-turned-in-IfElse.ensures.opposes c.in_ok-other-in-IfElse.ensures.guards first second)

pub add_statement-returns-in_ok-slot-in-Set-clause-extends : goal.add_statement-returns-in_ok-slot-in-Set-clause-extends
add_statement-returns-in_ok-slot-in-Set-clause-extends t c = extends_more _ _ _ c.in_ok-value-in-Set.ensures.adds.extends c.in_ok-slot-in-Set.ensures.adds.extends

pub add_statement-returns-in_ok-slot-in-Set-clause-edge : goal.add_statement-returns-in_ok-slot-in-Set-clause-edge
add_statement-returns-in_ok-slot-in-Set-clause-edge t c =
    let later = edge_later _ _ _ _ (extends_more _ _ _ c.in_ok-value-in-Set.ensures.adds.extends c.in_ok-slot-in-Set.ensures.adds.extends) c.requires.edge in
    record {
      count = length-set c.args.edge.now.next.items c.in-Set.register c.in_ok-slot-in-Set.slot ∙ later.count;
      next = slots_set _ _ c.in-Set.register _ c.in_ok-slot-in-Set.ensures.adds.there later.next;
      stores = later.stores;
    }

pub add_statement-returns-in_ok-slot-in-Set-clause-executes : goal.add_statement-returns-in_ok-slot-in-Set-clause-executes
add_statement-returns-in_ok-slot-in-Set-clause-executes t c =
    let typed = rw c.in-Set.is at c.requires.typed in
    let there = set_there c.args.operands.now.registers.items c.in-Set.register _ typed in
    let count = c.requires.edge.count in
    let inside : c.in-Set.register < length c.args.edge.now.next.items = omega arith in
    let next = c.args.edge.now.next.items in
    let was = c.index.ensures ∙ get_or_default_zero next c.in-Set.register c.index.result.now inside in
    let picks = subst (λ k. Picks c.value_of-in-Set.new.builder c.picked.new.builder c.args.guard c.in_ok-value-in-Set.value.slot k c.in_ok-slot-in-Set.slot) was c.in_ok-slot-in-Set.ensures.picks in
    rw c.in-Set.is (set_executes _ _ _ _ _ c.in-Set.register _ _ _ c.args.edge.now _ c.in_ok-value-in-Set.ensures.adds.extends c.in_ok-slot-in-Set.ensures.adds.extends c.requires.edge c.in_ok-value-in-Set.ensures.values picks inside refl refl)

pub add_statement-returns-in_ok-push-in-Store-clause-extends : goal.add_statement-returns-in_ok-push-in-Store-clause-extends
add_statement-returns-in_ok-push-in-Store-clause-extends t c = extends_more _ _ _ (extends_more _ _ _ c.in_ok-at-in-Store.ensures.adds.extends c.in_ok-word-in-Store.ensures.adds.extends) c.in_ok-guard-in-Store.ensures.adds.extends

pub add_statement-returns-in_ok-push-in-Store-clause-edge : goal.add_statement-returns-in_ok-push-in-Store-clause-edge
add_statement-returns-in_ok-push-in-Store-clause-edge t c =
    let f = c.in_ok-word-in-Store.ensures.adds in
    let g = c.in_ok-guard-in-Store.ensures.adds in
    let at = c.in_ok-at-in-Store.ensures.adds.there in
    let later = edge_later _ _ _ _ (extends_more _ _ _ (extends_more _ _ _ c.in_ok-at-in-Store.ensures.adds.extends f.extends) g.extends) c.requires.edge in
    record {
      count = later.count;
      next = later.next;
      stores = rw c.in_ok-push-in-Store.ensures.items (stores_push _ _ _ later.stores (record { guard = g.there; at = omega (arith, at, f.extends.grows, g.extends.grows); word = omega (arith, f.there, g.extends.grows) }));
    }

pub add_statement-returns-in_ok-push-in-Store-clause-executes : goal.add_statement-returns-in_ok-push-in-Store-clause-executes
add_statement-returns-in_ok-push-in-Store-clause-executes t c =
    rw c.in-Store.is
    (store_executes _ _ _ _ _ _ _ _ _ _ _ c.args.edge.now _ c.in_ok-at-in-Store.ensures.adds.extends c.in_ok-word-in-Store.ensures.adds.extends c.in_ok-guard-in-Store.ensures.adds.extends c.requires.edge c.in_ok-at-in-Store.ensures.values
    c.in_ok-word-in-Store.ensures.values c.in_ok-guard-in-Store.ensures.guards refl refl refl c.in_ok-push-in-Store.ensures.items)

pub add_statements-loop-left-init : goal.add_statements-loop-left-init
add_statements-loop-left-init t c = record {
  less = omega arith;
  done = record { typed = c.requires.typed; extends = extends_none c.args.builder.now; there = c.requires.operands; guarded = c.requires.guard; within = c.requires.edge; executes = λ last ended h. h };
}

pub add_statements-loop-left-preserved : goal.add_statements-loop-left-preserved
add_statements-loop-left-preserved t c =
    let now = c.in_ok-add_statement.ensures in
    let whole = ap (size-Stmts Net) c.in-Then.is in
    let part = ap (size-Stmts Net) c.deref-left.ensures in
    record {
      less = omega (arith, sized-Then Net c.in-Then.s c.in-Then.rest, whole, part, c.loop-left.invariant.less);
      done = rw c.deref-left.ensures (executing_more _ _ _ _ _ _ _ _ _ _ _ _ (ap statements_of c.in-Then.is) now.extends now.edge now.executes c.loop-left.invariant.done);
    }

pub add_statements-returns-clause-executes : goal.add_statements-returns-clause-executes
add_statements-returns-clause-executes t c = c.loop-left.invariant.done.executes _ _ (rw c.in_default.is (end_executes c.loop-left.builder c.args.operands.now c.args.guard c.loop-left.edge))
