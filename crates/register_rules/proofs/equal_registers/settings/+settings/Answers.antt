use Rattle.std.proofs.Common.{◌++◌, ◌∙◌, sym, ap, arith, map, append-nil}
use Rattle.std.proofs.lemmas.List.{map-append}
use Rattle.net_core.specs.declared.tree.Net.{Net}
use Rattle.net_core.specs.declared.tree.Stmt.TheViews.{sized-Then}
use Rattle.net_core.specs.declared.tree.Stmts.{size-Stmts}
use Rattle.net_core.specs.Nets.{SBlock, SIf, SIfElse, SThen}
use Rattle.net_core.specs.View.{tree_of, statement_of, statements_of}
use Rattle.register_rules.specs.EqualRegisters.Settings.{setting_of, all_behind, all_settings}
use Rattle.register_rules.proofs.EqualRegisters.ListLaws.{block_added, if_added, both_added, set_added, store_added, then_added}
use Rattle.register_rules.proofs.equal_registers.settings.+settings.Goals as goal

pub add-returns-in_ok-after-in-Block : goal.add-returns-in_ok-after-in-Block
add-returns-in_ok-after-in-Block t c =
    let more = c.deref.result.now in
    let g = block_added (map setting_of c.args.all.now.items) _ c.args.place _ _ (statements_of more) (statement_of c.args.stmt.now) c.in_ok-inside-in-Block.ensures c.in_ok-end-in-Block.ensures.place c.in_ok-end-in-Block.ensures.settings
    (ap statement_of c.in-Block.is ∙ sym (ap (λ l. SBlock (statements_of l)) c.deref.ensures)) in
    record { place = c.in_ok-after-in-Block.ensures ∙ g.0; settings = g.1 }

pub add-returns-in_ok-after-in-If : goal.add-returns-in_ok-after-in-If
add-returns-in_ok-after-in-If t c =
    let a = c.deref-in-If.result.now in
    let x = tree_of c.in-If.field-0 in
    let g = if_added (map setting_of c.args.all.now.items) _ c.args.place _ _ x (statement_of a) (statement_of c.args.stmt.now) c.in_ok-inside-in-If.ensures c.in_ok-end-in-If.ensures.place c.in_ok-end-in-If.ensures.settings
    (ap statement_of c.in-If.is ∙ sym (ap (λ l. SIf x (statement_of l)) c.deref-in-If.ensures)) in
    record { place = c.in_ok-after-in-If.ensures ∙ g.0; settings = g.1 }

pub add-returns-in_ok-after-in-IfElse : goal.add-returns-in_ok-after-in-IfElse
add-returns-in_ok-after-in-IfElse t c =
    let a = c.deref-in-IfElse.result.now in
    let b = c.deref-in-IfElse-2.result.now in
    let x = tree_of c.in-IfElse.field-0 in
    let g = both_added (map setting_of c.args.all.now.items) _ _ c.args.place _ _ _ _ x (statement_of a) (statement_of b) (statement_of c.args.stmt.now)
    c.in_ok-inside-in-IfElse.ensures c.in_ok-middle-in-IfElse.ensures.place c.in_ok-other-in-IfElse.ensures c.in_ok-end-in-IfElse.ensures.place c.in_ok-middle-in-IfElse.ensures.settings c.in_ok-end-in-IfElse.ensures.settings
    (ap statement_of c.in-IfElse.is ∙ sym (ap (λ l. SIfElse x (statement_of l) (statement_of c.in-IfElse.b.value)) c.deref-in-IfElse.ensures) ∙ sym (ap (λ l. SIfElse x (statement_of a) (statement_of l)) c.deref-in-IfElse-2.ensures)) in
    record { place = c.in_ok-after-in-IfElse.ensures ∙ g.0; settings = g.1 }

pub add-returns-in_ok-push-in-Set : goal.add-returns-in_ok-push-in-Set
add-returns-in_ok-push-in-Set t c =
    let g = set_added (map setting_of c.args.all.now.items) _ c.args.place c.in-Set.register (tree_of c.in-Set.value) (statement_of c.args.stmt.now)
    (ap (map setting_of) c.in_ok-push-in-Set.ensures.items ∙ map-append setting_of c.args.all.now.items _) (ap statement_of c.in-Set.is) in
    record { place = g.0; settings = g.1 }

pub add-returns-in-Store : goal.add-returns-in-Store
add-returns-in-Store t c =
    let g = store_added (map setting_of c.args.all.now.items) c.args.place _ _ _ (statement_of c.args.stmt.now) (ap statement_of c.in-Store.is) in
    record { place = g.0; settings = g.1 }

pub add_all-loop-left-preserved : goal.add_all-loop-left-preserved
add_all-loop-left-preserved t c =
    let z = sized-Then Net c.in-Then.stmt c.in-Then.more in
    let whole = ap (size-Stmts Net) c.in-Then.is in
    let rest = ap (size-Stmts Net) c.deref-left.ensures in
    let a = statement_of c.in-Then.stmt in
    let g = then_added (map setting_of c.loop-left.all.items) _ _ c.loop-left.at _ _ a (statements_of c.loop-left.left.now) (statements_of c.deref-left.result.now) c.in_ok-at.ensures.place c.in_ok-at.ensures.settings
    (ap statements_of c.in-Then.is ∙ sym (ap (λ l. SThen a (statements_of l)) c.deref-left.ensures)) c.loop-left.invariant.place c.loop-left.invariant.settings in
    record { place = g.0; settings = g.1; depth = omega (arith, z, whole, rest, c.loop-left.invariant.depth) }

pub add_all-returns : goal.add_all-returns
add_all-returns t c =
    let xs = map setting_of c.loop-left.all.items in
    record {
      place = sym (ap (λ l. all_behind c.loop-left.at (statements_of l)) c.in_default.is) ∙ c.loop-left.invariant.place;
      settings = sym (append-nil xs) ∙ sym (ap (λ l. xs ++ all_settings c.loop-left.at (statements_of l)) c.in_default.is) ∙ c.loop-left.invariant.settings;
    }
