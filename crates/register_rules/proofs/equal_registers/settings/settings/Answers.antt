use Rattle.std.proofs.Common.{◌++◌, ◌∷◌, ◌∙◌, sym, ap, arith, map, drop, suc, ◌+◌, append-nil, add-one}
use Rattle.std.proofs.Math.Seq.{drop-cons}
use Rattle.std.proofs.lemmas.List.{drop_all}
use Rattle.net_core.specs.View.{statement_of}
use Rattle.register_rules.specs.EqualRegisters.Settings.{setting_of, block_settings}
use Rattle.register_rules.proofs.EqualRegisters.ListLaws.{block_step}
use Rattle.register_rules.proofs.equal_registers.settings.settings.Goals as goal

pub loop-stmt-preserved : goal.loop-stmt-preserved
loop-stmt-preserved c =
    let l = c.loop-stmt in
    let always = c.args.always.now in
    let x = c.stmt-item.result in
    let rest = map statement_of (drop (l.stmt-index + 1) always) in
    let split = ap (map statement_of) (drop-cons always l.stmt-index x (omega arith)) ∙ ap (λ y. statement_of y ∷ map statement_of (drop (suc l.stmt-index) always)) (sym c.stmt-item.is)
    ∙ ap (λ n. statement_of x ∷ map statement_of (drop n always)) (sym (add-one l.stmt-index)) in
    block_step (map setting_of l.all.items) _ _ l.at _ _ (statement_of x) _ rest c.in_ok-end.ensures.place c.in_ok-at.ensures c.in_ok-end.ensures.settings split l.invariant

pub returns : goal.returns
returns c =
    let l = c.loop-stmt in
    let xs = map setting_of l.all.items in
    sym (append-nil xs) ∙ sym (ap (λ d. xs ++ block_settings l.at (map statement_of d)) (drop_all l.stmt-index c.args.always.now (omega arith))) ∙ l.invariant
