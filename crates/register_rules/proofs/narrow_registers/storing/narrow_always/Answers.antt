use Rattle.std.proofs.Common.{◌∙◌, sym, ap, map, take, arith, ◌++◌, [], ◌∷◌}
use Rattle.std.proofs.lemmas.List.{map_more}
use Rattle.net_core.specs.View.{statement_of}
use Rattle.register_rules.specs.NarrowRegisters.Narrow.{coding_of, IsSameStatement}
use Rattle.register_rules.proofs.NarrowRegisters.DesignLemmas.{each_pushed}
use Rattle.register_rules.proofs.narrow_registers.storing.narrow_always.Goals as goal

pub loop-stmt-preserved : goal.loop-stmt-preserved
loop-stmt-preserved c =
    let l = c.loop-stmt in
    let before = take l.stmt-index c.args.always.now in
    let whole = map_more statement_of c.args.always.now l.stmt-index c.stmt-item.result (omega arith) ∙ ap (λ x. map statement_of before ++ statement_of x ∷ []) (sym c.stmt-item.is) in
    each_pushed (IsSameStatement (coding_of c.args.codes.now)) statement_of before l.all.items _ c.stmt-item.result _ _ whole c.in_ok-push.ensures.items l.invariant c.in_ok-narrow_stmt.ensures
