use Rattle.std.proofs.Common.{◌∙◌, sym, ap, map, take, arith, ◌++◌, [], ◌∷◌, refl}
use Rattle.std.proofs.lemmas.List.{map_more}
use Rattle.net_core.specs.View.{assign_of}
use Rattle.register_rules.specs.NarrowRegisters.Narrow.{coding_of, IsSameAssign}
use Rattle.register_rules.proofs.NarrowRegisters.DesignLemmas.{each_pushed}
use Rattle.register_rules.proofs.narrow_registers.storing.wide_assigns.Goals as goal

pub loop-assign-preserved : goal.loop-assign-preserved
loop-assign-preserved c =
    let l = c.loop-assign in
    let before = take l.assign-index c.args.assigns.now in
    let whole = map_more assign_of c.args.assigns.now l.assign-index c.assign-item.result (omega arith) ∙ ap (λ x. map assign_of before ++ assign_of x ∷ []) (sym c.assign-item.is) in
    each_pushed (IsSameAssign (coding_of c.args.codes.now)) assign_of before l.all.items _ c.assign-item.result _ _ whole c.in_ok-push.ensures.items l.invariant (refl, c.in_ok-value.ensures)
