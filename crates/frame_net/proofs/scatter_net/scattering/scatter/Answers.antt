use Rattle.std.proofs.Common.{[], ◌∷◌, ◌++◌, ap, sym, subst, arith, ◌∙◌}
use Rattle.net_core.specs.Nets.{TRead, SIf, SSet}
use Rattle.net_core.specs.Value.{word}
use Rattle.frame_net.specs.GatherNets.{next_position}
use Rattle.frame_net.specs.ScatterNet.Scatter.{IsScatter}
use Rattle.frame_net.specs.ScatterNet.ScatterNets.{scatter_block}
use Rattle.frame_net.proofs.FormLaws.{same_block}
use Rattle.frame_net.proofs.ScatterNet.ScatterWhole.{scatters}
use Rattle.frame_net.proofs.scatter_net.scattering.scatter.Goals as goal

pub returns : goal.returns
returns g c =
    let a = c.args in
    let q = c.requires in
    subst (IsScatter a.part a.gather a.exit a.bits a.kept.now a.words.now a.bytes.now a.taken a.slot)
    (sym (same_block (scatter_block a.part a.gather a.exit a.bits a.kept.now a.words.now a.bytes.now a.taken a.slot) _ _ _ _ (c.in_ok-push.ensures.items ∙ ap (λ l. l ++ word 11 0 ∷ []) c.new-registers.ensures.items) c.new.ensures.items c.in_ok-wires.ensures
    (c.in_ok-statement.ensures ∙ ap (λ e. SIf (TRead a.taken) (SSet 0 e)) (c.in_ok-next.ensures ∙ λ i. next_position (c.net.ensures i) (c.register.ensures i)))))
    (scatters a.part a.gather a.exit a.bits a.kept.now a.words.now a.bytes.now a.taken a.slot q.some q.most (λ j l. omega (arith, c.type_inv.words j)) q.covered)
