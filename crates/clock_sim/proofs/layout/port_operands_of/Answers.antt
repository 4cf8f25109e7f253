use Rattle.std.proofs.Common.{◌≡◌, ◌+◌, ◌∷◌, ◌++◌, [], drop, ap, sym, ◌∙◌}
use Rattle.std.proofs.lemmas.List.{drop_more}
use Rattle.clock_sim.specs.Layouts.{port_operands, port_widths}
use Rattle.clock_sim.proofs.LayoutLemmas.{ports_more}
use Rattle.clock_sim.proofs.layout.port_operands_of.Goals as goal

pub loop-port-preserved : goal.loop-port-preserved
loop-port-preserved c =
    let k = c.loop-port.port in
    let w = c.width_at.result in
    let made : c.push.new.self.items ≡ c.loop-port.all.items ++ record { slot = k; width = w } ∷ [] = c.in_ok-push.ensures.items ∙ ap (λ o. c.loop-port.all.items ++ o ∷ []) c.operand.ensures in
    let left : drop k port_widths ≡ w ∷ drop (k + 1) port_widths = drop_more port_widths k 0 c.loop-port-test.true ∙ ap (λ n. n ∷ drop (k + 1) port_widths) (sym c.width_at.ensures) in
    ports_more (drop k port_widths) k w (drop (k + 1) port_widths) c.loop-port.all.items c.push.new.self.items port_operands left made c.loop-port.invariant
