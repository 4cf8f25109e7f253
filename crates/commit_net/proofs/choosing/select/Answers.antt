use Rattle.std.proofs.Common.{◌≡◌, ◌∙◌, ◌∷◌, [], ◌++◌, All, map, sym, ap, subst, arith}
use Rattle.overlay_net.specs.cell_core.Cells.{bits_from, phi}
use Rattle.overlay_net.specs.cell_nets.Operands.{number_in, IsOperand, IsAvailable}
use Rattle.overlay_net.specs.cell_nets.Wires.{wires_of, always}
use Rattle.overlay_net.proofs.cell_nets_laws.ShiftLaws.{cut_low}
use Rattle.commit_net.specs.Choosing.{chosen_of, paired, picked}
use Rattle.overlay_net.proofs.cell_nets_laws.StepNets.ChainLaws.{starts, next, last}
use Rattle.overlay_net.proofs.cell_nets_laws.StepNets.StepLaws.{no_packet, all_each}
use Rattle.commit_net.proofs.ChooseLemmas.{all_paired, pairs_there}
use Rattle.commit_net.proofs.choosing.select.Goals as goal

pub phi_wires-requires-clause-operands : goal.phi_wires-requires-clause-operands
phi_wires-requires-clause-operands g c =
    let cs = chosen_of c.args.sites.now in
    let ys = c.args.values.now in
    subst (All IsOperand) (sym (c.deref.ensures.value ∙ c.in_ok-all.ensures)) (all_paired IsOperand cs ys c.requires.chosen c.requires.values)

pub named-requires-clause-operand : goal.named-requires-clause-operand
named-requires-clause-operand g c = (c.in_ok-out.ensures no_packet).operand

pub returns : goal.returns
returns g c =
    let ns = c.args.sites.now in
    let cs = chosen_of ns in
    let ys = c.args.values.now in
    let w = c.args.width in
    let out = c.in_ok-out.out in
    let e : c.deref.result.now ≡ paired cs ys = c.deref.ensures.value ∙ c.in_ok-all.ensures in
    last
    (next (starts c.args.part (wires_of c.args.wires.now.items) (cs ++ ys) always) (c.in_ok-out.ensures no_packet) (λ ins h. subst (All (IsAvailable ins)) (sym e) (pairs_there (IsAvailable ins) cs ys h)) (λ v f h. tt)) c.in_ok-n.ensures
    (λ ins h. all_each (IsAvailable ins) (out ∷ []) (h 0 out (omega arith), tt)) (λ v f h. tt) (λ v. bits_from (picked ns ys v) 0 w)
    (λ v f h. ap (λ x. bits_from x 0 w) h.1 ∙ cut_low (phi (map (number_in v) c.deref.result.now)) w w (omega arith) ∙ ap (λ l. bits_from (phi (map (number_in v) l)) 0 w) e)
