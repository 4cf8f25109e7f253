use Rattle.std.proofs.Common.{◌≡◌, ◌∙◌, [], ◌∷◌, All, map, sym, ap, subst, arith}
use Rattle.overlay_net.specs.cell_core.Cells.{on, phi, bits_from}
use Rattle.overlay_net.specs.cell_nets.Operands.{number_in, IsOperand, IsAvailable}
use Rattle.overlay_net.specs.cell_nets.Wires.{wires_of, always}
use Rattle.overlay_net.proofs.cell_nets_laws.StepNets.ChainLaws.{starts, next, last}
use Rattle.overlay_net.proofs.cell_nets_laws.StepNets.StepLaws.{no_packet, all_each}
use Rattle.commit_net.specs.Choosing.{all_read}
use Rattle.commit_net.specs.ChangeNet.Changes.{key_pairs, key_value}
use Rattle.commit_net.proofs.ChangeNet.ChainLemmas.{tail}
use Rattle.commit_net.proofs.ChangeNet.PairLemmas.{pairs_of, all_operands, chosen_bits}
use Rattle.commit_net.proofs.change_net.keys.key_word.Goals as goal

pub phi_wires-requires-clause-operands : goal.phi_wires-requires-clause-operands
phi_wires-requires-clause-operands g c =
    let ns = c.args.sites.now in
    subst (All IsOperand) (sym (c.deref.ensures.value ∙ c.in_ok-all.ensures)) (pairs_of c.args.w c.args.there IsOperand (omega arith) c.requires.there ns (all_operands IsOperand ns c.requires.operands))

pub choose-requires-clause-left : goal.choose-requires-clause-left
choose-requires-clause-left g c = (c.in_ok-own.ensures no_packet).operand

pub returns : goal.returns
returns g c =
    let ns = c.args.sites.now in
    let acts = c.args.commits in
    let there = c.args.there in
    let own = c.in_ok-own.own in
    let w = c.args.w in
    let ins = acts ∷ there ∷ all_read ns in
    let e : c.deref.result.now ≡ key_pairs w there ns = c.deref.ensures.value ∙ c.in_ok-all.ensures in
    last
    (next (starts c.args.part (wires_of c.args.wires.now.items) ins always) (c.in_ok-own.ensures no_packet)
    (λ all h. subst (All (IsAvailable all)) (sym e) (pairs_of w there (IsAvailable all) tt (h 1 there (omega arith)) ns (tail (IsAvailable all) there (all_read ns) (tail (IsAvailable all) acts (there ∷ all_read ns) h)))) (λ v f k. tt))
    c.in_ok-out.ensures (λ all h. all_each (IsAvailable all) (acts ∷ own ∷ there ∷ []) (h 1 acts (omega arith), (h 0 own (omega arith), (h 2 there (omega arith), tt)))) (λ v f k. tt) (λ v. key_value v ns acts w there)
    (λ v f k. chosen_bits (on (number_in v acts)) (number_in v own) (phi (map (number_in v) (key_pairs w there ns))) (number_in v there) (k.1 ∙ ap (λ l. bits_from (phi (map (number_in v) l)) 0 64) e))
