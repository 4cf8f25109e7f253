use Rattle.std.proofs.Common.{◌∙◌, ◌++◌, sym, ap, subst}
use Rattle.overlay_net.specs.cell_core.Cells.{bits_from}
use Rattle.overlay_net.specs.cell_nets.Operands.{number_in}
use Rattle.overlay_net.specs.cell_nets.Wires.{wires_of}
use Rattle.overlay_net.proofs.cell_nets_laws.NarrowLaws.{bits_small}
use Rattle.overlay_net.specs.cell_nets.OperandBlocks.Wiring.{wires_block}
use Rattle.overlay_net.proofs.cell_core_laws.BitLaws.{small_bits}
use Rattle.commit_net.specs.ChangeNet.Pointed.{IsPointedWords}
use Rattle.commit_net.proofs.ChangeNet.PointedLaws.{over_next, over_number}
use Rattle.commit_net.proofs.ChangeNet.PointedLemmas.{word_wires, pointed}
use Rattle.commit_net.proofs.change_net.pointed.pointed_words.Goals as goal

pub named-requires-clause-operand : goal.named-requires-clause-operand
named-requires-clause-operand g c = c.in_ok-low.ensures.operand

pub returns : goal.returns
returns g c = λ outside x.
    let a = c.args in
    let low = c.in_ok-low.low in
    let number = c.in_ok-number.number in
    let ws = wires_of c.named.new.wires.items in
    let one = over_next x c.in_ok-low.ensures in
    let whole =
    pointed a.part a.of outside (wires_of a.wires.items) ws a.slot a.shift a.bits a.first a.bytes a.from a.count number c.requires.some c.requires.most_bits c.requires.there (over_next one c.in_ok-number.ensures) (λ v s. c.in_ok-low.ensures.before v (c.in_ok-number.ensures.before v s))
    (λ v f s.
    over_number one c.in_ok-number.ensures v f s
    ∙ ap (λ n. bits_from n 0 a.bits) (over_number x c.in_ok-low.ensures v f (c.in_ok-number.ensures.before v s))
    ∙ small_bits (bits_from (number_in v a.slot) a.shift a.bits) a.bits (bits_small (number_in v a.slot) a.shift a.bits)) in
    let block = c.in_ok-block.ensures ∙ ap wires_block c.in_ok-words.ensures.wires in
    subst (λ b. IsPointedWords a.part a.of outside (wires_of a.wires.items) a.slot a.shift a.bits a.first a.bytes a.from a.count number c.in_ok-words.words.items b) (sym block)
    (subst (λ ns. IsPointedWords a.part a.of outside (wires_of a.wires.items) a.slot a.shift a.bits a.first a.bytes a.from a.count number ns (wires_block (ws ++ word_wires a.part a.of a.first a.bytes a.from number 0 a.count))) (sym c.in_ok-words.ensures.names) whole)
