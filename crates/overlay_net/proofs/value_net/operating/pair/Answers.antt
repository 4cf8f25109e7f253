use Rattle.std.proofs.Common.{sym, subst, All}
use Rattle.block_core.proofs.list_laws_laws.AllLaws.{all_two}
use Rattle.hazard_core.specs.cell_core.Cells.{number, bits_from}
use Rattle.cell_nets.specs.Operands.{IsOperand}
use Rattle.cell_nets.specs.Wires.{wires_of, always, Gives}
use Rattle.overlay_net.specs.ValueNet.Lists.{numbers_in}
use Rattle.overlay_net.proofs.ValueNet.Holding.{no_packet, two_listed}
use Rattle.overlay_net.proofs.value_net.operating.pair.Goals as goal

pub operate-requires-clause-operands : goal.operate-requires-clause-operands
operate-requires-clause-operands g c =
    let a = c.args.a in
    let b = c.args.b in
    subst (All IsOperand) (sym (two_listed _ _ _ c.deref.result.now a b c.new-args.ensures.items c.in_ok-push.ensures.items c.in_ok-push-2.ensures.items c.deref.ensures.value)) (all_two IsOperand a b c.requires.left c.requires.right)

pub returns-clause-operand : goal.returns-clause-operand
returns-clause-operand g c = (c.in_ok-out.ensures no_packet).operand

pub returns-clause-gives : goal.returns-clause-gives
returns-clause-gives g c = λ packet.
    let a = c.args.a in
    let b = c.args.b in
    subst (λ l. Gives c.args.part (wires_of c.args.wires.now.items) (wires_of c.operate.new.wires.items) l always (λ v. bits_from (number packet c.args.op (numbers_in v l)) 0 c.args.width) c.args.width c.in_ok-out.out)
    (two_listed _ _ _ c.deref.result.now a b c.new-args.ensures.items c.in_ok-push.ensures.items c.in_ok-push-2.ensures.items c.deref.ensures.value) (c.in_ok-out.ensures packet)
