use Rattle.std.proofs.Common.{sym, subst, All}
use Rattle.block_core.proofs.list_laws_laws.AllLaws.{all_three}
use Rattle.hazard_core.specs.cell_core.declared.operator.Operator.TheVariants.{Select}
use Rattle.hazard_core.specs.cell_core.Cells.{number, bits_from}
use Rattle.cell_nets.specs.Operands.{IsOperand}
use Rattle.cell_nets.specs.Wires.{wires_of, always, Gives}
use Rattle.overlay_net.specs.ValueNet.Lists.{numbers_in}
use Rattle.overlay_net.proofs.ValueNet.Holding.{no_packet, three_listed}
use Rattle.overlay_net.proofs.value_net.operating.choose.Goals as goal

pub operate-requires-clause-operands : goal.operate-requires-clause-operands
operate-requires-clause-operands g c =
    let x = c.args.c in
    let a = c.args.a in
    let b = c.args.b in
    subst (All IsOperand) (sym (three_listed _ _ _ _ c.deref.result.now x a b c.new-args.ensures.items c.in_ok-push.ensures.items c.in_ok-push-2.ensures.items c.in_ok-push-3.ensures.items c.deref.ensures.value))
    (all_three IsOperand x a b c.requires.condition c.requires.left c.requires.right)

pub returns : goal.returns
returns g c =
    subst (λ l. Gives c.args.part (wires_of c.args.wires.now.items) (wires_of c.operate.new.wires.items) l always (λ v. bits_from (number no_packet Select (numbers_in v l)) c.args.from c.args.width) c.args.width c.in_ok-out.out)
    (three_listed _ _ _ _ c.deref.result.now c.args.c c.args.a c.args.b c.new-args.ensures.items c.in_ok-push.ensures.items c.in_ok-push-2.ensures.items c.in_ok-push-3.ensures.items c.deref.ensures.value) (c.in_ok-out.ensures no_packet)
