use Rattle.std.proofs.Common.{false, [], ◌∷◌, arith}
use Rattle.cell_core.specs.declared.operator.Operator.TheVariants.{ShiftLeft, Add}
use Rattle.cell_core.specs.Cells.{number}
use Rattle.cell_nets.specs.declared.operand.Operand.TheVariants.{Known}
use Rattle.cell_nets.specs.Operands.{number_in}
use Rattle.cell_nets.specs.Parts.{worth}
use Rattle.cell_nets.specs.Wires.{wires_of}
use Rattle.cell_nets.proofs.NarrowLaws.{bits_small}
use Rattle.cell_nets.proofs.GatherLemmas.{no_packet}
use Rattle.cell_nets.proofs.SumLemmas.{first_sum, more_sum, last_sum}
use Rattle.cell_nets.proofs.summing.join_wires.Goals as goal
use Rattle.std.proofs.Common.{refl}

pub loop-a-init : goal.loop-a-init
loop-a-init g c = first_sum c.args.part (wires_of c.args.wires.now.items) c.args.args.now c.args.bits

pub loop-a-preserved : goal.loop-a-preserved
loop-a-preserved g c =
    let high = c.loop-a.higher in
    let moved = c.in_ok-moved.moved in
    let x = c.a-item.result in
    let b = c.args.bits in
    more_sum c.args.part (wires_of c.args.wires.now.items) (wires_of c.loop-a.wires.items) (wires_of c.add_wire.new.wires.items) (wires_of c.add_wire-in-loop-a.new.wires.items) c.args.args.now no_packet b c.loop-a.a-index x high moved _ c.requires.bits (omega arith) c.a-item.is
    c.loop-a.invariant
    (c.in_ok-moved.ensures.gives false (high ∷ []) (worth no_packet ShiftLeft (high ∷ Known b ∷ []) 64) (λ v. bits_small (number no_packet ShiftLeft (number_in v high ∷ b ∷ [])) 0 64) (λ ins h. c.in_ok-shifted.ensures ins no_packet (h 0 high (omega arith)) tt))
    (c.in_ok-higher.ensures.gives false (moved ∷ x ∷ []) (worth no_packet Add (moved ∷ x ∷ []) 64) (λ v. bits_small (number no_packet Add (number_in v moved ∷ number_in v x ∷ [])) 0 64) (λ ins h. c.in_ok-sum.ensures ins no_packet Add refl (h 0 moved (omega arith)) (h 1 x (omega arith))))

pub returns : goal.returns
returns g c = λ packet.
    last_sum c.args.part (wires_of c.args.wires.now.items) (wires_of c.loop-a.wires.items) (wires_of c.cut.new.wires.items) c.args.args.now packet c.args.bits c.loop-a.a-index c.args.width c.loop-a.higher c.in_ok-out.out (omega arith) c.requires.width.most
    c.loop-a.invariant c.in_ok-out.ensures
