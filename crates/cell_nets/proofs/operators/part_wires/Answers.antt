use Rattle.std.proofs.Common.{map, sym, subst}
use Rattle.cell_core.specs.Cells.{number, bits_from}
use Rattle.cell_nets.specs.Computing.{makes_product, taken, HasDivisor}
use Rattle.cell_nets.specs.Operands.{number_in}
use Rattle.cell_nets.specs.Wires.{wires_of, GivesBy}
use Rattle.cell_nets.proofs.GatherLemmas.{no_packet}
use Rattle.cell_nets.proofs.ComputingLemmas.{part_gives}
use Rattle.cell_nets.proofs.operators.part_wires.Goals as goal

pub cut-requires-clause-operand : goal.cut-requires-clause-operand
cut-requires-clause-operand g c = (c.in_ok-whole.ensures no_packet).operand

pub returns-then-from-eq0 : goal.returns-then-from-eq0
returns-then-from-eq0 g c = λ packet.
    let args = c.args.args.now in
    subst (λ k. GivesBy (makes_product c.args.op) c.args.part (wires_of c.args.wires.now.items) (wires_of c.operation_wires.new.wires.items) (taken c.args.op args) (HasDivisor c.args.op args) (λ v. bits_from (number packet c.args.op (map (number_in v) args)) k c.args.width) c.args.width c.in_ok-out.out) (sym c.if-from-eq0.true)
    (c.in_ok-out.ensures packet)

pub returns : goal.returns
returns g c = λ packet. part_gives c.args.part _ _ _ c.args.args.now packet c.args.op c.args.from c.args.width c.in_ok-whole.whole c.in_ok-out-2.out c.requires.operation c.requires.operands (c.in_ok-whole.ensures packet) c.in_ok-out-2.ensures
