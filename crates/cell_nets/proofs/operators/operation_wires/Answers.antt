use Rattle.std.proofs.Common.{map, sym, ◌∙◌, subst}
use Rattle.cell_core.specs.Cells.{number}
use Rattle.cell_nets.specs.Computing.{makes_product, taken, HasDivisor}
use Rattle.cell_nets.specs.Operands.{number_in}
use Rattle.cell_nets.specs.Parts.{worth}
use Rattle.cell_nets.specs.Wires.{wires_of, GivesBy}
use Rattle.cell_nets.proofs.NarrowLaws.{bits_small}
use Rattle.cell_nets.proofs.ComputingLemmas.{list_plain, unwired, always_gives}
use Rattle.cell_nets.proofs.operators.operation_wires.Goals as goal
use Rattle.cell_nets.proofs.ComputingLaws.{no_divisor}

pub returns-then-takes_all : goal.returns-then-takes_all
returns-then-takes_all g c = λ packet.
    let op = c.args.op in
    let args = c.args.args.now in
    let plain = list_plain op (sym c.takes_all.ensures ∙ c.if-takes_all.true) in
    subst (λ b. GivesBy b c.args.part (wires_of c.args.wires.now.items) (wires_of c.list_wires.new.wires.items) (taken op args) (HasDivisor op args) (worth packet op args c.args.width) c.args.width c.in_ok-out.out) (sym plain)
    (always_gives c.args.part _ _ op args (HasDivisor op args) (worth packet op args c.args.width) c.args.width c.in_ok-out.out (no_divisor op plain) (c.in_ok-out.ensures packet))

pub returns-then-is_wired : goal.returns-then-is_wired
returns-then-is_wired g c = λ packet. c.in_ok-out-2.ensures packet

pub returns : goal.returns
returns g c = λ packet.
    let op = c.args.op in
    let args = c.args.args.now in
    let w = c.args.width in
    always_gives c.args.part _ _ op args (HasDivisor op args) (worth packet op args w) w c.in_ok-out-3.out (unwired op (sym c.is_wired.ensures ∙ c.if-is_wired.false))
    (c.in_ok-out-3.ensures.gives (makes_product op) args (worth packet op args w) (λ v. bits_small (number packet op (map (number_in v) args)) 0 w) (λ ins h. c.in_ok-e.ensures ins packet h))
