use Rattle.std.proofs.Common.{false, map}
use Rattle.cell_core.specs.declared.operator.Operator.TheVariants.{Join}
use Rattle.cell_core.specs.Cells.{number}
use Rattle.cell_nets.specs.Operands.{number_in}
use Rattle.cell_nets.specs.Parts.{worth}
use Rattle.cell_nets.proofs.NarrowLaws.{bits_small}
use Rattle.cell_nets.proofs.operators.joined.Goals as goal

pub returns-then-are_narrow : goal.returns-then-are_narrow
returns-then-are_narrow g c = λ packet.
    let args = c.args.args.now in
    let w = c.args.width in
    let op = Join c.args.bits in
    c.in_ok-out.ensures.gives false args (worth packet op args w) (λ v. bits_small (number packet op (map (number_in v) args)) 0 w) (λ ins h. c.in_ok-e.ensures ins packet h)
