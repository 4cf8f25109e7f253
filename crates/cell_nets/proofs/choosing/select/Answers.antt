use Rattle.std.proofs.Common.{arith}
use Rattle.cell_core.specs.Cells.{on}
use Rattle.cell_nets.specs.Operands.{number_in}
use Rattle.cell_nets.proofs.ExpressionPartLaws.{part_same, part_computes, conditional_part, computes_as}
use Rattle.cell_nets.proofs.ChoiceLaws.{choice_is}
use Rattle.cell_nets.proofs.choosing.select.Goals as goal

pub returns : goal.returns
returns g c = λ ins packet h k l.
    let w = c.args.width in
    let condition = c.in_ok-condition.ensures ins h in
    let left = c.in_ok-left.ensures ins k in
    let right = c.in_ok-right.ensures ins l in
    computes_as ins w _ _ _ c.in_ok-e.ensures
    (part_computes ins 3 w _ _ (omega arith)
    (part_same ins 3 w _ _ _ (λ v f. choice_is (on (number_in v c.args.c)) (number_in v c.args.a) (number_in v c.args.b) w) (conditional_part ins 2 2 2 w _ _ _ _ _ _ condition left.part right.part)))
