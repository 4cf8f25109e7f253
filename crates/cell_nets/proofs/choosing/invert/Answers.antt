use Rattle.std.proofs.Common.{arith}
use Rattle.cell_nets.specs.Operands.{number_in}
use Rattle.cell_nets.proofs.ExpressionPartLaws.{part_same, part_computes, not_part, computes_as}
use Rattle.cell_nets.proofs.ChoiceLaws.{fit_of, number_small, complement_cut}
use Rattle.cell_nets.proofs.choosing.invert.Goals as goal

pub returns : goal.returns
returns g c = λ ins packet h.
    let w = c.args.width in
    computes_as ins w _ _ _ c.in_ok-e.ensures
    (part_computes ins 3 w _ _ (omega arith)
    (part_same ins 3 w _ _ _ (λ v f. complement_cut (number_in v c.args.a) w c.requires.width.most (number_small v c.args.a c.requires.operand (fit_of ins v c.args.a h f)))
    (not_part ins 2 w _ _ (c.in_ok-bits.ensures ins h))))
