use Rattle.std.proofs.Common.{ap, arith}
use Rattle.net_core.specs.declared.tree.Op.TheVariants.{ShiftRight}
use Rattle.net_core.specs.Value.{word}
use Rattle.cell_nets.specs.Operands.{number_in}
use Rattle.cell_nets.proofs.ExpressionPartLaws.{binary_computes, computes_as, shift_is}
use Rattle.cell_nets.proofs.ChoiceLaws.{fit_of}
use Rattle.cell_nets.proofs.ShiftLaws.{right_is}
use Rattle.cell_nets.proofs.shifting.shift_right.Goals as goal

pub returns : goal.returns
returns g c = λ ins packet h k.
    let w = c.args.width in
    computes_as ins w _ _ _ c.in_ok-e.ensures
    (binary_computes ins 2 2 w 6 w _ _ _ ShiftRight _ _ (omega arith) (omega arith) (shift_is w 6 (omega arith)) (λ v f. ap (word w) (right_is packet w (number_in v c.args.a) (number_in v c.args.b) c.requires.width.most (c.requires.enough v (fit_of ins v c.args.a h f))))
    (c.in_ok-bits.ensures ins h).part (c.in_ok-count.ensures ins k).part)
