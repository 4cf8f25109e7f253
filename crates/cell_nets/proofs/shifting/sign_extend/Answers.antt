use Rattle.std.proofs.Common.{◌-◌, arith}
use Rattle.cell_nets.specs.Operands.{number_in}
use Rattle.cell_nets.proofs.ExpressionPartLaws.{part_same, part_computes}
use Rattle.cell_nets.proofs.ShiftLaws.{cut_sign, one_shifted, signs_computes}
use Rattle.cell_nets.proofs.shifting.sign_extend.Goals as goal

pub returns-then-width-from : goal.returns-then-width-from
returns-then-width-from g c = λ ins packet h.
    part_computes ins 2 c.args.width _ _ (omega arith)
    (part_same ins 2 c.args.width _ _ _ (λ v f. cut_sign packet c.args.from c.args.width (number_in v c.args.a) c.requires.sign.some c.requires.sign.most c.if-width-from.true) (c.in_ok-bits.ensures ins h).part)

pub returns : goal.returns
returns g c = λ ins packet h.
    signs_computes ins packet c.args.a c.args.from c.args.width _ _ _ _ _ _ _ c.requires.sign.some (omega arith) c.requires.width.most c.constant-ones.ensures (one_shifted (c.args.width - c.args.from) (omega arith)) c.constant-zeros.ensures
    c.in_ok-high.ensures c.in_ok-whole.ensures (c.in_ok-sign.ensures ins h) (c.in_ok-low.ensures ins h)
