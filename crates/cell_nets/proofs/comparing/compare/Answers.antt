use Rattle.std.proofs.Common.{arith}
use Rattle.net_core.specs.Value.{apply, word}
use Rattle.cell_nets.specs.Operands.{number_in}
use Rattle.cell_nets.proofs.ExpressionPartLaws.{part_same, part_of, part_computes, binary_part}
use Rattle.cell_nets.proofs.ChoiceLaws.{fit_of}
use Rattle.cell_nets.proofs.TestLemmas.{test_width_is, test_bit, test_plain, test_is_number}
use Rattle.cell_nets.proofs.comparing.compare.Goals as goal

pub returns : goal.returns
returns g c = λ ins packet o e h k.
    let w = c.args.width in
    let m = c.sides-common.result in
    let wide = c.sides-common.ensures.wide in
    let left = c.in_ok-left.ensures ins h in
    let right = c.in_ok-right.ensures ins k in
    let bit = binary_part ins 2 2 m m 1 _ _ (λ x y. (apply c.args.op (word m x) (word m y)).value) c.args.op _ _ (test_width_is o c.args.op m wide.some e) (λ x y. test_bit o c.args.op m x y e) (test_plain o c.args.op e) left.part right.part in
    part_computes ins 5 w _ _ (omega arith)
    (part_same ins 5 w _ _ _
    (λ v f. test_is_number packet o c.args.op m w (number_in v c.args.a) (number_in v c.args.b) e wide.most c.requires.width.some (c.sides-common.ensures.left v (fit_of ins v c.args.a h f)) (c.sides-common.ensures.right v (fit_of ins v c.args.b k f)))
    (c.in_ok-e.ensures ins 3 _ (part_of ins 3 3 1 _ _ _ (omega arith) c.in_ok-bit.ensures bit)))
