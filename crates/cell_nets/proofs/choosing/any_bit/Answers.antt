use Rattle.cell_nets.proofs.ChoiceLaws.{bit_truth, word_truth}
use Rattle.cell_nets.proofs.ExpressionPartLaws.{part_of}
use Rattle.std.proofs.Common.{arith}
use Rattle.cell_nets.proofs.choosing.any_bit.Goals as goal

pub returns-then-width-eq1 : goal.returns-then-width-eq1
returns-then-width-eq1 g c = λ ins f small p. bit_truth ins c.args.width f _ c.if-width-eq1.true small p

pub returns : goal.returns
returns g c = λ ins f small p. part_of ins 2 2 1 _ _ _ (omega arith) c.in_ok-any.ensures (word_truth ins c.args.width f _ c.requires.some p)
