use Rattle.std.proofs.Common.{◌+◌, length-drop, sym, subst, arith}
use Rattle.std.proofs.lemmas.Grind.{get_or_after_one}
use Rattle.cell_nets.specs.Operands.{IsNarrow}
use Rattle.cell_nets.proofs.operators.are_narrow.Goals as goal

pub returns : goal.returns
returns g c = λ h k d lt. subst (IsNarrow c.args.bits) (sym (get_or_after_one c.args.args.now k d)) (c.loop-at.invariant (1 + k) d (omega arith) (omega (arith, lt, length-drop 1 c.args.args.now, c.loop-at-test.false)))
