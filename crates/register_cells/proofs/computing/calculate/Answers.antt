use Rattle.std.proofs.Common.{arith}
use Rattle.register_cells.proofs.ValueLaws.{if_rises, late_most}
use Rattle.register_cells.proofs.computing.calculate.Goals as goal

pub returns-in-Mov-clause-rises : goal.returns-in-Mov-clause-rises
returns-in-Mov-clause-rises c = rw c.in-Mov.is (if_rises _ _ c.cut.result c.cut.ensures.rises (λ row. omega arith))

pub returns-in-Div-clause-rises : goal.returns-in-Div-clause-rises
returns-in-Div-clause-rises c = rw c.in-Div.is c.divide_as.ensures.rises

pub returns-in-Mod-clause-rises : goal.returns-in-Mod-clause-rises
returns-in-Mod-clause-rises c = rw c.in-Mod.is c.divide_as-in-Mod.ensures.rises

pub returns-in-Lsh-clause-makes : goal.returns-in-Lsh-clause-makes
returns-in-Lsh-clause-makes c = rw c.in-Lsh.is (c.shift_left.ensures.makes c.args.signed)

pub returns-in-Lsh-clause-rises : goal.returns-in-Lsh-clause-rises
returns-in-Lsh-clause-rises c = rw c.in-Lsh.is c.shift_left.ensures.rises

pub returns-in-Rsh-clause-makes : goal.returns-in-Rsh-clause-makes
returns-in-Rsh-clause-makes c = rw c.in-Rsh.is (c.shift_right.ensures.makes c.args.signed)

pub returns-in-Rsh-clause-rises : goal.returns-in-Rsh-clause-rises
returns-in-Rsh-clause-rises c = rw c.in-Rsh.is c.shift_right.ensures.rises

pub returns-in-Arsh-clause-makes : goal.returns-in-Arsh-clause-makes
returns-in-Arsh-clause-makes c = rw c.in-Arsh.is (c.shift_signed.ensures.makes c.args.signed)

pub returns-in-Arsh-clause-rises : goal.returns-in-Arsh-clause-rises
returns-in-Arsh-clause-rises c = rw c.in-Arsh.is c.shift_signed.ensures.rises

pub returns-in_default-clause-makes : goal.returns-in_default-clause-makes
returns-in_default-clause-makes c = c.combine.ensures.makes c.args.signed

pub returns-in_default-clause-rises : goal.returns-in_default-clause-rises
returns-in_default-clause-rises c = if_rises _ _ c.combine.result c.combine.ensures.rises (λ row. omega (arith, late_most c.args.code))
