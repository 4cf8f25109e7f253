-- Quotients and remainders.
use Rattle.std.specs.Prelude.{Bool, true, false}
use Rattle.net_core.specs.Nets.{RightTree, RQuotient, RRemainder}
use Rattle.cell_core.specs.declared.operator.Operator.{Operator}
use Rattle.cell_core.specs.declared.operator.Operator.TheVariants.{Quotient, Remainder}

-- the quotient of two nets, or their remainder
abbrev pub divided : {N : Type 0} → Bool → N → N → RightTree N
divided true n d = RRemainder n d
divided false n d = RQuotient n d

abbrev pub division : Bool → Operator
division true = Remainder
division false = Quotient
