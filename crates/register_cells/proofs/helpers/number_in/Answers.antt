use Rattle.operator_cells.proofs.RisingLaws.{rises_by}
use Rattle.register_cells.proofs.ValueLaws.{zero_most}
use Rattle.register_cells.proofs.helpers.number_in.Goals as goal

pub returns-in_ok-c-in-Num-clause-rises : goal.returns-in_ok-c-in-Num-clause-rises
returns-in_ok-c-in-Num-clause-rises c = λ ps. rw c.in-Num.is c.in_ok-c-in-Num.ensures.rises

pub returns-in_ok-c-in_default-clause-made : goal.returns-in_ok-c-in_default-clause-made
returns-in_ok-c-in_default-clause-made c = let made = c.in_ok-c-in_default.ensures.makes in (made.grows, made.there)

pub returns-in_ok-c-in_default-clause-number : goal.returns-in_ok-c-in_default-clause-number
returns-in_ok-c-in_default-clause-number c = λ n e. absurd (c.in_default.not-Num n e)

pub returns-in_ok-c-in_default-clause-rises : goal.returns-in_ok-c-in_default-clause-rises
returns-in_ok-c-in_default-clause-rises c = λ ps. rises_by c.in_ok-c-in_default.ensures.rises (λ row. zero_most)
