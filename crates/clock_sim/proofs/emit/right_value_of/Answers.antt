use Rattle.std.proofs.Common.{refl}
use Rattle.clock_sim.proofs.ValueLemmas.{plain_values, quotient_values, remainder_values}
use Rattle.clock_sim.proofs.emit.right_value_of.Goals as goal

pub returns-in_ok-operand-in-Plain-clause-values : goal.returns-in_ok-operand-in-Plain-clause-values
returns-in_ok-operand-in-Plain-clause-values c = rw c.in-Plain.is (plain_values _ _ _ _ _ c.in_ok-operand-in-Plain.ensures.values)

pub returns-in_ok-slot-in-Quotient-clause-values : goal.returns-in_ok-slot-in-Quotient-clause-values
returns-in_ok-slot-in-Quotient-clause-values c =
    let typed = rw c.in-Quotient.is at c.requires.typed in
    rw c.in-Quotient.is (quotient_values c.args.builder.now _ c.args.operands.now c.in-Quotient.a c.in-Quotient.b _ _ _ c.operand_of-left.ensures c.operand_of-right.ensures typed refl _ c.in_ok-slot-in-Quotient.ensures.works)

pub returns-in_ok-slot-in-Remainder-clause-values : goal.returns-in_ok-slot-in-Remainder-clause-values
returns-in_ok-slot-in-Remainder-clause-values c =
    let typed = rw c.in-Remainder.is at c.requires.typed in
    rw c.in-Remainder.is (remainder_values c.args.builder.now _ c.args.operands.now c.in-Remainder.a c.in-Remainder.b _ _ _ c.operand_of-left-in-Remainder.ensures c.operand_of-right-in-Remainder.ensures typed refl _ c.in_ok-slot-in-Remainder.ensures.works)
