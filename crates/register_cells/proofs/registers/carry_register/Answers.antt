use Rattle.std.proofs.Common.{inl, inr}
use Rattle.register_cells.proofs.registers.carry_register.Goals as goal

pub carry_load-requires-clause-plain : goal.carry_load-requires-clause-plain
carry_load-requires-clause-plain c = λ q o. c.requires.plain _ q o (inl c.in-Load.is)

pub carry_signed-requires-clause-plain : goal.carry_signed-requires-clause-plain
carry_signed-requires-clause-plain c = λ q o. c.requires.plain _ q o (inr c.in-LoadSigned.is)

pub carry_computed-requires-clause-plain : goal.carry_computed-requires-clause-plain
carry_computed-requires-clause-plain c = λ size. (c.in_default.not-Load size, c.in_default.not-LoadSigned size)
