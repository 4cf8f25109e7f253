use Rattle.operator_cells.specs.HeldCells.RegisterCells.{pointed}
use Rattle.register_cells.proofs.plain.carry_plain.Goals as goal

pub returns-in-Call-clause-rows : goal.returns-in-Call-clause-rows
returns-in-Call-clause-rows c = λ decls node is_ref allowed. c.carry_call.ensures.rows decls (pointed c.args.pointers.now) node is_ref allowed

pub returns-in_default-clause-carries : goal.returns-in_default-clause-carries
returns-in_default-clause-carries c = λ decls node is_ref allowed inside. c.carry_register.ensures.carries decls (pointed c.args.pointers.now) node is_ref allowed inside

pub returns-in_default-clause-rows : goal.returns-in_default-clause-rows
returns-in_default-clause-rows c = λ decls node is_ref allowed. c.carry_register.ensures.rows decls (pointed c.args.pointers.now) node is_ref allowed
