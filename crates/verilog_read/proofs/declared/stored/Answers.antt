use Rattle.std.proofs.Common.{sym}
use Rattle.net_core.specs.View.{netlist_of}
use Rattle.verilog_expression.specs.View.{lexemes_left}
use Rattle.verilog_expression.proofs.LoopStepLaws.{fails_on, gives_error}
use Rattle.verilog_read.proofs.Begun.{not_stored, stored_register, stored_memory}
use Rattle.verilog_read.proofs.Results.{gives_along}
use Rattle.verilog_read.proofs.declared.stored.Goals as goal

pub returns-in_err-is_register-clause-read : goal.returns-in_err-is_register-clause-read
returns-in_err-is_register-clause-read c =
    gives_error _ c.from_residual.result _ c.in_err-is_register.field-0.0 _ c.from_residual.ensures (λ e' h. h)
    (fails_on _ _ _ (λ f k. not_stored (netlist_of c.args.partial) c.args.width c.args.name.now (lexemes_left c.args.rest) f k) c.in_err-is_register.ensures)

pub returns-then-is_register-clause-read : goal.returns-then-is_register-clause-read
returns-then-is_register-clause-read c =
    gives_along _ c.register.result _ _ c.register.ensures.read
    (sym (stored_register (netlist_of c.args.partial) c.args.width c.args.name.now (lexemes_left c.args.rest) _ _ c.in_ok-is_register.ensures c.if-is_register.true))

pub returns-else-is_register-clause-read : goal.returns-else-is_register-clause-read
returns-else-is_register-clause-read c =
    gives_along _ c.memory.result _ _ c.memory.ensures.read
    (sym (stored_memory (netlist_of c.args.partial) c.args.width c.args.name.now (lexemes_left c.args.rest) _ _ c.in_ok-is_register.ensures c.if-is_register.false))
