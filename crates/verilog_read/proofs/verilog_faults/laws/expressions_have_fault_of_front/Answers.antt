use Rattle.verilog_read.proofs.VerilogFaults.FrontLaws.{fault_of_front}
use Rattle.verilog_read.proofs.VerilogFaults.ExpressionLocal.{whole_expr_local}
use Rattle.verilog_read.proofs.verilog_faults.laws.expressions_have_fault_of_front.Goals as goal

pub returns : goal.returns
returns c = λ names. fault_of_front _ (whole_expr_local names)
