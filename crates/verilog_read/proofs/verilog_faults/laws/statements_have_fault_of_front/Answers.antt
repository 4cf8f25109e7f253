use Rattle.verilog_read.proofs.VerilogFaults.FrontLaws.{fault_of_front}
use Rattle.verilog_read.proofs.VerilogFaults.StatementLocal.{whole_statement_local}
use Rattle.verilog_read.proofs.verilog_faults.laws.statements_have_fault_of_front.Goals as goal

pub returns : goal.returns
returns c = λ names free. fault_of_front _ (whole_statement_local names free)
