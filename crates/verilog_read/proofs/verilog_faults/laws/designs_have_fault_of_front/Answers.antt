use Rattle.verilog_read.proofs.VerilogFaults.DesignLaws.{design_fault}
use Rattle.verilog_read.proofs.verilog_faults.laws.designs_have_fault_of_front.Goals as goal

pub returns : goal.returns
returns c = design_fault
