use Rattle.verilog_read.proofs.VerilogFaults.TextLaws.{shares_error}
use Rattle.verilog_read.proofs.verilog_faults.laws.texts_share_first_error.Goals as goal

pub returns : goal.returns
returns c = shares_error
