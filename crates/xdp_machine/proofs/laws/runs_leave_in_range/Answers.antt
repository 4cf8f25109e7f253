use Rattle.xdp_machine.proofs.RangeLaws.{runs_leave_in_range}
use Rattle.xdp_machine.proofs.laws.runs_leave_in_range.Goals as goal

pub returns : goal.returns
returns c = runs_leave_in_range
