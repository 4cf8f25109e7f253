use Rattle.xdp_machine.proofs.RangeLaws.{starts_in_range}
use Rattle.xdp_machine.proofs.laws.starts_in_range.Goals as goal

pub returns : goal.returns
returns c = starts_in_range
