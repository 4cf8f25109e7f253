use Rattle.xdp_machine.proofs.RangeLaws.{steps_keep_ranges}
use Rattle.xdp_machine.proofs.laws.steps_keep_ranges.Goals as goal

pub returns : goal.returns
returns c = steps_keep_ranges
