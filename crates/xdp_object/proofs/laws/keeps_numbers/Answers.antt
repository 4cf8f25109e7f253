use Rattle.xdp_object.proofs.WholePrograms.{keeps_numbers}
use Rattle.xdp_object.proofs.laws.keeps_numbers.Goals as goal

pub returns : goal.returns
returns c = keeps_numbers
