use Rattle.xdp_object.proofs.UnitLaws.{two_units_alone}
use Rattle.xdp_object.proofs.laws.two_units_alone.Goals as goal

pub returns : goal.returns
returns c = two_units_alone
