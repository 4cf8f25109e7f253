use Rattle.std.proofs.Common.{arith}
use Rattle.ehdl_top.proofs.maps.read_text.Goals as goal

pub read_maps_text-requires-clause-few : goal.read_maps_text-requires-clause-few
read_maps_text-requires-clause-few c = omega (arith, c.requires.few)
