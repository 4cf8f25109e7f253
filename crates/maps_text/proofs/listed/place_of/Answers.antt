use Rattle.std.proofs.Common.{ap, ◌+◌, ◌*◌}
use Rattle.xdp_maps.specs.Contents.{index_of}
use Rattle.maps_text.proofs.listed.place_of.Goals as goal

pub returns : goal.returns
unfolding index_of
returns c = ap (λ i. c.args.map * 65536 + i) c.read_u32.ensures
