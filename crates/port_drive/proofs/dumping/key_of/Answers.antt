use Rattle.xdp_maps.specs.Contents.{index_key}
use Rattle.port_drive.proofs.dumping.key_of.Goals as goal

pub returns : goal.returns
unfolding index_key
returns c = c.write_u32.ensures
