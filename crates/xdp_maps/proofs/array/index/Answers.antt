use Rattle.std.proofs.Common.{rules}
use Rattle.xdp_maps.specs.Contents.{index_of}
use Rattle.xdp_maps.proofs.array.index.Goals as goal

pub returns : goal.returns
unfolding index_of
returns c = search rules
