use Rattle.std.proofs.Common.{◌≡◌}
use Rattle.net_core.specs.View.{trees_of}
use Rattle.frame_net.specs.ScatterNet.ScatterNets.{bytes_down}
use Rattle.frame_net.proofs.scatter_net.scattering.merged.Given as goal

abbrev pub invariant-loop-k : goal.invariant-loop-k
invariant-loop-k g l = trees_of l.parts ≡ bytes_down l.bytes l.word l.changed l.raw l.k
