use Rattle.std.proofs.Common.{◌≡◌, ◌-◌}
use Rattle.net_core.specs.View.{tree_of}
use Rattle.frame_net.specs.ScatterNet.ScatterNets.{beat_from}
use Rattle.frame_net.proofs.scatter_net.scattering.beat.Given as goal

abbrev pub invariant-loop-k : goal.invariant-loop-k
invariant-loop-k g l = tree_of l.tree ≡ beat_from l.part l.gather l.bits l.kept (l.last - l.k) l.k
