use Rattle.std.proofs.Common.{◌≡◌, map, take}
use Rattle.net_core.specs.Nets.{TRead}
use Rattle.net_core.specs.View.{tree_of}
use Rattle.turn_net.proofs.host_net.value.reads.Given as goal

abbrev pub invariant-loop-name : goal.invariant-loop-name
invariant-loop-name g l = map tree_of l.all.items ≡ map TRead (take l.name-index l.names)
