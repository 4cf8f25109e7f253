use Rattle.std.proofs.Common.{map, ap}
use Rattle.net_core.specs.Nets.{RPlain}
use Rattle.block_core.specs.View.{block_wire_of}
use Rattle.block_core.proofs.list_laws_laws.OneMoreLaws.{pushed}
use Rattle.turn_net.proofs.host_net.value.wires.Goals as goal

pub returns : goal.returns
returns g c = pushed (ap (map block_wire_of) c.new-all.ensures.items) c.in_ok-add_wire.ensures (λ i. record { width = 64; right = RPlain (c.in_ok-shown.ensures i) })
