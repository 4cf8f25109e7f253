use Rattle.std.proofs.Common.{map, ap, ◌∙◌}
use Rattle.net_core.specs.View.{tree_of}
use Rattle.block_core.specs.View.{block_of}
use Rattle.cell_nets.specs.OperandBlocks.Wiring.{wires_block}
use Rattle.turn_net.proofs.HostNet.HostLemmas.{made}
use Rattle.turn_net.proofs.host_net.host.host.Goals as goal

pub returns : goal.returns
returns g c = made c.args.part c.args.nets.now (map tree_of c.args.may.items) (block_of c.in_ok-block.block) (c.in_ok-block.ensures ∙ ap wires_block c.in_ok-wires.ensures)
