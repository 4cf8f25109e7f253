use Rattle.std.proofs.Common.{ap, ◌∙◌}
use Rattle.block_core.specs.View.{block_of}
use Rattle.cell_nets.specs.OperandBlocks.Wiring.{wires_block}
use Rattle.turn_net.proofs.HostNet.ValueLemmas.{made}
use Rattle.turn_net.proofs.host_net.value.value.Goals as goal

pub returns : goal.returns
returns g c = made c.args.part c.args.ready c.args.words.now c.requires (block_of c.in_ok-block.block) (c.in_ok-block.ensures ∙ ap wires_block c.in_ok-wires.ensures)
