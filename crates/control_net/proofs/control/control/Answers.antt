use Rattle.block_core.specs.View.{block_of}
use Rattle.control_net.proofs.Made.{made}
use Rattle.control_net.proofs.control.control.Goals as goal

pub returns : goal.returns
returns g c = made c.args.shape.now c.args.part c.args.of c.args.nets.now (block_of c.in_ok-block.block) c.in_ok-block.ensures
