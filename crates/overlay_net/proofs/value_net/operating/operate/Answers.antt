use Rattle.overlay_net.proofs.ValueNet.Holding.{plain_gives}
use Rattle.overlay_net.proofs.value_net.operating.operate.Goals as goal

pub returns : goal.returns
returns g c = λ packet. plain_gives c.args.part _ _ c.args.args.now c.args.op _ c.args.width c.in_ok-out.out c.requires.plain (c.in_ok-out.ensures packet)
