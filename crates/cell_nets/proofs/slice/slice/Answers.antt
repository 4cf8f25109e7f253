use Rattle.cell_nets.proofs.SliceLaws.{net_at, part_at}
use Rattle.cell_nets.proofs.slice.slice.Goals as goal

pub returns-in_ok-e-in-Net : goal.returns-in_ok-e-in-Net
returns-in_ok-e-in-Net g c = λ ins h. net_at ins c.args.a c.in-Net.net c.in-Net.of c.args.from c.args.width _ c.in-Net.is h (c.in_ok-e-in-Net.ensures ins)

pub returns-in_ok-e-in-Part : goal.returns-in_ok-e-in-Part
returns-in_ok-e-in-Part g c = λ ins h. part_at ins c.args.a c.in-Part.net c.in-Part.of c.in-Part.at c.in-Part.bits c.args.from c.args.width _ c.in-Part.is h (c.in_ok-e-in-Part.ensures ins)
