use Rattle.std.proofs.Common.{refl, map as map_list}
use Rattle.hazard_core.specs.cell_core.Cells.{bits_from, phi}
use Rattle.cell_nets.specs.Operands.{number_in}
use Rattle.cell_nets.specs.Wires.{wires_of, always}
use Rattle.cell_nets.proofs.StepNets.ChainLaws.{starts, last}
use Rattle.cell_nets.proofs.StepNets.StepLaws.{no_packet}
use Rattle.overlay_net.proofs.answering.first_number.Goals as goal

pub cell_wires-requires : goal.cell_wires-requires
cell_wires-requires g c = record { computed = refl; in_range = tt; operands = c.requires.pairs; width = c.requires.width; from = c.requires.from }

pub returns : goal.returns
returns g c =
    last (starts c.args.part (wires_of c.args.wires.now.items) c.args.pairs.now always) (c.in_ok-out.ensures no_packet) (λ ins h. h) (λ v f k e. cc) (λ v. bits_from (phi (map_list (number_in v) c.args.pairs.now)) c.args.from c.args.width) (λ v f k. refl)
