use Rattle.net_core.specs.View.{tree_of}
use Rattle.cell_nets.proofs.WireLemmas.{wire_gives}
use Rattle.cell_nets.proofs.wires.add_wire.Goals as goal

pub returns-clause-gives : goal.returns-clause-gives
returns-clause-gives g c = λ product args f small comp. wire_gives c.args.part _ _ args f c.args.width (tree_of c.args.e) _ c.in_ok-name.ensures.wires c.in_ok-name.ensures.name c.requires small comp
