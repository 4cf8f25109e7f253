use Rattle.std.proofs.Common.{◌≡◌, ◌*◌, ◌/◌, ◌<◌, length}
use Rattle.cell_nets.specs.Wires.{wires_of, always, Gives}
use Rattle.cell_nets.proofs.PhiLemmas.{chosen}
use Rattle.cell_nets.proofs.phi.phi_wires.Given as goal

abbrev pub invariant-loop-at : goal.invariant-loop-at
invariant-loop-at g l = record {
  within : l.at < length l.args;
  even : l.at ≡ l.at / 2 * 2;
  gives : Gives l.part (wires_of l.fn.wires.items) (wires_of l.wires.items) l.args always (chosen l.args l.width l.at) l.width l.chosen;
}

abbrev pub decreases-loop-at : goal.decreases-loop-at
decreases-loop-at g l = l.at
