use Rattle.std.proofs.Common.{◌∙◌, ◌^◌, ◌<◌, ap}
use Rattle.overlay_net.specs.cell_core.Cells.{bits_from}
use Rattle.overlay_net.specs.cell_nets.Wires.{wires_of}
use Rattle.overlay_net.specs.hazard_core.Commits.{written_slot}
use Rattle.commit_net.specs.Choosing.{all_read, Commits}
use Rattle.commit_net.specs.declared.choosing.Asked.TheVariants.{Slot}
use Rattle.overlay_net.proofs.cell_nets_laws.StepNets.ChainLaws.{starts, last}
use Rattle.overlay_net.proofs.cell_core_laws.BitLaws.{small_bits}
use Rattle.commit_net.proofs.ChooseLemmas.{asked_picked}
use Rattle.commit_net.proofs.choosing.slot_net.Goals as goal

pub returns : goal.returns
returns g c = λ p t taken h j.
    let ns = c.args.sites.now in
    let w = c.args.bits in
    let n = written_slot p t taken h j in
    last (starts c.args.part (wires_of c.args.wires.now.items) (all_read ns) (λ v. Commits v p t taken h j ns × (n < 2 ^ w))) c.in_ok-n.ensures (λ ins a. a) (λ v f s. tt) (λ v. n) (λ v f s. ap (λ x. bits_from x 0 w) (asked_picked v p j ns Slot s.0.chosen ∙ s.0.shows.target) ∙ small_bits n w s.1)
