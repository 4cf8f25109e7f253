use Rattle.std.proofs.Common.{◌∙◌, ap}
use Rattle.overlay_net.specs.cell_core.Cells.{bit, bits_from}
use Rattle.overlay_net.specs.cell_nets.Wires.{wires_of}
use Rattle.overlay_net.specs.hazard_core.Commits.{makes_entry}
use Rattle.commit_net.specs.Choosing.{all_read, Commits}
use Rattle.commit_net.specs.declared.choosing.Asked.TheVariants.{Insert}
use Rattle.overlay_net.proofs.cell_nets_laws.StepNets.ChainLaws.{starts, last}
use Rattle.overlay_net.proofs.cell_core_laws.BitLaws.{bit_bits}
use Rattle.commit_net.proofs.ChooseLemmas.{asked_picked}
use Rattle.commit_net.proofs.choosing.insert_net.Goals as goal

pub returns : goal.returns
returns g c = λ p t taken h j.
    let ns = c.args.sites.now in
    last (starts c.args.part (wires_of c.args.wires.now.items) (all_read ns) (λ v. Commits v p t taken h j ns)) c.in_ok-n.ensures (λ ins a. a) (λ v f s. tt) (λ v. bit (makes_entry p t h j))
    (λ v f s. ap (λ x. bits_from x 0 1) (asked_picked v p j ns Insert s.chosen ∙ s.shows.makes) ∙ bit_bits (makes_entry p t h j))
