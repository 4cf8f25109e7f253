use Rattle.std.proofs.Common.{◌∙◌, sym, ap}
use Rattle.overlay_net.specs.cell_core.Cells.{bit, bits_from}
use Rattle.overlay_net.specs.cell_core.Sites.{site_at}
use Rattle.overlay_net.specs.cell_nets.Wires.{wires_of}
use Rattle.overlay_net.specs.hazard_core.StageValues.{is_delete}
use Rattle.commit_net.specs.Choosing.{all_read, IsChosen}
use Rattle.commit_net.specs.declared.choosing.Asked.TheVariants.{Delete}
use Rattle.overlay_net.proofs.cell_nets_laws.StepNets.ChainLaws.{starts, last}
use Rattle.commit_net.proofs.ChooseLemmas.{asked_picked, known_bit}
use Rattle.commit_net.proofs.choosing.delete_net.Goals as goal

pub returns : goal.returns
returns g c = λ p j.
    let ns = c.args.sites.now in
    last (starts c.args.part (wires_of c.args.wires.now.items) (all_read ns) (λ v. IsChosen v p j ns)) c.in_ok-n.ensures (λ ins a. a) (λ v f s. tt) (λ v. bit (is_delete (site_at p.sites j).act))
    (λ v f s. ap (λ x. bits_from x 0 1) (asked_picked v p j ns Delete s) ∙ known_bit v (is_delete s.nets.act) ∙ ap (λ a. bit (is_delete a)) (sym s.act))
