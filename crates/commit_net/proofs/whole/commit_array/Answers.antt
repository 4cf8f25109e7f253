use Rattle.std.proofs.Common.{sym, ap, subst}
use Rattle.overlay_net.specs.cell_nets.Wires.{wires_of}
use Rattle.commit_net.specs.Wholes.{IsArrayCommit}
use Rattle.commit_net.proofs.GatherLemmas.{stands_from}
use Rattle.commit_net.proofs.WholeLemmas.{array_commit}
use Rattle.commit_net.proofs.whole.commit_array.Goals as goal

pub returns : goal.returns
returns g c =
    let a = c.args in
    let d = a.decl.now in
    let ns = a.sites.now in
    let words = a.words.now in
    let values = c.in_ok-values.values.items in
    subst (IsArrayCommit a.part d ns words values) (sym c.in_ok-block.ensures)
    (array_commit a.part d ns words values c.requires.fitting (wires_of c.value_nets.new.wires.items) c.in_ok-values.ensures.count (λ p t taken h j value. stands_from (ap wires_of c.new-wires.ensures.items) (c.in_ok-values.ensures.stands p t taken h j value)))
