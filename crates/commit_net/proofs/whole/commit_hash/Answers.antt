use Rattle.std.proofs.Common.{sym, ap, subst}
use Rattle.hash_net.specs.declared.block.HashNets.{HashNets}
use Rattle.overlay_net.specs.cell_nets.Wires.{wires_of}
use Rattle.commit_net.specs.Wholes.{IsHashCommit}
use Rattle.commit_net.proofs.GatherLemmas.{gives_from}
use Rattle.commit_net.proofs.WholeLemmas.{hash_stands, hash_commit}
use Rattle.commit_net.proofs.whole.commit_hash.Goals as goal

pub returns-clause-asks : goal.returns-clause-asks
returns-clause-asks g c = λ bits.
    let a = c.args in
    let d = a.decl.now in
    let ns = a.sites.now in
    let words = a.words.now in
    let keys = c.in_ok-keys.keys.items in
    let values = c.in_ok-values.values.items in
    let inserts = c.in_ok-inserts.inserts in
    let deletes = c.in_ok-deletes.deletes in
    let nets : HashNets _ = record { map = a.map; idle = a.idle; inserts = inserts; deletes = deletes } in
    subst (IsHashCommit a.part d bits ns words nets keys values) (sym c.in_ok-block.ensures)
    (hash_commit a.part d bits ns words nets keys values c.requires.fitting (wires_of c.value_nets.new.wires.items) c.in_ok-keys.ensures.count c.in_ok-values.ensures.count
    (λ p t taken h j value.
    hash_stands a.part d ns words inserts deletes keys values p t taken h j value (gives_from (ap wires_of c.new-wires.ensures.items) (c.in_ok-inserts.ensures p t taken h j)) (c.in_ok-deletes.ensures p j) (c.in_ok-keys.ensures.stands p t taken h j) (c.in_ok-values.ensures.stands p t taken h j value)))
