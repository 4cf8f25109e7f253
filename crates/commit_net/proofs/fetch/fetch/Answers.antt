use Rattle.std.proofs.Common.{sym, subst}
use Rattle.frame_net.proofs.FormLaws.{same_block}
use Rattle.commit_net.specs.Fetching.{IsFetch, fetch_block}
use Rattle.commit_net.proofs.FetchLemmas.{is_fetch}
use Rattle.commit_net.proofs.fetch.fetch.Goals as goal

pub returns : goal.returns
returns g c =
    let a = c.args in
    let r = c.requires in
    subst (IsFetch a.part a.of a.bits a.first a.bytes a.from a.count a.slot) (sym (same_block (fetch_block a.of a.first a.bytes a.from a.count a.slot) _ _ _ _ c.new.ensures.items c.new-2.ensures.items c.in_ok-wires.ensures c.in_ok-statement.ensures))
    (is_fetch a.part a.of a.bits a.first a.bytes a.from a.count a.slot r.some r.most_bits r.there)
