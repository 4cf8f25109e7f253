use Rattle.std.proofs.Common.{◌≡◌, ◌∙◌, length, ap, subst}
use Rattle.block_core.specs.View.{block_of}
use Rattle.hash_net.specs.declared.block.HashNets.{HashNets}
use Rattle.hash_net.specs.Hash.{IsHash}
use Rattle.commit_net.specs.Fetching.{IsFetch, fetched_words}
use Rattle.commit_net.specs.Wholes.{IsHashCommit}
use Rattle.overlay_net.specs.hazard_core.Commits.{word_count}
use Rattle.commit_net.specs.MapBlock.Parts.{MapTrees, with_slot_net}
use Rattle.commit_net.proofs.MapBlock.HashLemmas.{as_given}
use Rattle.commit_net.proofs.map_block.hash.blocks.Goals as goal

pub returns : goal.returns
returns g c =
    let a = c.args in
    let f = a.form.now in
    let d = f.decl in
    let ps = a.parts in
    let found = c.in_ok-found.found in
    let asked = c.in_ok-asked.asked in
    let keys = asked.keys.items in
    let values = asked.values.items in
    let bs : MapTrees _ = record { finds = block_of found.finds; fetches = block_of found.fetches; asks = block_of asked.block; stores = block_of c.in_ok-stores.stores; slot = found.slot } in
    let known : HashNets _ = record { map = with_slot_net a.control found.slot; idle = a.control.idle; inserts = asked.nets.inserts; deletes = asked.nets.deletes } in
    let same : asked.nets ≡ known = as_given asked.nets (with_slot_net a.control found.slot) a.control.idle (c.in_ok-asked.ensures.map ∙ c.map_nets-map.ensures) c.in_ok-asked.ensures.idle in
    let fetch = subst (λ k. IsFetch ps.fetcher ps.own f.bits k d.value 0 (word_count d.value) found.slot bs.fetches) c.value_first-first.ensures.first c.in_ok-found.ensures.fetches in
    let ask_words = subst (λ l. IsHashCommit ps.asker d f.bits a.sites.now l asked.nets keys values bs.asks) (c.deref.ensures.value ∙ c.in_ok-found.ensures.words) (c.in_ok-asked.ensures.asks f.bits) in
    let ask = subst (λ n. IsHashCommit ps.asker d f.bits a.sites.now (fetched_words ps.fetcher (word_count d.value)) n keys values bs.asks) same ask_words in
    let block_keys = subst (λ l. IsHash ps.own f.number d f.bits asked.nets l c.deref-3.result.now bs.stores) c.deref-2.ensures.value c.in_ok-stores.ensures in
    let block_values = subst (λ l. IsHash ps.own f.number d f.bits asked.nets keys l bs.stores) c.deref-3.ensures.value block_keys in
    let block = subst (λ n. IsHash ps.own f.number d f.bits n keys values bs.stores) same block_values in
    c.hashes.ensures f ps a.control a.sites.now bs asked.nets.inserts asked.nets.deletes keys values c.requires.kind c.requires.form_fits c.in_ok-found.ensures.finds fetch ask block

pub hash-requires-clause-key_count : goal.hash-requires-clause-key_count
hash-requires-clause-key_count g c = ap length c.deref-2.ensures.value ∙ (c.in_ok-asked.ensures.asks c.args.form.now.bits).key_count

pub hash-requires-clause-value_count : goal.hash-requires-clause-value_count
hash-requires-clause-value_count g c = ap length c.deref-3.ensures.value ∙ (c.in_ok-asked.ensures.asks c.args.form.now.bits).value_count
