use Rattle.std.proofs.Common.{◌∙◌, subst}
use Rattle.block_core.specs.View.{block_of}
use Rattle.hash_net.specs.array_net.Array.{IsArray}
use Rattle.commit_net.specs.Wholes.{IsArrayCommit}
use Rattle.commit_net.specs.MapBlock.Parts.{MapTrees, with_slot_net}
use Rattle.commit_net.proofs.map_block.array.blocks.Goals as goal

pub returns : goal.returns
returns g c =
    let a = c.args in
    let f = a.form.now in
    let ps = a.parts in
    let found = c.in_ok-found.found in
    let values = c.in_ok-asked.asked.values.items in
    let bs : MapTrees _ = record { finds = block_of found.finds; fetches = block_of found.fetches; asks = block_of c.in_ok-asked.asked.block; stores = block_of c.in_ok-stores.stores; slot = found.slot } in
    let ask = subst (λ l. IsArrayCommit ps.asker f.decl a.sites.now l values bs.asks) (c.deref.ensures.value ∙ c.in_ok-found.ensures.words) c.in_ok-asked.ensures in
    let block_nets = subst (λ m. IsArray ps.own f.number f.decl f.bits m c.deref-2.result.now bs.stores) c.map_nets-nets.ensures c.in_ok-stores.ensures in
    let block = subst (λ l. IsArray ps.own f.number f.decl f.bits (with_slot_net a.control found.slot) l bs.stores) c.deref-2.ensures.value block_nets in
    c.arrays.ensures f ps a.control a.sites.now bs values c.requires.kind c.requires.form_fits c.in_ok-found.ensures.finds c.in_ok-found.ensures.fetches ask block
