use Rattle.std.proofs.Common.{◌++◌, ◌∙◌, map, ap, append_assoc}
use Rattle.block_core.specs.declared.name.Name.TheVariants as name
use Rattle.net_core.specs.View.{statement_of}
use Rattle.frame_net.specs.Stores.{store_statements}
use Rattle.array_net.specs.WordTrees.{word_stores}
use Rattle.array_net.proofs.WordStoreLaws.{count_stores}
use Rattle.overlay_net.specs.hazard_core.Commits.{word_count}
use Rattle.hash_net.proofs.StoreLists.{laid}
use Rattle.hash_net.proofs.block.add_words.Goals as goal

pub returns : goal.returns
returns g c =
    let a = c.args in
    let d = a.decl.now in
    let ks = word_stores a.commits (name.Wire a.part 3) (name.Wire a.part 1) 1 d.key 0 a.keys.now in
    let first = c.value_first-first.result in
    let vs = word_stores a.commits (name.Wire a.part 4) (name.Wire a.part 1) first d.value 0 a.values.now in
    c.in_ok-add_stores-2.ensures
    ∙ ap (λ l. l ++ store_statements first vs) c.in_ok-add_stores.ensures
    ∙ append_assoc (map statement_of a.all.now.items) (store_statements 1 ks) (store_statements first vs)
    ∙ ap (λ l. map statement_of a.all.now.items ++ l)
    (laid first (word_count d.key) ks vs (count_stores a.commits (name.Wire a.part 3) (name.Wire a.part 1) 1 d.key 0 a.keys.now ∙ c.requires.key_count) c.value_first-first.ensures.first
    ∙ ap (λ k. store_statements 1 (ks ++ word_stores a.commits (name.Wire a.part 4) (name.Wire a.part 1) k d.value 0 a.values.now)) c.value_first-first.ensures.first)
