use Rattle.std.proofs.Common.{[], ◌∷◌, ◌++◌, ◌+◌, sym, ap, ◌∙◌, subst}
use Rattle.net_core.specs.Value.{word}
use Rattle.frame_net.proofs.FormLaws.{same_block}
use Rattle.hash_net.specs.Hash.{IsHash}
use Rattle.hash_net.specs.HashNets.{hash_block}
use Rattle.hash_net.proofs.HashWhole.{is_hash}
use Rattle.hash_net.proofs.block.hash.Goals as goal

pub returns : goal.returns
returns g c =
    let a = c.args in
    let r = c.requires in
    subst (IsHash a.part a.number a.decl.now a.bits a.nets a.keys.now a.values.now)
    (sym (same_block (hash_block a.part a.number a.decl.now a.bits a.nets a.keys.now a.values.now) _ _ _ _ (c.in_ok-push.ensures.items ∙ ap (λ l. l ++ word (a.bits + 1) 0 ∷ []) c.new-registers.ensures.items)
    c.in_ok-memories.ensures c.in_ok-wires.ensures c.in_ok-statement.ensures)) (is_hash a.part a.number a.decl.now a.bits a.nets a.keys.now a.values.now r.number r.kind r.limits r.some r.most r.room r.key_count r.value_count)
