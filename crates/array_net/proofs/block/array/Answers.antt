use Rattle.std.proofs.Common.{◌++◌, map, sym, ap, ◌∙◌, subst}
use Rattle.frame_net.specs.Stores.{widths_memory}
use Rattle.frame_net.proofs.FormLaws.{same_block}
use Rattle.array_net.specs.Array.{IsArray}
use Rattle.array_net.specs.ArrayNets.{array_block}
use Rattle.array_net.specs.WordTrees.{word_memories}
use Rattle.array_net.proofs.ArrayLemmas.{is_array}
use Rattle.array_net.proofs.block.array.Goals as goal

pub returns : goal.returns
returns g c =
    let a = c.args in
    let r = c.requires in
    subst (IsArray a.part a.number a.decl.now a.bits a.nets a.words.now)
    (sym (same_block (array_block a.part a.number a.decl.now a.bits a.nets a.words.now) _ _ _ _ c.new.ensures.items (c.in_ok-add_memories.ensures ∙ ap (λ l. l ++ map widths_memory (word_memories a.bits a.decl.now.value)) c.new-memories.ensures.items)
    c.in_ok-wires.ensures c.in_ok-statement.ensures)) (is_array a.part a.number a.decl.now a.bits a.nets a.words.now r.number r.kind r.limits r.some r.most r.room r.count)
