use Rattle.std.proofs.Common.{◌≡◌, ◌∙◌, ℕ, suc, ◌+◌, ◌-◌, ◌<◌, List, [], ◌∷◌, ◌++◌, map, sym, ap, arith, append_assoc}
use Rattle.block_core.specs.declared.block.BlockMemory.{BlockMemory}
use Rattle.frame_net.specs.Stores.{widths_memory}
use Rattle.array_net.specs.Words.{word_width}
use Rattle.array_net.specs.WordTrees.{memories_from}
use Rattle.array_net.proofs.words.add_memories.Goals as goal

one_more :
    (bits bytes j count : ℕ) (front new whole : List BlockMemory) (y : BlockMemory) → new ≡ front ++ y ∷ [] → y ≡ widths_memory (bits, word_width bytes j) → j < count
    → front ++ map widths_memory (memories_from bits bytes j (count - j)) ≡ whole → new ++ map widths_memory (memories_from bits bytes (j + 1) (count - (j + 1))) ≡ whole
one_more bits bytes j count front new whole y e d l h =
    let m : count - j ≡ suc (count - (j + 1)) = omega arith in
    let s : j + 1 ≡ suc j = omega arith in
    ap (λ zs. zs ++ map widths_memory (memories_from bits bytes (j + 1) (count - (j + 1)))) e
    ∙ append_assoc front (y ∷ []) (map widths_memory (memories_from bits bytes (j + 1) (count - (j + 1))))
    ∙ (λ i. front ++ d i ∷ map widths_memory (memories_from bits bytes (s i) (count - (j + 1))))
    ∙ ap (λ k. front ++ map widths_memory (memories_from bits bytes j k)) (sym m)
    ∙ h

pub loop-j-preserved : goal.loop-j-preserved
loop-j-preserved c =
    one_more c.args.bits c.args.bytes c.loop-j.j c.word_count-count.result c.loop-j.all.items _ _ c.word_memory.result c.in_ok-push.ensures.items (c.word_memory.ensures ∙ ap (λ w. widths_memory (c.args.bits, w)) c.word_width.ensures.width) c.loop-j-test.true c.loop-j.invariant
