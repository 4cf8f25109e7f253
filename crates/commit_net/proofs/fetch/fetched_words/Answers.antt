use Rattle.std.proofs.Common.{◌∙◌, ◌∷◌, [], ◌++◌, sym, ap, arith}
use Rattle.std.proofs.lemmas.List.FromFn.{map-range_with_len_more}
use Rattle.block_core.specs.declared.name.Name.TheVariants as name
use Rattle.commit_net.proofs.fetch.fetched_words.Goals as goal

pub loop-i-preserved : goal.loop-i-preserved
loop-i-preserved g c =
    let part = c.args.part in
    let i = c.loop-i.i in
    c.in_ok-push.ensures.items ∙ ap (λ l. l ++ name.Wire part i ∷ []) c.loop-i.invariant ∙ sym (map-range_with_len_more (λ k. name.Wire part k) 0 i i (omega arith))
