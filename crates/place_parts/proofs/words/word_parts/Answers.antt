use Rattle.std.proofs.Common.{◌≡◌, ℕ, ◌+◌, ◌<◌, List, length, get_or, sym, subst}
use Rattle.block_core.proofs.list_laws_laws.PlaceLaws.{each_more, one_more}
use Rattle.block_core.specs.declared.name.Name.{Name}
use Rattle.commit_net.specs.declared.change_net.pointed.PointedWords.{PointedWords}
use Rattle.pipe_net.specs.declared.parts.Part.{Part}
use Rattle.place_parts.specs.Words.{IsWordPart}
use Rattle.place_parts.proofs.words.word_parts.Goals as goal

pub loop-i-preserved : goal.loop-i-preserved
loop-i-preserved c =
    let inv = c.loop-i.invariant in
    let n : ℕ = c.loop-i.i in
    let x = c.in_ok-word_part.field-0 in
    let P : ℕ → PointedWords (Name Part) → Type 0 = IsWordPart c.args.pipeline_plan.now c.args.places.now in
    subst (λ xs. record { count : length xs ≡ n + 1; each : (i : ℕ) (x : PointedWords (Name Part)) → i < n + 1 → P i (get_or xs i x) }) (sym {A = List (PointedWords (Name Part))} c.in_ok-push.ensures.items)
    (record {
      count = one_more c.loop-i.words.items n x inv.count;
      each = each_more P c.loop-i.words.items n x inv.count inv.each c.in_ok-word_part.ensures;
    })
