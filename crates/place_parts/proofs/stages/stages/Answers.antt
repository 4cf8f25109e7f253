use Rattle.std.proofs.Common.{◌≡◌, ℕ, suc, ◌+◌, ◌<◌, List, length, get_or, sym, subst}
use Rattle.block_core.specs.declared.block.Block.{Block}
use Rattle.block_core.specs.declared.name.Name.{Name}
use Rattle.block_core.specs.View.{block_of}
use Rattle.pipe_net.specs.declared.parts.Part.{Part}
use Rattle.place_parts.specs.Places.{IsLaterStage}
use Rattle.place_parts.proofs.Pushing.{block_more}
use Rattle.place_parts.proofs.stages.stages.Goals as goal

pub loop-before-preserved : goal.loop-before-preserved
loop-before-preserved c =
    let a = c.args in
    let l = c.loop-before in
    let P : ℕ → Block (Name Part) → Type 0 = λ k b. IsLaterStage a.pipeline_plan.now a.places.now a.maps.now a.words.now k (block_of b) in
    let x = c.in_ok-later_stage.field-0 in
    let more = block_more P a.first l.blocks.items l.before x l.invariant.count l.invariant.first l.invariant.later c.in_ok-later_stage.ensures in
    subst (λ xs. record { count : length xs ≡ suc (l.before + 1); first : (b : Block (Name Part)) → get_or xs 0 b ≡ a.first; later : (k : ℕ) (b : Block (Name Part)) → k < l.before + 1 → P k (get_or xs (suc k) b) }) (sym {A = List (Block (Name Part))} c.in_ok-push-2.ensures.items)
    (record { count = more.count; first = more.first_is; later = more.later })
