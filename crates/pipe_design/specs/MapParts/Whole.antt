-- The parts of all maps of a pipeline plan.
use Rattle.std.specs.Prelude.{◌≡◌, ℕ, ◌<◌, List, length}
use Rattle.std.proofs.Common.{get_or}
use Rattle.block_core.specs.declared.name.Name.{Name}
use Rattle.block_core.specs.Blocks.{Whole}
use Rattle.block_core.specs.View.{block_of}
use Rattle.overlay_net.specs.declared.site_operands.SiteNets.{SiteNets}
use Rattle.commit_net.specs.declared.change_net.change.ChangePart.{ChangePart}
use Rattle.pipe_net.specs.declared.parts.Part.{Part}
use Rattle.pipe_net.specs.declared.parts.Sizes.{Sizes}
use Rattle.pipe_net.specs.Parts as part
use Rattle.pipe_parts.specs.declared.pipe_draft.pipeline_plan.PipelinePlan.{PipelinePlan}
use Rattle.pipe_parts.specs.PipeDraft.PipelinePlan.{decls_in}
use Rattle.pipe_design.specs.declared.map_parts.committing.MapCommits.{MapCommits}
use Rattle.pipe_design.specs.declared.map_parts.committing.Committing.{Committing}
use Rattle.pipe_design.specs.declared.map_parts.parts.PartsOfMap.{PartsOfMap}
use Rattle.pipe_design.specs.declared.map_parts.parts.MapParts.{MapParts}
use Rattle.pipe_design.specs.MapParts.Parts.{ArePartsOfMap}
use Rattle.pipe_design.specs.MapParts.Words.{IsValueOver}

-- They are those of each map, by the operands of all sites after the commit place and what is said of the operations that commit.
pub record AreMapPartsFor (d : PipelinePlan) (sites : List (SiteNets (Name Part))) (c : Committing) (r : MapParts) : Type 0 where
  pub count : length r.maps.items ≡ length (decls_in d)
  pub changes : length r.changes.items ≡ length (decls_in d)
  pub each :
      (m : ℕ) (on : MapCommits) (x : PartsOfMap) (y : ChangePart (Name Part)) → m < length (decls_in d) → ArePartsOfMap d sites c.chosen.now (get_or c.maps.now m on) m (get_or r.maps.items m x) (get_or r.changes.items m y)
  pub value : IsValueOver d (block_of r.value)

-- ---- these are their blocks
pub record HasBlocksOf (w : Whole Part) (z : Sizes) (m : ℕ) (x : PartsOfMap) (y : ChangePart (Name Part)) : Type 0 where
  pub finder : w.block (part.finder z m) ≡ block_of x.table.finds
  pub fetcher : w.block (part.fetcher z m) ≡ block_of x.table.fetches
  pub asker : w.block (part.asker z m) ≡ block_of x.table.asks
  pub own : w.block (part.own z m) ≡ block_of x.table.stores
  pub written : w.block (part.written z m) ≡ block_of x.written.block
  pub change : w.block (part.change z m) ≡ block_of y.block

pub record HasBlocks (w : Whole Part) (z : Sizes) (r : MapParts) : Type 0 where
  pub maps : (m : ℕ) (x : PartsOfMap) (y : ChangePart (Name Part)) → m < z.maps → HasBlocksOf w z m (get_or r.maps.items m x) (get_or r.changes.items m y)
  pub value : w.block (part.value z) ≡ block_of r.value
