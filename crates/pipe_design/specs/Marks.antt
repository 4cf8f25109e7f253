-- The parts of marks at all places up to the commit place, and those that say which packets must reload.
use Rattle.std.specs.Prelude.{◌≡◌, ℕ, suc, ◌≤◌, List, length}
use Rattle.std.proofs.Common.{get_or}
use Rattle.block_core.specs.declared.name.Name.{Name}
use Rattle.block_core.specs.declared.block.Block.{Block}
use Rattle.block_core.specs.View.{block_of}
use Rattle.commit_net.specs.declared.change_net.change.ChangePart.{ChangePart}
use Rattle.pipe_net.specs.declared.parts.Part.{Part}
use Rattle.pipe_parts.specs.declared.pipe_draft.pipeline_plan.PipelinePlan.{PipelinePlan}
use Rattle.pipe_parts.specs.declared.pipe_draft.places.StageSources.{StageSources}
use Rattle.pipe_parts.specs.PipeDraft.PipelinePlan.{plan_in, decls_in}
use Rattle.place_parts.specs.declared.mark_parts.layout.MarkLayout.{MarkLayout}
use Rattle.place_parts.specs.MarkParts.Reload.{IsReloadPart}
use Rattle.place_parts.specs.MarkParts.Marks.{IsMarksPart}
use Rattle.pipe_design.specs.declared.marks.ReloadParts.{ReloadParts}

-- what marks are made for, of a pipeline plan
pub record IsMarkLayoutOf (d : PipelinePlan) (f : MarkLayout) : Type 0 where
  pub program : f.program.now ≡ d.program.now
  pub rows : f.rows.now ≡ (plan_in d).rows
  pub decls : f.decls.now ≡ decls_in d
  pub sizes : f.sizes ≡ d.sizes

-- of each place its net and the block that shows it
pub record AreReloadParts (f : MarkLayout) (places : List StageSources) (r : ReloadParts) : Type 0 where
  pub count : length r.blocks.items ≡ suc f.sizes.commit
  pub nets : length r.nets.items ≡ suc f.sizes.commit
  pub each : (k : ℕ) (b : StageSources) (n : Name Part) (x : Block (Name Part)) → k ≤ f.sizes.commit → IsReloadPart f (get_or places k b).sites.items k (get_or r.nets.items k n) (block_of (get_or r.blocks.items k x))

pub record AreMarkBlocks (f : MarkLayout) (places : List StageSources) (changes : List (ChangePart (Name Part))) (blocks : List (Block (Name Part))) : Type 0 where
  pub count : length blocks ≡ suc f.sizes.commit
  pub each : (k : ℕ) (b : StageSources) (x : Block (Name Part)) → k ≤ f.sizes.commit → IsMarksPart f (get_or places k b).sites.items changes k (block_of (get_or blocks k x))
