-- The parts of places, as they are made of a pipeline plan.
use Rattle.std.specs.Prelude.{◌≡◌, ℕ, suc, ◌<◌, ◌≤◌, List, length}
use Rattle.std.proofs.Common.{get_or}
use Rattle.block_core.specs.declared.name.Name.{Name}
use Rattle.block_core.specs.declared.block.Block.{Block}
use Rattle.block_core.specs.Blocks.{Whole}
use Rattle.block_core.specs.View.{block_of}
use Rattle.overlay_net.specs.cell_nets.declared.operand.Operand.{Operand}
use Rattle.read_net.specs.declared.sites.MapNets.{MapNets}
use Rattle.commit_net.specs.declared.change_net.pointed.PointedWords.{PointedWords}
use Rattle.pipe_net.specs.declared.parts.Part.{Part}
use Rattle.pipe_net.specs.Parts as part
use Rattle.pipe_net.specs.Layout.{Layout, last_of}
use Rattle.pipe_parts.specs.declared.pipe_draft.pipeline_plan.PipelinePlan.{PipelinePlan}
use Rattle.pipe_parts.specs.declared.pipe_draft.places.StageSources.{StageSources}
use Rattle.pipe_parts.specs.PipeDraft.PipelinePlan.{plan_in}
use Rattle.place_parts.specs.declared.parts.PlaceParts.{PlaceParts}
use Rattle.place_parts.specs.Words.{AreWordParts, AreWordNets}
use Rattle.place_parts.specs.Places.{IsLaterStage, IsFirstPlace}

-- The blocks of all places: the first one over what comes with a packet, each later one over what stands after the place before.
pub record AreStages (d : PipelinePlan) (places : List StageSources) (maps : List (MapNets (Name Part))) (words : List (Operand (Name Part))) (blocks : List (Block (Name Part))) : Type 0 where
  pub count : length blocks ≡ suc (plan_in d).last
  pub later : (k : ℕ) (b : Block (Name Part)) → k < (plan_in d).last → IsLaterStage d places maps words k (block_of (get_or blocks (suc k) b))

-- what is made of a pipeline plan: the parts of words, and the blocks of places by them
pub record ArePlaceParts (d : PipelinePlan) (places : List StageSources) (maps : List (MapNets (Name Part))) (r : PlaceParts) : Type 0 where
  pub words : AreWordParts d places r.words.items
  pub nets : List (Operand (Name Part))
  pub are : AreWordNets d r.words.items nets
  pub stages : AreStages d places maps nets r.places.items
  pub first : (b : Block (Name Part)) → IsFirstPlace d maps nets r.first.items (block_of (get_or r.places.items 0 b))

-- these are the blocks of a pipeline
pub record HasBlocks (l : Layout) (w : Whole Part) (r : PlaceParts) : Type 0 where
  pub words : (i : ℕ) (x : PointedWords (Name Part)) → i < l.sizes.loads → w.block (part.word l.sizes i) ≡ block_of (get_or r.words.items i x).block
  pub places : (k : ℕ) (b : Block (Name Part)) → k ≤ last_of l → w.block (part.place l.sizes k) ≡ block_of (get_or r.places.items k b)
