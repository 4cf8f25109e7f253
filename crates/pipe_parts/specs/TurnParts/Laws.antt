-- The parts of actions of a pipeline that is laid out by a pipeline plan.
use Rattle.std.specs.Prelude.{◌≡◌, ℕ, ◌<◌, List, length}
use Rattle.std.proofs.Common.{get_or}
use Rattle.block_core.specs.declared.name.Name.{Name}
use Rattle.block_core.specs.Blocks.{Whole}
use Rattle.block_core.specs.View.{block_of}
use Rattle.control_net.specs.declared.ring_net.shape.ControlShape.{ControlShape}
use Rattle.read_net.specs.declared.sites.MapNets.{MapNets}
use Rattle.turn_net.specs.declared.target_net.targets.TargetPart.{TargetPart}
use Rattle.pipe_net.specs.declared.parts.Part.{Part}
use Rattle.pipe_net.specs.Parts as part
use Rattle.pipe_net.specs.Layout.{Layout}
use Rattle.pipe_net.specs.PipeTurns.Parts.{AreActionParts}
use Rattle.pipe_parts.specs.declared.pipe_draft.pipeline_plan.PipelinePlan.{PipelinePlan}
use Rattle.pipe_parts.specs.declared.pipe_draft.places.StageSources.{StageSources}
use Rattle.pipe_parts.specs.PipeDraft.PipelinePlan.{plan_in, IsPipelinePlan}
use Rattle.pipe_parts.specs.PipeDraft.Places.{ArePlaces}
use Rattle.pipe_parts.specs.PipeDraft.Laid.{IsPipelinePlanned, IsAnswered}
use Rattle.pipe_parts.specs.SlotParts.Laws.{AreShownMaps}
use Rattle.pipe_parts.specs.declared.turn_parts.parts.ActionParts.{ActionParts}
use Rattle.pipe_parts.specs.TurnParts.Parts.{AreActionPartsIn}

-- a pipeline that is laid out with what these parts show
pub record IsForAction (l : Layout) (c : ControlShape) (r : ActionParts) : Type 0 where
  pub shape : l.shape ≡ c
  pub action_shape : l.action_shape ≡ r.action_shape
  pub records : l.records ≡ r.records.items
  pub stays : l.stays ≡ r.action.stays

-- these are their blocks
pub record HasActionBlocks (l : Layout) (w : Whole Part) (r : ActionParts) : Type 0 where
  pub targets : (m : ℕ) (t : TargetPart Part) → m < length l.decls → w.block (part.targets l.sizes m) ≡ block_of (get_or r.targets.items m t).block
  pub host : w.block (part.host l.sizes) ≡ block_of r.host
  pub action : w.block (part.action l.sizes) ≡ block_of r.action.block
  pub commits : w.block (part.commits l.sizes) ≡ block_of r.commits.block

-- They are the pipeline's parts of actions, and these show what they show.
pub record AreActionPartsOf (l : Layout) (w : Whole Part) (nets : List (MapNets (Name Part))) (r : ActionParts) : Type 0 where
  pub parts : AreActionParts l w
  pub maps : (m : ℕ) (n : MapNets (Name Part)) → m < length l.decls → parts.maps m ≡ get_or nets m n
  pub targets : (m : ℕ) (t : TargetPart Part) → m < length l.decls → parts.targets m ≡ (get_or r.targets.items m t).targets.items
  pub chosen : parts.chosen ≡ r.action.chosen.items
  pub one : parts.one ≡ r.action.commits
  pub commits : parts.commits ≡ r.commits.commits.items

-- So are those that are made for the pipeline plan, by what stands after its commit place.
abbrev pub PartsAreOfActions : Type 0
PartsAreOfActions =
    (d : PipelinePlan) (places : List StageSources) (l : Layout) (w : Whole Part) (c : ControlShape) (b : StageSources) (maps : List (MapNets (Name Part))) (r : ActionParts) → IsPipelinePlan d → ArePlaces d places → IsPipelinePlanned d places l → IsAnswered l
    → b ≡ get_or places (plan_in d).commit b → AreShownMaps l w maps → AreActionPartsIn d c b maps r → IsForAction l c r → HasActionBlocks l w r → AreActionPartsOf l w maps r
