-- The parts that are made for a pipeline plan, and their blocks in order.
use Rattle.std.specs.Prelude.{◌≡◌, ℕ, ◌<◌, All, List, [], ◌∷◌, length, map as map_list}
use Rattle.std.proofs.Common.{get_or}
use Rattle.block_core.specs.declared.name.Name.{Name}
use Rattle.block_core.specs.declared.block.Placed.{Placed}
use Rattle.block_core.specs.Blocks.{BlockTree, Whole}
use Rattle.block_core.specs.View.{block_of, Makes}
use Rattle.control_net.specs.declared.ring_net.shape.ControlShape.{ControlShape}
use Rattle.row_net.specs.declared.place_net.outputs.Outputs.{Outputs}
use Rattle.commit_net.specs.read_net.declared.sites.MapNets.{MapNets}
use Rattle.commit_net.specs.declared.change_net.change.ChangePart.{ChangePart}
use Rattle.commit_net.specs.declared.change_net.pointed.PointedWords.{PointedWords}
use Rattle.turn_net.specs.declared.target_net.targets.TargetPart.{TargetPart}
use Rattle.pipe_net.specs.declared.parts.Part.{Part}
use Rattle.pipe_net.specs.Parts.{part_place}
use Rattle.pipe_net.specs.Layout.{Layout}
use Rattle.pipe_net.specs.PipeFrames.Parts.{AreFrameParts}
use Rattle.place_parts.specs.FrameParts.Blocks.{HasBlocks as HasFrameBlocks}
use Rattle.place_parts.specs.declared.mark_parts.layout.MarkLayout.{MarkLayout}
use Rattle.pipe_parts.specs.declared.slot_parts.slots.SlotsPart.{SlotsPart}
use Rattle.pipe_parts.specs.SlotParts.Slots.{AreSlotsParts}
use Rattle.pipe_parts.specs.SlotParts.Nets.{AreMapNets}
use Rattle.pipe_parts.specs.declared.turn_parts.parts.ActionParts.{ActionParts}
use Rattle.pipe_parts.specs.TurnParts.Parts.{AreActionPartsIn}
use Rattle.pipe_design.specs.declared.map_parts.committing.MapCommits.{MapCommits}
use Rattle.pipe_design.specs.declared.map_parts.committing.Committing.{Committing}
use Rattle.pipe_design.specs.declared.map_parts.parts.PartsOfMap.{PartsOfMap}
use Rattle.pipe_design.specs.declared.map_parts.parts.MapParts.{MapParts}
use Rattle.pipe_design.specs.MapParts.Operations.{AreChosen, AreTargetsOn}
use Rattle.pipe_design.specs.MapParts.Whole.{AreMapPartsFor}
use Rattle.place_parts.specs.Parts.{ArePlaceParts}
use Rattle.pipe_parts.specs.declared.pipe_draft.pipeline_plan.PipelinePlan.{PipelinePlan}
use Rattle.pipe_parts.specs.declared.pipe_draft.places.StageSources.{StageSources}
use Rattle.pipe_parts.specs.PipeDraft.PipelinePlan.{program_in, plan_in, decls_in}
use Rattle.pipe_net.specs.PipeClocks.Following.{IsPipeline}
use Rattle.pipe_design.specs.declared.marks.ReloadParts.{ReloadParts}
use Rattle.pipe_design.specs.declared.parts.Others.{Others}
use Rattle.pipe_design.specs.Answer.{AreOutputs}
use Rattle.pipe_design.specs.Layout.{Shown, IsShapeOf, layout}
use Rattle.pipe_design.specs.Marks.{IsMarkLayoutOf, AreReloadParts, AreMarkBlocks}
use Rattle.pipe_design.specs.Order.{Lists, pairwise}

-- ---- the parts of maps, by what the parts of actions say of operations
pub record IsMapCommits (action : ActionParts) (m : ℕ) (on : MapCommits) : Type 0 where
  pub commits : (n : Name Part) → on.commits ≡ get_or action.commits.commits.items m n
  pub targets : (t : TargetPart Part) → on.targets.now ≡ (get_or action.targets.items m t).targets.items

pub record AreMapCommits (d : PipelinePlan) (action : ActionParts) (all : List MapCommits) : Type 0 where
  pub count : length all ≡ length d.forms.items
  pub each : (m : ℕ) (on : MapCommits) → m < length d.forms.items → IsMapCommits action m (get_or all m on)

-- what is said has the operands that maps take
pub record SaysAll (d : PipelinePlan) (action : ActionParts) : Type 0 where
  pub chosen : AreChosen (program_in d) action.action.chosen.items
  pub commits : length action.commits.commits.items ≡ length d.forms.items
  pub count : length action.targets.items ≡ length d.forms.items
  pub targets : (m : ℕ) (t : TargetPart Part) → m < length d.forms.items → AreTargetsOn (program_in d) m (get_or action.targets.items m t).targets.items

pub record AreMapPartsBy (d : PipelinePlan) (at : StageSources) (action : ActionParts) (r : MapParts) : Type 0 where
  pub committing : Committing
  pub chosen : committing.chosen.now ≡ action.action.chosen.items
  pub said : AreMapCommits d action committing.maps.now
  pub are : AreMapPartsFor d at.sites.items committing r

-- ---- all that are made beside the parts that show slots of maps
-- The layout that they are made for: of the pipeline plan, with what they show.
pub record AreOthers (d : PipelinePlan) (places : List StageSources) (words : List ℕ) (o : Others) : Type 0 where
  pub shape : ControlShape
  pub is_shape : IsShapeOf d shape
  pub answer : Outputs (Name Part)
  pub answers : (b : StageSources) → AreOutputs (program_in d) (get_or places (plan_in d).last b).tables.table.items answer
  pub marked : MarkLayout
  pub is_marked : IsMarkLayoutOf d marked
  pub reloads : ReloadParts
  pub are_reloads : AreReloadParts marked places reloads
  pub reload_blocks : o.reloads ≡ reloads.blocks
  pub nets : List (MapNets (Name Part))
  pub are_nets : AreMapNets d nets
  pub at : StageSources
  pub is_at : (b : StageSources) → get_or places (plan_in d).commit b ≡ at
  pub action : ActionParts
  pub are_action : AreActionPartsIn d shape at nets action
  pub targets : o.targets ≡ action.targets
  pub host : o.host ≡ action.host
  pub action_block : o.action ≡ action.action.block
  pub commits : o.commits ≡ action.commits.block
  pub maps : AreMapPartsBy d at action o.maps
  pub marks : AreMarkBlocks marked places o.maps.changes.items o.marks.items
  pub are_places : ArePlaceParts d places nets o.places
  pub frames :
      (l : Layout) (w : Whole Part) → l.sizes ≡ d.sizes → l.shape ≡ shape → l.kept ≡ d.kept.items → l.words ≡ words → l.answer ≡ answer → l.reload ≡ reloads.nets.items → l.stays ≡ action.action.stays → HasFrameBlocks w d.sizes o.frames → AreFrameParts l w

-- ---- the blocks of all parts in order
-- those of a map
abbrev pub blocks_of_map : PartsOfMap → ChangePart (Name Part) → List (BlockTree (Name Part))
blocks_of_map x y = block_of x.table.finds ∷ block_of x.table.fetches ∷ block_of x.table.asks ∷ block_of x.table.stores ∷ block_of x.written.block ∷ block_of y.block ∷ []

abbrev pub lists_of : List SlotsPart → Others → Lists
lists_of slots o =
    (block_of o.frames.scatter.block ∷ [])
    ∷ map_list block_of o.reloads.items
    ∷ (block_of o.frames.returns.block ∷ block_of o.frames.sources.block ∷ [])
    ∷ map_list (λ x. block_of x.block) slots
    ∷ map_list (λ x. block_of x.block) o.places.words.items
    ∷ map_list (λ x. block_of x.block) o.targets.items
    ∷ (block_of o.host ∷ block_of o.action ∷ block_of o.commits ∷ [])
    ∷ pairwise blocks_of_map o.maps.maps.items o.maps.changes.items
    ∷ (block_of o.frames.control.block ∷ [])
    ∷ map_list block_of o.marks.items
    ∷ (block_of o.maps.value ∷ block_of o.frames.gather.block ∷ block_of o.frames.exit.block ∷ [])
    ∷ map_list block_of o.places.places.items
    ∷ []

-- ---- the parts of a pipeline by a pipeline plan, where these words of a frame may change
pub record AreAllParts (d : PipelinePlan) (places : List StageSources) (words : List ℕ) (ms : List (Placed Part)) : Type 0 where
  pub shown : Shown
  pub words_are : shown.words ≡ words
  pub whole : Whole Part
  pub makes : Makes part_place ms whole
  pub pipeline : IsPipeline (layout d places shown) whole
