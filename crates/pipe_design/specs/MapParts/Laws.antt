-- The parts of maps of a pipeline that is laid out by a pipeline plan.
use Rattle.std.specs.Prelude.{◌≡◌, ℕ, ◌<◌, List, length}
use Rattle.std.proofs.Common.{get_or}
use Rattle.block_core.specs.declared.name.Name.{Name}
use Rattle.block_core.specs.Blocks.{Whole}
use Rattle.overlay_net.specs.declared.site_operands.SiteNets.{SiteNets}
use Rattle.commit_net.specs.declared.change_net.change.ChangePart.{ChangePart}
use Rattle.pipe_net.specs.declared.parts.Part.{Part}
use Rattle.pipe_net.specs.Layout.{Layout}
use Rattle.pipe_net.specs.PipeTurns.Parts.{AreActionParts}
use Rattle.pipe_net.specs.PipeMaps.Parts.{commits_net, AreMapParts}
use Rattle.pipe_parts.specs.declared.pipe_draft.pipeline_plan.PipelinePlan.{PipelinePlan}
use Rattle.pipe_parts.specs.declared.pipe_draft.places.StageSources.{StageSources}
use Rattle.pipe_parts.specs.PipeDraft.PipelinePlan.{plan_in, decls_in, IsPipelinePlan}
use Rattle.pipe_parts.specs.PipeDraft.Places.{ArePlaces}
use Rattle.pipe_parts.specs.PipeDraft.Laid.{IsPipelinePlanned, IsAnswered}
use Rattle.place_parts.specs.declared.mark_parts.layout.MarkLayout.{MarkLayout}
use Rattle.place_parts.specs.MarkParts.Places.{IsAt}
use Rattle.place_parts.specs.MarkParts.Marks.{HaveChanges}
use Rattle.place_parts.specs.MarkParts.Laws.{IsChangeIn}
use Rattle.pipe_design.specs.declared.map_parts.committing.MapCommits.{MapCommits}
use Rattle.pipe_design.specs.declared.map_parts.committing.Committing.{Committing}
use Rattle.pipe_design.specs.declared.map_parts.parts.MapParts.{MapParts}
use Rattle.pipe_design.specs.MapParts.Whole.{AreMapPartsFor, HasBlocks}

-- what is said of operations is what the parts of a pipeline say that are for these
pub record IsSaidBy (l : Layout) (w : Whole Part) (action : AreActionParts l w) (c : Committing) : Type 0 where
  pub chosen : action.chosen ≡ c.chosen.now
  pub commits : (m : ℕ) (on : MapCommits) → m < length l.decls → commits_net l w action m ≡ (get_or c.maps.now m on).commits
  pub targets : (m : ℕ) (on : MapCommits) → m < length l.decls → action.targets m ≡ (get_or c.maps.now m on).targets.now

-- In every pipeline that is laid out by the pipeline plan and has these blocks they are the parts of its maps, where what other parts say of operations is what they are made
-- for, and the changes are those of its maps.
abbrev pub PartsAreOfMaps : Type 0
PartsAreOfMaps =
    (d : PipelinePlan) (places : List StageSources) (at : StageSources) (c : Committing) (r : MapParts) (l : Layout) (w : Whole Part) (action : AreActionParts l w) → IsPipelinePlan d → ArePlaces d places → IsAt places (plan_in d).commit at → IsPipelinePlanned d places l → IsAnswered l
    → AreMapPartsFor d at.sites.items c r → IsSaidBy l w action c → ((m : ℕ) (y : ChangePart (Name Part)) → m < length l.decls → IsChangeIn l m (get_or r.changes.items m y)) → HasBlocks w d.sizes r → AreMapParts l w action

-- What stands for the changes is what marks of the same maps are made with.
abbrev pub ChangesAreForMarks : Type 0
ChangesAreForMarks = (d : PipelinePlan) (sites : List (SiteNets (Name Part))) (c : Committing) (r : MapParts) (f : MarkLayout) → IsPipelinePlan d → f.decls.now ≡ decls_in d → AreMapPartsFor d sites c r → HaveChanges f r.changes.items
