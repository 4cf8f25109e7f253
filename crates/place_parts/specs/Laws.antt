-- The parts of places of a pipeline that is laid out by a pipeline plan.
use Rattle.std.specs.Prelude.{◌≡◌, ℕ, ◌<◌, ◌≤◌, List, length}
use Rattle.std.proofs.Common.{get_or}
use Rattle.block_core.specs.ProductBlocks.Alone.{IsApartAlone}
use Rattle.block_core.specs.declared.name.Name.{Name}
use Rattle.block_core.specs.Blocks.{Whole}
use Rattle.read_net.specs.declared.sites.MapNets.{MapNets}
use Rattle.pipe_net.specs.declared.parts.Part.{Part}
use Rattle.pipe_net.specs.Parts as part
use Rattle.pipe_net.specs.Layout.{Layout, last_of}
use Rattle.pipe_net.specs.PipePlaces.Parts.{IsMapAt, AreStageParts}
use Rattle.pipe_net.specs.PipeForms.Reading.{AreReadings}
use Rattle.pipe_parts.specs.declared.pipe_draft.pipeline_plan.PipelinePlan.{PipelinePlan}
use Rattle.pipe_parts.specs.declared.pipe_draft.places.StageSources.{StageSources}
use Rattle.pipe_parts.specs.PipeDraft.PipelinePlan.{IsPipelinePlan}
use Rattle.pipe_parts.specs.PipeDraft.Places.{ArePlaces}
use Rattle.pipe_parts.specs.PipeDraft.Laid.{IsPipelinePlanned, IsAnswered}
use Rattle.place_parts.specs.declared.parts.PlaceParts.{PlaceParts}
use Rattle.place_parts.specs.Maps.{AreMapsFor}
use Rattle.place_parts.specs.Parts.{ArePlaceParts, HasBlocks}

-- a pipeline that is laid out by a pipeline plan, with this table before the first place, and these maps
pub record IsFor (d : PipelinePlan) (places : List StageSources) (nets : List (MapNets (Name Part))) (r : PlaceParts) (l : Layout) (w : Whole Part) : Type 0 where
  pub pipeline_planned : IsPipelinePlanned d places l
  pub answered : IsAnswered l
  pub first : l.table 0 ≡ r.first.items
  pub maps : (m : ℕ) (n : MapNets (Name Part)) → m < length l.decls → IsMapAt l w m (get_or nets m n)

-- the parts of places of a pipeline, what they read of others, and that no product stands in an operand of another in the block of a place
pub record ArePlacesOf (l : Layout) (w : Whole Part) : Type 0 where
  pub stages : AreStageParts l w
  pub readings : AreReadings l w stages
  pub apart : (k : ℕ) → k ≤ last_of l → IsApartAlone (part.place l.sizes k) (w.block (part.place l.sizes k))

-- They are such where they have the blocks that are made of the pipeline plan.
abbrev pub PartsAreOfPlaces : Type 0
PartsAreOfPlaces =
    (d : PipelinePlan) (places : List StageSources) (maps : List (MapNets (Name Part))) (r : PlaceParts) (l : Layout) (w : Whole Part) → IsPipelinePlan d → ArePlaces d places → AreMapsFor d maps → ArePlaceParts d places maps r → IsFor d places maps r l w
    → HasBlocks l w r → ArePlacesOf l w
