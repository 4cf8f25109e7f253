-- The maps of a pipeline that is laid out by a pipeline plan, with the parts that show their slots.
use Rattle.std.specs.Prelude.{◌≡◌, ℕ, ◌<◌, List, length}
use Rattle.std.proofs.Common.{get_or}
use Rattle.block_core.specs.declared.name.Name.{Name}
use Rattle.block_core.specs.Blocks.{Whole}
use Rattle.block_core.specs.View.{block_of}
use Rattle.hazard_core.specs.xdp_maps.declared.decl.MapKind.TheVariants.{Array}
use Rattle.overlay_net.specs.cell_nets.declared.operand.Operand.TheVariants.{Known}
use Rattle.read_net.specs.declared.sites.MapNets.{MapNets}
use Rattle.stage_net.specs.Nets.{decls_of}
use Rattle.pipe_net.specs.declared.parts.Part.{Part}
use Rattle.pipe_net.specs.Parts as part
use Rattle.pipe_net.specs.Layout.{Layout}
use Rattle.pipe_net.specs.PipeTurns.Maps as actions
use Rattle.pipe_net.specs.PipeTurns.Maps.{decl_at, IsSlotsPart}
use Rattle.pipe_net.specs.PipePlaces.Parts as places
use Rattle.pipe_parts.specs.declared.pipe_draft.pipeline_plan.PipelinePlan.{PipelinePlan}
use Rattle.pipe_parts.specs.declared.pipe_draft.places.StageSources.{StageSources}
use Rattle.pipe_parts.specs.PipeDraft.Laid.{IsPipelinePlanned}
use Rattle.pipe_parts.specs.declared.slot_parts.slots.SlotsPart.{SlotsPart}
use Rattle.pipe_parts.specs.SlotParts.Slots.{AreSlotsParts}
use Rattle.pipe_parts.specs.SlotParts.Nets.{AreMapNets}

-- map m as the parts of actions and those of places read it, and the part that shows its slots
pub record IsShownMap (l : Layout) (w : Whole Part) (m : ℕ) (nets : MapNets (Name Part)) : Type 0 where
  pub actions : actions.IsMapAt l m nets
  pub part : IsSlotsPart l w m
  pub places : places.IsMapAt l w m nets
  pub uncounted : (decl_at l m).kind ≡ Array → nets.used ≡ Known 0

pub record AreShownMaps (l : Layout) (w : Whole Part) (nets : List (MapNets (Name Part))) : Type 0 where
  pub count : length nets ≡ length l.decls
  pub decls : decls_of nets ≡ l.decls
  pub each : (m : ℕ) (n : MapNets (Name Part)) → m < length l.decls → IsShownMap l w m (get_or nets m n)

-- these are the blocks of the parts
abbrev pub HasSlotBlocks : Layout → Whole Part → List SlotsPart → Type 0
HasSlotBlocks l w rs = (m : ℕ) (r : SlotsPart) → m < length l.decls → w.block (part.slots l.sizes m) ≡ block_of (get_or rs m r).block

-- So are all maps.
abbrev pub SlotsAreShown : Type 0
SlotsAreShown =
    (d : PipelinePlan) (places : List StageSources) (l : Layout) (w : Whole Part) (rs : List SlotsPart) (nets : List (MapNets (Name Part))) → IsPipelinePlanned d places l → AreSlotsParts d rs → AreMapNets d nets → HasSlotBlocks l w rs
    → AreShownMaps l w nets
