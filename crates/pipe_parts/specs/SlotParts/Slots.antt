-- The parts that show the slots of maps.
use Rattle.std.specs.Prelude.{◌≡◌, ℕ, ◌<◌, List, [], length}
use Rattle.std.proofs.Common.{get_or}
use Rattle.block_core.specs.View.{block_of}
use Rattle.hazard_core.specs.xdp_maps.declared.decl.MapKind.TheVariants.{Hash, Array}
use Rattle.overlay_net.specs.cell_nets.OperandBlocks.Wiring.{wires_block}
use Rattle.hash_net.specs.SlotNet.Slots.{slots_of}
use Rattle.hash_net.specs.SlotNet.Shown.{shown_slots, IsSlots}
use Rattle.commit_net.specs.declared.map_block.form.MapForm.{MapForm}
use Rattle.pipe_net.specs.declared.parts.Sizes.{Sizes}
use Rattle.pipe_net.specs.Parts as part
use Rattle.pipe_parts.specs.declared.pipe_draft.pipeline_plan.PipelinePlan.{PipelinePlan}
use Rattle.pipe_parts.specs.declared.slot_parts.slots.SlotsPart.{SlotsPart}

-- the part for map m of this form: of a hash its wires show the slots of the part with the map's memories; of an array there is nothing to show
pub record IsSlotsPartOf (z : Sizes) (m : ℕ) (f : MapForm) (r : SlotsPart) : Type 0 where
  pub hash : f.decl.kind ≡ Hash → IsSlots (part.slots z m) (part.own z m) f.decl f.bits (block_of r.block)
  pub array : f.decl.kind ≡ Array → block_of r.block ≡ wires_block []
  pub shown : f.decl.kind ≡ Hash → slots_of r.slots.items ≡ shown_slots (part.slots z m) f.decl
  pub none : f.decl.kind ≡ Array → r.slots.items ≡ []

-- for map m of a pipeline plan
abbrev pub IsSlotsPartIn : PipelinePlan → ℕ → SlotsPart → Type 0
IsSlotsPartIn d m r = (f : MapForm) → IsSlotsPartOf d.sizes m (get_or d.forms.items m f) r

-- for all its maps
pub record AreSlotsParts (d : PipelinePlan) (rs : List SlotsPart) : Type 0 where
  pub count : length rs ≡ length d.forms.items
  pub each : (m : ℕ) (r : SlotsPart) → m < length d.forms.items → IsSlotsPartIn d m (get_or rs m r)
