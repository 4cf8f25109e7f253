-- The parts that show slots, by the kinds of their maps.
use Rattle.std.proofs.Common.{◌≡◌, ◌∙◌, ℕ, ◌<◌, [], length, get_or, ap, subst}
use Rattle.std.proofs.lemmas.List.{length-map, get_or_default}
use Rattle.hazard_core.specs.xdp_maps.declared.decl.MapKind.{MapKind}
use Rattle.hazard_core.specs.xdp_maps.declared.decl.MapKind.TheVariants.{Hash, Array}
use Rattle.block_core.specs.View.{block_of}
use Rattle.overlay_net.specs.cell_nets.OperandBlocks.Wiring.{wires_block}
use Rattle.hash_net.specs.SlotNet.Slots.{slots_of}
use Rattle.hash_net.specs.SlotNet.Shown.{shown_slots, IsSlots}
use Rattle.commit_net.specs.declared.map_block.form.MapForm.{MapForm}
use Rattle.pipe_net.specs.declared.parts.Sizes.{Sizes}
use Rattle.pipe_net.specs.Parts as part
use Rattle.pipe_parts.specs.declared.pipe_draft.pipeline_plan.PipelinePlan.{PipelinePlan}
use Rattle.pipe_parts.specs.PipeDraft.PipelinePlan.{IsPipelinePlan}
use Rattle.pipe_parts.specs.declared.slot_parts.slots.SlotsPart.{SlotsPart}
use Rattle.pipe_parts.specs.SlotParts.Slots.{IsSlotsPartOf, IsSlotsPartIn}

pub maps_many : (d : PipelinePlan) → IsPipelinePlan d → d.sizes.maps ≡ length d.forms.items
maps_many d is = ap (λ (z : Sizes). z.maps) is.sizes ∙ length-map d.forms.items (λ (f : MapForm). f.decl)

pub one_kind : (k : MapKind) → k ≡ Hash → k ≡ Array → ⊥
one_kind k e f = cc

module _ (z : Sizes) (m : ℕ) (f : MapForm) (r : SlotsPart) where
  pub hash_of : f.decl.kind ≡ Hash → IsSlots (part.slots z m) (part.own z m) f.decl f.bits (block_of r.block) → slots_of r.slots.items ≡ shown_slots (part.slots z m) f.decl → IsSlotsPartOf z m f r
  hash_of is block shown = record { hash = λ k. block; array = λ k. absurd (one_kind f.decl.kind is k); shown = λ k. shown; none = λ k. absurd (one_kind f.decl.kind is k) }

  pub array_of : f.decl.kind ≡ Array → block_of r.block ≡ wires_block [] → r.slots.items ≡ [] → IsSlotsPartOf z m f r
  array_of is block none = record { hash = λ k. absurd (one_kind f.decl.kind k is); array = λ k. block; shown = λ k. absurd (one_kind f.decl.kind k is); none = λ k. none }

-- by the form that stands at its number
pub of_form : (d : PipelinePlan) (m : ℕ) (f : MapForm) (r : SlotsPart) → m < length d.forms.items → f ≡ get_or d.forms.items m f → IsSlotsPartOf d.sizes m f r → IsSlotsPartIn d m r
of_form d m f r lt is h g = subst (λ x. IsSlotsPartOf d.sizes m x r) (is ∙ get_or_default d.forms.items m f g lt) h
