-- A layout by a pipeline plan has what the pipeline plan has.
use Rattle.std.specs.Prelude.{Contains, ◌++◌}
use Rattle.std.proofs.Common.{◌≡◌, ◌∙◌, ℕ, zero, suc, All, List, length, sym, ap, subst}
use Rattle.std.proofs.lemmas.List.{length-map}
use Rattle.std.proofs.lemmas.List.Elements.{All-contains_itself, All-weaker}
use Rattle.block_core.specs.declared.name.Name.{Name}
use Rattle.block_core.specs.Blocks.{Whole}
use Rattle.overlay_net.specs.cell_nets.Operands.{IsAvailable}
use Rattle.overlay_net.proofs.cell_nets_laws.AvailableLaws.{available}
use Rattle.commit_net.specs.declared.map_block.form.MapForm.{MapForm}
use Rattle.row_net.specs.PlaceNet.Place.{registers_from}
use Rattle.row_net.specs.PlaceNet.Sources.{source_operands}
use Rattle.row_net.specs.SitePlace.SitePlace.{pointer_registers}
use Rattle.read_net.specs.declared.sites.MapNets.{MapNets}
use Rattle.read_net.specs.pipe_core.Machine.{Build}
use Rattle.pipe_net.specs.declared.parts.Part.{Part}
use Rattle.pipe_net.specs.declared.parts.Sizes.{Sizes}
use Rattle.pipe_net.specs.Parts as part
use Rattle.pipe_net.specs.Layout.{Layout, program_of, last_of}
use Rattle.pipe_net.specs.PipePlaces.Layout.{load_sites}
use Rattle.pipe_net.specs.PipeForms.Reading.{before_place}
use Rattle.pipe_parts.specs.declared.pipe_draft.pipeline_plan.PipelinePlan.{PipelinePlan}
use Rattle.pipe_parts.specs.declared.pipe_draft.places.StageSources.{StageSources}
use Rattle.pipe_parts.specs.PipeDraft.Program.{build_of}
use Rattle.pipe_parts.specs.PipeDraft.PipelinePlan.{program_in, plan_in, IsPipelinePlan}
use Rattle.pipe_parts.specs.PipeDraft.Places.{ArePlaces}
use Rattle.pipe_parts.specs.PipeDraft.Laid.{IsPipelinePlanned}
use Rattle.place_parts.specs.declared.parts.PlaceParts.{PlaceParts}
use Rattle.place_parts.specs.Maps.{AreMapsFor}
use Rattle.place_parts.specs.Parts.{ArePlaceParts, HasBlocks}
use Rattle.place_parts.specs.Laws.{IsFor}
use Rattle.place_parts.proofs.Standing.{before_in}

-- what the law is given: parts that are made of a pipeline plan, and a pipeline that is laid out by it and has their blocks
pub record AreGiven (d : PipelinePlan) (places : List StageSources) (maps : List (MapNets (Name Part))) (r : PlaceParts) (l : Layout) (w : Whole Part) : Type 0 where
  pub is : IsPipelinePlan d
  pub stand : ArePlaces d places
  pub fit : AreMapsFor d maps
  pub are : ArePlaceParts d places maps r
  pub for : IsFor d places maps r l w
  pub has : HasBlocks l w r

module _ (d : PipelinePlan) (places : List StageSources) (l : Layout) (from : IsPipelinePlanned d places l) where
  abbrev pub sizes_same : d.sizes ≡ l.sizes
  sizes_same = sym from.sizes

  abbrev pub build_same : build_of (program_in d) (plan_in d) ≡ l.build
  build_same = sym from.build

  abbrev pub program_same : program_in d ≡ program_of l
  program_same = ap (λ (b : Build). b.program) build_same

  pub last_same : last_of l ≡ (plan_in d).last
  last_same = ap (λ (b : Build). b.plan.last) from.build

  pub many_forms : length l.decls ≡ length d.forms.items
  many_forms = ap length from.decls ∙ length-map d.forms.items (λ (f : MapForm). f.decl)

  -- ---- what comes before a place
  before_same : (k : ℕ) → before_in d k ≡ before_place l k
  before_same zero = let kept = sym from.kept in λ i. source_operands (part.sources (sizes_same i)) (kept i)
  before_same (suc k) =
      let bits = sym from.bits in
      let held = sym (from.held k) in
      let those = sym (from.held_pointers k) in
      λ i. registers_from (part.place (sizes_same i) k) (program_same i).cells 0 (held i) ++ pointer_registers (part.place (sizes_same i) k) (bits i) (length (held i)) (those i)

  pub all_before : (k : ℕ) → All (IsAvailable (before_place l k)) (before_in d k)
  all_before k = subst (λ ins. All (IsAvailable ins) (before_in d k)) (before_same k) (All-weaker (Contains (before_in d k)) (IsAvailable (before_in d k)) (available (before_in d k)) (before_in d k) (All-contains_itself (before_in d k)))

  -- ---- the sites that read a word
  module _ (is : IsPipelinePlan d) where
    pub loads_same : d.loads.items ≡ load_sites (program_of l)
    loads_same = is.loads ∙ ap load_sites program_same

    pub many_loads : l.sizes.loads ≡ length d.loads.items
    many_loads = ap (λ (z : Sizes). z.loads) (from.sizes ∙ is.sizes) ∙ sym (ap length is.loads)
