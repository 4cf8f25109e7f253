-- Layouts by pipeline plans, and what holds of them.
use Rattle.std.specs.Prelude.{◌≡◌, ℕ, suc, ◌<◌, ◌≤◌, All, List, length}
use Rattle.std.proofs.Common.{get_or}
use Rattle.block_core.specs.declared.name.Name.{Name}
use Rattle.commit_net.specs.declared.map_block.form.MapForm.{MapForm}
use Rattle.row_net.specs.Lists.{made_cells}
use Rattle.row_net.specs.Table.{Stands}
use Rattle.overlay_net.specs.declared.site_operands.SiteNets.{SiteNets}
use Rattle.overlay_net.specs.SiteOperands.Sites.{operands_of}
use Rattle.stage_net.specs.SiteTable.Lists.{held_cells, held_pointers, made_pointers}
use Rattle.pipe_net.specs.declared.parts.Part.{Part}
use Rattle.pipe_net.specs.Layout.{Layout, program_of, last_of, commit_of}
use Rattle.pipe_net.specs.Standing.{IsAtPlace}
use Rattle.pipe_net.specs.PipePlaces.Layout.{IsChanged, IsLaidOut}
use Rattle.pipe_parts.specs.declared.pipe_draft.pipeline_plan.PipelinePlan.{PipelinePlan}
use Rattle.pipe_parts.specs.declared.pipe_draft.places.StageSources.{StageSources}
use Rattle.pipe_parts.specs.PipeDraft.Program.{build_of}
use Rattle.pipe_parts.specs.PipeDraft.PipelinePlan.{program_in, plan_in, decls_in, IsPipelinePlan}
use Rattle.pipe_parts.specs.PipeDraft.Places.{ArePlaces}

-- ---- a layout by a pipeline plan
-- Of each place the lists of cells and pointers are those of the pipeline plan. Before the first place no cell has more than a number for its pointer, after each stand its tables.
pub record IsPipelinePlanned (d : PipelinePlan) (places : List StageSources) (l : Layout) : Type 0 where
  pub build : l.build ≡ build_of (program_in d) (plan_in d)
  pub decls : l.decls ≡ decls_in d
  pub sizes : l.sizes ≡ d.sizes
  pub bits : l.bits ≡ d.bits
  pub slot_bits : (m : ℕ) (f : MapForm) → m < length l.decls → l.slot_bits m ≡ (get_or d.forms.items m f).bits
  pub flags : l.flags ≡ d.points.items
  pub kept : l.kept ≡ d.kept.items
  pub sources : l.sources ≡ d.sources.items
  pub constants : l.constants ≡ d.constants.items
  pub plain : l.pointers 0 ≡ d.plain.items
  pub made : (k : ℕ) → l.made k ≡ made_cells (program_in d) (plan_in d) d.needed.items k
  pub held : (k : ℕ) → l.held k ≡ held_cells (program_in d) (plan_in d) d.needed.items d.parts.items k
  pub made_pointers : (k : ℕ) → l.made_pointers k ≡ made_pointers (program_in d) (plan_in d) d.needed.items d.points.items k
  pub held_pointers : (k : ℕ) → l.held_pointers k ≡ held_pointers (program_in d) (plan_in d) d.needed.items d.parts.items d.points.items k
  pub table : (k : ℕ) (b : StageSources) → k ≤ last_of l → l.table (suc k) ≡ (get_or places k b).tables.table.items
  pub pointers : (k : ℕ) (b : StageSources) → k ≤ last_of l → l.pointers (suc k) ≡ (get_or places k b).tables.pointers.items

-- what stands for the answer after the last place
pub record IsAnswered (l : Layout) : Type 0 where
  pub verdict : Stands (l.table (suc (last_of l))) (program_of l).verdict l.answer.verdict
  pub target : Stands (l.table (suc (last_of l))) (program_of l).target l.answer.target
  pub bytes : All (IsChanged l) l.answer.bytes.items

-- ---- what holds of such a layout
-- All its places are laid out by the plan.
abbrev pub PipelinePlannedAreLaid : Type 0
PipelinePlannedAreLaid = (d : PipelinePlan) (places : List StageSources) (l : Layout) → IsPipelinePlan d → ArePlaces d places → IsPipelinePlanned d places l → IsAnswered l → IsLaidOut l

-- Up to the commit place the operands of all sites after a place show what its packet holds.
abbrev pub SitesAreAtPlaces : Type 0
SitesAreAtPlaces =
    (d : PipelinePlan) (places : List StageSources) (l : Layout) → IsPipelinePlan d → ArePlaces d places → IsPipelinePlanned d places l → IsAnswered l → (k j : ℕ) (b : StageSources) (s : SiteNets (Name Part)) → k ≤ commit_of l → j < length (program_of l).sites
    → IsAtPlace l k j (operands_of (get_or (get_or places k b).sites.items j s))
