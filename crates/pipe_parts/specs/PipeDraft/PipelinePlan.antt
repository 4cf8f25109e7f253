-- What is worked out of a program before the parts of its pipeline are made.
use Rattle.std.specs.Prelude.{◌≡◌, ℕ, ◌<◌, ◌≤◌, List, length, slice_index, map as map_list, All}
use Rattle.std.proofs.Common.{get_or}
use Rattle.hazard_core.specs.xdp_maps.declared.decl.MapDecl.{MapDecl}
use Rattle.hazard_core.specs.cell_core.declared.program.CellProgram.{CellProgram}
use Rattle.hazard_core.specs.cell_core.Sites.{ProgramView}
use Rattle.hazard_core.specs.cell_core.View.{program_of}
use Rattle.row_plan.specs.Plan.{Plan}
use Rattle.row_net.specs.Needed.{AreNeeded}
use Rattle.row_net.specs.Table.{AreConstants}
use Rattle.stage_net.specs.SiteTable.Bits.{FitPointers}
use Rattle.stage_net.specs.SiteTable.Constants.{AreEarly}
use Rattle.stage_net.specs.SiteTable.Parts.{AreParts}
use Rattle.stage_net.specs.SiteTable.Pointing.{AreFlagged, plain_of}
use Rattle.commit_net.specs.declared.map_block.form.MapForm.{MapForm}
use Rattle.commit_net.specs.MapBlock.Forms.{FormFits}
use Rattle.turn_net.specs.Actions.{record_sites}
use Rattle.pipe_net.specs.declared.parts.Sizes.{Sizes}
use Rattle.pipe_net.specs.Parts.{IsSmall}
use Rattle.pipe_net.specs.PipePlaces.Layout.{load_sites}
use Rattle.pipe_parts.specs.declared.pipe_draft.pipeline_plan.PipelinePlan.{PipelinePlan}
use Rattle.pipe_parts.specs.PipeDraft.Program.{IsForPipe}
use Rattle.pipe_parts.specs.PipeDraft.Sources.{source_list, AreKeptFor}

-- how many sites there are at most
abbrev pub most_sites : ℕ
most_sites = 65536

-- ---- the program of a pipeline plan, its plan and its maps
abbrev pub program_in : PipelinePlan → ProgramView
program_in d = program_of d.program.now

abbrev pub plan_in : PipelinePlan → Plan
plan_in d = d.plan.now

abbrev pub decls_of : List MapForm → List MapDecl
decls_of forms = map_list (λ f. f.decl) forms

abbrev pub decls_in : PipelinePlan → List MapDecl
decls_in d = decls_of d.forms.items

-- maps by their numbers, within their limits, with the least bits that are enough for slots
pub record AreForms (forms : List MapForm) : Type 0 where
  pub form_fits : All FormFits forms
  pub number : (m : ℕ) (f : MapForm) → m < length forms → (get_or forms m f).number ≡ m

-- how many parts of each sort there are
abbrev pub sizes_of : ProgramView → Plan → List MapDecl → Sizes
sizes_of p plan decls = record { commit = plan.commit; last = plan.last; maps = length decls; loads = length (load_sites p) }

-- ---- a pipeline plan
-- Beside a program for which a pipeline is made: there are not too many sites, and no numbers past the first row but 0.
pub record IsPipelinePlan (d : PipelinePlan) : Type 0 where
  pub ready : IsForPipe (program_in d) (plan_in d) (decls_in d)
  pub few_sites : length (program_in d).sites ≤ most_sites
  pub early : AreEarly (program_in d) (slice_index (plan_in d).rows)
  pub sizes : d.sizes ≡ sizes_of (program_in d) (plan_in d) (decls_in d)
  pub small : IsSmall d.sizes
  pub rows : d.rows.items ≡ (plan_in d).rows
  pub forms : AreForms d.forms.items
  pub needed : AreNeeded (program_in d) d.needed.items
  pub parts : AreParts (program_in d) d.parts.items
  pub points : AreFlagged (program_in d).cells d.points.items
  pub bits : FitPointers (decls_in d) (length (program_in d).sites) d.bits
  pub sources : d.sources.items ≡ source_list (program_in d) d.needed.items
  pub kept : AreKeptFor (program_in d).cells d.sources.items d.kept.items
  pub constants : AreConstants (program_in d).cells d.constants.items
  pub plain : d.plain.items ≡ map_list plain_of d.points.items
  pub loads : d.loads.items ≡ load_sites (program_in d)
  pub records : d.records.items ≡ record_sites (program_in d)

-- the pipeline plan of a program with this plan and these maps
pub record IsPipelinePlanOf (program : CellProgram) (plan : Plan) (decls : List MapDecl) (d : PipelinePlan) : Type 0 where
  pub program_is : d.program.now ≡ program
  pub plan_is : plan_in d ≡ plan
  pub decls_are : decls_in d ≡ decls
  pub is : IsPipelinePlan d
