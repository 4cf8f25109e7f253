-- The pipeline of a pipeline plan is one of the pipeline plan's program.
use Rattle.std.proofs.Common.{◌≡◌, ◌∙◌, ℕ, List, length, refl, sym, ap, subst}
use Rattle.hazard_core.specs.xdp_maps.declared.decl.MapDecl.{MapDecl}
use Rattle.block_core.specs.declared.block.Placed.{Placed}
use Rattle.block_core.specs.declared.error.LinkError.{LinkError}
use Rattle.block_core.specs.declared.error.LinkError.TheVariants as link
use Rattle.block_core.specs.View.{Makes}
use Rattle.hazard_core.specs.cell_core.declared.program.CellProgram.{CellProgram}
use Rattle.hazard_core.specs.cell_core.Sites.{ProgramView}
use Rattle.hazard_core.specs.cell_core.View.{program_of}
use Rattle.row_plan.specs.Plan.{Plan}
use Rattle.pipe_net.specs.declared.parts.Part.{Part}
use Rattle.pipe_net.specs.Parts.{part_place}
use Rattle.pipe_parts.specs.declared.pipe_draft.pipeline_plan.PipelinePlan.{PipelinePlan}
use Rattle.pipe_parts.specs.declared.pipe_draft.places.StageSources.{StageSources}
use Rattle.pipe_parts.specs.PipeDraft.PipelinePlan.{program_in, plan_in, decls_in, IsPipelinePlan, IsPipelinePlanOf}
use Rattle.pipe_design.specs.declared.error.PipelineError.{PipelineError}
use Rattle.pipe_design.specs.declared.error.PipelineError.TheVariants as error
use Rattle.pipe_design.specs.Errors.{of_link}
use Rattle.pipe_design.specs.Layout.{layout}
use Rattle.pipe_design.specs.Linking.{IsLinked}
use Rattle.pipe_design.specs.Parts.{AreAllParts}
use Rattle.pipe_design.specs.Pipeline.{IsPipelineFor}

module _ (d : PipelinePlan) (is : IsPipelinePlan d) (places : List StageSources) (words : List ℕ) (ms : List (Placed Part)) (all : AreAllParts d places words ms) where
  pub made_for : IsPipelineFor (program_in d) (plan_in d) (decls_in d) (layout d places all.shown) all.whole
  made_for = record { build = refl; decls_are = refl; flagged = is.points; pipeline = all.pipeline }

  pub linked_by : (n : ℕ) (here : List (Placed Part)) → length words ≡ n → here ≡ ms → IsLinked d.sizes n here (layout d places all.shown) all.whole
  linked_by n here count same = record {
    sizes = refl;
    words_are = ap length all.words_are ∙ count;
    parts = all.pipeline.parts;
    makes = subst (λ xs. Makes part_place xs all.whole) (sym same) all.makes;
  }

-- what holds of the program, the plan and the maps of a pipeline plan holds of those that it is of
pub of_program : (P : ProgramView → Plan → List MapDecl → Type 0) (program : CellProgram) (plan : Plan) (decls : List MapDecl) (d : PipelinePlan) → IsPipelinePlanOf program plan decls d → P (program_in d) (plan_in d) (decls_in d) → P (program_of program) plan decls
of_program P program plan decls d of h =
    subst (P (program_of program) plan) of.decls_are
    (subst (λ (q : Plan). P (program_of program) q (decls_in d)) of.plan_is (subst (λ (q : CellProgram). P (program_of q) (plan_in d) (decls_in d)) of.program_is h))

-- ---- the errors of a link

pub too_many : (e : LinkError) → of_link e ≡ error.TooMany → e ≡ link.TooMany
too_many link.TooMany h = refl
too_many link.NoMemory h = cc
