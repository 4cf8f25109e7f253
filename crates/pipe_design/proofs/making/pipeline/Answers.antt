use Rattle.std.specs.Prelude.{Err}
use Rattle.std.specs.Result.{IsErrAnd}
use Rattle.std.proofs.Common.{◌≡◌, ap, sym, subst, slice_index}
use Rattle.net_core.specs.View.{netlist_of}
use Rattle.stage_net.specs.SiteTable.Constants.{AreEarly}
use Rattle.pipe_design.specs.declared.error.PipelineError.TheVariants as error
use Rattle.pipe_design.specs.Errors.{of_link}
use Rattle.pipe_design.specs.Pipeline.{IsPipelineOf, IsTooLarge}
use Rattle.pipe_design.proofs.Made.{of_program, too_many}
use Rattle.pipe_design.proofs.making.pipeline.Goals as goal

pub returns-in_err-design-clause-large : goal.returns-in_err-design-clause-large
returns-in_err-design-clause-large c = λ e.
    let x = c.in_err-design.field-0.0 in
    let is : error.TooMany ≡ of_link x = subst (λ r. IsErrAnd r (λ y. y ≡ of_link x)) e c.from_residual-in_err-design.ensures.1 in
    of_program IsTooLarge c.args.program.now c.args.plan.now c.args.decls.now c.in_ok-pipeline_plan.pipeline_plan c.in_ok-pipeline_plan.ensures.pipeline_plan (c.in_err-design.ensures.large (ap Err (too_many x (sym is))))

pub returns-in_err-design-clause-late : goal.returns-in_err-design-clause-late
returns-in_err-design-clause-late c = λ few late.
    let of = c.in_ok-pipeline_plan.ensures.pipeline_plan in
    absurd (late (of_program (λ p plan decls. AreEarly p (slice_index plan.rows)) c.args.program.now c.args.plan.now c.args.decls.now c.in_ok-pipeline_plan.pipeline_plan of of.is.early))

pub returns-clause-design : goal.returns-clause-design
returns-clause-design c =
    of_program (λ p plan decls. IsPipelineOf p plan decls (netlist_of c.in_ok-design.design)) c.args.program.now c.args.plan.now c.args.decls.now c.in_ok-pipeline_plan.pipeline_plan c.in_ok-pipeline_plan.ensures.pipeline_plan c.in_ok-design.ensures.design

pub returns-clause-late : goal.returns-clause-late
returns-clause-late c = λ few late.
    let of = c.in_ok-pipeline_plan.ensures.pipeline_plan in
    absurd (late (of_program (λ p plan decls. AreEarly p (slice_index plan.rows)) c.args.program.now c.args.plan.now c.args.decls.now c.in_ok-pipeline_plan.pipeline_plan of of.is.early))
