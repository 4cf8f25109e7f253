-- Why a program has no pipeline, where it has no pipeline plan or its parts cannot be linked.
use Rattle.block_core.specs.declared.error.LinkError.{LinkError}
use Rattle.block_core.specs.declared.error.LinkError.TheVariants as link
use Rattle.pipe_parts.specs.declared.pipe_draft.error.PipelinePlanError.{PipelinePlanError}
use Rattle.pipe_parts.specs.declared.pipe_draft.error.PipelinePlanError.TheVariants as pipeline_plan
use Rattle.pipe_design.specs.declared.error.PipelineError.{PipelineError}
use Rattle.pipe_design.specs.declared.error.PipelineError.TheVariants as pipeline

abbrev pub of_pipeline_plan : PipelinePlanError → PipelineError
of_pipeline_plan pipeline_plan.TooManySites = pipeline.TooManySites
of_pipeline_plan pipeline_plan.LateNumber = pipeline.LateNumber
of_pipeline_plan pipeline_plan.NoMemory = pipeline.NoMemory

abbrev pub of_link : LinkError → PipelineError
of_link link.TooMany = pipeline.TooMany
of_link link.NoMemory = pipeline.NoMemory
