use Rattle.pipe_parts.specs.PipeDraft.PipelinePlan.{program_in}
use Rattle.pipe_design.proofs.MapParts.Taking.{HaveTaken}
use Rattle.pipe_design.proofs.map_parts.operations.operations.Given as goal

abbrev pub invariant-loop-place : goal.invariant-loop-place
invariant-loop-place l = HaveTaken (program_in l.pipeline_plan) l.sites l.chosen l.targets l.map l.place l.all.items
