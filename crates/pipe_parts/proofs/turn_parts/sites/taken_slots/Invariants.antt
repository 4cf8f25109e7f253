use Rattle.std.specs.List.{filter}
use Rattle.std.proofs.Common.{◌≡◌, take}
use Rattle.pipe_parts.specs.PipeDraft.PipelinePlan.{program_in, decls_in}
use Rattle.pipe_parts.specs.TurnParts.Sites.{keeps_at, taken_at}
use Rattle.pipe_parts.proofs.turn_parts.sites.taken_slots.Given as goal

abbrev pub invariant-loop-i : goal.invariant-loop-i
invariant-loop-i l = l.taken.items ≡ taken_at l.pipeline_plan.sizes l.shape.slot_bits 1 (filter (keeps_at (program_in l.pipeline_plan) (decls_in l.pipeline_plan)) (take l.i l.pipeline_plan.records.items))
