use Rattle.std.specs.Prelude.{◌==◌}
use Rattle.std.specs.List.{filter}
use Rattle.std.proofs.Common.{◌≡◌, All, take}
use Rattle.hazard_core.specs.cell_core.Sites.{site_at}
use Rattle.read_net.specs.Sites.{sites_of}
use Rattle.pipe_parts.specs.PipeDraft.PipelinePlan.{program_in}
use Rattle.pipe_parts.specs.TurnParts.Sites.{IsOwnOf}
use Rattle.pipe_parts.proofs.turn_parts.sites.own_sites.Given as goal

abbrev pub invariant-loop-i : goal.invariant-loop-i
invariant-loop-i l = record {
  sites : sites_of l.owns.items ≡ filter (λ j. (site_at (program_in l.pipeline_plan).sites j).map == l.m) (take l.i l.pipeline_plan.records.items);
  each : All (IsOwnOf l.pipeline_plan l.at l.m) l.owns.items;
}
