use Rattle.std.specs.Prelude.{slice_index}
use Rattle.std.proofs.Common.{◌≡◌, ℕ, ◌<◌, length, get_or}
use Rattle.block_core.specs.declared.name.Name.{Name}
use Rattle.hazard_core.specs.cell_core.Sites.{site_at}
use Rattle.turn_net.specs.declared.nets.RecordNets.{RecordNets}
use Rattle.pipe_net.specs.declared.parts.Part.{Part}
use Rattle.pipe_parts.specs.PipeDraft.PipelinePlan.{program_in}
use Rattle.pipe_parts.proofs.turn_parts.commits.maps_of.Given as goal

abbrev pub invariant-loop-i : goal.invariant-loop-i
invariant-loop-i l = record {
  count : length l.maps.items ≡ l.i;
  each : (k : ℕ) (r : RecordNets (Name Part)) → k < l.i → slice_index l.maps.items k ≡ (site_at (program_in l.pipeline_plan).sites (get_or l.records k r).number).map;
}
