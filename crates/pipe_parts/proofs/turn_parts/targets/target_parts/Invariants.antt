use Rattle.std.proofs.Common.{◌≡◌, ℕ, ◌<◌, length, get_or}
use Rattle.block_core.specs.declared.name.Name.{Name}
use Rattle.read_net.specs.declared.sites.MapNets.{MapNets}
use Rattle.commit_net.specs.declared.map_block.form.MapForm.{MapForm}
use Rattle.turn_net.specs.declared.target_net.targets.TargetPart.{TargetPart}
use Rattle.pipe_net.specs.declared.parts.Part.{Part}
use Rattle.pipe_parts.specs.TurnParts.Sites.{list_at}
use Rattle.pipe_parts.specs.TurnParts.Records.{IsTargetPart}
use Rattle.pipe_parts.proofs.turn_parts.targets.target_parts.Given as goal

abbrev pub invariant-loop-m : goal.invariant-loop-m
invariant-loop-m l = record {
  count : length l.parts.items ≡ l.m;
  each : (m : ℕ) (n : MapNets (Name Part)) (f : MapForm) (r : TargetPart Part) → m < l.m → IsTargetPart l.pipeline_plan m (get_or l.maps m n) (list_at l.owns m) l.taken (get_or l.pipeline_plan.forms.items m f) (get_or l.parts.items m r);
}
