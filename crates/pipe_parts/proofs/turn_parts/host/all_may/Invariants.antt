use Rattle.std.proofs.Common.{◌≡◌, ℕ, ◌<◌, length, map, get_or}
use Rattle.net_core.specs.View.{tree_of}
use Rattle.turn_net.specs.HostNet.Host.{may_tree}
use Rattle.commit_net.specs.declared.map_block.form.MapForm.{MapForm}
use Rattle.commit_net.specs.MapBlock.Stored.{host_may}
use Rattle.pipe_net.specs.Parts as part
use Rattle.pipe_parts.specs.TurnParts.Nets.{idle_of}
use Rattle.pipe_parts.proofs.turn_parts.host.all_may.Given as goal

abbrev pub invariant-loop-m : goal.invariant-loop-m
invariant-loop-m l = record {
  count : length (map tree_of l.may.items) ≡ l.m;
  each : (m : ℕ) (f : MapForm) → m < l.m → may_tree (map tree_of l.may.items) m ≡ host_may (get_or l.pipeline_plan.forms.items m f) (part.own l.pipeline_plan.sizes m) (idle_of l.pipeline_plan.sizes);
}
