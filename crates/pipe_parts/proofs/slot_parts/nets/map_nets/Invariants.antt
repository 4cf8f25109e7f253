use Rattle.std.proofs.Common.{◌≡◌, ℕ, ◌<◌, length, get_or}
use Rattle.block_core.specs.declared.name.Name.{Name}
use Rattle.read_net.specs.declared.sites.MapNets.{MapNets}
use Rattle.pipe_net.specs.declared.parts.Part.{Part}
use Rattle.pipe_parts.specs.SlotParts.Nets.{IsMapIn}
use Rattle.pipe_parts.proofs.slot_parts.nets.map_nets.Given as goal

abbrev pub invariant-loop-m : goal.invariant-loop-m
invariant-loop-m l = record {
  count : length l.nets.items ≡ l.m;
  each : (m : ℕ) (n : MapNets (Name Part)) → m < l.m → IsMapIn l.pipeline_plan m (get_or l.nets.items m n);
}
