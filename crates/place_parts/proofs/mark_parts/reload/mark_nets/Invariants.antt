use Rattle.std.proofs.Common.{◌≡◌, ℕ, ◌<◌, length, get_or}
use Rattle.block_core.specs.declared.name.Name.{Name}
use Rattle.read_net.specs.declared.touch_net.marks.MarkNets.{MarkNets}
use Rattle.pipe_net.specs.declared.parts.Part.{Part}
use Rattle.place_parts.specs.MarkParts.Reload.{IsMarkNets}
use Rattle.place_parts.proofs.mark_parts.reload.mark_nets.Given as goal

abbrev pub invariant-loop-i : goal.invariant-loop-i
invariant-loop-i l = record {
  count : length l.nets.items ≡ l.i;
  each : (i : ℕ) (m : MarkNets (Name Part)) → i < l.i → IsMarkNets l.layout l.sites l.k i (get_or l.nets.items i m);
}
