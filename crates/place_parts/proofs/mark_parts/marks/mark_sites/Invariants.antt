use Rattle.std.proofs.Common.{◌≡◌, ℕ, ◌<◌, length, get_or}
use Rattle.block_core.specs.declared.name.Name.{Name}
use Rattle.read_net.specs.declared.mark_net.nets.MarkSite.{MarkSite}
use Rattle.pipe_net.specs.declared.parts.Part.{Part}
use Rattle.place_parts.specs.MarkParts.Marks.{IsMark}
use Rattle.place_parts.proofs.mark_parts.marks.mark_sites.Given as goal

abbrev pub invariant-loop-i : goal.invariant-loop-i
invariant-loop-i l = record {
  count : length l.all.items ≡ l.i;
  each : (i : ℕ) (m : MarkSite (Name Part)) → i < l.i → IsMark l.layout l.sites l.changes l.k i (get_or l.all.items i m);
}
