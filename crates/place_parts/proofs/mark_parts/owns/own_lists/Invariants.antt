use Rattle.std.specs.declared.vec.Vec.{Vec}
use Rattle.std.specs.declared.alloc.Global.{Global}
use Rattle.std.proofs.Common.{◌≡◌, ℕ, ◌<◌, length, get_or}
use Rattle.block_core.specs.declared.name.Name.{Name}
use Rattle.read_net.specs.declared.touch_net.change.OwnKey.{OwnKey}
use Rattle.pipe_net.specs.declared.parts.Part.{Part}
use Rattle.place_parts.specs.MarkParts.Owns.{bytes_at, AreOwns}
use Rattle.place_parts.proofs.mark_parts.owns.own_lists.Given as goal

abbrev pub invariant-loop-i : goal.invariant-loop-i
invariant-loop-i l = record {
  count : length l.lists.items ≡ l.i;
  each : (i : ℕ) (d : Vec (OwnKey (Name Part)) Global) → i < l.i → AreOwns l.layout l.sites (bytes_at l.layout l.k i) (get_or l.lists.items i d).items;
}
