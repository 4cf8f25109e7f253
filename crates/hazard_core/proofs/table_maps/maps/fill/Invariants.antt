use Rattle.std.proofs.Common.{◌≡◌, ◌≤◌, drop, length}
use Rattle.xdp_maps.specs.State.{decl_at, contents_at, with_contents}
use Rattle.hazard_core.specs.TableMaps.Refilled.{refilled}
use Rattle.hazard_core.proofs.table_maps.maps.fill.Given as goal

abbrev pub invariant-loop-i : goal.invariant-loop-i
invariant-loop-i l = record {
  within : l.i ≤ length l.slots;
  maps : l.maps ≡ with_contents l.initial.maps l.map (refilled (decl_at l.initial.maps l.map) (drop l.i l.slots) (contents_at l.initial.maps l.map));
}

abbrev pub decreases-loop-i : goal.decreases-loop-i
decreases-loop-i l = l.i
