use Rattle.std.proofs.Common.{◌≡◌, take}
use Rattle.xdp_maps.specs.State.{decl_at, contents_at}
use Rattle.hazard_core.specs.Tables.{loaded_as}
use Rattle.hazard_core.proofs.tables.loaded_table.Given as goal

abbrev pub invariant-loop-i : goal.invariant-loop-i
invariant-loop-i l = l.slots.items ≡ take l.i (loaded_as (decl_at l.maps l.map).kind (decl_at l.maps l.map) (contents_at l.maps l.map))
