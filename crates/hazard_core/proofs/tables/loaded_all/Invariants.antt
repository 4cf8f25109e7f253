use Rattle.std.proofs.Common.{◌≡◌, ℕ, ◌<◌, take, length}
use Rattle.xdp_maps.specs.State.{decl_at}
use Rattle.hazard_core.specs.Tables.{table_at, slot_at, loaded_tables}
use Rattle.hazard_core.specs.Shaped.{IsShaped}
use Rattle.hazard_core.proofs.tables.loaded_all.Given as goal

abbrev pub invariant-loop-map : goal.invariant-loop-map
invariant-loop-map l = l.tables.items ≡ take l.map (loaded_tables l.maps.decls l.maps.contents)
