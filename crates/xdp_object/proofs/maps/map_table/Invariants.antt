use Rattle.std.proofs.Common.{◌≡◌}
use Rattle.xdp_object.specs.Maps.{AreMaps, all_in_places, no_maps}
use Rattle.xdp_object.proofs.maps.map_table.Given as goal

-- the maps of all places are those so far and of the places that are left
abbrev pub invariant-loop-said : goal.invariant-loop-said
invariant-loop-said l = record {
  so_far : all_in_places l.hash_cap l.view no_maps l.places 0 ≡ all_in_places l.hash_cap l.view l.table l.places l.said-index;
  maps : AreMaps l.table;
}
