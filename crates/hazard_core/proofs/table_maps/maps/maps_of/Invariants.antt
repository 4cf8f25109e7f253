use Rattle.hazard_core.specs.TableMaps.Refilled.{AreRefilled}
use Rattle.hazard_core.proofs.table_maps.maps.maps_of.Given as goal

abbrev pub invariant-loop-map : goal.invariant-loop-map
invariant-loop-map l = AreRefilled l.tables l.map l.maps
