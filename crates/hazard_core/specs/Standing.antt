-- The tables stand for maps.
use Rattle.std.specs.Prelude.{◌≡◌}
use Rattle.xdp_maps.specs.State.{MapState, IsSound}
use Rattle.hazard_core.specs.Tables.{tables_of, maps_of}

-- The tables that a load leaves stand for the maps that were loaded.
abbrev pub TablesStand : Type 0
TablesStand = (maps : MapState) → IsSound maps → maps_of (tables_of maps) ≡ maps
