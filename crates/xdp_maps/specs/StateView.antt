-- What is seen of the maps in memory. No caller's clause cites this.
use Rattle.std.specs.Prelude.{map as map_list}
use Rattle.xdp_maps.specs.declared.state.Maps.TheInside.{Inside}
use Rattle.xdp_maps.specs.State.{MapState}
use Rattle.xdp_maps.specs.Tables.{contents_of, AreTables}

abbrev pub view_of : Inside → MapState
view_of a = record { decls = a.decls.items; contents = map_list contents_of a.tables.items }

abbrev pub IsState : Inside → Type 0
IsState a = AreTables a.decls.items a.tables.items
