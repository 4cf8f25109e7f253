use Rattle.std.proofs.Common.{◌≡◌, take, map}
use Rattle.xdp_maps.specs.Tables.{contents_of, AreTables}
use Rattle.xdp_maps.proofs.state.Maps.copy_from.Given as goal

abbrev pub invariant-loop-i : goal.invariant-loop-i
invariant-loop-i l = record {
  decls : l.self-inside.decls ≡ l.initial.self-inside.decls;
  kept : AreTables l.self-inside.decls.items l.self-inside.tables.items;
  done : take l.i (map contents_of l.self-inside.tables.items) ≡ take l.i (map contents_of l.from-inside.tables.items);
}
