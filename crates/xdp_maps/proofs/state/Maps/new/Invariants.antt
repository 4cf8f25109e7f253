use Rattle.std.proofs.Common.{◌≡◌, ◌≤◌, take, map, vec_capacity, vec_len, length}
use Rattle.xdp_maps.specs.Contents.{opened}
use Rattle.xdp_maps.specs.Tables.{contents_of, AreTables}
use Rattle.xdp_maps.proofs.state.Maps.new.Given as goal

abbrev pub invariant-loop-decl : goal.invariant-loop-decl
invariant-loop-decl l = record {
  own : l.own.items ≡ take l.decl-index l.decls;
  tables : map contents_of l.tables.items ≡ map opened (take l.decl-index l.decls);
  kept : AreTables (take l.decl-index l.decls) l.tables.items;
  count : vec_len l.tables ≡ l.decl-index;
  own_count : vec_len l.own ≡ l.decl-index;
  room : length l.decls ≤ vec_capacity l.tables;
  own_room : length l.decls ≤ vec_capacity l.own;
}
