use Rattle.std.proofs.Common.{◌≤◌, length, ap, arith}
use Rattle.hazard_core.proofs.TableMaps.Filling.{all_stand}
use Rattle.hazard_core.proofs.table_maps.maps.maps_of.Goals as goal

pub returns-clause-maps : goal.returns-clause-maps
returns-clause-maps c tables =
    let t = c.args.tables.now in
    let end : length t.decls ≤ c.loop-map.map = omega (arith, c.loop-map-test.false, ap length c.decls-2.ensures) in
    all_stand c.index_laws.ensures c.keeps_over.ensures t c.loop-map.map c.loop-map.maps end c.loop-map.invariant tables
