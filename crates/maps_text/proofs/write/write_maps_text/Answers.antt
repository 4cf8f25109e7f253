use Rattle.std.proofs.Common.{◌<◌, ◌≤◌, List, length, arith, ap}
use Rattle.xdp_maps.specs.declared.decl.MapDecl.{MapDecl}
use Rattle.maps_text.proofs.Written.{maps_begun, maps_on, maps_all}
use Rattle.maps_text.proofs.write.write_maps_text.Goals as goal

pub loop-map-init : goal.loop-map-init
loop-map-init c = record {
  whole = ap (λ (ds : List MapDecl). length ds) c.decls-map-end.ensures.decls;
  written = maps_begun c.args.maps.now c.new-text.result.items c.new-text.ensures.items;
}

pub loop-map-preserved : goal.loop-map-preserved
loop-map-preserved c =
    let within : c.loop-map.map < length c.args.maps.now.decls = omega (arith, c.loop-map-test.true, c.loop-map.invariant.whole) in
    record {
      whole = c.loop-map.invariant.whole;
      written = maps_on c.args.maps.now c.loop-map.map (length c.args.maps.now.decls) c.loop-map.text.items c.push_map.new.text.items _ within c.loop-map.invariant.written c.in_ok-push_map.ensures;
    }

pub returns : goal.returns
returns c =
    let past : length c.args.maps.now.decls ≤ c.loop-map.map = omega (arith, c.loop-map-test.false, c.loop-map.invariant.whole) in
    maps_all c.args.maps.now c.loop-map.map (length c.args.maps.now.decls) c.loop-map.text.items _ past c.loop-map.invariant.written
