-- what is written and what is to come are the map's lines
use Rattle.std.proofs.Common.{◌≡◌, ◌-◌, ◌++◌}
use Rattle.xdp_maps.specs.State.{decl_at, contents_at}
use Rattle.maps_text.specs.Writing.{pairs_text, map_text}
use Rattle.maps_text.proofs.write.push_map.Given as goal

abbrev pub invariant-loop-i : goal.invariant-loop-i
invariant-loop-i l =
    let d = decl_at l.maps l.map in
    let c = contents_at l.maps l.map in
    record {
      whole : l.i-end ≡ d.cap;
      written : l.text.items ++ pairs_text d c l.i (d.cap - l.i) ≡ l.fn.text.items ++ map_text d c;
    }
