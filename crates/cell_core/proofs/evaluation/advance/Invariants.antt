use Rattle.std.proofs.Common.{◌≡◌, take, map as map_list}
use Rattle.xdp_state.specs.xdp_maps.State.{MapState}
use Rattle.cell_core.specs.Cells.{value_in}
use Rattle.cell_core.specs.Sites.{after}
use Rattle.cell_core.specs.View.{site_of}
use Rattle.cell_core.proofs.evaluation.advance.Given as goal

abbrev pub invariant-loop-i : goal.invariant-loop-i
invariant-loop-i l =
    (l.maps.decls ≡ l.fn.maps.decls)
    × ((start : MapState) → l.fn.maps ≡ after (value_in l.values) start (take l.fn.from (map_list site_of l.sites)) → l.maps ≡ after (value_in l.values) start (take l.i (map_list site_of l.sites)))
