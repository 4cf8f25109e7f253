use Rattle.std.proofs.Common.{ℕ, ◌<◌, ◌≢◌, get_or}
use Rattle.xdp_maps.specs.declared.decl.MapDecl.{MapDecl}
use Rattle.maps_text.proofs.decls.map_named.Given as goal

abbrev pub invariant-loop-i : goal.invariant-loop-i
invariant-loop-i l = (k : ℕ) (d : MapDecl) → k < l.i → l.name ≢ (get_or l.decls k d).name
