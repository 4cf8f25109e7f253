use Rattle.std.proofs.Common.{ℕ, ◌≡◌, ◌<◌, ◌≢◌, drop, get_or}
use Rattle.xdp_maps.specs.declared.decl.MapDecl.{MapDecl}
use Rattle.xdp_object.specs.Maps.{is_taken}
use Rattle.xdp_object.proofs.parts.is_taken.Given as goal

abbrev pub invariant-loop-decl : goal.invariant-loop-decl
invariant-loop-decl l = record {
  other : (k : ℕ) (d : MapDecl) → k < l.decl-index → (get_or l.decls k d).name ≢ l.name;
  value : is_taken l.decls l.name ≡ is_taken (drop l.decl-index l.decls) l.name;
}
