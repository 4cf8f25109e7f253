use Rattle.std.proofs.Common.{◌≡◌, ℕ, ◌<◌, get_or}
use Rattle.xdp_machine.specs.xdp_maps.declared.decl.MapDecl.{MapDecl}
use Rattle.cover_core.proofs.covering.are_same_decls.Given as goal

abbrev pub invariant-loop-i : goal.invariant-loop-i
invariant-loop-i l = (j : ℕ) (d : MapDecl) → j < l.i → get_or l.xs j d ≡ get_or l.ys j d
