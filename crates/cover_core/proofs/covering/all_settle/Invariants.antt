use Rattle.std.proofs.Common.{◌≡◌}
use Rattle.std.specs.List.{AllWithin}
use Rattle.cover_core.specs.Cover.{Settles}
use Rattle.cover_core.proofs.covering.all_settle.Given as goal

abbrev pub invariant-loop-edge : goal.invariant-loop-edge
invariant-loop-edge l = AllWithin (λ x. x.from ≡ l.node → Settles l.a l.b l.unfolded l.origin l.i l.j x) l.unfolded.edges.items 0 l.edge-index
