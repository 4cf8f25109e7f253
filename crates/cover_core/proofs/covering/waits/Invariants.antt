use Rattle.std.proofs.Common.{◌≡◌}
use Rattle.std.specs.List.{AllWithin}
use Rattle.cover_core.specs.Cover.{origin_of}
use Rattle.cover_core.proofs.covering.waits.Given as goal

abbrev pub invariant-loop-edge : goal.invariant-loop-edge
invariant-loop-edge l = AllWithin (λ x. x.from ≡ l.node → origin_of l.unfolded l.origin x.to ≡ origin_of l.unfolded l.origin l.node) l.unfolded.edges.items 0 l.edge-index
