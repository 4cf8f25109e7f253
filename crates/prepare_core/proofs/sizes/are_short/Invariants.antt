use Rattle.std.proofs.Common.{◌≤◌, length}
use Rattle.std.specs.List.{AllWithin}
use Rattle.prepare_core.proofs.sizes.are_short.Given as goal

abbrev pub invariant-loop-map : goal.invariant-loop-map
invariant-loop-map l = AllWithin (λ m. length m.name.now ≤ 64) l.maps 0 l.map-index
