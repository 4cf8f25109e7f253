use Rattle.std.proofs.Common.{◌<◌, length}
use Rattle.std.specs.List.{AllWithin}
use Rattle.prepare_core.proofs.sizes.are_within.Given as goal

abbrev pub invariant-loop-reference : goal.invariant-loop-reference
invariant-loop-reference l = AllWithin (λ r. r.1 < length l.maps) l.refs 0 l.reference-index
