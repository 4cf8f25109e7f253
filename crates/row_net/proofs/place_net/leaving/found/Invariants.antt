use Rattle.std.proofs.Common.{◌≡◌}
use Rattle.std.specs.List.{AllWithin}
use Rattle.row_net.proofs.place_net.leaving.found.Given as goal

abbrev pub invariant-loop-byte : goal.invariant-loop-byte
invariant-loop-byte g l = AllWithin (λ x. ¬ (x.at ≡ l.at)) l.bytes 0 l.byte-index
