-- What is there only where a test passes.
use Rattle.std.specs.Prelude.{◌≡◌, ℕ, if◌then◌else◌, Bool, true, false, Some, None}
use Rattle.std.proofs.Common.{refl}

pub none_unless : (q : Bool) (n : ℕ) → q ≡ false → (if q then Some n else None) ≡ None
none_unless true n e = cc
none_unless false n e = refl
