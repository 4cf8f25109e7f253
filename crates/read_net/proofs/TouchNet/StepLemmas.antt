-- Two tests in the other order.
use Rattle.std.proofs.Common.{◌≡◌, Bool, true, false, ◌&&◌, refl}

pub and_turned : (s t : Bool) → (s && t) ≡ (t && s)
and_turned true true = refl
and_turned true false = refl
and_turned false true = refl
and_turned false false = refl
