-- The bytes of a number.
use Rattle.std.specs.Int.{byte_at}
use Rattle.std.proofs.Common.{◌≡◌, ℕ, zero, suc, ◌/◌, ◌%◌, ◌^◌, ◌<◌, refl, sym, ap, arith}
use Rattle.std.proofs.Math.Nat.{div-one}
use Rattle.std.proofs.lemmas.Nat.{mod_below}

pub byte_is : (j x : ℕ) → byte_at j x ≡ x / 256 ^ j % 256
byte_is zero x = ap (λ y. y % 256) (sym (div-one x))
byte_is (suc j) x = refl

pub byte_small : (j x : ℕ) → byte_at j x < 256
byte_small j x = omega (arith, byte_is j x, mod_below (x / 256 ^ j) 256 (omega arith))
