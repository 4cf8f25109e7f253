-- Numbers of operators: what they rest on, and that they have 64 bits where their inputs do.
use Rattle.std.specs.Prelude.{◌≢◌, bit_and, bit_or, bit_xor, ℤ, pos, negsuc, if◌then◌else◌, nat_lt, nat_le, ◌==◌, fold}
use Rattle.std.specs.List.{list_any}
use Rattle.std.proofs.Common.{◌≡◌, ℕ, zero, suc, ◌+◌, ◌*◌, ◌%◌, ◌^◌, ◌<◌, Bool, true, false, All, List, [], ◌∷◌, refl, ◌∙◌, ap, subst, arith}
use Rattle.std.specs.Prelude.{slice_index}
use Rattle.std.proofs.lemmas.List.Elements.{All-head, All-tail}
use Rattle.std.proofs.lemmas.Nat.{and_mod, or_mod, xor_mod, mod_below, pow_pos}
use Rattle.std.proofs.Math.Nat.{div-le_self}
use Rattle.cell_core.specs.bits_core.Bits.{bits_of, signed_of, div_u_of, mod_u_of}
use Rattle.cell_core.specs.xdp_machine.Arithmetic.{low}
use Rattle.cell_core.specs.xdp_machine.State.{PacketIn}
use Rattle.cell_core.specs.declared.operator.Operator.{Operator}
use Rattle.cell_core.specs.declared.operator.Operator.TheVariants.{Join, SignExtend, Not, And, Or, Xor, Any, Select, Phi, Difference, Quotient, Remainder, Add, Sub, Mul, ShiftLeft, ShiftRight, Equal, Less, LessOrEqual, NonZero}
use Rattle.cell_core.specs.Cells.{bit, on, number, phi}
use Rattle.cell_core.specs.Formed.{divides}
use Rattle.cell_nets.specs.Computing.{is_operation, takes_all}

-- the number is that of the first three inputs
inputs_number : (packet : PacketIn) (op : Operator) (xs : List ℕ) → takes_all op ≡ false → number packet op (slice_index xs 0 ∷ slice_index xs 1 ∷ slice_index xs 2 ∷ []) ≡ number packet op xs
inputs_number packet (Join bits) xs h = cc
inputs_number packet Any xs h = cc
inputs_number packet Phi xs h = cc
inputs_number packet op xs h = refl

pub from_inputs : (packet : PacketIn) (op : Operator) (xs : List ℕ) (x y z : ℕ) → takes_all op ≡ false → x ≡ slice_index xs 0 → y ≡ slice_index xs 1 → z ≡ slice_index xs 2 → number packet op (x ∷ y ∷ z ∷ []) ≡ number packet op xs
from_inputs packet op xs x y z h e f g =
    ap (λ k. number packet op (k ∷ y ∷ z ∷ [])) e ∙ ap (λ k. number packet op (slice_index xs 0 ∷ k ∷ z ∷ [])) f
    ∙ ap (λ k. number packet op (slice_index xs 0 ∷ slice_index xs 1 ∷ k ∷ [])) g
    ∙ inputs_number packet op xs h

-- the number is that of two where there is no choice
two_inputs : (packet : PacketIn) (op : Operator) (x y z : ℕ) → takes_all op ≡ false → op ≢ Select → number packet op (x ∷ y ∷ []) ≡ number packet op (x ∷ y ∷ z ∷ [])
two_inputs packet (Join bits) x y z h s = cc
two_inputs packet Any x y z h s = cc
two_inputs packet Phi x y z h s = cc
two_inputs packet Select x y z h s = absurd (s refl)
two_inputs packet op x y z h s = refl

pub pair_number : (packet : PacketIn) (op : Operator) (xs : List ℕ) (x y : ℕ) → takes_all op ≡ false → op ≢ Select → x ≡ slice_index xs 0 → y ≡ slice_index xs 1 → number packet op (x ∷ y ∷ []) ≡ number packet op xs
pair_number packet op xs x y h s e f = two_inputs packet op x y (slice_index xs 2) h s ∙ from_inputs packet op xs x y (slice_index xs 2) h e f refl

-- ---- below 2 ^ 64
abbrev Small : ℕ → Type 0
Small n = n < 2 ^ 64

low_small : (n : ℕ) → Small (n % 2 ^ 64)
low_small n = mod_below n (2 ^ 64) (pow_pos 64)

bitwise_small : (f : ℕ → ℕ → ℕ) → ((a b k : ℕ) → f a b % 2 ^ k ≡ f (a % 2 ^ k) (b % 2 ^ k)) → (x y : ℕ) → Small (f (x % 2 ^ 64) (y % 2 ^ 64))
bitwise_small f law x y = subst Small (law x y 64) (low_small (f x y))

bit_small : (b : Bool) → Small (bit b)
bit_small true = omega arith
bit_small false = omega arith

choice_small : (b : Bool) (x y : ℕ) → Small x → Small y → Small (if b then x else y)
choice_small true x y h l = h
choice_small false x y h l = l

signed_small : (z : ℤ) → Small (bits_of 64 z)
signed_small (pos n) = low_small n
signed_small (negsuc n) = omega arith

div_small : (a b : ℕ) → Small a → Small (div_u_of a b)
div_small a zero h = omega arith
div_small a (suc b) h = omega (arith, div-le_self a (suc b))

mod_small : (a b : ℕ) → Small a → Small (mod_u_of a b)
mod_small a zero h = h
mod_small a (suc b) h = omega (arith, mod_below a (suc b) (omega arith))

input_small : (xs : List ℕ) (i : ℕ) → All Small xs → Small (slice_index xs i)
input_small [] i h = omega arith
input_small (x ∷ xs) zero h = All-head Small x xs h
input_small (x ∷ xs) (suc i) h = input_small xs i (All-tail Small x xs h)

joined_small : (bits higher : ℕ) (xs : List ℕ) → Small higher → Small (fold (λ h x. low 64 (low 64 (h * 2 ^ bits) + x)) higher xs)
joined_small bits higher [] h = h
joined_small bits higher (x ∷ xs) h = joined_small bits (low 64 (low 64 (higher * 2 ^ bits) + x)) xs (low_small (low 64 (higher * 2 ^ bits) + x))

phi_small : (xs : List ℕ) → All Small xs → Small (phi xs)
phi_small [] h = omega arith
phi_small (e ∷ []) h = omega arith
phi_small (e ∷ x ∷ []) h = h 1 0 (omega arith)
phi_small (e ∷ x ∷ d ∷ more) h =
    let rest = All-tail Small e (x ∷ d ∷ more) h in
    choice_small (on e) x (phi (d ∷ more)) (All-head Small x (d ∷ more) rest) (phi_small (d ∷ more) (All-tail Small x (d ∷ more) rest))

pub operation_small : (packet : PacketIn) (op : Operator) (xs : List ℕ) → is_operation op ≡ true → (divides op ≡ false → All (λ n. n < 2 ^ 64) xs) → number packet op xs < 2 ^ 64
operation_small packet (Join bits) xs o h = joined_small bits 0 xs (omega arith)
operation_small packet (SignExtend bits) xs o h = signed_small (signed_of bits (low bits (slice_index xs 0)))
operation_small packet Not xs o h = omega arith
operation_small packet And xs o h = bitwise_small bit_and and_mod (slice_index xs 0) (slice_index xs 1)
operation_small packet Or xs o h = bitwise_small bit_or or_mod (slice_index xs 0) (slice_index xs 1)
operation_small packet Xor xs o h = bitwise_small bit_xor xor_mod (slice_index xs 0) (slice_index xs 1)
operation_small packet Any xs o h = bit_small (list_any on xs)
operation_small packet Select xs o h = choice_small (on (slice_index xs 0)) (slice_index xs 1) (slice_index xs 2) (input_small xs 1 (h refl)) (input_small xs 2 (h refl))
operation_small packet Phi xs o h = phi_small xs (h refl)
operation_small packet Difference xs o h = low_small _
operation_small packet Quotient xs o h = div_small (slice_index xs 0 % 2 ^ 64) (slice_index xs 1 % 2 ^ 64) (low_small (slice_index xs 0))
operation_small packet Remainder xs o h = mod_small (slice_index xs 0 % 2 ^ 64) (slice_index xs 1 % 2 ^ 64) (low_small (slice_index xs 0))
operation_small packet Add xs o h = low_small _
operation_small packet Sub xs o h = low_small _
operation_small packet Mul xs o h = low_small _
operation_small packet ShiftLeft xs o h = low_small _
operation_small packet ShiftRight xs o h = omega (arith, div-le_self (slice_index xs 0 % 2 ^ 64) (2 ^ (slice_index xs 1 % 2 ^ 64 % 64)), low_small (slice_index xs 0))
operation_small packet Equal xs o h = bit_small (slice_index xs 0 % 2 ^ 64 == slice_index xs 1 % 2 ^ 64)
operation_small packet Less xs o h = bit_small (nat_lt (slice_index xs 0 % 2 ^ 64) (slice_index xs 1 % 2 ^ 64))
operation_small packet LessOrEqual xs o h = bit_small (nat_le (slice_index xs 0 % 2 ^ 64) (slice_index xs 1 % 2 ^ 64))
operation_small packet NonZero xs o h = choice_small (on (slice_index xs 0)) (slice_index xs 0) 1 (input_small xs 0 (h refl)) (omega arith)
operation_small packet op xs o h = cc
