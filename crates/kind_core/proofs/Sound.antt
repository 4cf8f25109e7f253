-- Results of tests, and numbers of which something is known.
use Rattle.std.proofs.Common.{◌≡◌, ℕ, ◌<◌, ◌^◌, inl, inr, refl, ap, ◌∙◌, subst, Option, Some, Ok}
use Rattle.xdp_machine.specs.xdp_maps.State.{MapState}
use Rattle.xdp_machine.specs.Values.{Value, held}
use Rattle.xdp_machine.specs.Values as is
use Rattle.kind_core.specs.declared.number.Number.{Number}
use Rattle.kind_core.specs.declared.number.Number.TheVariants.{Known, Between}
use Rattle.kind_core.specs.declared.kind.Kind.{Kind}
use Rattle.kind_core.specs.declared.kind.Kind.TheVariants.{Unset, Num, Packet, Var, End, Stack, Ctx, MapRef, Maybe, Entry, Stale, Mixed}
use Rattle.kind_core.specs.NumberBounds.{any_number}
use Rattle.kind_core.specs.Numbers.{from_one, from_two}
use Rattle.kind_core.specs.Tests.{passed, readable, number_in}
use Rattle.kind_core.specs.Describes.{World, Describes, DescribesNumber}
use Rattle.kind_core.proofs.BoundLaws.{NumberIs, any_is}

-- there is a value, which the kind describes
abbrev pub Gives : World → MapState → Option Value → Kind → Type 0
Gives w maps o k = (v : Value) × (o ≡ Some v) × Describes w maps k v

pub number_of : (n : Number) (x : Value) → DescribesNumber n x → (y : ℕ) × (x ≡ is.Number y) × NumberIs n y
number_of (Known a) x h = (a, h, refl)
number_of (Between lo hi) x h = (h.0, h.1, (h.2, h.3))

pub of_number : (n : Number) (y : ℕ) → NumberIs n y → DescribesNumber n (is.Number y)
of_number (Known a) y h = ap is.Number h
of_number (Between lo hi) y h = (y, refl, h.0, h.1)

pub one_is : (bits : ℕ) (f : ℕ → ℕ) (n : Number) (y : ℕ) → f y < 2 ^ bits → NumberIs n y → NumberIs (from_one bits f n) (f y)
one_is bits f (Known a) y short h = ap f h
one_is bits f (Between lo hi) y short h = any_is bits (f y) short

pub two_is : (bits : ℕ) (f : ℕ → ℕ → ℕ) (n m : Number) (x y : ℕ) → f x y < 2 ^ bits → NumberIs n x → NumberIs m y → NumberIs (from_two bits f n m) (f x y)
two_is bits f (Known a) (Known b) x y short p q = ap (λ z. f z y) p ∙ ap (f a) q
two_is bits f (Known a) (Between lo hi) x y short p q = any_is bits (f x y) short
two_is bits f (Between lo hi) m x y short p q = any_is bits (f x y) short

-- any number of so many bits
pub any_described : (bits y : ℕ) → y < 2 ^ bits → DescribesNumber (any_number bits) (is.Number y)
any_described bits y h = of_number (any_number bits) y (any_is bits y h)

-- a value that is read is there
pub held_is : (w : World) (maps : MapState) (k : Kind) (v : Value) → readable k ≡ passed → Describes w maps k v → held v ≡ Some v
held_is w maps Unset v h d = cc
held_is w maps Mixed v h d = cc
held_is w maps Stale v h d = cc
held_is w maps (Num n) v h d = let y = number_of n v d in rw (y.1) refl
held_is w maps (Packet o) v h d = rw d refl
held_is w maps (Var b f) v h d = rw (d.value) refl
held_is w maps End v h d = rw d refl
held_is w maps (Stack o) v h d = rw d refl
held_is w maps Ctx v h d = rw d refl
held_is w maps (MapRef q) v h d = rw d refl
held_is w maps (Maybe q n) v h (before, gave, inl z) = rw z refl
held_is w maps (Maybe q n) v h (before, gave, inr (key, there, z)) = rw z refl
held_is w maps (Entry q o) v h (key, there, z) = rw z refl

pub is_number : (a : Kind) (n : Number) → number_in a ≡ Ok n → a ≡ Num n
is_number (Num m) n e = cc
is_number a n e = cc

-- the number of a kind that is one
pub numbered : (w : World) (maps : MapState) (a : Kind) (n : Number) (x : Value) → number_in a ≡ Ok n → Describes w maps a x → (y : ℕ) × (x ≡ is.Number y) × NumberIs n y
numbered w maps a n x e d = number_of n x (subst (λ k. Describes w maps k x) (is_number a n e) d)
