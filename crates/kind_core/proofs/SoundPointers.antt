-- Arithmetic on values that kinds describe gives values that their kinds describe.
use Rattle.std.proofs.Common.{◌≡◌, ℕ, zero, suc, ◌+◌, ◌-◌, ◌^◌, ◌<◌, ◌≤◌, ℤ, pos, negsuc, ◌+ℤ◌, ◌-ℤ◌, neg_ℤ, ◌&&◌, int_le, int_lt, Bool, true, false, cond, nat_le, nat_lt, refl, ap, subst, arith, Some, None, Ok, Err, IfOk, List}
use Rattle.std.specs.Int.{w64, cast_unsigned}
use Rattle.std.specs.Prelude.{unsigned_abs}
use Rattle.std.specs.Ordering.{int_eq}
use Rattle.std.specs.Int.Signed.{mag}
use Rattle.xdp_machine.specs.Ranges.{InRange}
use Rattle.xdp_machine.proofs.NumberLaws.{word_of_difference}
use Rattle.std.proofs.lemmas.Int.{ints}
use Rattle.xdp_machine.specs.bits_core.Bits.{signed_of}
use Rattle.xdp_machine.specs.bpf_isa.declared.operation.Src.{Src}
use Rattle.xdp_machine.specs.bpf_isa.declared.operation.Width.{Width}
use Rattle.xdp_machine.specs.bpf_isa.declared.operation.Width.TheVariants.{Bits32, Bits64}
use Rattle.xdp_machine.specs.bpf_isa.declared.operation.AluCode.{AluCode}
use Rattle.xdp_machine.specs.bpf_isa.declared.operation.AluCode.TheVariants.{Add, Sub, Mov}
use Rattle.xdp_machine.specs.xdp_maps.declared.decl.MapDecl.{MapDecl}
use Rattle.xdp_machine.specs.xdp_maps.State.{MapState}
use Rattle.xdp_machine.specs.Values.{Value}
use Rattle.xdp_machine.specs.Values as is
use Rattle.xdp_machine.specs.Arithmetic.{bits_in, arithmetic, extended}
use Rattle.xdp_machine.specs.Pointers as machine
use Rattle.kind_core.specs.declared.number.Number.{Number}
use Rattle.kind_core.specs.declared.number.Number.TheVariants.{Known, Between}
use Rattle.kind_core.specs.declared.kind.Kind.{Kind}
use Rattle.kind_core.specs.declared.kind.Kind.TheVariants.{Unset, Num, Packet, Var, End, Stack, Entry}
use Rattle.xdp_state.specs.declared.refusal.Why.TheVariants as why
use Rattle.kind_core.specs.NumberBounds.{any_number}
use Rattle.kind_core.specs.Numbers.{number_extended}
use Rattle.kind_core.specs.Kinds.{value_bytes}
use Rattle.kind_core.specs.Tests.{◌>>=◌, passed, readable, within}
use Rattle.kind_core.specs.Pointers.{stack_at, moved, sum, difference, copied, computed, combined}
use Rattle.kind_core.specs.Describes.{World, Describes}
use Rattle.kind_core.proofs.BoundLaws.{low_below, result_of, arithmetic_is, number_sum_is, extended_is}
use Rattle.kind_core.proofs.Sound.{Gives, number_of, of_number, two_is, any_described, held_is}
use Rattle.kind_core.proofs.SoundBases.{at_value, var_gives}

-- a pointer that its kind lets stay in a region
within_gives : (w : World) (maps : MapState) (kind : ℕ → Kind) (point : ℤ → Value) (z : ℤ) (len : ℕ) → len ≤ 256 → ((a : ℕ) → Describes w maps (kind a) (point (pos a)))
    → IfOk (within z 0 len >>= (λ a. Ok (kind a))) (Gives w maps (machine.at_offset point z))
within_gives w maps kind point (negsuc a) len short d = tt
within_gives w maps kind point (pos a) len short d =
    (elim (nat_le (a + 0) len) as (λ t. (nat_le (a + 0) len ≡ t) → IfOk (cond t (Ok a) (Err why.Offset) >>= (λ b. Ok (kind b))) (Gives w maps (machine.at_offset point (pos a)))) [
      | true ↦ λ h. let fits : nat_lt a (2 ^ 63) ≡ true = grind arith in (point (pos a), ap (λ t. cond t (Some (point (pos a))) None) fits, d a)
      | false ↦ λ h. tt
    ]) refl

stack_fits : (z : ℤ) → (int_le (negsuc 511) z && int_le z (pos 0)) ≡ true → (int_le (negsuc (2 ^ 63 - 1)) z && int_lt z (pos (2 ^ 63))) ≡ true
stack_fits z h = grind (arith, ints)

stack_gives : (w : World) (maps : MapState) (z : ℤ) → IfOk (stack_at z) (Gives w maps (machine.at_offset is.Stack z))
stack_gives w maps z =
    (elim (int_le (negsuc 511) z && int_le z (pos 0)) as (λ t. ((int_le (negsuc 511) z && int_le z (pos 0)) ≡ t) → IfOk (cond t (Ok (Stack z)) (Err why.Offset)) (Gives w maps (machine.at_offset is.Stack z))) [
      | true ↦ λ h. (is.Stack z, ap (λ t. cond t (Some (is.Stack z)) None) (stack_fits z h), refl)
      | false ↦ λ h. tt
    ]) refl

-- the distance of a number
abbrev pub by_number : Bool → ℕ → ℤ
by_number back y = cond back (neg_ℤ (signed_of 64 y)) (signed_of 64 y)

pub moved_sound : (w : World) (maps : MapState) (decls : List MapDecl) → ((q : ℕ) → value_bytes decls q ≤ 64) → (back : Bool) (k : Kind) (n : Number) (x : Value) (y : ℕ)
    → Describes w maps k x → Describes w maps (Num n) (is.Number y)
    → IfOk (moved decls back k n) (Gives w maps (machine.moved x (by_number back y)))
moved_sound w maps decls small back k (Between lo hi) x y d e = unknown back k
  where
    unknown : (back : Bool) (k : Kind) → IfOk (moved decls back k (Between lo hi)) (Gives w maps (machine.moved x (by_number back y)))
    unknown back (Packet o) = tt
    unknown back (Var b f) = tt
    unknown back (Stack o) = tt
    unknown back (Entry q o) = tt
    unknown back k = tt
moved_sound w maps decls small back (Packet o) (Known b) x y d e =
    let same : y ≡ b = cc in
    rw (d, same) (within_gives w maps Packet is.Packet (pos o +ℤ by_number back b) 256 (omega arith) (λ a. refl))
moved_sound w maps decls small back (Var p f) (Known b) x y d e =
    let same : y ≡ b = cc in
    rw (d.value, same) (var_gives w maps p f (by_number back b) x d)
moved_sound w maps decls small back (Stack o) (Known b) x y d e =
    let same : y ≡ b = cc in
    rw (d, same) (stack_gives w maps (o +ℤ by_number back b))
moved_sound w maps decls small back (Entry q o) (Known b) x y (key, there, d) e =
    let same : y ≡ b = cc in
    let short : value_bytes decls q ≤ 256 = omega (arith, small q) in
    rw (d, same) (within_gives w maps (Entry q) (is.Entry q key) (pos o +ℤ by_number back b) (value_bytes decls q) short (λ a. (key, there, refl)))
moved_sound w maps decls small back k (Known b) x y d e = tt

pub sum_sound : (w : World) (maps : MapState) (decls : List MapDecl) → ((q : ℕ) → value_bytes decls q ≤ 64) → (a b : Kind) (x y : Value)
    → Describes w maps a x → Describes w maps b y → IfOk (sum decls a b) (Gives w maps (machine.sum x y))
sum_sound w maps decls small (Num n) (Num m) x y p q =
    let u = number_of n x p in
    let v = number_of m y q in
    rw (u.1, v.1) (is.Number (arithmetic Add false 64 u.0 v.0), refl, of_number _ _ (number_sum_is n m u.0 v.0 u.2 v.2))
sum_sound w maps decls small (Num n) (Packet o) x y p q = let u = number_of n x p in rw (u.1, q) (moved_sound w maps decls small false (Packet o) n (is.Packet (pos o)) u.0 refl (of_number n u.0 u.2))
sum_sound w maps decls small (Num n) (Var b f) x y p q =
    let u = number_of n x p in
    rw (u.1, q.value) (moved_sound w maps decls small false (Var b f) n (is.Packet (pos q.place +ℤ f)) u.0 (at_value w b f y q) (of_number n u.0 u.2))
sum_sound w maps decls small (Num n) (Stack o) x y p q = let u = number_of n x p in rw (u.1, q) (moved_sound w maps decls small false (Stack o) n (is.Stack o) u.0 refl (of_number n u.0 u.2))
sum_sound w maps decls small (Num n) (Entry t o) x y p (key, there, q) = let u = number_of n x p in rw (u.1, q) (moved_sound w maps decls small false (Entry t o) n (is.Entry t key (pos o)) u.0 (key, there, refl) (of_number n u.0 u.2))
sum_sound w maps decls small (Packet o) (Num n) x y q p = let u = number_of n y p in rw (u.1, q) (moved_sound w maps decls small false (Packet o) n (is.Packet (pos o)) u.0 refl (of_number n u.0 u.2))
sum_sound w maps decls small (Var b f) (Num n) x y q p =
    let u = number_of n y p in
    rw (u.1, q.value) (moved_sound w maps decls small false (Var b f) n (is.Packet (pos q.place +ℤ f)) u.0 (at_value w b f x q) (of_number n u.0 u.2))
sum_sound w maps decls small (Stack o) (Num n) x y q p = let u = number_of n y p in rw (u.1, q) (moved_sound w maps decls small false (Stack o) n (is.Stack o) u.0 refl (of_number n u.0 u.2))
sum_sound w maps decls small (Entry t o) (Num n) x y (key, there, q) p = let u = number_of n y p in rw (u.1, q) (moved_sound w maps decls small false (Entry t o) n (is.Entry t key (pos o)) u.0 (key, there, refl) (of_number n u.0 u.2))
sum_sound w maps decls small a Unset x y p q = tt
sum_sound w maps decls small a b x y p q = tt

-- a place in the packet has 64 bits with a sign
abbrev pub HasPlace : Value → Type 0
HasPlace (is.Packet z) = mag z < 2 ^ 63
HasPlace v = Unit {0}

pub has_place : (decls : List MapDecl) (v : Value) → InRange decls v → HasPlace v
has_place decls (is.Packet z) h = h.sfits
has_place decls v h = tt

-- two places in the packet have a distance
distance_gives : (w : World) (maps : MapState) (x y : Value) (a b : ℤ) → HasPlace x → HasPlace y → x ≡ is.Packet a → y ≡ is.Packet b
    → Gives w maps (Some (is.Number (cast_unsigned w64 (a -ℤ b)))) (Num (any_number 64))
distance_gives w maps x y a b p q e f =
    (is.Number (cast_unsigned w64 (a -ℤ b)), refl, any_described 64 (cast_unsigned w64 (a -ℤ b)) (word_of_difference a b (subst HasPlace e p) (subst HasPlace f q)))

pub difference_sound : (w : World) (maps : MapState) (decls : List MapDecl) → ((q : ℕ) → value_bytes decls q ≤ 64) → (a b : Kind) (x y : Value) → HasPlace x → HasPlace y
    → Describes w maps a x → Describes w maps b y → IfOk (difference decls a b) (Gives w maps (machine.difference x y))
difference_sound w maps decls small (Num n) (Num m) x y px py p q =
    let u = number_of n x p in
    let v = number_of m y q in
    rw (u.1, v.1) (is.Number (arithmetic Sub false 64 u.0 v.0), refl, of_number _ _ (two_is 64 (arithmetic Sub false 64) n m u.0 v.0 (low_below 64 _) u.2 v.2))
difference_sound w maps decls small (Packet o) (Num n) x y px py q p = let u = number_of n y p in rw (u.1, q) (moved_sound w maps decls small true (Packet o) n (is.Packet (pos o)) u.0 refl (of_number n u.0 u.2))
difference_sound w maps decls small (Var b f) (Num n) x y px py q p =
    let u = number_of n y p in
    rw (u.1, q.value) (moved_sound w maps decls small true (Var b f) n (is.Packet (pos q.place +ℤ f)) u.0 (at_value w b f x q) (of_number n u.0 u.2))
difference_sound w maps decls small (Stack o) (Num n) x y px py q p = let u = number_of n y p in rw (u.1, q) (moved_sound w maps decls small true (Stack o) n (is.Stack o) u.0 refl (of_number n u.0 u.2))
difference_sound w maps decls small (Entry t o) (Num n) x y px py (key, there, q) p = let u = number_of n y p in rw (u.1, q) (moved_sound w maps decls small true (Entry t o) n (is.Entry t key (pos o)) u.0 (key, there, refl) (of_number n u.0 u.2))
difference_sound w maps decls small (Packet o) (Packet t) x y px py p q = rw (p, q) (is.Number (cast_unsigned w64 (pos o -ℤ pos t)), refl, refl)
difference_sound w maps decls small (Packet o) (Var b f) x y px py p q = rw (p, q.value) (distance_gives w maps x y (pos o) (pos q.place +ℤ f) px py (p) (q.value))
difference_sound w maps decls small (Packet o) End x y px py p q = rw (p, q) (distance_gives w maps x y (pos o) (pos w.frame) px py (p) (q))
difference_sound w maps decls small (Var b f) (Packet t) x y px py p q = rw (p.value, q) (distance_gives w maps x y (pos p.place +ℤ f) (pos t) px py (p.value) (q))
difference_sound w maps decls small (Var b f) (Var c g) x y px py p q = rw (p.value, q.value) (distance_gives w maps x y (pos p.place +ℤ f) (pos q.place +ℤ g) px py (p.value) (q.value))
difference_sound w maps decls small (Var b f) End x y px py p q = rw (p.value, q) (distance_gives w maps x y (pos p.place +ℤ f) (pos w.frame) px py (p.value) (q))
difference_sound w maps decls small End (Packet t) x y px py p q = rw (p, q) (distance_gives w maps x y (pos w.frame) (pos t) px py (p) (q))
difference_sound w maps decls small End (Var b f) x y px py p q = rw (p, q.value) (distance_gives w maps x y (pos w.frame) (pos q.place +ℤ f) px py (p) (q.value))
difference_sound w maps decls small End End x y px py p q = rw (p, q) (distance_gives w maps x y (pos w.frame) (pos w.frame) px py (p) (q))
difference_sound w maps decls small a Unset x y px py p q = tt
difference_sound w maps decls small a b x y px py p q = tt

computed_sound : (w : World) (maps : MapState) (wd : Width) (c : AluCode) (signed : Bool) (s : Src) (a b : Kind) (x y : Value)
    → Describes w maps a x → Describes w maps b y → IfOk (computed wd c signed s a b) (Gives w maps (machine.computed wd c signed x y))
computed_sound w maps wd c signed s (Num n) (Num m) x y p q =
    let u = number_of n x p in
    let v = number_of m y q in
    rw (u.1, v.1) (is.Number (result_of c signed wd u.0 v.0), refl, of_number _ _ (arithmetic_is c signed wd s n m u.0 v.0 u.2 v.2))
computed_sound w maps wd c signed s a b x y p q = tt

copied_number : (w : World) (maps : MapState) (wd : Width) (count : ℕ) (n : Number) (y : Value) → Describes w maps (Num n) y
    → (v : ℕ) × (y ≡ is.Number v) × Describes w maps (Num (number_extended wd count n)) (is.Number (extended (bits_in wd) count v))
copied_number w maps wd count n y q = let u = number_of n y q in (u.0, u.1, of_number _ _ (extended_is wd count n u.0 u.2))

copied_sound : (w : World) (maps : MapState) (wd : Width) (count : ℕ) (b : Kind) (y : Value)
    → readable b ≡ passed → Describes w maps b y → IfOk (copied wd count b) (Gives w maps (machine.copied wd count y))
copied_sound w maps Bits64 zero b y h q = (y, held_is w maps b y h q, q)
copied_sound w maps Bits64 (suc count) (Num n) y h q = let u = copied_number w maps Bits64 (suc count) n y q in rw (u.1) (is.Number (extended 64 (suc count) u.0), refl, u.2)
copied_sound w maps Bits32 count (Num n) y h q = let u = copied_number w maps Bits32 count n y q in rw (u.1) (is.Number (extended 32 count u.0), refl, u.2)
copied_sound w maps wd count b y h q = tt

pub combined_sound : (w : World) (maps : MapState) (decls : List MapDecl) → ((q : ℕ) → value_bytes decls q ≤ 64) → (wd : Width) (c : AluCode) (offset : ℤ) (s : Src) (a b : Kind) (x y : Value) → HasPlace x → HasPlace y
    → readable b ≡ passed → Describes w maps a x → Describes w maps b y → IfOk (combined decls wd c offset s a b) (Gives w maps (machine.combined wd c offset x y))
combined_sound w maps decls small wd Mov offset s a b x y px py h p q = copied_sound w maps wd (unsigned_abs offset) b y h q
combined_sound w maps decls small Bits64 Add offset s a b x y px py h p q = sum_sound w maps decls small a b x y p q
combined_sound w maps decls small Bits64 Sub offset s a b x y px py h p q = difference_sound w maps decls small a b x y px py p q
combined_sound w maps decls small wd c offset s a b x y px py h p q = computed_sound w maps wd c (int_eq offset (pos 1)) s a b x y p q
