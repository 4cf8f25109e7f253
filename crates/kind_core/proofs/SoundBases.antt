-- Places in the packet that are not known: sums that give a base, and accesses and comparisons at a distance from it.
use Rattle.std.proofs.Common.{◌≡◌, ℕ, ◌+◌, ◌-◌, ◌^◌, ◌<◌, ◌≤◌, ℤ, pos, negsuc, ◌+ℤ◌, ◌&&◌, nat_le, nat_lt, int_le, int_lt, Bool, true, false, cond, refl, sym, ap, ◌∙◌, subst, arith, Option, Some, None, Ok, Err, IfOk}
use Rattle.std.specs.Prelude.{◌≤ℤ◌}
use Rattle.std.specs.Int.{int_max}
use Rattle.std.proofs.lemmas.Int.{ints}
use Rattle.std.proofs.lemmas.Bool.Decides.{nat_tests}
use Rattle.xdp_machine.specs.bits_core.Bits.{signed_of}
use Rattle.xdp_machine.specs.bpf_isa.declared.operation.Width.{Width}
use Rattle.xdp_machine.specs.bpf_isa.declared.operation.Width.TheVariants.{Bits64}
use Rattle.xdp_machine.specs.bpf_isa.declared.operation.AluCode.{AluCode}
use Rattle.xdp_machine.specs.bpf_isa.declared.operation.AluCode.TheVariants.{Add}
use Rattle.xdp_machine.specs.xdp_maps.State.{MapState}
use Rattle.xdp_machine.specs.Values.{Value}
use Rattle.xdp_machine.specs.Values as is
use Rattle.xdp_machine.specs.Pointers as machine
use Rattle.kind_core.specs.declared.number.Number.{Number}
use Rattle.kind_core.specs.declared.number.Number.TheVariants.{Between}
use Rattle.kind_core.specs.declared.base.Base.{Base}
use Rattle.kind_core.specs.declared.base.Bounds.{Bounds}
use Rattle.kind_core.specs.declared.kind.Kind.{Kind}
use Rattle.kind_core.specs.declared.kind.Kind.TheVariants.{Num, Packet, Var}
use Rattle.kind_core.specs.declared.kind.Offsets.{Offsets}
use Rattle.kind_core.specs.declared.kind.Offsets.TheVariants.{Varying}
use Rattle.kind_core.specs.declared.places.Place.{Place}
use Rattle.kind_core.specs.declared.places.Place.TheVariants.{InPacket}
use Rattle.xdp_state.specs.declared.refusal.Why.TheVariants as why
use Rattle.kind_core.specs.Tests.{◌>>=◌, within}
use Rattle.kind_core.specs.Bases.{in_window, bounds_of, bounds_in, base_from, base_sum, raised_base}
use Rattle.kind_core.specs.Places.{past_base}
use Rattle.kind_core.specs.Pointers.{var_at}
use Rattle.kind_core.specs.Effects.{based}
use Rattle.kind_core.specs.Describes.{World, Describes, IsFrom}
use Rattle.kind_core.proofs.BoundLaws.{NumberIs}
use Rattle.kind_core.proofs.Sound.{Gives, number_of}
use Rattle.kind_core.proofs.TestLaws.{bind_passed, within_is}

-- the same place, where its value is known
pub at_value : (w : World) (b : Base) (f : ℤ) (v : Value) → (d : IsFrom w b f v) → IsFrom w b f (is.Packet (pos d.place +ℤ f))
at_value w b f v d = record { place = d.place; before = d.before; gave = d.gave; low = d.low; high = d.high; inside = d.inside; least = d.least; most = d.most; checked = d.checked; value = refl }

-- ---- a place moved by a known number

var_fits : (place : ℕ) (z : ℤ) → place ≤ 256 → (int_le (negsuc 255) z && int_le z (pos 256)) ≡ true → (int_le (negsuc (2 ^ 63 - 1)) (pos place +ℤ z) && int_lt (pos place +ℤ z) (pos (2 ^ 63))) ≡ true
var_fits place z short h = grind (arith, ints)

far : (z : ℤ) → (int_le (negsuc 255) z && int_le z (pos 256)) ≡ true → (negsuc 255 ≤ℤ z) × (z ≤ℤ pos 256)
far z h = (grind (arith, ints), grind (arith, ints))

moved_on : (p f t : ℤ) → (p +ℤ f) +ℤ t ≡ p +ℤ (f +ℤ t)
moved_on p f t = omega (arith, ints)

pub var_gives : (w : World) (maps : MapState) (b : Base) (f t : ℤ) (v : Value) → (d : IsFrom w b f v)
    → IfOk (var_at b (f +ℤ t)) (Gives w maps (machine.at_offset is.Packet ((pos d.place +ℤ f) +ℤ t)))
var_gives w maps b f t v d =
    let z = f +ℤ t in
    let short : d.place ≤ 256 = omega (arith, d.high, d.inside) in
    subst (λ (x : ℤ). IfOk (var_at b z) (Gives w maps (machine.at_offset is.Packet x))) (sym (moved_on (pos d.place) f t)) (
    (elim (int_le (negsuc 255) z && int_le z (pos 256)) as (λ s. ((int_le (negsuc 255) z && int_le z (pos 256)) ≡ s) → IfOk (cond s (Ok (Var b z)) (Err why.Offset)) (Gives w maps (machine.at_offset is.Packet (pos d.place +ℤ z)))) [
      | true ↦ λ h. (
        is.Packet (pos d.place +ℤ z),
        ap (λ s. cond s (Some (is.Packet (pos d.place +ℤ z))) None) (var_fits d.place z short h),
        record {
          place = d.place;
          before = d.before;
          gave = d.gave;
          low = d.low;
          high = d.high;
          inside = d.inside;
          least = (far z h).0;
          most = (far z h).1;
          checked = d.checked;
          value = refl;
        },
      )
      | false ↦ λ h. tt
    ]) refl)

-- ---- sums that give a base

-- a base between bounds, which a sum gives
pub record GivesBase (o : Option Value) (bounds : Bounds) : Type 0 where
  pub place : ℕ
  pub made : o ≡ Some (is.Packet (pos place))
  pub low : bounds.low ≤ place
  pub high : place ≤ bounds.high
  pub inside : bounds.high ≤ 256

record AreBounds (lo hi : ℤ) (bounds : Bounds) : Type 0 where
  low : lo ≡ pos bounds.low
  high : hi ≡ pos bounds.high
  inside : bounds.high ≤ 256

in_window_is : (z : ℤ) (a : ℕ) → in_window z ≡ Some a → (z ≡ pos a) × (a ≤ 256)
in_window_is (negsuc b) a e = absurd (cc)
in_window_is (pos b) a e =
    (elim (nat_le b 256) as (λ t. (nat_le b 256 ≡ t) → cond t (Some b) None ≡ Some a → (pos b ≡ pos a) × (a ≤ 256)) [
      | true ↦ λ h g. let same : b ≡ a = cc in let short : b ≤ 256 = grind (arith, nat_tests) in (ap pos same, omega (arith, same, short))
      | false ↦ λ h g. absurd (cc)
    ]) refl e

bounds_of_is : (a b : Option ℕ) (bounds : Bounds) → bounds_of a b ≡ Some bounds → (a ≡ Some bounds.low) × (b ≡ Some bounds.high)
bounds_of_is (Some lo) (Some hi) bounds e =
    let made : Bounds = record { low = lo; high = hi } in
    let same : made ≡ bounds = cc in
    (ap (λ (x : Bounds). Some x.low) same, ap (λ (x : Bounds). Some x.high) same)
bounds_of_is (Some lo) None bounds e = absurd (cc)
bounds_of_is None o bounds e = absurd (cc)

bounds_are : (lo hi : ℤ) (bounds : Bounds) → bounds_in lo hi ≡ Some bounds → AreBounds lo hi bounds
bounds_are lo hi bounds e =
    let both = bounds_of_is (in_window lo) (in_window hi) bounds e in
    let low = in_window_is lo bounds.low both.0 in
    let high = in_window_is hi bounds.high both.1 in
    record { low = low.0; high = high.0; inside = high.1 }

positive : (y : ℕ) → y < 2 ^ 63 → signed_of 64 y ≡ pos y
positive y h = let t : nat_lt y (2 ^ 63) ≡ true = grind (arith, nat_tests) in ap (λ b. cond b (pos y) (negsuc (2 ^ 64 - 1 - y))) t

natural : (z : ℤ) → pos 0 ≤ℤ z → (a : ℕ) × (z ≡ pos a)
natural (pos a) h = (a, refl)
natural (negsuc a) h = absurd (omega (arith, ints))

place_fits : (a : ℕ) → a ≤ 256 → (int_le (negsuc (2 ^ 63 - 1)) (pos a) && int_lt (pos a) (pos (2 ^ 63))) ≡ true
place_fits a h = grind (arith, ints)

-- a place between bounds
based_at : (o y : ℤ) (bounds : Bounds) → pos bounds.low ≤ℤ (o +ℤ y) → (o +ℤ y) ≤ℤ pos bounds.high → bounds.high ≤ 256 → GivesBase (machine.moved (is.Packet o) y) bounds
based_at o y bounds p q short =
    let a = natural (o +ℤ y) (omega (arith, ints, p)) in
    let at : o +ℤ y ≡ pos a.0 = a.1 in
    let low : bounds.low ≤ a.0 = omega (arith, ints, p, at) in
    let high : a.0 ≤ bounds.high = omega (arith, ints, q, at) in
    record {
      place = a.0;
      made = ap (machine.at_offset is.Packet) at ∙ ap (λ t. cond t (Some (is.Packet (pos a.0))) None) (place_fits a.0 (omega (arith, high)));
      low = low;
      high = high;
      inside = short;
    }

from_gives : (w : World) (maps : MapState) (k : Kind) (n : Number) (x : Value) (y : ℕ) (bounds : Bounds) → base_from k n ≡ Some bounds → Describes w maps k x → NumberIs n y
    → GivesBase (machine.moved x (signed_of 64 y)) bounds
from_gives w maps (Packet o) (Between lo hi) x y bounds e d h =
    let ends = bounds_are (pos (o + lo)) (pos (o + hi)) bounds e in
    let low : pos (o + lo) ≡ pos bounds.low = ends.low in
    let high : pos (o + hi) ≡ pos bounds.high = ends.high in
    let short : o + hi ≤ 256 = omega (arith, ints, high, ends.inside) in
    let small : y < 2 ^ 63 = omega (arith, h.1) in
    subst (λ v. GivesBase (machine.moved v (signed_of 64 y)) bounds) (sym d)
    (subst (λ z. GivesBase (machine.moved (is.Packet (pos o)) z) bounds) (sym (positive y small))
    (based_at (pos o) (pos y) bounds (omega (arith, ints, low, h.0)) (omega (arith, ints, high, h.1)) ends.inside))
from_gives w maps (Var b f) (Between lo hi) x y bounds e d h =
    let first = (pos b.bounds.low +ℤ f) +ℤ pos lo in
    let last = (pos b.bounds.high +ℤ f) +ℤ pos hi in
    let ends = bounds_are first last bounds e in
    let low : first ≡ pos bounds.low = ends.low in
    let high : last ≡ pos bounds.high = ends.high in
    let small : y < 2 ^ 63 = omega (arith, ints, high, ends.inside, d.least, h.1) in
    subst (λ v. GivesBase (machine.moved v (signed_of 64 y)) bounds) (sym d.value)
    (subst (λ z. GivesBase (machine.moved (is.Packet (pos d.place +ℤ f)) z) bounds) (sym (positive y small))
    (based_at (pos d.place +ℤ f) (pos y) bounds (omega (arith, ints, low, d.low, h.0)) (omega (arith, ints, high, d.high, h.1)) ends.inside))
from_gives w maps k n x y bounds e d h = cc

-- the machine's sum, with the number on either side
sum_right : (w : World) (maps : MapState) (k : Kind) (n : Number) (x y : Value) (bounds : Bounds) → base_from k n ≡ Some bounds → Describes w maps k x → Describes w maps (Num n) y
    → GivesBase (machine.sum x y) bounds
sum_right w maps (Packet o) n x y bounds e d h =
    let u = number_of n y h in
    let g = from_gives w maps (Packet o) n (is.Packet (pos o)) u.0 bounds e refl u.2 in
    rw (d, u.1) g
sum_right w maps (Var b f) n x y bounds e d h =
    let u = number_of n y h in
    let g = from_gives w maps (Var b f) n (is.Packet (pos d.place +ℤ f)) u.0 bounds e (at_value w b f x d) u.2 in
    rw (d.value, u.1) g
sum_right w maps k n x y bounds e d h = cc

sum_left : (w : World) (maps : MapState) (k : Kind) (n : Number) (x y : Value) (bounds : Bounds) → base_from k n ≡ Some bounds → Describes w maps (Num n) x → Describes w maps k y
    → GivesBase (machine.sum x y) bounds
sum_left w maps (Packet o) n x y bounds e h d =
    let u = number_of n x h in
    let g = from_gives w maps (Packet o) n (is.Packet (pos o)) u.0 bounds e refl u.2 in
    rw (u.1, d) g
sum_left w maps (Var b f) n x y bounds e h d =
    let u = number_of n x h in
    let g = from_gives w maps (Var b f) n (is.Packet (pos d.place +ℤ f)) u.0 bounds e (at_value w b f y d) u.2 in
    rw (u.1, d.value) g
sum_left w maps k n x y bounds e h d = cc

sum_gives : (w : World) (maps : MapState) (a b : Kind) (x y : Value) (bounds : Bounds) → base_sum a b ≡ Some bounds → Describes w maps a x → Describes w maps b y
    → GivesBase (machine.sum x y) bounds
sum_gives w maps (Num n) b x y bounds e p q = sum_left w maps b n x y bounds e p q
sum_gives w maps a (Num n) x y bounds e p q = sum_right w maps a n x y bounds e p q
sum_gives w maps a b x y bounds e p q = cc

pub based_gives : (w : World) (maps : MapState) (offsets : Offsets) (wd : Width) (c : AluCode) (offset : ℤ) (a b : Kind) (x y : Value) (bounds : Bounds) → based offsets wd c a b ≡ Some bounds
    → Describes w maps a x → Describes w maps b y → GivesBase (machine.combined wd c offset x y) bounds
based_gives w maps Varying Bits64 Add offset a b x y bounds e p q = sum_gives w maps a b x y bounds e p q
based_gives w maps offsets wd c offset a b x y bounds e p q = cc

-- ---- accesses

-- where an access lands at a distance from a base that is checked
pub record LandsAt (p : Place) (z : ℤ) (n length : ℕ) : Type 0 where
  pub at : ℕ
  pub is_it : InPacket ≡ p
  pub place : z ≡ pos at
  pub there : nat_le (at + n) length ≡ true

pub past_base_is : (w : World) (b : Base) (f : ℤ) (v : Value) (x : ℤ) (n : ℕ) (p : Place) → (d : IsFrom w b f v) → past_base b (f +ℤ x) n ≡ Ok p → LandsAt p ((pos d.place +ℤ f) +ℤ x) n w.frame
past_base_is w b f v x n p d e =
    let z = f +ℤ x in
    let one = bind_passed (within (pos b.bounds.low +ℤ z) 0 256) (λ _. within (pos b.bounds.high +ℤ z) n 256 >>= (λ _. cond (int_le (z +ℤ pos n) b.checked) (Ok InPacket) (Err why.Unchecked))) p e in
    let two = bind_passed (within (pos b.bounds.high +ℤ z) n 256) (λ _. cond (int_le (z +ℤ pos n) b.checked) (Ok InPacket) (Err why.Unchecked)) p one.2 in
    let first : pos b.bounds.low +ℤ z ≡ pos one.0 = (within_is (pos b.bounds.low +ℤ z) 0 256 one.0 one.1).0 in
    let low = d.low in
    let checked = d.checked in
    let a = natural ((pos d.place +ℤ f) +ℤ x) (omega (arith, ints, first, low)) in
    let at : (pos d.place +ℤ f) +ℤ x ≡ pos a.0 = a.1 in
    (elim (int_le (z +ℤ pos n) b.checked) as (λ t. (int_le (z +ℤ pos n) b.checked ≡ t) → cond t (Ok InPacket) (Err why.Unchecked) ≡ Ok p → LandsAt p ((pos d.place +ℤ f) +ℤ x) n w.frame) [
      | true ↦ λ g h.
          let same : InPacket ≡ p = cc in
          let room : a.0 + n ≤ w.frame = omega (arith, ints, g, at, checked) in
          record { at = a.0; is_it = same; place = at; there = grind (arith, nat_tests) }
      | false ↦ λ g h. cc
    ]) refl two.2

-- ---- what is learnt of a base

int_max_sum : (p x y z : ℤ) → (p +ℤ x) ≤ℤ z → (p +ℤ y) ≤ℤ z → (p +ℤ int_max x y) ≤ℤ z
int_max_sum p x y z g h = by_test (int_lt y x)
  where
    by_test : (t : Bool) → (p +ℤ cond t x y) ≤ℤ z
    by_test true = g
    by_test false = h

pub raised_from : (w : World) (b : Base) (f z : ℤ) (v : Value) (place : ℕ) → w.gave b.node ≡ is.Packet (pos place) → (pos place +ℤ z) ≤ℤ pos w.frame → IsFrom w b f v → IsFrom w (raised_base z b) f v
raised_from w b f z v place gave there d =
    let packets : is.Packet (pos d.place) ≡ is.Packet (pos place) = sym d.gave ∙ gave in
    let same : d.place ≡ place = cc in
    let enough : (pos d.place +ℤ z) ≤ℤ pos w.frame = subst (λ a. (pos a +ℤ z) ≤ℤ pos w.frame) (sym same) there in
    record {
      place = d.place;
      before = d.before;
      gave = d.gave;
      low = d.low;
      high = d.high;
      inside = d.inside;
      least = d.least;
      most = d.most;
      checked = int_max_sum (pos d.place) b.checked z (pos w.frame) d.checked enough;
      value = d.value;
    }
