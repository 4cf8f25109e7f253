-- Division of signed numbers by their distances from 0.
use Rattle.std.proofs.Common.{◌≡◌, ◌≢◌, ℕ, zero, suc, ◌-◌, ◌%◌, ◌/◌, ◌^◌, ◌<◌, ◌≤◌, Bool, true, false, not, if◌then◌else◌, ℤ, pos, negsuc, neg_ℤ, nat_lt, refl, sym, ◌∙◌, ap, subst, arith}
use Rattle.std.specs.Prelude.{◌==◌}
use Rattle.std.proofs.lemmas.Bool.Decides.{nat_tests}
use Rattle.std.proofs.Math.Nat.{mod-le, div-le_self}
use Rattle.cell_core.specs.bits_core.Bits.{signed_of, bits_of, quotient_of, remainder_of}
use Rattle.cell_core.specs.bpf_isa.declared.operation.Width.{Width}
use Rattle.cell_core.specs.bpf_isa.declared.operation.Width.TheVariants.{Bits32, Bits64}
use Rattle.cell_core.specs.bpf_isa.declared.operation.AluCode.TheVariants.{Sub, Xor}
use Rattle.cell_core.specs.xdp_machine.Arithmetic.{bits_in, low, arithmetic, negated}
use Rattle.kind_core.proofs.xdp_machine_laws.NumberLaws.{widened}
use Rattle.cell_core.specs.Cells.{bit, on, bits_from}
use Rattle.operator_cells.specs.Dividing.{some, divided, code_of, sign_of}
use Rattle.operator_cells.proofs.Numbers.{from_zero, low_same, low_below}
use Rattle.operator_cells.proofs.Division.{some_suc, unless_suc}
use Rattle.operator_cells.proofs.Edges.{is_bit}
use Rattle.operator_cells.proofs.SignedShifts.{sign_is}

opposite_is : (w : Width) (n nil : ℕ) → nil ≡ 0 → bits_from (arithmetic Sub false 64 (low 64 nil) (low 64 n)) 0 (bits_in w) ≡ negated (bits_in w) n
opposite_is Bits32 n nil e = from_zero _ 32 ∙ omega (arith, e)
opposite_is Bits64 n nil e = from_zero _ 64 ∙ omega (arith, e)

pub turned_where : (w : Width) (sign a nil other : ℕ) → nil ≡ bits_from 0 0 1 → other ≡ bits_from (arithmetic Sub false 64 (low 64 nil) (low 64 a)) 0 (bits_in w)
    → bits_from (if on sign then other else a) 0 (bits_in w) ≡ low (bits_in w) (if on sign then negated (bits_in w) a else a)
turned_where w sign a nil other e f = from_zero _ (bits_in w) ∙ ap (λ (k : ℕ). low (bits_in w) (if on sign then k else a)) (f ∙ opposite_is w a nil (e ∙ from_zero 0 1))

-- the distance of a signed number from 0
size_is : (w : Width) (x : ℕ) (t : Bool) → nat_lt x (2 ^ (bits_in w - 1)) ≡ t → x < 2 ^ bits_in w → low (bits_in w) (if not t then negated (bits_in w) x else x) ≡ (if t then x else 2 ^ bits_in w - x)
size_is w x true e h = low_same (bits_in w) x h
size_is Bits32 x false e h = let l : 2 ^ 31 ≤ x = grind (arith, nat_tests) in omega (arith, l, h)
size_is Bits64 x false e h = let l : 2 ^ 63 ≤ x = grind (arith, nat_tests) in omega (arith, l, h)

-- a number below 0 in w bits
below_zero : (w : Width) (k : ℕ) → k < 2 ^ bits_in w → bits_of (bits_in w) (neg_ℤ (pos k)) ≡ negated (bits_in w) k
below_zero Bits32 zero h = refl
below_zero Bits64 zero h = refl
below_zero Bits32 (suc k) h = omega (arith, h)
below_zero Bits64 (suc k) h = omega (arith, h)

-- a result with the sign that it has
signed_result : (w : Width) (s : Bool) (n : ℕ) → n < 2 ^ bits_in w → low (bits_in w) (low (bits_in w) (if s then negated (bits_in w) n else n)) ≡ bits_of (bits_in w) (if s then neg_ℤ (pos n) else pos n)
signed_result w true n h = low_same (bits_in w) _ (low_below (bits_in w) _) ∙ low_same (bits_in w) _ (low_below (bits_in w) _) ∙ sym (below_zero w n h)
signed_result w false n h = low_same (bits_in w) _ (low_below (bits_in w) _)

-- whether a result is below 0, by whether the numbers are not
abbrev side : Bool → Bool → Bool → Bool
side true tx ty = not tx
side false true ty = not ty
side false false ty = ty

abbrev result : Bool → ℕ → ℤ → ℤ → ℕ
result true w a b = bits_of w (remainder_of a b)
result false w a b = bits_of w (quotient_of a b)

abbrev as_signed : ℕ → Bool → ℕ → ℤ
as_signed w t n = if t then pos n else negsuc (2 ^ w - 1 - n)

conv : (r : Bool) (w x y : ℕ) (tx ty : Bool) → nat_lt x (2 ^ (w - 1)) ≡ tx → nat_lt y (2 ^ (w - 1)) ≡ ty → arithmetic (code_of r) true w x y ≡ result r w (as_signed w tx x) (as_signed w ty y)
conv true w x y tx ty e f = ap (λ (t : Bool). bits_of w (remainder_of (as_signed w t x) (signed_of w y))) e ∙ ap (λ (t : Bool). bits_of w (remainder_of (as_signed w tx x) (as_signed w t y))) f
conv false w x y tx ty e f = ap (λ (t : Bool). bits_of w (quotient_of (as_signed w t x) (signed_of w y))) e ∙ ap (λ (t : Bool). bits_of w (quotient_of (as_signed w tx x) (as_signed w t y))) f

close : (w : Width) (s : Bool) (n m : ℕ) → n ≡ m → m < 2 ^ bits_in w → low (bits_in w) (low (bits_in w) (if s then negated (bits_in w) n else n)) ≡ bits_of (bits_in w) (if s then neg_ℤ (pos m) else pos m)
close w s n m e h = ap (λ (k : ℕ). low (bits_in w) (low (bits_in w) (if s then negated (bits_in w) k else k))) e ∙ signed_result w s m h

both_are : (r : Bool) (p q a b n : ℕ) → p ≡ a → q ≡ b → n ≡ divided r p q → n ≡ divided r a b
both_are r p q a b n e f g = g ∙ ap (λ (k : ℕ). divided r k q) e ∙ ap (divided r a) f

div_below : (a b k : ℕ) → a < k → a / suc b < k
div_below a b k h = omega (arith, h, div-le_self a (suc b))

mod_below' : (a b k : ℕ) → a < k → a % suc b < k
mod_below' a b k h = omega (arith, h, mod-le a (suc b))

core : (w : Width) (r tx ty : Bool) (x y p q n : ℕ) → x < 2 ^ bits_in w → y < 2 ^ bits_in w → (tx ≡ false → 0 < x) → y ≢ 0
    → p ≡ (if tx then x else 2 ^ bits_in w - x) → q ≡ (if ty then y else 2 ^ bits_in w - y) → n ≡ divided r p q
    → low (bits_in w) (low (bits_in w) (if side r tx ty then negated (bits_in w) n else n)) ≡ result r (bits_in w) (as_signed (bits_in w) tx x) (as_signed (bits_in w) ty y)
core w r tx true x zero p q n h g px ne e f is = absurd (ne refl)
core w false true true x (suc b) p q n h g px ne e f is = close w false n (x / suc b) (both_are false p q x (suc b) n e f is) (div_below x b _ h)
core w true true true x (suc b) p q n h g px ne e f is = close w false n (x % suc b) (both_are true p q x (suc b) n e f is) (mod_below' x b _ h)
core w false true false x y p q n h g px ne e f is =
    let k : ℕ = 2 ^ bits_in w - 1 - y in
    close w true n (x / suc k) (both_are false p q x (suc k) n e (f ∙ omega (arith, g)) is) (div_below x k _ h)
core w true true false x y p q n h g px ne e f is =
    let k : ℕ = 2 ^ bits_in w - 1 - y in
    close w false n (x % suc k) (both_are true p q x (suc k) n e (f ∙ omega (arith, g)) is) (mod_below' x k _ h)
core w false false true x (suc b) p q n h g px ne e f is =
    let j : ℕ = 2 ^ bits_in w - 1 - x in
    close w true n (suc j / suc b) (both_are false p q (suc j) (suc b) n (e ∙ omega (arith, h)) f is) (div_below (suc j) b _ (omega (arith, h, px refl)))
core w true false true x (suc b) p q n h g px ne e f is =
    let j : ℕ = 2 ^ bits_in w - 1 - x in
    close w true n (suc j % suc b) (both_are true p q (suc j) (suc b) n (e ∙ omega (arith, h)) f is) (mod_below' (suc j) b _ (omega (arith, h, px refl)))
core w false false false x y p q n h g px ne e f is =
    let j : ℕ = 2 ^ bits_in w - 1 - x in
    let k : ℕ = 2 ^ bits_in w - 1 - y in
    close w false n (suc j / suc k) (both_are false p q (suc j) (suc k) n (e ∙ omega (arith, h)) (f ∙ omega (arith, g)) is) (div_below (suc j) k _ (omega (arith, h, px refl)))
core w true false false x y p q n h g px ne e f is =
    let j : ℕ = 2 ^ bits_in w - 1 - x in
    let k : ℕ = 2 ^ bits_in w - 1 - y in
    close w true n (suc j % suc k) (both_are true p q (suc j) (suc k) n (e ∙ omega (arith, h)) (f ∙ omega (arith, g)) is) (mod_below' (suc j) k _ (omega (arith, h, px refl)))

back : (w : Width) (x : ℕ) (t : Bool) → x < 2 ^ bits_in w → bits_of (bits_in w) (as_signed (bits_in w) t x) ≡ low (bits_in w) x
back w x true h = refl
back Bits32 x false h = omega (arith, h)
back Bits64 x false h = omega (arith, h)

by_zero : (w : Width) (r : Bool) (x : ℕ) → x < 2 ^ bits_in w → low (bits_in w) (if r then x else 0) ≡ arithmetic (code_of r) true (bits_in w) x 0
by_zero Bits32 true x h = sym (back Bits32 x (nat_lt x (2 ^ 31)) h)
by_zero Bits64 true x h = sym (back Bits64 x (nat_lt x (2 ^ 63)) h)
by_zero Bits32 false x h = refl
by_zero Bits64 false x h = refl

above_zero : (w : Width) (x : ℕ) → nat_lt x (2 ^ (bits_in w - 1)) ≡ false → 0 < x
above_zero Bits32 x e = let l : 2 ^ 31 ≤ x = grind (arith, nat_tests) in omega (arith, l)
above_zero Bits64 x e = let l : 2 ^ 63 ≤ x = grind (arith, nat_tests) in omega (arith, l)

some_same : (q : ℕ) → q ≢ 0 → some q ≡ q
some_same zero ne = absurd (ne refl)
some_same (suc b) ne = some_suc b

size_some : (t : Bool) (y m q : ℕ) → q ≡ (if t then y else m - y) → y < m → y ≢ 0 → q ≢ 0
size_some true y m q e h ne z = ne (sym e ∙ z)
size_some false y m q e h ne z = absurd (omega (arith, e, h, z))

divided_any : (r : Bool) (p q k : ℕ) → p < k → divided r p q < k
divided_any true p zero k h = h
divided_any false p zero k h = omega (arith, h)
divided_any true p (suc b) k h = mod_below' p b k h
divided_any false p (suc b) k h = div_below p b k h

xor_side : (tx ty : Bool) → on (bits_from (arithmetic Xor false 64 (low 64 (bit (not tx))) (low 64 (bit (not ty)))) 0 1) ≡ side false tx ty
xor_side true true = refl
xor_side true false = refl
xor_side false true = refl
xor_side false false = refl

high_bit : (w : Width) (x l : ℕ) → x < 2 ^ bits_in w → l ≡ bits_from x (bits_in w - 1) 1 → l ≡ bit (not (nat_lt x (2 ^ (bits_in w - 1))))
high_bit w x l h e = is_bit l (subst (λ (k : ℕ). k < 2) (sym e) (low_below 1 (x / 2 ^ (bits_in w - 1)))) ∙ ap bit (ap on e ∙ sign_is w x h)

on_bit : (t : Bool) → on (bit t) ≡ t
on_bit true = refl
on_bit false = refl

side_is : (r : Bool) (l s d : ℕ) (tx ty : Bool) → l ≡ bit (not tx) → s ≡ bit (not ty) → d ≡ sign_of r l s → on d ≡ side r tx ty
side_is true l s d tx ty e f g = ap on (g ∙ e) ∙ on_bit (not tx)
side_is false l s d tx ty e f g = ap on (g ∙ ap (λ (k : ℕ). bits_from (arithmetic Xor false 64 (low 64 k) (low 64 s)) 0 1) e ∙ ap (λ (k : ℕ). bits_from (arithmetic Xor false 64 (low 64 (bit (not tx))) (low 64 k)) 0 1) f) ∙ xor_side tx ty

in_all : (w : Width) (r : Bool) (x y p q n d t : ℕ) → x < 2 ^ bits_in w → y < 2 ^ bits_in w
    → p ≡ (if nat_lt x (2 ^ (bits_in w - 1)) then x else 2 ^ bits_in w - x) → q ≡ (if nat_lt y (2 ^ (bits_in w - 1)) then y else 2 ^ bits_in w - y) → p < 2 ^ bits_in w → q < 2 ^ bits_in w
    → n ≡ low (bits_in w) (divided r (low 64 p) (some (low (bits_in w) q))) → on d ≡ side r (nat_lt x (2 ^ (bits_in w - 1))) (nat_lt y (2 ^ (bits_in w - 1)))
    → t ≡ low (bits_in w) (if on d then negated (bits_in w) n else n)
    → low (bits_in w) (if low 64 y == 0 then (if r then x else 0) else t) ≡ arithmetic (code_of r) true (bits_in w) x y
in_all w r x zero p q n d t h g e f hp hq is od te = by_zero w r x h
in_all w r x (suc b) p q n d t h g e f hp hq is od te =
    let y : ℕ = suc b in
    let ne : suc b ≢ 0 = λ z. absurd (omega (arith, z)) in
    let n_is : n ≡ divided r p q = is
    ∙ ap (λ (k : ℕ). low (bits_in w) (divided r k (some (low (bits_in w) q)))) (low_same 64 p (widened w p hp))
    ∙ ap (λ (k : ℕ). low (bits_in w) (divided r p (some k))) (low_same (bits_in w) q hq)
    ∙ ap (λ (k : ℕ). low (bits_in w) (divided r p k)) (some_same q (size_some (nat_lt (suc b) (2 ^ (bits_in w - 1))) (suc b) (2 ^ bits_in w) q f g ne))
    ∙ low_same (bits_in w) _ (divided_any r p q (2 ^ bits_in w) hp) in
    ap (low (bits_in w)) (ap (λ (k : ℕ). if k == 0 then (if r then x else 0) else t) (low_same 64 (suc b) (widened w (suc b) g)) ∙ unless_suc b (if r then x else 0) t ∙ te)
    ∙ ap (λ (s : Bool). low (bits_in w) (low (bits_in w) (if s then negated (bits_in w) n else n))) od
    ∙ core w r (nat_lt x (2 ^ (bits_in w - 1))) (nat_lt (suc b) (2 ^ (bits_in w - 1))) x (suc b) p q n h g (above_zero w x) ne e f n_is
    ∙ sym (conv r (bits_in w) x (suc b) (nat_lt x (2 ^ (bits_in w - 1))) (nat_lt (suc b) (2 ^ (bits_in w - 1))) refl refl)

distance_is : (w : Width) (x l p : ℕ) → x < 2 ^ bits_in w → l ≡ bits_from x (bits_in w - 1) 1 → p ≡ low (bits_in w) (if on l then negated (bits_in w) x else x) → p ≡ (if nat_lt x (2 ^ (bits_in w - 1)) then x else 2 ^ bits_in w - x)
distance_is w x l p h e f = f ∙ ap (λ (t : Bool). low (bits_in w) (if t then negated (bits_in w) x else x)) (ap on e ∙ sign_is w x h) ∙ size_is w x (nat_lt x (2 ^ (bits_in w - 1))) refl h

pub signed_is : (w : Width) (r : Bool) (a b x y l s p q n d t : ℕ) → x ≡ low (bits_in w) a → y ≡ low (bits_in w) b → l ≡ bits_from x (bits_in w - 1) 1 → s ≡ bits_from y (bits_in w - 1) 1
    → p ≡ low (bits_in w) (if on l then negated (bits_in w) x else x) → q ≡ low (bits_in w) (if on s then negated (bits_in w) y else y)
    → n ≡ low (bits_in w) (divided r (low 64 p) (some (low (bits_in w) q))) → d ≡ sign_of r l s → t ≡ low (bits_in w) (if on d then negated (bits_in w) n else n)
    → low (bits_in w) (if low 64 y == 0 then (if r then x else 0) else t) ≡ arithmetic (code_of r) true (bits_in w) (low (bits_in w) a) (low (bits_in w) b)
signed_is w r a b x y l s p q n d t ex ey el es ep eq en ed et =
    let hx : x < 2 ^ bits_in w = subst (λ (k : ℕ). k < 2 ^ bits_in w) (sym ex) (low_below (bits_in w) a) in
    let hy : y < 2 ^ bits_in w = subst (λ (k : ℕ). k < 2 ^ bits_in w) (sym ey) (low_below (bits_in w) b) in
    let hp : p < 2 ^ bits_in w = subst (λ (k : ℕ). k < 2 ^ bits_in w) (sym ep) (low_below (bits_in w) _) in
    let hq : q < 2 ^ bits_in w = subst (λ (k : ℕ). k < 2 ^ bits_in w) (sym eq) (low_below (bits_in w) _) in
    in_all w r x y p q n d t hx hy (distance_is w x l p hx el ep) (distance_is w y s q hy es eq) hp hq en
    (side_is r l s d _ _ (high_bit w x l hx el) (high_bit w y s hy es) ed) et
    ∙ ap (λ (k : ℕ). arithmetic (code_of r) true (bits_in w) k y) ex
    ∙ ap (arithmetic (code_of r) true (bits_in w) (low (bits_in w) a)) ey
