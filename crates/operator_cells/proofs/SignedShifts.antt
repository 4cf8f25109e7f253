-- Shifts to the right that keep the sign.
use Rattle.std.proofs.Common.{◌≡◌, ℕ, ◌+◌, ◌-◌, ◌*◌, ◌/◌, ◌%◌, ◌^◌, ◌<◌, ◌≤◌, Bool, true, false, not, if◌then◌else◌, pos, negsuc, nat_lt, refl, sym, ◌∙◌, ap, subst, arith}
use Rattle.std.proofs.lemmas.Bool.Decides.{nat_tests}
use Rattle.std.proofs.lemmas.Nat.{mod_below, pow_pos, pow-add, div-mul-add, div-add-mod'}
use Rattle.std.proofs.Math.Nat.{add-mul, div-le_self, div-lt_iff_lt-mul}
use Rattle.std.specs.Int.{int_div_euclid}
use Rattle.cell_core.specs.bits_core.Bits.{bits_of, sext_of, arsh_of}
use Rattle.cell_core.specs.bpf_isa.declared.operation.Width.{Width}
use Rattle.cell_core.specs.bpf_isa.declared.operation.Width.TheVariants.{Bits32, Bits64}
use Rattle.cell_core.specs.xdp_machine.Arithmetic.{bits_in, low}
use Rattle.kind_core.proofs.xdp_machine_laws.NumberLaws.{widened}
use Rattle.cell_core.specs.Cells.{bits_from, on}
use Rattle.operator_cells.proofs.Numbers.{from_zero, low_same, low_below}
use Rattle.operator_cells.proofs.Shifts.{cut_twice}

-- the complement of a number over m
complement_div : (k m q r : ℕ) → q < k → r < m → (k * m - 1 - (q * m + r)) / m ≡ k - 1 - q
complement_div k m q r h g =
    let e : ℕ = k - 1 - q in
    let k_is : k ≡ e + (1 + q) = omega (arith, h) in
    let products : k * m ≡ e * m + (1 * m + q * m) = ap (λ (j : ℕ). j * m) k_is ∙ add-mul e (1 + q) m ∙ ap (λ (j : ℕ). e * m + j) (add-mul 1 q m) in
    let is : k * m - 1 - (q * m + r) ≡ e * m + (m - 1 - r) = omega (arith, products, g) in
    ap (λ (j : ℕ). j / m) is ∙ div-mul-add e m (m - 1 - r) (omega (arith, g))

complement_cut : (w : Width) (t : ℕ) → t < 2 ^ bits_in w → low (bits_in w) (2 ^ 64 - 1 - t % 2 ^ 64) ≡ 2 ^ bits_in w - 1 - t % 2 ^ bits_in w
complement_cut Bits32 t h = omega (arith, h)
complement_cut Bits64 t h = omega (arith, h)

halved : (h m n : ℕ) → 0 < m → nat_lt (n / m) h ≡ nat_lt n (h * m)
halved h m n g = by (nat_lt (n / m) h) (nat_lt n (h * m)) refl refl
  where
    by : (s t : Bool) → nat_lt (n / m) h ≡ s → nat_lt n (h * m) ≡ t → s ≡ t
    by true true e f = refl
    by false false e f = refl
    by true false e f = let l : n / m < h = grind (arith, nat_tests) in let r : n < h * m = (div-lt_iff_lt-mul {k = m} {x = n} {y = h} g).0 l in let no : h * m ≤ n = grind (arith, nat_tests) in absurd (omega (arith, r, no))
    by false true e f = let r : n < h * m = grind (arith, nat_tests) in let l : n / m < h = (div-lt_iff_lt-mul {k = m} {x = n} {y = h} g).1 r in let no : h ≤ n / m = grind (arith, nat_tests) in absurd (omega (arith, l, no))

-- the sign of the bits from n on is the sign of all
sign_kept : (w : Width) (n a : ℕ) → n < bits_in w → a < 2 ^ bits_in w → low (bits_in w) (sext_of (a / 2 ^ n) (bits_in w - n)) ≡ arsh_of a n (bits_in w)
sign_kept w n a h g =
    by (nat_lt (a / 2 ^ n) (2 ^ (bits_in w - n - 1))) (nat_lt a (2 ^ (bits_in w - 1))) same
  where
    m : ℕ
    m = 2 ^ n

    k : ℕ
    k = bits_in w - n

    all : 2 ^ bits_in w ≡ 2 ^ (bits_in w - n) * 2 ^ n
    all = let e : bits_in w ≡ bits_in w - n + n = omega (arith, h) in ap (λ (j : ℕ). 2 ^ j) e ∙ pow-add 2 (bits_in w - n) n

    half : 2 ^ (bits_in w - 1) ≡ 2 ^ (bits_in w - n - 1) * 2 ^ n
    half = let e : bits_in w - 1 ≡ bits_in w - n - 1 + n = omega (arith, h) in ap (λ (j : ℕ). 2 ^ j) e ∙ pow-add 2 (bits_in w - n - 1) n

    same : nat_lt (a / 2 ^ n) (2 ^ (bits_in w - n - 1)) ≡ nat_lt a (2 ^ (bits_in w - 1))
    same = halved (2 ^ (bits_in w - n - 1)) (2 ^ n) a (pow_pos n) ∙ ap (nat_lt a) (sym half)

    inside : a / 2 ^ n < 2 ^ (bits_in w - n)
    inside = (div-lt_iff_lt-mul {k = 2 ^ n} {x = a} {y = 2 ^ (bits_in w - n)} (pow_pos n)).1 (subst (λ (j : ℕ). a < j) all g)

    split : a ≡ a / 2 ^ n * 2 ^ n + a % 2 ^ n
    split = sym (div-add-mod' a (2 ^ n))

    rest : (2 ^ bits_in w - 1 - a) / 2 ^ n ≡ 2 ^ (bits_in w - n) - 1 - a / 2 ^ n
    rest = ap (λ (j : ℕ). (j - 1 - a) / 2 ^ n) all ∙ ap (λ (j : ℕ). (2 ^ (bits_in w - n) * 2 ^ n - 1 - j) / 2 ^ n) split
        ∙ complement_div (2 ^ (bits_in w - n)) (2 ^ n) (a / 2 ^ n) (a % 2 ^ n) inside (mod_below a (2 ^ n) (pow_pos n))

    small : (2 ^ bits_in w - 1 - a) / 2 ^ n < 2 ^ bits_in w
    small = omega (arith, div-le_self (2 ^ bits_in w - 1 - a) (2 ^ n), pow_pos (bits_in w))

    by : (s t : Bool) → s ≡ t → low (bits_in w) (bits_of 64 (if s then pos (a / 2 ^ n) else negsuc (2 ^ (bits_in w - n) - 1 - a / 2 ^ n)))
        ≡ bits_of (bits_in w) (int_div_euclid (if t then pos a else negsuc (2 ^ bits_in w - 1 - a)) (pos (2 ^ n)))
    by true true e = cut_twice w (a / 2 ^ n)
    by false false e = ap (λ (j : ℕ). low (bits_in w) (2 ^ 64 - 1 - j % 2 ^ 64)) (sym rest) ∙ complement_cut w ((2 ^ bits_in w - 1 - a) / 2 ^ n) small
    by true false e = absurd (cc)
    by false true e = absurd (cc)

lowered_below : (w n a : ℕ) → n < w → a < 2 ^ w → a / 2 ^ n < 2 ^ (w - n)
lowered_below w n a h g =
    let e : w ≡ w - n + n = omega (arith, h) in
    let all : 2 ^ w ≡ 2 ^ (w - n) * 2 ^ n = ap (λ (j : ℕ). 2 ^ j) e ∙ pow-add 2 (w - n) n in
    (div-lt_iff_lt-mul {k = 2 ^ n} {x = a} {y = 2 ^ (w - n)} (pow_pos n)).1 (subst (λ (j : ℕ). a < j) all g)

pub lowered_signed : (w : Width) (n a rest : ℕ) → n < bits_in w → rest ≡ low (bits_in w) a / 2 ^ n
    → bits_from (sext_of (low (bits_in w - n) rest) (bits_in w - n)) 0 (bits_in w) ≡ arsh_of (low (bits_in w) a) n (bits_in w)
lowered_signed w n a rest h e =
    from_zero _ (bits_in w)
    ∙ ap (λ (j : ℕ). low (bits_in w) (sext_of (low (bits_in w - n) j) (bits_in w - n))) e
    ∙ ap (λ (j : ℕ). low (bits_in w) (sext_of j (bits_in w - n))) (low_same (bits_in w - n) _ (lowered_below (bits_in w) n (low (bits_in w) a) h (low_below (bits_in w) a)))
    ∙ sign_kept w n (low (bits_in w) a) h (low_below (bits_in w) a)

-- the highest bit tells the sign
sign_32 : (a : ℕ) → a < 2 ^ 32 → on (bits_from a 31 1) ≡ not (nat_lt a (2 ^ 31))
sign_32 a h = grind (arith, nat_tests)

sign_64 : (a : ℕ) → a < 2 ^ 64 → on (bits_from a 63 1) ≡ not (nat_lt a (2 ^ 63))
sign_64 a h = grind (arith, nat_tests)

pub sign_is : (w : Width) (a : ℕ) → a < 2 ^ bits_in w → on (bits_from a (bits_in w - 1) 1) ≡ not (nat_lt a (2 ^ (bits_in w - 1)))
sign_is Bits32 a h = sign_32 a h
sign_is Bits64 a h = sign_64 a h

complement_is : (w : Width) (a : ℕ) → a < 2 ^ bits_in w → bits_from (2 ^ 64 - 1 - a) 0 (bits_in w) ≡ 2 ^ bits_in w - 1 - a
complement_is Bits32 a h = from_zero _ 32 ∙ omega (arith, h)
complement_is Bits64 a h = from_zero _ 64 ∙ omega (arith, h)

shift_down : (w : Width) (a m : ℕ) → a < 2 ^ bits_in w → bits_from (low 64 a / m) 0 (bits_in w) ≡ a / m
shift_down w a m h = from_zero _ (bits_in w) ∙ ap (λ (j : ℕ). low (bits_in w) (j / m)) (low_same 64 a (widened w a h)) ∙ low_same (bits_in w) _ (omega (arith, h, div-le_self a m))

-- of a signed number the complement is shifted, and turned back
pub shifted_signed : (w : Width) (a e sign other moved back plain : ℕ) → a < 2 ^ bits_in w → sign ≡ bits_from a (bits_in w - 1) 1 → other ≡ bits_from (2 ^ 64 - 1 - a) 0 (bits_in w)
    → moved ≡ bits_from (low 64 other / 2 ^ e) 0 (bits_in w) → back ≡ bits_from (2 ^ 64 - 1 - moved) 0 (bits_in w) → plain ≡ bits_from (low 64 a / 2 ^ e) 0 (bits_in w)
    → bits_from (if on sign then back else plain) 0 (bits_in w) ≡ arsh_of a e (bits_in w)
shifted_signed w a e sign other moved back plain h s o m b p =
    from_zero _ (bits_in w)
    ∙ ap (λ (t : Bool). low (bits_in w) (if t then back else plain)) (ap on s ∙ sign_is w a h)
    ∙ by (nat_lt a (2 ^ (bits_in w - 1)))
  where
    other_is : other ≡ 2 ^ bits_in w - 1 - a
    other_is = o ∙ complement_is w a h

    other_below : other < 2 ^ bits_in w
    other_below = omega (arith, other_is, pow_pos (bits_in w))

    moved_is : moved ≡ (2 ^ bits_in w - 1 - a) / 2 ^ e
    moved_is = m ∙ shift_down w other (2 ^ e) other_below ∙ ap (λ (j : ℕ). j / 2 ^ e) other_is

    moved_below : moved < 2 ^ bits_in w
    moved_below = omega (arith, moved_is, div-le_self (2 ^ bits_in w - 1 - a) (2 ^ e), pow_pos (bits_in w))

    back_is : back ≡ 2 ^ bits_in w - 1 - moved
    back_is = b ∙ complement_is w moved moved_below

    plain_is : plain ≡ a / 2 ^ e
    plain_is = p ∙ shift_down w a (2 ^ e) h

    by : (t : Bool) → low (bits_in w) (if not t then back else plain) ≡ bits_of (bits_in w) (int_div_euclid (if t then pos a else negsuc (2 ^ bits_in w - 1 - a)) (pos (2 ^ e)))
    by true = ap (low (bits_in w)) plain_is
    by false = low_same (bits_in w) back (omega (arith, back_is, pow_pos (bits_in w))) ∙ back_is
        ∙ ap (λ (j : ℕ). 2 ^ bits_in w - 1 - j) (sym (low_same (bits_in w) moved moved_below) ∙ ap (low (bits_in w)) moved_is)
