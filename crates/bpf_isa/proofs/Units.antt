-- Eight bytes have one set of fields.
use Rattle.std.proofs.Common.{◌≡◌, ◌∙◌, ℕ, ℤ, ◌+◌, ◌*◌, ◌/◌, ◌%◌, ◌^◌, ◌<◌, ◌≤◌, List, [], ◌∷◌, length, take, drop, get_or, refl, ap, arith}
use Rattle.std.proofs.lemmas.Int.{ints, of_z-to_z}
use Rattle.std.specs.Int.{w16, cast_signed, cast_unsigned}
use Rattle.std.specs.Int.RustNames.{FitsSigned}
use Rattle.byteorder.specs.Endian.{little_number}
use Rattle.bpf_isa.specs.Spelling.{unit}

eight : (a b c d e f g h a' b' c' d' e' f' g' h' : ℕ) → a ≡ a' → b ≡ b' → c ≡ c' → d ≡ d' → e ≡ e' → f ≡ f' → g ≡ g' → h ≡ h'
    → a ∷ b ∷ c ∷ d ∷ e ∷ f ∷ g ∷ h ∷ [] ≡ a' ∷ b' ∷ c' ∷ d' ∷ e' ∷ f' ∷ g' ∷ h' ∷ []
eight a b c d e f g h a' b' c' d' e' f' g' h' p0 p1 p2 p3 p4 p5 p6 p7 = cc

-- the fields that are read from bytes have these bytes
pub unit_read : (bs : List ℕ) (o : ℤ) (m : ℕ) → 8 ≤ length bs → ((i : ℕ) → get_or bs i 0 < 256)
    → o ≡ cast_signed w16 (little_number 2 (take 2 (drop 2 bs))) → m ≡ little_number 4 (take 4 (drop 4 bs))
    → take 8 bs ≡ unit (get_or bs 0 0) (get_or bs 1 0 % 16) (get_or bs 1 0 / 16) o m
unit_read (a ∷ b ∷ c ∷ d ∷ e ∷ f ∷ g ∷ h ∷ rest) o m l r eo em =
    let rc : c < 256 = r 2 in
    let rd : d < 256 = r 3 in
    let re : e < 256 = r 4 in
    let rf : f < 256 = r 5 in
    let rg : g < 256 = r 6 in
    let rh : h < 256 = r 7 in
    let o' : cast_unsigned w16 o ≡ c + 256 * (d + 0) = ap (cast_unsigned w16) eo ∙ of_z-to_z w16 (c + 256 * (d + 0)) (omega arith) in
    let m' : m ≡ e + 256 * (f + 256 * (g + 256 * (h + 0))) = em in
    eight a b c d e f g h a (b % 16 + 16 * (b / 16)) (cast_unsigned w16 o % 256) (cast_unsigned w16 o / 256 % 256) (m % 256) (m / 256 % 256) (m / 65536 % 256) (m / 16777216 % 256)
    refl (omega arith) (omega (arith, o')) (omega (arith, o')) (omega arith) (omega arith) (omega arith) (omega arith)
unit_read bs o m l r eo em = absurd (omega arith)

pub record Same (c d a b x y : ℕ) (o p : ℤ) (m n : ℕ) : Type 0 where
  pub code : c ≡ d
  pub dst : a ≡ b
  pub src : x ≡ y
  pub offset : o ≡ p
  pub imm : m ≡ n

-- two units with the same bytes have the same fields
pub unit_one : (c d a b x y : ℕ) (o p : ℤ) (m n : ℕ) → a < 16 → b < 16 → FitsSigned w16 o → FitsSigned w16 p → m < 2 ^ 32 → n < 2 ^ 32
    → unit c a x o m ≡ unit d b y p n → Same c d a b x y o p m n
unit_one c d a b x y o p m n ha hb ho hp hm hn e =
    let e0 : c ≡ d = cc in
    let e1 : a + 16 * x ≡ b + 16 * y = cc in
    let e2 : cast_unsigned w16 o % 256 ≡ cast_unsigned w16 p % 256 = cc in
    let e3 : cast_unsigned w16 o / 256 % 256 ≡ cast_unsigned w16 p / 256 % 256 = cc in
    let e4 : m % 256 ≡ n % 256 = cc in
    let e5 : m / 256 % 256 ≡ n / 256 % 256 = cc in
    let e6 : m / 65536 % 256 ≡ n / 65536 % 256 = cc in
    let e7 : m / 16777216 % 256 ≡ n / 16777216 % 256 = cc in
    record { code = e0; dst = omega arith; src = omega arith; offset = omega (arith, ints); imm = omega arith }
