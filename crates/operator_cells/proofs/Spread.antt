-- The bytes of numbers.
use Rattle.std.proofs.Common.{◌≡◌, ℕ, zero, suc, ◌+◌, ◌-◌, ◌*◌, ◌/◌, ◌%◌, ◌^◌, ◌<◌, ◌≤◌, List, [], ◌∷◌, ◌++◌, length, take, drop, fold, All, get_or, length-append, map as map_list, refl, sym, ◌∙◌, ap, subst, arith}
use Rattle.std.specs.Int.{byte_at, bytes_low_first}
use Rattle.std.proofs.lemmas.Nat.{mod_below}
use Rattle.std.proofs.Math.Nat.{div-one, pow-suc, pow-le-pow_right, div-div-eq-div-mul, mul-le-mul_right}
use Rattle.std.proofs.lemmas.List.{length-take, length-drop, map-append, take-map, drop-map, length-map}
use Rattle.std.proofs.lemmas.List.Elements.{All-append, All-take, All-drop}
use Rattle.byteorder.specs.Endian.{little_number, little_bytes}
use Rattle.byteorder.specs.Numbers.{little_from-take, little_from-bytes}
use Rattle.cell_core.specs.bits_core.Bits.{reversed_of}
use Rattle.cell_core.specs.bpf_isa.declared.operation.Size.{Size}
use Rattle.cell_core.specs.xdp_maps.Calls.{patched}
use Rattle.cell_core.specs.xdp_machine.Arithmetic.{low}
use Rattle.cell_core.specs.xdp_machine.Memory.{bytes_in, number_at}
use Rattle.cell_core.specs.Cells.{joined, bits_from}
use Rattle.operator_cells.proofs.Bytes.{bytes_power}
use Rattle.cell_core.specs.Cells.{CellView}
use Rattle.list_laws.proofs.DigitLaws.{byte_is as byte_of_rest, byte_small}
use Rattle.operator_cells.specs.Making.{Makes, MakesIf}
use Rattle.operator_cells.specs.Spreading.{MakesBytes}
use Rattle.operator_cells.proofs.Growing.{grown}
use Rattle.operator_cells.proofs.Numbers.{from_zero, low_same, low_below}

byte_is : (i n : ℕ) → bits_from n (8 * i) 8 ≡ byte_at i n
byte_is zero n = ap (λ (k : ℕ). k % 256) (div-one n)
byte_is (suc i) n = ap (λ (k : ℕ). n / k % 256) (sym (bytes_power (suc i)))

-- bytes from one on, and then more
low_first_append : (j k r n : ℕ) → bytes_low_first j (k + r) n ≡ bytes_low_first j k n ++ bytes_low_first (j + k) r n
low_first_append j zero r n =
    let e : 0 + r ≡ r = omega arith in let f : j ≡ j + 0 = omega arith in
    ap (λ (i : ℕ). bytes_low_first j i n) e ∙ ap (λ (i : ℕ). bytes_low_first i r n) f
low_first_append j (suc k) r n =
    let e : suc j + k ≡ j + suc k = omega arith in let f : suc k + r ≡ suc (k + r) = omega arith in
    ap (λ (i : ℕ). bytes_low_first j i n) f
    ∙ ap (λ (xs : List ℕ). byte_at j n ∷ xs) (low_first_append (suc j) k r n ∙ ap (λ (i : ℕ). bytes_low_first (suc j) k n ++ bytes_low_first i r n) e)

pub low_first_next : (i n : ℕ) → little_bytes (i + 1) n ≡ little_bytes i n ++ byte_at i n ∷ []
low_first_next i n = let e : 0 + i ≡ i = omega arith in low_first_append 0 i 1 n ∙ ap (λ (j : ℕ). little_bytes i n ++ byte_at j n ∷ []) e

low_first_drop : (j k r n : ℕ) → drop k (bytes_low_first j (k + r) n) ≡ bytes_low_first (j + k) r n
low_first_drop j zero r n =
    let e : 0 + r ≡ r = omega arith in let f : j ≡ j + 0 = omega arith in
    ap (λ (i : ℕ). bytes_low_first j i n) e ∙ ap (λ (i : ℕ). bytes_low_first i r n) f
low_first_drop j (suc k) r n =
    let e : suc j + k ≡ j + suc k = omega arith in let f : suc k + r ≡ suc (k + r) = omega arith in
    ap (λ (i : ℕ). drop (suc k) (bytes_low_first j i n)) f ∙ low_first_drop (suc j) k r n ∙ ap (λ (i : ℕ). bytes_low_first i r n) e

-- so many bytes from one on
number_from : (at k r n : ℕ) → little_number k (take k (drop at (little_bytes (at + (k + r)) n))) ≡ n / 256 ^ at % 256 ^ k
number_from at k r n =
    let e : 0 + at ≡ at = omega arith in
    little_from-take 0 k k _ (omega arith)
    ∙ ap (little_number k) (low_first_drop 0 at (k + r) n ∙ ap (λ (j : ℕ). bytes_low_first j (k + r) n) e ∙ low_first_append at k r n)
    ∙ little_from-bytes k at n (bytes_low_first (at + k) r n)

pub part_is : (size : Size) (at n : ℕ) → at + bytes_in size ≤ 8 → bits_from n (8 * at) (8 * bytes_in size) ≡ number_at size at (little_bytes 8 n)
part_is size at n h =
    let k : ℕ = bytes_in size in
    let r : ℕ = 8 - (at + k) in
    let e : at + (k + r) ≡ 8 = omega (arith, h) in
    let f : at + k - at ≡ k = omega arith in
    ap (λ (m : ℕ). n / m % 2 ^ (8 * k)) (sym (bytes_power at)) ∙ ap (λ (m : ℕ). n / 256 ^ at % m) (sym (bytes_power k))
    ∙ sym (number_from at k r n)
    ∙ ap (λ (m : ℕ). little_number k (take k (drop at (little_bytes m n)))) e
    ∙ ap (λ (m : ℕ). little_number k (take m (drop at (little_bytes 8 n)))) (sym f)

-- ---- bytes in the other order

abbrev step : ℕ → ℕ → ℕ
step higher x = low 64 (low 64 (higher * 2 ^ 8) + x)

step_is : (n x : ℕ) → n * 256 + x < 2 ^ 64 → step n x ≡ n * 256 + x
step_is n x h = omega (arith, h)

reversed_step : (k j x : ℕ) → reversed_of (suc k) (x / 256 ^ j) ≡ byte_at j x * 256 ^ k + reversed_of k (x / 256 ^ suc j)
reversed_step k j x =
    let shift : x / 256 ^ j / 256 ≡ x / 256 ^ suc j = div-div-eq-div-mul x (256 ^ j) 256 ∙ ap (λ (p : ℕ). x / p) (sym (pow-suc 256 j)) in
    ap (λ (b : ℕ). b * 256 ^ k + reversed_of k (x / 256 ^ j / 256)) (sym (byte_of_rest j x)) ∙ ap (λ (y : ℕ). byte_at j x * 256 ^ k + reversed_of k y) shift

above : (a b p q r : ℕ) → (a * 256 + b) * p + r ≡ a * (p * 256) + (b * p + r)
above a b p q r = grind arith

folded_is : (k j x a m : ℕ) → a < 256 ^ m → m + k ≤ 8 → fold step a (bytes_low_first j k x) ≡ a * 256 ^ k + reversed_of k (x / 256 ^ j)
folded_is zero j x a m h fits = omega arith
folded_is (suc k) j x a m h fits =
    let b : ℕ = byte_at j x in
    let small : b < 256 = byte_small j x in
    let room : 256 ^ suc m ≤ 256 ^ 8 = pow-le-pow_right {n = 256} (omega arith) {i = suc m} {j = 8} (omega (arith, fits)) in
    let below : a * 256 + b < 256 ^ suc m = omega (arith, h, small, pow-suc 256 m) in
    let e : step a b ≡ a * 256 + b = step_is a b (omega (arith, below, room)) in
    ap (λ (n : ℕ). fold step n (bytes_low_first (suc j) k x)) e
    ∙ folded_is k (suc j) x (a * 256 + b) (suc m) below (omega (arith, fits))
    ∙ above a b (256 ^ k) 0 (reversed_of k (x / 256 ^ suc j))
    ∙ ap (λ (n : ℕ). a * n + (b * 256 ^ k + reversed_of k (x / 256 ^ suc j))) (sym (pow-suc 256 k))
    ∙ ap (λ (n : ℕ). a * 256 ^ suc k + n) (sym (reversed_step k j x))

reversed_below : (k x : ℕ) → reversed_of k x < 256 ^ k
reversed_below zero x = omega arith
reversed_below (suc k) x =
    let ih = reversed_below k (x / 256) in
    let small : x % 256 < 256 = mod_below x 256 (omega arith) in
    let product : x % 256 * 256 ^ k ≤ 255 * 256 ^ k = mul-le-mul_right (256 ^ k) (omega (arith, small)) in
    omega (arith, ih, product, pow-suc 256 k)

pub reversed_joined : (v : ℕ → ℕ) (k x : ℕ) (bytes : List ℕ) → k ≤ 8 → map_list v bytes ≡ little_bytes k x → bits_from (joined 8 (map_list v bytes)) 0 (8 * k) ≡ reversed_of k x
reversed_joined v k x bytes most e =
    let whole : 0 * 256 ^ k + reversed_of k (x / 256 ^ 0) ≡ reversed_of k x = let n : 0 * 256 ^ k ≡ 0 = grind arith in omega (arith, n, ap (reversed_of k) (div-one x)) in
    ap (λ (xs : List ℕ). bits_from (joined 8 xs) 0 (8 * k)) e
    ∙ from_zero _ (8 * k)
    ∙ ap (low (8 * k)) (folded_is k 0 x 0 0 (omega arith) (omega (arith, most)) ∙ whole)
    ∙ low_same (8 * k) _ (subst (λ (n : ℕ). reversed_of k x < n) (bytes_power k) (reversed_below k x))

-- ---- bytes that are stored over others

pub all_patched : (P : ℕ → Type 0) (xs ys : List ℕ) (at : ℕ) → All P xs → All P ys → All P (patched xs at ys)
all_patched P xs ys at h g = All-append P (take at xs ++ ys) (drop (at + length ys) xs) (All-append P (take at xs) ys (All-take P at xs h) g) (All-drop P (at + length ys) xs h)

pub map_patched : (v : ℕ → ℕ) (xs ys : List ℕ) (at : ℕ) → map_list v (patched xs at ys) ≡ patched (map_list v xs) at (map_list v ys)
map_patched v xs ys at =
    map-append v (take at xs ++ ys) (drop (at + length ys) xs)
    ∙ ap (λ (zs : List ℕ). zs ++ map_list v (drop (at + length ys) xs)) (map-append v (take at xs) ys)
    ∙ rw (take-map v at xs, drop-map v (at + length (map_list v ys)) xs, length-map ys v) refl

-- a byte more
pub bytes_next : (a b d : List CellView) (i n c : ℕ) (cs more : List ℕ) → more ≡ cs ++ c ∷ [] → MakesBytes a b i cs (λ v. little_bytes i (v n)) → Makes b d c (λ packet v. bits_from (v n) (8 * i) 8)
    → MakesBytes a d (i + 1) more (λ v. little_bytes (i + 1) (v n))
bytes_next a b d i n c cs more is before made = rw is (record {
  grows = grown a b d before.grows made.grows;
  count = omega (arith, length-append cs (c ∷ []), before.count);
  there = All-append (λ k. k < length d) cs (c ∷ []) (λ j e l. omega (arith, before.there j e l, made.grows.longer)) (λ j e l. one j e l made.there);
  small = λ packet v r. All-append (λ k. v k < 256) cs (c ∷ []) (before.small packet v (made.grows.run packet v r)) (λ j e l. small-one v j e l (subst (λ (k : ℕ). k < 256) (sym (made.value packet v r)) (low_below 8 (v n / 2 ^ (8 * i)))));
  values = λ packet v r. map-append v cs (c ∷ []) ∙ ap (λ (xs : List ℕ). xs ++ v c ∷ []) (before.values packet v (made.grows.run packet v r))
      ∙ ap (λ (k : ℕ). little_bytes i (v n) ++ k ∷ []) (made.value packet v r ∙ byte_is i (v n)) ∙ sym (low_first_next i (v n));
})
  where
    one : (j e : ℕ) → j < length (c ∷ []) → c < length d → get_or (c ∷ []) j e < length d
    one zero e l h = h
    one (suc j) e l h = absurd (omega (arith, l))

    small-one : (v : ℕ → ℕ) (j e : ℕ) → j < length (c ∷ []) → v c < 256 → v (get_or (c ∷ []) j e) < 256
    small-one v zero e l h = h
    small-one v (suc j) e l h = absurd (omega (arith, l))

patched_length : (xs ys : List ℕ) (at : ℕ) → at + length ys ≤ length xs → length (patched xs at ys) ≡ length xs
patched_length xs ys at h = grind (arith, length-append, length-take, length-drop)

-- cells of bytes with those of others over some of them
pub patched_makes : (a b d e : List CellView) (size : Size) (at x y c : ℕ) (xs ys zs : List ℕ) → at + bytes_in size ≤ 8 → MakesBytes a b 8 xs (λ v. little_bytes 8 (v x))
    → MakesBytes b d (bytes_in size) ys (λ v. little_bytes (bytes_in size) (v y)) → zs ≡ patched xs at ys → MakesIf d e c (λ v. All (λ i. v i < 256) zs) (λ packet v. little_number (length zs) (map_list v zs))
    → Makes a e c (λ packet v. little_number 8 (patched (little_bytes 8 (v x)) at (little_bytes (bytes_in size) (v y))))
patched_makes a b d e size at x y c xs ys zs fits one two is made = record {
  grows = grown a b e one.grows (grown b d e two.grows made.grows);
  there = made.there;
  value = λ packet v r.
      let rd = made.grows.run packet v r in
      let rb = two.grows.run packet v rd in
      let long : length zs ≡ 8 = ap length is ∙ patched_length xs ys at (omega (arith, one.count, two.count, fits)) ∙ one.count in
      made.value packet v r (subst (λ (bs : List ℕ). All (λ i. v i < 256) bs) (sym is) (all_patched (λ i. v i < 256) xs ys at (one.small packet v rb) (two.small packet v rd)))
      ∙ ap (λ (n : ℕ). little_number n (map_list v zs)) long
      ∙ ap (λ (bs : List ℕ). little_number 8 (map_list v bs)) is
      ∙ ap (little_number 8) (map_patched v xs ys at)
      ∙ ap (λ (bs : List ℕ). little_number 8 (patched bs at (map_list v ys))) (one.values packet v rb)
      ∙ ap (λ (bs : List ℕ). little_number 8 (patched (little_bytes 8 (v x)) at bs)) (two.values packet v rd);
}

pub patched_there : (a b d : List CellView) (m n at : ℕ) (xs ys zs : List ℕ) (f g : (ℕ → ℕ) → List ℕ) → MakesBytes a b m xs f → MakesBytes b d n ys g → zs ≡ patched xs at ys → All (λ c. c < length d) zs
patched_there a b d m n at xs ys zs f g one two is = subst (λ (bs : List ℕ). All (λ c. c < length d) bs) (sym is)
    (all_patched (λ c. c < length d) xs ys at (λ j e l. omega (arith, one.there j e l, two.grows.longer)) two.there)
