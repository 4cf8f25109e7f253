-- Numbers that are put together of bytes.
use Rattle.std.proofs.Common.{◌≡◌, ℕ, zero, suc, ◌+◌, ◌*◌, ◌^◌, ◌<◌, ◌≤◌, List, [], ◌∷◌, length, reverse, All, map as map_list, refl, sym, ◌∙◌, ap, subst, arith}
use Rattle.std.proofs.lemmas.List.{map-append}
use Rattle.std.proofs.lemmas.List.Sums.{fold-append}
use Rattle.std.proofs.lemmas.Grind.{reverse_onto}
use Rattle.std.proofs.lemmas.Nat.{pow-add}
use Rattle.std.proofs.Math.Nat.{pow-suc, pow-le-pow_right}
use Rattle.byteorder.specs.Endian.{little_number}
use Rattle.byteorder.specs.Numbers.{little_from-cons}
use Rattle.cell_core.specs.xdp_machine.Arithmetic.{low}
use Rattle.cell_core.specs.Cells.{joined, bits_from}
use Rattle.operator_cells.proofs.Numbers.{from_zero, low_same}

pub bytes_power : (n : ℕ) → 256 ^ n ≡ 2 ^ (8 * n)
bytes_power zero = refl
bytes_power (suc n) =
    let more : 8 * n + 8 ≡ 8 * suc n = omega arith in
    pow-suc 256 n ∙ ap (λ (k : ℕ). k * 256) (bytes_power n) ∙ sym (pow-add 2 (8 * n) 8) ∙ ap (λ (k : ℕ). 2 ^ k) more

little_cons : (n b : ℕ) (bs : List ℕ) → little_number (suc n) (b ∷ bs) ≡ b + 256 * little_number n bs
little_cons n b bs = ap (λ (k : ℕ). b + 256 * k) (little_from-cons 0 n b bs)

pub little_below : (v : ℕ → ℕ) (bytes : List ℕ) → All (λ i. v i < 256) bytes → little_number (length bytes) (map_list v bytes) < 256 ^ length bytes
little_below v [] all = omega arith
little_below v (b ∷ bs) all = omega (arith, little_cons (length bs) (v b) (map_list v bs), little_below v bs (λ i d l. all (suc i) d (omega arith)), all 0 b (omega arith), pow-suc 256 (length bs))

next_byte : (n x : ℕ) → n * 256 + x < 2 ^ 64 → low 64 (low 64 (n * 2 ^ 8) + x) ≡ x + 256 * n
next_byte n x h = omega (arith, h)

joined_is : (v : ℕ → ℕ) (bytes : List ℕ) → length bytes ≤ 8 → All (λ i. v i < 256) bytes → joined 8 (map_list v (reverse bytes)) ≡ little_number (length bytes) (map_list v bytes)
joined_is v [] most all = refl
joined_is v (b ∷ bs) most all =
    let rest : All (λ i. v i < 256) bs = λ i d l. all (suc i) d (omega arith) in
    let n : ℕ = little_number (length bs) (map_list v bs) in
    let below : n < 256 ^ length bs = little_below v bs rest in
    let room : 256 ^ suc (length bs) ≤ 256 ^ 8 = pow-le-pow_right {n = 256} (omega arith) {i = suc (length bs)} {j = 8} most in
    let fits : n * 256 + v b < 2 ^ 64 = omega (arith, below, room, pow-suc 256 (length bs), all 0 b (omega arith)) in
    ap (λ (xs : List ℕ). joined 8 (map_list v xs)) (reverse_onto bs b [])
    ∙ ap (joined 8) (map-append v (reverse bs) (b ∷ []))
    ∙ fold-append (λ higher x. low 64 (low 64 (higher * 2 ^ 8) + x)) 0 (map_list v (reverse bs)) (v b ∷ [])
    ∙ ap (λ (k : ℕ). low 64 (low 64 (k * 2 ^ 8) + v b)) (joined_is v bs (omega (arith, most)) rest)
    ∙ next_byte n (v b) fits
    ∙ sym (little_cons (length bs) (v b) (map_list v bs))

pub bytes_joined : (v : ℕ → ℕ) (bytes ins : List ℕ) (w : ℕ) → ins ≡ reverse bytes → w ≡ 8 * length bytes → length bytes ≤ 8 → All (λ i. v i < 256) bytes
    → bits_from (joined 8 (map_list v ins)) 0 w ≡ little_number (length bytes) (map_list v bytes)
bytes_joined v bytes ins w e f most all =
    ap (λ (xs : List ℕ). bits_from (joined 8 (map_list v xs)) 0 w) e
    ∙ from_zero _ w
    ∙ ap (low w) (joined_is v bytes most all)
    ∙ low_same w _ (subst (λ (k : ℕ). little_number (length bytes) (map_list v bytes) < k) (bytes_power (length bytes) ∙ ap (λ (k : ℕ). 2 ^ k) (sym f)) (little_below v bytes all))
