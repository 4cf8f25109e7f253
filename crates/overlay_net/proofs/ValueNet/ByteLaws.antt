-- Words of byte strings, and of those in which bytes are written.
use Rattle.std.specs.Prelude.{min, slice_range, slice_index}
use Rattle.std.proofs.Common.{◌≡◌, ◌≢◌, ℕ, zero, suc, ◌+◌, ◌-◌, ◌*◌, ◌/◌, ◌%◌, ◌^◌, ◌<◌, ◌≤◌, List, [], ◌∷◌, ◌++◌, length, take, drop, get_or, replicate, refl, sym, ◌∙◌, ap, subst, arith, ◌⊎◌, inl, inr, append_assoc, append-nil}
use Rattle.std.proofs.lemmas.Bool.{cases_lt}
use Rattle.std.proofs.lemmas.List.{get_or-take, get_or-drop, get_or_past, get_or_append_left, get_or-append_right, length-take, length-take-le}
use Rattle.std.proofs.lemmas.Nat.{mod_below, pow_pos, pow-add, mul-add-lt, mod-mul-add, div-mul-add}
use Rattle.std.proofs.Math.Nat.{mod-eq_of_lt, pow-suc}
use Rattle.block_core.proofs.list_laws_laws.PositionLaws.{zeros}
use Rattle.byteorder.specs.Endian.{little_from, little_number, little_bytes}
use Rattle.byteorder.specs.Numbers.{little_from-take, little_from-bytes, length-bytes_low_first}
use Rattle.byteorder.proofs.Bytes.{take-bytes_low_first, pow256}
use Rattle.hazard_core.specs.xdp_maps.Contents.{IsBytes}
use Rattle.hazard_core.specs.xdp_maps.Calls.{patched}
use Rattle.hazard_core.proofs.xdp_maps_laws.ByteLaws.{IsBytes-little_bytes}
use Rattle.hazard_core.specs.cell_core.Cells.{bits_from}
use Rattle.hazard_core.specs.cell_core.Sites.{spelled, bytes_of}
use Rattle.hazard_core.specs.Commits.{word_at}
use Rattle.hazard_core.proofs.xdp_maps_laws.LittleLaws.{no_bytes, same_bytes, beyond, low_is}
use Rattle.overlay_net.specs.ValueNet.Words.{with_bits}

-- ---- numbers in bytes
moved : (n k i : ℕ) (xs : List ℕ) → little_from i n (drop k xs) ≡ little_from (k + i) n xs
moved zero k i xs = refl
moved (suc n) k i xs =
    let e : k + suc i ≡ suc (k + i) = omega arith in
    ap (λ x. x + 256 * little_from (suc i) n (drop k xs)) (get_or-drop k xs i 0) ∙ ap (λ x. slice_index xs (k + i) + 256 * x) (moved n k (suc i) xs ∙ ap (λ m. little_from m n xs) e)

pub word_is : (xs : List ℕ) (w : ℕ) → word_at xs w ≡ little_from (8 * w) 8 xs
word_is xs w = little_from-take 0 8 8 (drop (8 * w) xs) (omega arith) ∙ moved 8 (8 * w) 0 xs ∙ ap (λ m. little_from m 8 xs) (omega arith)

split : (a b c i : ℕ) (xs : List ℕ) → c ≡ a + b → little_from i c xs ≡ little_from i a xs + 256 ^ a * little_from (i + a) b xs
split zero b c i xs e = let f : c ≡ b = omega arith in let g : i ≡ i + 0 = omega arith in ap (λ n. little_from i n xs) f ∙ ap (λ k. little_from k b xs) g ∙ omega arith
split (suc a) b zero i xs e = absurd (omega arith)
split (suc a) b (suc c) i xs e =
    let rest = split a b c (suc i) xs (omega arith) in
    let g : suc i + a ≡ i + suc a = omega arith in
    let f : 256 ^ suc a * little_from (i + suc a) b xs ≡ 256 * (256 ^ a * little_from (suc i + a) b xs) = ap (λ k. k * little_from (i + suc a) b xs) (pow-suc 256 a) ∙ ap (λ k. 256 ^ a * 256 * little_from k b xs) (sym g) ∙ omega arith in
    ap (λ x. slice_index xs i + 256 * x) rest ∙ omega (arith, f)

abbrev AreSmall : List ℕ → Type 0
AreSmall xs = (k : ℕ) → slice_index xs k < 256

pub small_in : (n : ℕ) (xs : List ℕ) → IsBytes n xs → AreSmall xs
small_in n xs b k = by_cases (cases_lt k (length xs))
  where
    by_cases : (k < length xs) ⊎ (length xs ≤ k) → slice_index xs k < 256
    by_cases (inl h) = b.bytes_fit k 0 h
    by_cases (inr h) = let past : slice_index xs k ≡ 0 = get_or_past xs k 0 h in omega arith

below256 : (n i : ℕ) (xs : List ℕ) → AreSmall xs → little_from i n xs < 256 ^ n
below256 zero i xs h = omega arith
below256 (suc n) i xs h = let rest = below256 n (suc i) xs h in let byte = h i in let p : 256 ^ suc n ≡ 256 ^ n * 256 = pow-suc 256 n in omega arith

-- bits of a number that is put together of three
pub parts_with : (l m h n s c : ℕ) → l < 2 ^ s → m < 2 ^ c → n < 2 ^ c → with_bits (l + 2 ^ s * (m + 2 ^ c * h)) s c n ≡ l + 2 ^ s * (n + 2 ^ c * h)
parts_with l m h n s c first second new =
    let x = l + 2 ^ s * (m + 2 ^ c * h) in
    let e : x ≡ (m + 2 ^ c * h) * 2 ^ s + l = omega arith in
    let f : x ≡ h * (2 ^ s * 2 ^ c) + (m * 2 ^ s + l) = omega arith in
    let lowest : x % 2 ^ s ≡ l = ap (λ k. k % 2 ^ s) e ∙ mod-mul-add (m + 2 ^ c * h) (2 ^ s) l first in
    let highest : x / 2 ^ (s + c) ≡ h = ap (λ k. x / k) (pow-add 2 s c) ∙ ap (λ k. k / (2 ^ s * 2 ^ c)) f ∙ div-mul-add h (2 ^ s * 2 ^ c) (m * 2 ^ s + l) (mul-add-lt m (2 ^ s) l (2 ^ c) second first) in
    ap (λ k. k + 2 ^ s * (n % 2 ^ c + 2 ^ c * (x / 2 ^ (s + c)))) lowest ∙ ap (λ k. l + 2 ^ s * (k + 2 ^ c * (x / 2 ^ (s + c)))) (mod-eq_of_lt new) ∙ ap (λ k. l + 2 ^ s * (n + 2 ^ c * k)) highest

pub parts_middle : (l m h s c : ℕ) → l < 2 ^ s → m < 2 ^ c → bits_from (l + 2 ^ s * (m + 2 ^ c * h)) s c ≡ m
parts_middle l m h s c first second =
    let x = l + 2 ^ s * (m + 2 ^ c * h) in
    let e : x ≡ (m + 2 ^ c * h) * 2 ^ s + l = omega arith in
    let f : m + 2 ^ c * h ≡ h * 2 ^ c + m = omega arith in
    ap (λ k. k % 2 ^ c) (ap (λ k. k / 2 ^ s) e ∙ div-mul-add (m + 2 ^ c * h) (2 ^ s) l first) ∙ ap (λ k. k % 2 ^ c) f ∙ mod-mul-add h (2 ^ c) m second

below_bits : (n i : ℕ) (xs : List ℕ) → AreSmall xs → little_from i n xs < 2 ^ (8 * n)
below_bits n i xs h = subst (λ k. little_from i n xs < k) (pow256 n) (below256 n i xs h)

-- three parts of a word
word_split : (xs : List ℕ) (w s c r : ℕ) → s + c + r ≡ 8 → word_at xs w ≡ little_from (8 * w) s xs + 2 ^ (8 * s) * (little_from (8 * w + s) c xs + 2 ^ (8 * c) * little_from (8 * w + s + c) r xs)
word_split xs w s c r e =
    word_is xs w ∙ split s (c + r) 8 (8 * w) xs (omega arith)
    ∙ ap (λ k. little_from (8 * w) s xs + 256 ^ s * k) (split c r (c + r) (8 * w + s) xs refl ∙ ap (λ k. little_from (8 * w + s) c xs + k * little_from (8 * w + s + c) r xs) (pow256 c))
    ∙ ap (λ k. little_from (8 * w) s xs + k * (little_from (8 * w + s) c xs + 2 ^ (8 * c) * little_from (8 * w + s + c) r xs)) (pow256 s)

-- ---- bytes in which others are written
module _ (xs bs : List ℕ) (at : ℕ) (inside : at + length bs ≤ length xs) where
  abbrev rest : List ℕ
  rest = drop (at + length bs) xs

  front : length (take at xs) ≡ at
  front = length-take-le at xs (omega arith)

  whole : patched xs at bs ≡ take at xs ++ (bs ++ rest)
  whole = append_assoc (take at xs) bs rest

  byte_kept : (k : ℕ) → (k < at) ⊎ (at + length bs ≤ k) → slice_index (patched xs at bs) k ≡ slice_index xs k
  byte_kept k (inl before) = ap (λ ys. slice_index ys k) whole ∙ get_or_append_left (take at xs) (bs ++ rest) 0 k (omega (arith, front)) ∙ get_or-take at xs k 0 before
  byte_kept k (inr past) =
      let e : at + length bs + (k - at - length bs) ≡ k = omega arith in
      ap (λ ys. slice_index ys k) whole
      ∙ get_or-append_right (take at xs) (bs ++ rest) at k 0 front (omega arith)
      ∙ get_or-append_right bs rest (length bs) (k - at) 0 refl (omega arith)
      ∙ get_or-drop (at + length bs) xs (k - at - length bs) 0
      ∙ ap (slice_index xs) e

  byte_written : (j : ℕ) → j < length bs → slice_index (patched xs at bs) (at + j) ≡ slice_index bs j
  byte_written j h =
      let e : at + j - at ≡ j = omega arith in
      ap (λ ys. slice_index ys (at + j)) whole
      ∙ get_or-append_right (take at xs) (bs ++ rest) at (at + j) 0 front (omega arith)
      ∙ ap (slice_index (bs ++ rest)) e
      ∙ get_or_append_left bs rest 0 j h

  -- another word
  pub word_kept : (w : ℕ) → (8 * w + 8 ≤ at) ⊎ (at + length bs ≤ 8 * w) → word_at (patched xs at bs) w ≡ word_at xs w
  word_kept w apart = word_is (patched xs at bs) w ∙ same_bytes 8 (8 * w) (patched xs at bs) xs (λ k l m. byte_kept k (by_cases k l m apart)) ∙ sym (word_is xs w)
    where
      by_cases : (k : ℕ) → 8 * w ≤ k → k < 8 * w + 8 → (8 * w + 8 ≤ at) ⊎ (at + length bs ≤ 8 * w) → (k < at) ⊎ (at + length bs ≤ k)
      by_cases k l m (inl h) = inl (omega arith)
      by_cases k l m (inr h) = inr (omega arith)

  -- the word in which they are
  pub word_written :
      (w s c r : ℕ) → AreSmall xs → AreSmall bs → c ≡ length bs → at ≡ 8 * w + s → s + c + r ≡ 8
      → word_at (patched xs at bs) w ≡ with_bits (word_at xs w) (8 * s) (8 * c) (little_number c bs)
  word_written w s c r old new count e f =
      word_split (patched xs at bs) w s c r f
      ∙ ap (λ k. k + 2 ^ (8 * s) * (little_from (8 * w + s) c (patched xs at bs) + 2 ^ (8 * c) * little_from (8 * w + s + c) r (patched xs at bs))) (same_bytes s (8 * w) (patched xs at bs) xs (λ k l m. byte_kept k (inl (omega arith))))
      ∙ ap (λ k. little_from (8 * w) s xs + 2 ^ (8 * s) * (k + 2 ^ (8 * c) * little_from (8 * w + s + c) r (patched xs at bs))) here
      ∙ ap (λ k. little_from (8 * w) s xs + 2 ^ (8 * s) * (little_number c bs + 2 ^ (8 * c) * k)) (same_bytes r (8 * w + s + c) (patched xs at bs) xs (λ k l m. byte_kept k (inr (omega arith))))
      ∙ sym
      (ap (λ k. with_bits k (8 * s) (8 * c) (little_number c bs)) (word_split xs w s c r f)
      ∙ parts_with (little_from (8 * w) s xs) (little_from (8 * w + s) c xs) (little_from (8 * w + s + c) r xs) (little_number c bs) (8 * s) (8 * c) (below_bits s (8 * w) xs old) (below_bits c (8 * w + s) xs old) (below_bits c 0 bs new))
    where
      here : little_from (8 * w + s) c (patched xs at bs) ≡ little_number c bs
      here =
          let g : 8 * w + s ≡ at + 0 = omega arith in
          ap (λ k. little_from k c (patched xs at bs)) g ∙ sym (moved c at 0 (patched xs at bs))
          ∙ same_bytes c 0 (drop at (patched xs at bs)) bs (λ k l m. get_or-drop at (patched xs at bs) k 0 ∙ byte_written k (omega arith))

-- the number of so many bytes in a word
pub number_in_word : (xs : List ℕ) (w at s c r : ℕ) → AreSmall xs → at ≡ 8 * w + s → s + c + r ≡ 8 → little_number c (slice_range xs at (at + c)) ≡ bits_from (word_at xs w) (8 * s) (8 * c)
number_in_word xs w at s c r small e f =
    let g : at + c - at ≡ c = omega arith in
    let h : at + 0 ≡ 8 * w + s = omega arith in
    ap (λ k. little_number c (take k (drop at xs))) g ∙ little_from-take 0 c c (drop at xs) (omega arith) ∙ moved c at 0 xs ∙ ap (λ k. little_from k c xs) h
    ∙ sym
    (ap (λ k. bits_from k (8 * s) (8 * c)) (word_split xs w s c r f)
    ∙ parts_middle (little_from (8 * w) s xs) (little_from (8 * w + s) c xs) (little_from (8 * w + s + c) r xs) (8 * s) (8 * c) (below_bits s (8 * w) xs small) (below_bits c (8 * w + s) xs small))

-- ---- a number written
number_back : (c x : ℕ) → little_number c (little_bytes c x) ≡ x % 2 ^ (8 * c)
number_back c x = ap (little_number c) (sym (append-nil (little_bytes c x))) ∙ little_from-bytes c 0 x [] ∙ low_is x c

-- what a write of c bytes at a place makes of the word there
pub word_stored :
    (n : ℕ) (xs : List ℕ) (at c x w : ℕ) → IsBytes n xs → at + c ≤ n → at % 8 + c ≤ 8 → at / 8 ≡ w
    → word_at (patched xs at (little_bytes c x)) w ≡ with_bits (word_at xs w) (8 * (at % 8)) (8 * c) x
word_stored n xs at c x w b inside one same =
    let count : length (little_bytes c x) ≡ c = length-bytes_low_first 0 c x in
    let e : at ≡ 8 * w + at % 8 = omega arith in
    let some = pow_pos (8 * c) in
    word_written xs (little_bytes c x) at (omega (arith, count, b.len)) w (at % 8) c (8 - (at % 8 + c)) (small_in n xs b) (small_in c (little_bytes c x) (IsBytes-little_bytes c x)) (sym count) e (omega arith)
    ∙ ap (λ k. word_at xs w % 2 ^ (8 * (at % 8)) + 2 ^ (8 * (at % 8)) * (k + 2 ^ (8 * c) * (word_at xs w / 2 ^ (8 * (at % 8) + 8 * c))))
    (ap (λ k. k % 2 ^ (8 * c)) (number_back c x) ∙ mod-eq_of_lt (mod_below x (2 ^ (8 * c)) some))

pub stored_is :
    (n : ℕ) (xs : List ℕ) (at c x w from width o : ℕ) → IsBytes n xs → at + c ≤ n → at % 8 + c ≤ 8 → at / 8 ≡ w → from ≡ 8 * (at % 8) → width ≡ 8 * c → o ≡ word_at xs w
    → with_bits o from width x ≡ word_at (patched xs at (little_bytes c x)) w
stored_is n xs at c x w from width o b inside one same ef ew eo =
    ap (λ k. with_bits k from width x) eo ∙ ap (λ k. with_bits (word_at xs w) k width x) ef ∙ ap (λ k. with_bits (word_at xs w) (8 * (at % 8)) k x) ew ∙ sym (word_stored n xs at c x w b inside one same)

-- the number of so many bytes at a place, by the word
pub number_is :
    (n : ℕ) (xs : List ℕ) (at c from width w o : ℕ) → IsBytes n xs → at % 8 + c ≤ 8 → at / 8 ≡ w → from ≡ 8 * (at % 8) → width ≡ 8 * c → o ≡ word_at xs w
    → bits_from o from width ≡ little_number c (slice_range xs at (at + c))
number_is n xs at c from width w o b one same ef ew eo =
    let e : at ≡ 8 * w + at % 8 = omega arith in
    ap (λ k. bits_from k from width) eo ∙ ap (λ k. bits_from (word_at xs w) k width) ef ∙ ap (λ k. bits_from (word_at xs w) (8 * (at % 8)) k) ew
    ∙ sym (number_in_word xs w at (at % 8) c (8 - (at % 8 + c)) (small_in n xs b) e (omega arith))

-- and of another one
pub word_left : (n : ℕ) (xs : List ℕ) (at c x w : ℕ) → IsBytes n xs → at + c ≤ n → at % 8 + c ≤ 8 → at / 8 ≢ w → word_at (patched xs at (little_bytes c x)) w ≡ word_at xs w
word_left n xs at c x w b inside one other =
    let count : length (little_bytes c x) ≡ c = length-bytes_low_first 0 c x in
    word_kept xs (little_bytes c x) at (omega (arith, count, b.len)) w (by_cases (cases_lt w (at / 8)) count)
  where
    by_cases : (w < at / 8) ⊎ (at / 8 ≤ w) → length (little_bytes c x) ≡ c → (8 * w + 8 ≤ at) ⊎ (at + length (little_bytes c x) ≤ 8 * w)
    by_cases (inl h) count = inl (omega arith)
    by_cases (inr h) count = let lt : at / 8 < w = omega arith in inr (omega arith)

-- ---- words of words
byte_spelled : (xs : List ℕ) (w i : ℕ) → w < length xs → i < 8 → slice_index (spelled xs) (8 * w + i) ≡ slice_index (little_bytes 8 (slice_index xs w)) i
byte_spelled [] w i h l = absurd (omega arith)
byte_spelled (x ∷ xs) zero i h l =
    let count : length (little_bytes 8 x) ≡ 8 = length-bytes_low_first 0 8 x in
    let e : 8 * zero + i ≡ i = omega arith in
    ap (slice_index (little_bytes 8 x ++ spelled xs)) e ∙ get_or_append_left (little_bytes 8 x) (spelled xs) 0 i (omega (arith, count))
byte_spelled (x ∷ xs) (suc w) i h l =
    let count : length (little_bytes 8 x) ≡ 8 = length-bytes_low_first 0 8 x in
    let e : 8 * suc w + i - 8 ≡ 8 * w + i = omega arith in
    get_or-append_right (little_bytes 8 x) (spelled xs) 8 (8 * suc w + i) 0 count (omega arith) ∙ ap (slice_index (spelled xs)) e ∙ byte_spelled xs w i (omega arith) l

-- a word of the first bytes of words: the last one has its low bytes
pub word_of_words : (n : ℕ) (xs : List ℕ) (w m : ℕ) → 8 * w < n → w < length xs → m ≡ min 8 (n - 8 * w) → word_at (bytes_of n xs) w ≡ slice_index xs w % 2 ^ (8 * m)
word_of_words n xs w m there within e =
    let x = slice_index xs w in
    let f : 8 * w + 0 ≡ 8 * w = omega arith in
    word_is (bytes_of n xs) w ∙ short (cases_lt (n - 8 * w) 8) ∙ sym (moved m (8 * w) 0 (bytes_of n xs) ∙ ap (λ k. little_from k m (bytes_of n xs)) f)
    ∙ same_bytes m 0 (drop (8 * w) (bytes_of n xs)) (little_bytes m x) each ∙ number_back m x
  where
    short : (n - 8 * w < 8) ⊎ (8 ≤ n - 8 * w) → little_from (8 * w) 8 (bytes_of n xs) ≡ little_from (8 * w) m (bytes_of n xs)
    short (inl h) = let most = length-take n (spelled xs) in beyond 8 (8 * w) m (bytes_of n xs) (omega arith) (omega (arith, most))
    short (inr h) = let g : 8 ≡ m = omega arith in ap (λ k. little_from (8 * w) k (bytes_of n xs)) g

    each : (k : ℕ) → 0 ≤ k → k < 0 + m → slice_index (drop (8 * w) (bytes_of n xs)) k ≡ slice_index (little_bytes m (slice_index xs w)) k
    each k l h =
        get_or-drop (8 * w) (bytes_of n xs) k 0 ∙ get_or-take n (spelled xs) (8 * w + k) 0 (omega arith) ∙ byte_spelled xs w k within (omega arith)
        ∙ sym (ap (λ ys. slice_index ys k) (sym (take-bytes_low_first 0 8 m (slice_index xs w) (omega arith))) ∙ get_or-take m (little_bytes 8 (slice_index xs w)) k 0 (omega arith))

-- past the last
pub word_past : (n : ℕ) (xs : List ℕ) (w : ℕ) → n ≤ 8 * w → word_at (bytes_of n xs) w ≡ 0
word_past n xs w h = let most = length-take n (spelled xs) in word_is (bytes_of n xs) w ∙ beyond 8 (8 * w) 0 (bytes_of n xs) (omega arith) (omega (arith, most))

-- ---- zeros
pub word_zero : (n w : ℕ) → word_at (replicate n 0) w ≡ 0
word_zero n w = word_is (replicate n 0) w ∙ no_bytes 8 (8 * w) (replicate n 0) (zeros n)

pub bytes_zero : (n : ℕ) → IsBytes n (replicate n 0)
bytes_zero n = record { len = count n; bytes_fit = λ k d lt. each n k d lt }
  where
    count : (n : ℕ) → length {A = ℕ} (replicate n 0) ≡ n
    count zero = refl
    count (suc n) = omega (arith, count n)

    each : (n k d : ℕ) → k < length {A = ℕ} (replicate n 0) → get_or (replicate n 0) k d < 256
    each zero k d lt = absurd (omega arith)
    each (suc n) zero d lt = omega arith
    each (suc n) (suc k) d lt = each n k d (omega arith)
