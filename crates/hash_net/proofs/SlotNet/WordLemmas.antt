-- Words of keys.
use Rattle.std.specs.Prelude.{slice_index, min}
use Rattle.std.proofs.Common.{◌≡◌, ◌⊎◌, inl, inr, ℕ, zero, suc, ◌+◌, ◌-◌, ◌*◌, ◌/◌, ◌%◌, ◌^◌, ◌<◌, ◌≤◌, All, List, [], ◌∷◌, ◌++◌, length, take, drop, get_or, refl, sym, ◌∙◌, ap, arith, div-one, append-nil}
use Rattle.std.proofs.Math.Nat.{pow-suc}
use Rattle.std.proofs.Math.Seq.{drop-append-add}
use Rattle.std.proofs.lemmas.Bool.{cases_lt}
use Rattle.std.proofs.lemmas.List.{drop-take, take-append-le, length-drop, get_or-drop, get_or_past, ext_get_or}
use Rattle.std.proofs.lemmas.List.Elements.{All-get_or}
use Rattle.byteorder.specs.Endian.{little_from, little_bytes}
use Rattle.byteorder.specs.Numbers.{little_from-take, little_from-bytes, length-bytes_low_first}
use Rattle.byteorder.proofs.Bytes.{take-bytes_low_first, pow256}
use Rattle.overlay_net.specs.xdp_maps.Contents.{IsBytes}
use Rattle.overlay_net.specs.cell_core.Sites.{spelled, bytes_of}
use Rattle.cell_nets.proofs.cell_core_laws.SpelledLaws.{bytes_are}
use Rattle.overlay_net.specs.hazard_core.Commits.{word_count, word_at}
use Rattle.overlay_net.proofs.xdp_maps_laws.LittleLaws.{beyond}
use Rattle.array_net.specs.Words.{word_width}

byte_small : (xs : List ℕ) → All (λ b. b < 256) xs → (k : ℕ) → slice_index xs k < 256
byte_small xs h k = by_order (cases_lt k (length xs))
  where
    by_order : (k < length xs) ⊎ (length xs ≤ k) → slice_index xs k < 256
    by_order (inl some) = All-get_or (λ b. b < 256) xs k 0 some h
    by_order (inr past) = let e : slice_index xs k ≡ 0 = get_or_past xs k 0 past in omega (arith, e)

number_small : (n i : ℕ) (xs : List ℕ) → All (λ b. b < 256) xs → little_from i n xs < 256 ^ n
number_small zero i xs h = omega arith
number_small (suc n) i xs h =
    let b = byte_small xs h i in
    let r = number_small n (suc i) xs h in
    let p : 256 ^ suc n ≡ 256 ^ n * 256 = pow-suc 256 n in
    omega (arith, b, r, p)

-- a number tells its bytes
bytes_same : (n i : ℕ) (xs ys : List ℕ) → All (λ b. b < 256) xs → All (λ b. b < 256) ys → little_from i n xs ≡ little_from i n ys → (k : ℕ) → i ≤ k → k < i + n → slice_index xs k ≡ slice_index ys k
bytes_same zero i xs ys h g e k l m = absurd (omega arith)
bytes_same (suc n) i xs ys h g e k l m =
    let x : slice_index xs i < 256 = byte_small xs h i in
    let y : slice_index ys i < 256 = byte_small ys g i in
    let r : little_from (suc i) n xs ≡ little_from (suc i) n ys = omega (arith, x, y, e) in
    let z : slice_index xs i ≡ slice_index ys i = omega (arith, x, y, e) in
    by_order z (λ less. bytes_same n (suc i) xs ys h g r k (omega arith) (omega arith)) (cases_lt i k)
  where
    by_order : slice_index xs i ≡ slice_index ys i → (i < k → slice_index xs k ≡ slice_index ys k) → (i < k) ⊎ (k ≤ i) → slice_index xs k ≡ slice_index ys k
    by_order z later (inl less) = later less
    by_order z later (inr over) = let s : k ≡ i = omega arith in ap (slice_index xs) s ∙ z ∙ ap (slice_index ys) (sym s)

-- ---- a word of a byte string
-- how many bytes a word has
abbrev part : ℕ → ℕ → ℕ
part n j = min 8 (n - 8 * j)

word_from : (xs : List ℕ) (j : ℕ) → word_at xs j ≡ little_from 0 8 (drop (8 * j) xs)
word_from xs j = little_from-take 0 8 8 (drop (8 * j) xs) (omega arith)

word_part : (n : ℕ) (xs : List ℕ) (j : ℕ) → length xs ≡ n → word_at xs j ≡ little_from 0 (part n j) (drop (8 * j) xs)
word_part n xs j e =
    word_from xs j ∙ by_order (cases_lt (n - 8 * j) 8)
  where
    by_order : (n - 8 * j < 8) ⊎ (8 ≤ n - 8 * j) → little_from 0 8 (drop (8 * j) xs) ≡ little_from 0 (part n j) (drop (8 * j) xs)
    by_order (inl short) = beyond 8 0 (part n j) (drop (8 * j) xs) (omega arith) (omega (arith, length-drop (8 * j) xs))
    by_order (inr whole) = let m : 8 ≡ part n j = omega arith in ap (λ k. little_from 0 k (drop (8 * j) xs)) m

pub drop_bytes : (k : ℕ) (xs : List ℕ) → All (λ b. b < 256) xs → All (λ b. b < 256) (drop k xs)
drop_bytes zero xs h = h
drop_bytes (suc k) [] h = h
drop_bytes (suc k) (x ∷ xs) h = drop_bytes k xs (λ i d l. h (suc i) d (omega arith))

pub word_small : (n : ℕ) (xs : List ℕ) (j : ℕ) → IsBytes n xs → word_at xs j < 2 ^ word_width n j
word_small n xs j h =
    let l = number_small (part n j) 0 (drop (8 * j) xs) (drop_bytes (8 * j) xs h.bytes_fit) in
    omega (arith, l, word_part n xs j h.len, pow256 (part n j))

-- the words of two byte strings tell them apart
pub same_words : (n : ℕ) (xs ys : List ℕ) → IsBytes n xs → IsBytes n ys → ((j : ℕ) → j < word_count n → word_at xs j ≡ word_at ys j) → xs ≡ ys
same_words n xs ys h g e = ext_get_or 0 xs ys (h.len ∙ sym g.len) one
  where
    one : (i : ℕ) → i < length xs → get_or xs i 0 ≡ get_or ys i 0
    one i l =
        let m = h.len in
        let j = i / 8 in
        let there : 8 * j + (i - 8 * j) ≡ i = omega arith in
        let few : i - 8 * j < 0 + 8 = omega arith in
        let word : little_from 0 8 (drop (8 * j) xs) ≡ little_from 0 8 (drop (8 * j) ys) = sym (word_from xs j) ∙ e j (omega arith) ∙ word_from ys j in
        ap (λ k. get_or xs k 0) (sym there)
        ∙ sym (get_or-drop (8 * j) xs (i - 8 * j) 0)
        ∙ bytes_same 8 0 (drop (8 * j) xs) (drop (8 * j) ys) (drop_bytes (8 * j) xs h.bytes_fit) (drop_bytes (8 * j) ys g.bytes_fit) word (i - 8 * j) (omega arith) few
        ∙ get_or-drop (8 * j) ys (i - 8 * j) 0
        ∙ ap (λ k. get_or ys k 0) there

-- ---- byte strings of words

spelled_from : (words : List ℕ) (j : ℕ) → j < length words → (rest : List ℕ) × (drop (8 * j) (spelled words) ≡ little_bytes 8 (slice_index words j) ++ rest)
spelled_from [] j l = absurd (omega arith)
spelled_from (x ∷ words) zero l = (spelled words, refl)
spelled_from (x ∷ words) (suc j) l =
    let r = spelled_from words j (omega arith) in
    let e : 8 * suc j ≡ length (little_bytes 8 x) + 8 * j = omega (arith, length-bytes_low_first 0 8 x) in
    (r.0, ap (λ k. drop k (little_bytes 8 x ++ spelled words)) e ∙ drop-append-add (little_bytes 8 x) (spelled words) (8 * j) ∙ r.1)

low_number : (m x : ℕ) (rest : List ℕ) → m ≤ 8 → little_from 0 m (little_bytes 8 x ++ rest) ≡ x % 2 ^ (8 * m)
low_number m x rest few =
    sym (little_from-take 0 m m (little_bytes 8 x ++ rest) (omega arith))
    ∙ ap (little_from 0 m) (take-append-le m (little_bytes 8 x) rest (omega (arith, length-bytes_low_first 0 8 x)) ∙ take-bytes_low_first 0 8 m x few ∙ sym (append-nil (little_bytes m x)))
    ∙ little_from-bytes m 0 x []
    ∙ ap (λ y. y % 256 ^ m) (div-one x)
    ∙ ap (λ y. x % y) (pow256 m)

-- a word of them is the low part of the number
pub word_of_words : (n : ℕ) (words : List ℕ) (j : ℕ) → j < word_count n → word_count n ≤ length words → word_at (bytes_of n words) j ≡ slice_index words j % 2 ^ word_width n j
word_of_words n words j l enough =
    let r = spelled_from words j (omega arith) in
    let s : 8 * j + (n - 8 * j) ≡ n = omega arith in
    word_part n (bytes_of n words) j (bytes_are n words (omega arith)).len
    ∙ ap (λ k. little_from 0 (part n j) (drop (8 * j) (take k (spelled words)))) (sym s)
    ∙ ap (little_from 0 (part n j)) (drop-take (8 * j) (n - 8 * j) (spelled words))
    ∙ little_from-take 0 (part n j) (n - 8 * j) (drop (8 * j) (spelled words)) (omega arith)
    ∙ ap (little_from 0 (part n j)) r.1
    ∙ low_number (part n j) (slice_index words j) r.0 (omega arith)
