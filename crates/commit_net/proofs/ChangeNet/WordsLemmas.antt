-- Byte strings by their words.
use Rattle.std.specs.Prelude.{slice_index}
use Rattle.std.proofs.Common.{◌≡◌, ◌⊎◌, inl, inr, ◌∙◌, ℕ, zero, suc, ◌+◌, ◌-◌, ◌*◌, ◌/◌, ◌%◌, ◌<◌, ◌≤◌, All, List, [], ◌∷◌, ◌++◌, length, take, drop, refl, sym, ap, arith, drop-drop}
use Rattle.std.proofs.Math.Seq.{take-append-add}
use Rattle.std.proofs.lemmas.Bool.{cases_lt}
use Rattle.std.proofs.lemmas.List.{take-append-le, take-append-drop, take_all, length-drop, length-take-le}
use Rattle.std.proofs.lemmas.List.Elements.{All-take, All-drop}
use Rattle.byteorder.specs.Endian.{little_from, little_bytes}
use Rattle.byteorder.specs.Numbers.{little_from-cons, little_from-take, length-bytes_low_first}
use Rattle.beat_core.specs.Words.{low_bytes}
use Rattle.beat_core.proofs.WordLaws.{low_bytes-zero, low_bytes-suc, written_bytes}
use Rattle.overlay_net.specs.cell_core.Sites.{spelled, bytes_of}
use Rattle.overlay_net.specs.hazard_core.Commits.{word_count, word_at}

-- ---- the bytes of the number that they make
low_of : (m : ℕ) (bs : List ℕ) → length bs ≤ m → All (λ b. b < 256) bs → low_bytes (length bs) (little_from 0 m bs) ≡ bs
low_of m [] l h = low_bytes-zero (little_from 0 m [])
low_of zero (b ∷ bs) l h = absurd (omega (arith, l))
low_of (suc m) (b ∷ bs) l h =
    let x : b < 256 = h 0 b (omega arith) in
    let r = little_from 0 m bs in
    let first : (b + 256 * r) % 256 ≡ b = omega (arith, x) in
    let rest : (b + 256 * r) / 256 ≡ r = omega (arith, x) in
    ap (λ k. low_bytes (suc (length bs)) (b + 256 * k)) (little_from-cons 0 m b bs)
    ∙ low_bytes-suc (length bs) (b + 256 * r)
    ∙ (λ i. first i ∷ low_bytes (length bs) (rest i))
    ∙ ap (λ l. b ∷ l) (low_of m bs (omega (arith, l)) (λ k d lt. h (suc k) d (omega (arith, lt))))

-- eight at most stand in one word
in_word : (x : ℕ) (rest key : List ℕ) → length key ≤ 8 → All (λ b. b < 256) key → x ≡ word_at key 0 → take (length key) (little_bytes 8 x ++ rest) ≡ key
in_word x rest key l h e =
    take-append-le (length key) (little_bytes 8 x) rest (omega (arith, l, length-bytes_low_first 0 8 x))
    ∙ written_bytes (length key) x l
    ∙ ap (low_bytes (length key)) (e ∙ little_from-take 0 8 8 key (omega arith))
    ∙ low_of 8 key l h

module _ (x b : ℕ) (xs bs : List ℕ) where
  abbrev all : List ℕ
  all = b ∷ bs

  shifted : (w : ℕ) → word_at all (suc w) ≡ word_at (drop 8 all) w
  shifted w = let z : 8 * suc w ≡ 8 + 8 * w = omega arith in ap (λ k. little_from 0 8 (take 8 (drop k all))) z ∙ ap (λ l. little_from 0 8 (take 8 l)) (sym (drop-drop (8 * w) 8 all))

  -- the first word, and those after it
  word_more : All (λ y. y < 256) all → x ≡ word_at all 0 → (8 < length all → bytes_of (length (drop 8 all)) xs ≡ drop 8 all) → bytes_of (length all) (x ∷ xs) ≡ all
  word_more h first rest = by_order (cases_lt 8 (length all))
    where
      front_is : length (take 8 all) ≡ 8 → little_bytes 8 x ≡ take 8 all
      front_is whole =
          sym (take_all 8 (little_bytes 8 x) (omega (arith, length-bytes_low_first 0 8 x)))
          ∙ written_bytes 8 x (omega arith)
          ∙ (λ i. low_bytes (sym whole i) (first i))
          ∙ low_of 8 (take 8 all) (omega (arith, whole)) (All-take (λ y. y < 256) 8 all h)

      by_order : (8 < length all) ⊎ (length all ≤ 8) → bytes_of (length all) (x ∷ xs) ≡ all
      by_order (inr short) = in_word x (spelled xs) all short h first
      by_order (inl long) =
          let n = length (drop 8 all) in
          let many : n ≡ length all - 8 = length-drop 8 all in
          let whole : length (take 8 all) ≡ 8 = length-take-le 8 all (omega (arith, long)) in
          let eight = length-bytes_low_first 0 8 x in
          let z : length all ≡ length (little_bytes 8 x) + n = omega (arith, many, eight, long) in
          let front : little_bytes 8 x ≡ take 8 all = front_is whole in
          ap (λ k. take k (little_bytes 8 x ++ spelled xs)) z ∙ take-append-add (little_bytes 8 x) (spelled xs) n ∙ (λ i. front i ++ rest long i) ∙ take-append-drop 8 all

pub of_words : (xs key : List ℕ) → All (λ b. b < 256) key → length key ≤ 8 * length xs → ((w : ℕ) → w < word_count (length key) → slice_index xs w ≡ word_at key w) → bytes_of (length key) xs ≡ key
of_words [] [] h l e = refl
of_words [] (b ∷ key) h l e = absurd (omega (arith, l))
of_words (x ∷ xs) [] h l e = refl
of_words (x ∷ xs) (b ∷ key) h l e =
    let many = length-drop 8 (b ∷ key) in
    word_more x b xs key h (e 0 (omega arith))
    (λ long. of_words xs (drop 8 (b ∷ key)) (All-drop (λ y. y < 256) 8 (b ∷ key) h) (omega (arith, many, l, long)) (λ w lt. e (suc w) (omega (arith, lt, many, long)) ∙ shifted x b xs key w))

-- ---- words that are the same spell the same bytes
word_same : (n x y : ℕ) (xs ys : List ℕ) → x ≡ y → (7 ≤ n → bytes_of (n - 7) xs ≡ bytes_of (n - 7) ys) → bytes_of (suc n) (x ∷ xs) ≡ bytes_of (suc n) (y ∷ ys)
word_same n x y xs ys first rest = by_order (cases_lt n 7)
  where
    by_order : (n < 7) ⊎ (7 ≤ n) → bytes_of (suc n) (x ∷ xs) ≡ bytes_of (suc n) (y ∷ ys)
    by_order (inl short) =
        take-append-le (suc n) (little_bytes 8 x) (spelled xs) (omega (arith, short, length-bytes_low_first 0 8 x))
        ∙ ap (λ k. take (suc n) (little_bytes 8 k)) first
        ∙ sym (take-append-le (suc n) (little_bytes 8 y) (spelled ys) (omega (arith, short, length-bytes_low_first 0 8 y)))
    by_order (inr long) =
        let r = n - 7 in
        let z : suc n ≡ length (little_bytes 8 x) + r = omega (arith, long, length-bytes_low_first 0 8 x) in
        let u : length (little_bytes 8 y) + r ≡ suc n = omega (arith, long, length-bytes_low_first 0 8 y) in
        ap (λ k. take k (little_bytes 8 x ++ spelled xs)) z
        ∙ take-append-add (little_bytes 8 x) (spelled xs) r
        ∙ (λ i. little_bytes 8 (first i) ++ rest long i)
        ∙ sym (take-append-add (little_bytes 8 y) (spelled ys) r)
        ∙ ap (λ k. take k (little_bytes 8 y ++ spelled ys)) u

pub same_bytes : (n : ℕ) (xs ys : List ℕ) → n ≤ 8 * length xs → n ≤ 8 * length ys → ((w : ℕ) → w < word_count n → slice_index xs w ≡ slice_index ys w) → bytes_of n xs ≡ bytes_of n ys
same_bytes zero xs ys l m e = refl
same_bytes (suc n) [] ys l m e = absurd (omega (arith, l))
same_bytes (suc n) (x ∷ xs) [] l m e = absurd (omega (arith, m))
same_bytes (suc n) (x ∷ xs) (y ∷ ys) l m e = word_same n x y xs ys (e 0 (omega arith)) (λ long. same_bytes (n - 7) xs ys (omega (arith, l, long)) (omega (arith, m, long)) (λ w lt. e (suc w) (omega (arith, lt, long))))
