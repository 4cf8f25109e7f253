-- Bytes as words, and words written over bytes.
use Rattle.std.specs.Prelude.{map as map_list}
use Rattle.std.specs.List.{flat_map, range_with_len}
use Rattle.std.proofs.Common.{◌≡◌, ◌⊎◌, inl, inr, ℕ, zero, suc, ◌+◌, ◌-◌, ◌*◌, ◌<◌, ◌≤◌, List, [], ◌∷◌, ◌++◌, length, take, drop, refl, sym, ◌∙◌, ap, arith, length-append, length-drop, length-take, append_assoc, take-append-drop}
use Rattle.std.proofs.Math.Nat.{div-one}
use Rattle.std.proofs.Math.Seq.{take-append-add}
use Rattle.std.proofs.lemmas.Bool.{cases_lt}
use Rattle.std.proofs.lemmas.List.{take_at, drop_at, take_all, drop_all, take-append-le, drop-drop, nil_from_length}
use Rattle.byteorder.specs.Endian.{little_from, little_bytes}
use Rattle.byteorder.specs.Numbers.{little_from-cons}
use Rattle.realization.specs.list_laws.Bytes.{IsBytes}
use Rattle.realization.proofs.list_laws_laws.ByteLaws.{IsBytes-take, IsBytes-drop}
use Rattle.realization.specs.beat_core.declared.beat.Beat.{Beat}
use Rattle.realization.specs.beat_core.Words.{low_bytes, word_of}
use Rattle.realization.specs.beat_core.Beats.{first_beats, beat_count, beats_of}
use Rattle.realization.proofs.beat_core_laws.WordLaws.{length-low_bytes, take-low_bytes, low_bytes-word_of, bytes_low_first-low_bytes, word_of-nil, word_of-cons}
use Rattle.hazard_core.specs.Commits.{word_at, with_word}
use Rattle.realization.specs.HostHistory.Rows.{words_of, bytes_of}

-- ---- one word

-- of the bytes of the first word, those that there are
first_bytes : (xs : List ℕ) → IsBytes xs → take (length xs) (low_bytes 8 (word_of (take 8 xs))) ≡ take 8 xs
first_bytes xs h = by (cases_lt (length xs) 8)
  where
    by : (length xs < 8) ⊎ (8 ≤ length xs) → take (length xs) (low_bytes 8 (word_of (take 8 xs))) ≡ take 8 xs
    by (inl short) =
        let all : take 8 xs ≡ xs = take_all 8 xs (omega arith) in
        take-low_bytes (length xs) 8 (word_of (take 8 xs)) (omega arith) ∙ ap (λ (ys : List ℕ). low_bytes (length xs) (word_of ys)) all ∙ low_bytes-word_of xs h ∙ sym all
    by (inr long) =
        let eight : length (take 8 xs) ≡ 8 = omega (arith, length-take 8 xs) in
        take_all (length xs) (low_bytes 8 (word_of (take 8 xs))) (omega (arith, length-low_bytes 8 (word_of (take 8 xs))))
        ∙ ap (λ (n : ℕ). low_bytes n (word_of (take 8 xs))) (sym eight)
        ∙ low_bytes-word_of (take 8 xs) (IsBytes-take 8 xs h)

-- past the end stand zeros
little_nil : (i n : ℕ) → little_from i n [] ≡ 0
little_nil i zero = refl
little_nil i (suc n) = ap (λ (x : ℕ). 0 + 256 * x) (little_nil (suc i) n)

little_word : (n : ℕ) (xs : List ℕ) → length xs ≤ n → little_from 0 n xs ≡ word_of xs
little_word n [] h = little_nil 0 n ∙ sym word_of-nil
little_word zero (x ∷ xs) h = absurd (omega arith)
little_word (suc n) (x ∷ xs) h = ap (λ (r : ℕ). x + 256 * r) (little_from-cons 0 n x xs ∙ little_word n xs (omega arith)) ∙ sym (word_of-cons x xs)

word_at_is : (bytes : List ℕ) (w : ℕ) → word_at bytes w ≡ word_of (take 8 (drop (8 * w) bytes))
word_at_is bytes w = little_word 8 (take 8 (drop (8 * w) bytes)) (omega (arith, length-take 8 (drop (8 * w) bytes)))

-- ---- words that are written over bytes

abbrev pub words_in : ℕ → List ℕ → List ℕ → List ℕ
words_in w [] bytes = bytes
words_in w (x ∷ xs) bytes = words_in (w + 1) xs (with_word bytes w x)

-- a word over the bytes from its place on
one_in : (done old new : List ℕ) (w : ℕ) → length done ≡ 8 * w → length old ≡ length new → IsBytes new → with_word (done ++ old) w (word_of (take 8 new)) ≡ done ++ take 8 new ++ drop 8 old
one_in done old new w at long h =
    ap (λ (n : ℕ). patch n (take n (little_bytes 8 word))) left
    ∙ ap (λ (bytes : List ℕ). patch (length new) (take (length new) bytes)) (bytes_low_first-low_bytes 0 8 word ∙ ap (low_bytes 8) (div-one word))
    ∙ ap (patch (length new)) (first_bytes new h)
    ∙ ap (λ (xs : List ℕ). xs ++ take 8 new ++ drop (8 * w + length (take 8 new)) (done ++ old)) (take_at done old (8 * w) at)
    ∙ ap (λ (xs : List ℕ). done ++ take 8 new ++ xs) rest
  where
    word : ℕ
    word = word_of (take 8 new)

    patch : ℕ → List ℕ → List ℕ
    patch n bytes = take (8 * w) (done ++ old) ++ bytes ++ drop (8 * w + length bytes) (done ++ old)

    left : length (done ++ old) - 8 * w ≡ length new
    left = omega (arith, at, long, length-append done old)

    rest : drop (8 * w + length (take 8 new)) (done ++ old) ≡ drop 8 old
    rest = by (cases_lt (length new) 8)
      where
        by : (length new < 8) ⊎ (8 ≤ length new) → drop (8 * w + length (take 8 new)) (done ++ old) ≡ drop 8 old
        by (inl short) =
            drop_all (8 * w + length (take 8 new)) (done ++ old) (omega (arith, at, long, length-take 8 new, length-append done old))
            ∙ sym (drop_all 8 old (omega (arith, long)))
        by (inr enough) =
            let n : 8 * w + length (take 8 new) ≡ 8 * w + 8 = omega (arith, length-take 8 new) in
            ap (λ (k : ℕ). drop k (done ++ old)) n
            ∙ sym (drop-drop 8 (8 * w) (done ++ old))
            ∙ ap (drop 8) (drop_at done old (8 * w) at)

filled_from : (n w : ℕ) (done old new : List ℕ) → length new ≤ 8 * n → 8 * n < length new + 8 → (0 < n → length done ≡ 8 * w) → length old ≡ length new → IsBytes new → words_in w (map_list (λ (b : Beat). b.word) (first_beats n new)) (done ++ old) ≡ done ++ new
unfolding first_beats
filled_from zero w done old new le lt at long h =
    ap (λ (xs : List ℕ). done ++ xs) (nil_from_length old (omega (arith, le, long)) ∙ sym (nil_from_length new (omega (arith, le))))
filled_from (suc n) w done old new le lt at long h =
    ap (λ (xs : List ℕ). words_in (w + 1) (map_list (λ (b : Beat). b.word) (first_beats n (drop 8 new))) xs) (one_in done old new w (at (omega arith)) long h)
    ∙ filled_from n (w + 1) (done ++ take 8 new) (drop 8 old) (drop 8 new)
    (omega (arith, le, length-drop 8 new)) (omega (arith, lt, length-drop 8 new))
    (λ more. omega (arith, lt, more, at (omega arith), length-append done (take 8 new), length-take 8 new))
    (omega (arith, long, length-drop 8 new, length-drop 8 old)) (IsBytes-drop 8 new h)
    ∙ append_assoc done (take 8 new) (drop 8 new)
    ∙ ap (λ (xs : List ℕ). done ++ xs) (take-append-drop 8 new)

-- All words of some bytes, written over as many, leave them.
pub words_fill : (old new : List ℕ) → length old ≡ length new → IsBytes new → words_in 0 (words_of new) old ≡ new
unfolding beats_of
words_fill old new long h = filled_from (beat_count (length new)) 0 [] old new (omega arith) (omega arith) (λ some. refl) long h

-- ---- words that are read

back_from : (n w : ℕ) (bytes : List ℕ) → IsBytes bytes → length bytes ≤ 8 * (w + n) → take (length bytes - 8 * w) (flat_map (low_bytes 8) (map_list (word_at bytes) (range_with_len w n))) ≡ drop (8 * w) bytes
back_from zero w bytes h le =
    take_all (length bytes - 8 * w) [] (omega arith) ∙ sym (drop_all (8 * w) bytes (omega (arith, le)))
back_from (suc n) w bytes h le =
    ap (λ (k : ℕ). take k (low_bytes 8 (word_at bytes w) ++ more)) (sym (length-drop (8 * w) bytes))
    ∙ ap (λ (x : ℕ). take (length rest) (low_bytes 8 x ++ more)) (word_at_is bytes w)
    ∙ by (back_from n (w + 1) bytes h (omega (arith, le))) (cases_lt (length rest) 8)
  where
    rest : List ℕ
    rest = drop (8 * w) bytes

    more : List ℕ
    more = flat_map (low_bytes 8) (map_list (word_at bytes) (range_with_len (w + 1) n))

    first : List ℕ
    first = low_bytes 8 (word_of (take 8 (drop (8 * w) bytes)))

    eight : length (low_bytes 8 (word_of (take 8 (drop (8 * w) bytes)))) ≡ 8
    eight = length-low_bytes 8 (word_of (take 8 (drop (8 * w) bytes)))

    by : take (length bytes - 8 * (w + 1)) (flat_map (low_bytes 8) (map_list (word_at bytes) (range_with_len (w + 1) n))) ≡ drop (8 * (w + 1)) bytes
        → (length (drop (8 * w) bytes) < 8) ⊎ (8 ≤ length (drop (8 * w) bytes)) → take (length (drop (8 * w) bytes)) (low_bytes 8 (word_of (take 8 (drop (8 * w) bytes))) ++ flat_map (low_bytes 8) (map_list (word_at bytes) (range_with_len (w + 1) n))) ≡ drop (8 * w) bytes
    by later (inl short) =
        take-append-le (length rest) first more (omega (arith, short, eight))
        ∙ first_bytes rest (IsBytes-drop (8 * w) bytes h)
        ∙ take_all 8 rest (omega (arith, short))
    by later (inr long) =
        let more_of : length rest ≡ length first + (length bytes - 8 * (w + 1)) = omega (arith, long, eight, length-drop (8 * w) bytes) in
        ap (λ (k : ℕ). take k (first ++ more)) more_of
        ∙ take-append-add first more (length bytes - 8 * (w + 1))
        ∙ ap (λ (xs : List ℕ). first ++ xs) later
        ∙ ap (λ (xs : List ℕ). xs ++ drop (8 * (w + 1)) bytes) (sym (take_all (length rest) first (omega (arith, long, eight))) ∙ first_bytes rest (IsBytes-drop (8 * w) bytes h))
        ∙ ap (λ (k : ℕ). take 8 rest ++ drop k bytes) (omega arith)
        ∙ ap (λ (xs : List ℕ). take 8 rest ++ xs) (sym (drop-drop 8 (8 * w) bytes))
        ∙ take-append-drop 8 rest

-- All words of some bytes are these bytes again.
pub words_back : (n : ℕ) (bytes : List ℕ) → length bytes ≡ n → IsBytes bytes → bytes_of n (map_list (word_at bytes) (range_with_len 0 (beat_count n))) ≡ bytes
words_back n bytes long h =
    ap (λ (k : ℕ). take k (flat_map (low_bytes 8) (map_list (word_at bytes) (range_with_len 0 (beat_count n))))) (sym long ∙ omega arith)
    ∙ back_from (beat_count n) 0 bytes h (omega (arith, long))
