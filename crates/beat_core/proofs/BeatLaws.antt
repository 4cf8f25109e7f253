-- A frame cut into beats, and put together again.
use Rattle.std.proofs.Common.{◌≡◌, ℕ, zero, suc, ◌+◌, ◌*◌, ◌-◌, ◌<◌, ◌≤◌, min, Bool, true, false, List, [], ◌∷◌, ◌++◌, length, take, drop, refl, sym, ap, ◌∙◌, arith, length-append, length-drop, append_assoc}
use Rattle.std.specs.Prelude.{nat_le, MatchBool}
use Rattle.std.specs.List.{AllByRecursion}
use Rattle.std.proofs.lemmas.List.{append-nil, length-take, take-append-drop, take_at, drop_at, take_all, drop_all, take_rest, drop_min, nil_from_length}
use Rattle.std.proofs.lemmas.Bool.{lt-leb, le-leb}
use Rattle.beat_core.specs.declared.beat.Beat.{Beat}
use Rattle.beat_core.specs.Beats.{bytes_of_beat, frame_of, first_beat, first_beats, beat_count, beats_of, IsOffer, IsFilledUp, IsWhole}
use Rattle.beat_core.specs.Words.{low_bytes, word_of}
use Rattle.beat_core.proofs.WordLaws.{length-low_bytes, low_bytes-word_of, word_of-low_bytes, word_of-lt}
use Rattle.list_laws.specs.Bytes.{IsBytes}
use Rattle.list_laws.proofs.ByteLaws.{IsBytes-take, IsBytes-drop}

-- ---- the beats of a list, step by step

pub beats_of-nil : beats_of [] ≡ []
unfolding beats_of first_beats
beats_of-nil = refl

pub beats_of-step : (xs : List ℕ) → 0 < length xs → beats_of xs ≡ first_beat xs ∷ beats_of (drop 8 xs)
unfolding beats_of first_beats
beats_of-step xs h =
    let more : beat_count (length xs) ≡ suc (beat_count (length (drop 8 xs))) = omega (arith, length-drop 8 xs) in
    rw more refl

pub length-first_beats : (n : ℕ) (xs : List ℕ) → length (first_beats n xs) ≡ n
unfolding first_beats
length-first_beats zero xs = refl
length-first_beats (suc n) xs = ap suc (length-first_beats n (drop 8 xs))

pub length-beats_of : (xs : List ℕ) → length (beats_of xs) ≡ beat_count (length xs)
unfolding beats_of
length-beats_of xs = length-first_beats (beat_count (length xs)) xs

-- ---- put together, they are the list again

pub bytes_of_beat-first_beat : (xs : List ℕ) → IsBytes xs → bytes_of_beat (first_beat xs) ≡ take 8 xs
bytes_of_beat-first_beat xs h =
    let count : min (min 8 (length xs)) 8 ≡ length (take 8 xs) = omega (arith, length-take 8 xs) in
    rw count (low_bytes-word_of (take 8 xs) (IsBytes-take 8 xs h))

frame_of-first_beats : (n : ℕ) (xs : List ℕ) → IsBytes xs → length xs ≤ 8 * n → frame_of (first_beats n xs) ≡ xs
unfolding first_beats
frame_of-first_beats zero [] h fits = refl
frame_of-first_beats zero (x ∷ xs) h fits = absurd (omega arith)
frame_of-first_beats (suc n) xs h fits =
    let rest = frame_of-first_beats n (drop 8 xs) (IsBytes-drop 8 xs h) (omega (arith, length-drop 8 xs)) in
    rw (bytes_of_beat-first_beat xs h, rest) (take-append-drop 8 xs)

pub frame_of-beats_of : (xs : List ℕ) → IsBytes xs → frame_of (beats_of xs) ≡ xs
unfolding beats_of
frame_of-beats_of xs h = frame_of-first_beats (beat_count (length xs)) xs h (omega arith)

-- ---- they are the beats of one whole frame

IsWhole-first_beats : (n : ℕ) (xs : List ℕ) → 8 * n < length xs → length xs ≤ 8 * n + 8 → IsWhole (first_beats (suc n) xs)
unfolding first_beats
IsWhole-first_beats zero xs some fits =
    let last : nat_le (length xs) 8 ≡ true = le-leb (length xs) 8 (omega arith) in
    let offer : IsOffer (first_beat xs) = rw last (omega arith, omega arith) in
    (offer, last)
IsWhole-first_beats (suc n) xs some fits =
    let on : nat_le (length xs) 8 ≡ false = lt-leb (length xs) 8 (omega arith) in
    let offer : IsOffer (first_beat xs) = rw on (omega arith) in
    (offer, on, IsWhole-first_beats n (drop 8 xs) (omega (arith, length-drop 8 xs)) (omega (arith, length-drop 8 xs)))

pub IsWhole-beats_of : (xs : List ℕ) → 1 ≤ length xs → IsWhole (beats_of xs)
unfolding beats_of
IsWhole-beats_of xs h =
    let n = beat_count (length xs) - 1 in
    let more : beat_count (length xs) ≡ suc n = omega arith in
    rw more (IsWhole-first_beats n xs (omega arith) (omega arith))

IsFilledUp-first_beat : (xs : List ℕ) → IsBytes xs → IsFilledUp (first_beat xs)
IsFilledUp-first_beat xs h =
    let count : min 8 (length xs) ≡ length (take 8 xs) = omega (arith, length-take 8 xs) in
    rw count (word_of-lt (take 8 xs) (IsBytes-take 8 xs h))

IsFilledUp-first_beats : (n : ℕ) (xs : List ℕ) → IsBytes xs → AllByRecursion IsFilledUp (first_beats n xs)
unfolding first_beats
IsFilledUp-first_beats zero xs h = tt
IsFilledUp-first_beats (suc n) xs h = (IsFilledUp-first_beat xs h, IsFilledUp-first_beats n (drop 8 xs) (IsBytes-drop 8 xs h))

pub IsFilledUp-beats_of : (xs : List ℕ) → IsBytes xs → AllByRecursion IsFilledUp (beats_of xs)
unfolding beats_of
IsFilledUp-beats_of xs h = IsFilledUp-first_beats (beat_count (length xs)) xs h

-- ---- the beats of what beats put together

pub same_beat : (b : Beat) (word bytes : ℕ) (last : Bool) → word ≡ b.word → bytes ≡ b.bytes → last ≡ b.last → record { word = word; bytes = bytes; last = last } ≡ b
same_beat b word bytes last w n l = rw (w, n, l) refl

-- the first beat of a beat's bytes and what follows
first_beat-back : (b : Beat) (rest : List ℕ) → IsFilledUp b → b.bytes ≤ 8 → min 8 (b.bytes + length rest) ≡ b.bytes → take 8 (bytes_of_beat b ++ rest) ≡ bytes_of_beat b → nat_le (b.bytes + length rest) 8 ≡ b.last → first_beat (bytes_of_beat b ++ rest) ≡ b
first_beat-back b rest filled fits count prefix last =
    let same : min b.bytes 8 ≡ b.bytes = omega arith in
    let len : length (bytes_of_beat b ++ rest) ≡ b.bytes + length rest = omega (arith, length-append (bytes_of_beat b) rest, length-low_bytes (min b.bytes 8) b.word) in
    let word : word_of (take 8 (bytes_of_beat b ++ rest)) ≡ b.word = ap word_of prefix ∙ ap (λ (n : ℕ). word_of (low_bytes n b.word)) same ∙ word_of-low_bytes b.bytes b.word filled in
    let bytes : min 8 (length (bytes_of_beat b ++ rest)) ≡ b.bytes = ap (min 8) len ∙ count in
    let ends : nat_le (length (bytes_of_beat b ++ rest)) 8 ≡ b.last = ap (λ (n : ℕ). nat_le n 8) len ∙ last in
    same_beat b _ _ _ word bytes ends

-- a beat and the beats of what follows it
beats_of-back : (b : Beat) (rest : List ℕ) → 1 ≤ b.bytes → b.bytes ≤ 8 → take 8 (bytes_of_beat b ++ rest) ≡ bytes_of_beat b → drop 8 (bytes_of_beat b ++ rest) ≡ rest → first_beat (bytes_of_beat b ++ rest) ≡ b → beats_of (bytes_of_beat b ++ rest) ≡ b ∷ beats_of rest
beats_of-back b rest some fits prefix back first =
    let len : 0 < length (bytes_of_beat b ++ rest) = omega (arith, length-append (bytes_of_beat b) rest, length-low_bytes (min b.bytes 8) b.word) in
    beats_of-step (bytes_of_beat b ++ rest) len ∙ ap (λ (h : Beat). h ∷ beats_of (drop 8 (bytes_of_beat b ++ rest))) first ∙ ap (λ (r : List ℕ). b ∷ beats_of r) back

-- the count of an offer
pub IsOffer-count : (b : Beat) → IsOffer b → (1 ≤ b.bytes) × (b.bytes ≤ 8)
IsOffer-count b h = count b.last h where
  count : (last : Bool) → MatchBool last ((1 ≤ b.bytes) × (b.bytes ≤ 8)) (b.bytes ≡ 8) → (1 ≤ b.bytes) × (b.bytes ≤ 8)
  count true h = h
  count false h = (omega arith, omega arith)

-- an offer that is no last one has eight bytes
pub IsOffer-eight : (b : Beat) → IsOffer b → b.last ≡ false → b.bytes ≡ 8
IsOffer-eight b h e = count b.last h e where
  count : (last : Bool) → MatchBool last ((1 ≤ b.bytes) × (b.bytes ≤ 8)) (b.bytes ≡ 8) → last ≡ false → b.bytes ≡ 8
  count true h e = absurd cc
  count false h e = h

-- beats of a whole frame have at least a byte
pub frame_of-some : (bs : List Beat) → IsWhole bs → 1 ≤ length (frame_of bs)
frame_of-some [] h = absurd h
frame_of-some (b ∷ []) h =
    omega (arith, IsOffer-count b h.0, length-append (bytes_of_beat b) [], length-low_bytes (min b.bytes 8) b.word)
frame_of-some (b ∷ c ∷ bs) h =
    omega (arith, IsOffer-count b h.0, length-append (bytes_of_beat b) (frame_of (c ∷ bs)), length-low_bytes (min b.bytes 8) b.word)

pub beats_of-frame_of : (bs : List Beat) → IsWhole bs → AllByRecursion IsFilledUp bs → beats_of (frame_of bs) ≡ bs
beats_of-frame_of [] h filled = absurd h
beats_of-frame_of (b ∷ []) h filled =
    let count = IsOffer-count b h.0 in
    let len : length (bytes_of_beat b) ≡ b.bytes = omega (arith, length-low_bytes (min b.bytes 8) b.word) in
    let long : length (bytes_of_beat b ++ []) ≤ 8 = omega (arith, length-append (bytes_of_beat b) []) in
    let prefix : take 8 (bytes_of_beat b ++ []) ≡ bytes_of_beat b = take_all 8 (bytes_of_beat b ++ []) long ∙ append-nil (bytes_of_beat b) in
    let back : drop 8 (bytes_of_beat b ++ []) ≡ [] = drop_all 8 (bytes_of_beat b ++ []) long in
    let last : nat_le (b.bytes + 0) 8 ≡ b.last = le-leb (b.bytes + 0) 8 (omega arith) ∙ sym h.1 in
    beats_of-back b [] count.0 count.1 prefix back (first_beat-back b [] filled.0 count.1 (omega arith) prefix last) ∙ ap (λ (r : List Beat). b ∷ r) beats_of-nil
beats_of-frame_of (b ∷ c ∷ bs) h filled =
    let rest = frame_of (c ∷ bs) in
    let some : 1 ≤ length rest = frame_of-some (c ∷ bs) h.2 in
    let eight : b.bytes ≡ 8 = IsOffer-eight b h.0 h.1 in
    let len : length (bytes_of_beat b) ≡ 8 = omega (arith, length-low_bytes (min b.bytes 8) b.word) in
    let prefix : take 8 (bytes_of_beat b ++ rest) ≡ bytes_of_beat b = take_at (bytes_of_beat b) rest 8 len in
    let back : drop 8 (bytes_of_beat b ++ rest) ≡ rest = drop_at (bytes_of_beat b) rest 8 len in
    let last : nat_le (b.bytes + length rest) 8 ≡ b.last = lt-leb (b.bytes + length rest) 8 (omega arith) ∙ sym h.1 in
    beats_of-back b rest (omega arith) (omega arith) prefix back (first_beat-back b rest filled.0 (omega arith) (omega arith) prefix last)
    ∙ ap (λ (r : List Beat). b ∷ r) (beats_of-frame_of (c ∷ bs) h.2 filled.1)

-- ---- the steps of a walk over the bytes

-- what a range leaves after the first eight bytes
pub rest_after : (xs : List ℕ) (k : ℕ) → k ≡ min (length xs) 8 → take (length xs - k) (drop k xs) ≡ drop 8 xs
rest_after xs k e =
    let eight : k ≡ min 8 (length xs) = omega arith in
    take_rest xs k ∙ ap (λ (n : ℕ). drop n xs) eight ∙ drop_min 8 xs

pub beats_more : (prefix all : List Beat) (b : Beat) (xs ys : List ℕ) → 0 < length xs → b ≡ first_beat xs → ys ≡ drop 8 xs → prefix ++ beats_of xs ≡ all → (prefix ++ b ∷ []) ++ beats_of ys ≡ all
beats_more prefix all b xs ys some first rest so_far =
    let step : beats_of xs ≡ b ∷ beats_of ys = beats_of-step xs some ∙ ap (λ (h : Beat). h ∷ beats_of (drop 8 xs)) (sym first) ∙ ap (λ (r : List ℕ). b ∷ beats_of r) (sym rest) in
    append_assoc prefix (b ∷ []) (beats_of ys) ∙ ap (λ (r : List Beat). prefix ++ r) (sym step) ∙ so_far

pub beats_done : (prefix all : List Beat) (xs : List ℕ) → length xs ≡ 0 → prefix ++ beats_of xs ≡ all → prefix ≡ all
beats_done prefix all xs none so_far =
    let nil : xs ≡ [] = nil_from_length xs none in
    sym (append-nil prefix) ∙ ap (λ (r : List Beat). prefix ++ r) (sym (ap beats_of nil ∙ beats_of-nil)) ∙ so_far
