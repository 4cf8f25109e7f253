-- A frame on a bus of eight bytes: its beats, and the bytes of beats.
use Rattle.std.specs.Prelude.{◌≡◌, ℕ, zero, suc, ◌+◌, ◌/◌, ◌^◌, ◌<◌, ◌≤◌, min, nat_le, List, [], ◌∷◌, length, take, drop, true, false, MatchBool}
use Rattle.std.specs.List.{flat_map}
use Rattle.beat_core.specs.declared.beat.Beat.{Beat}
use Rattle.beat_core.specs.Words.{low_bytes, word_of}

-- the bytes of a beat: a count above 8 counts as 8
abbrev pub bytes_of_beat : Beat → List ℕ
bytes_of_beat b = low_bytes (min b.bytes 8) b.word

-- the bytes of beats, one after the other
abbrev pub frame_of : List Beat → List ℕ
frame_of bs = flat_map bytes_of_beat bs

-- the beat of the first bytes of what is left of a frame
abbrev pub first_beat : List ℕ → Beat
first_beat xs = record { word = word_of (take 8 xs); bytes = min 8 (length xs); last = nat_le (length xs) 8 }

-- how many beats n bytes take
abbrev pub beat_count : ℕ → ℕ
beat_count n = (n + 7) / 8

-- the first n beats of what is left of a frame
unfoldable pub first_beats : ℕ → List ℕ → List Beat
first_beats zero xs = []
first_beats (suc n) xs = first_beat xs ∷ first_beats n (drop 8 xs)

-- the beats of a frame: eight bytes in each but the last, which has 1 to 8 and alone is last
unfoldable pub beats_of : List ℕ → List Beat
beats_of xs = first_beats (beat_count (length xs)) xs

-- a beat that may be offered: it has eight bytes, or as a last one 1 to 8
abbrev pub IsOffer : Beat → Type 0
IsOffer b = MatchBool b.last ((1 ≤ b.bytes) × (b.bytes ≤ 8)) (b.bytes ≡ 8)

-- the bytes of the word that do not count are zero
abbrev pub IsFilledUp : Beat → Type 0
IsFilledUp b = b.word < 256 ^ b.bytes

-- the beats of one whole frame: each may be offered, and the last alone is last
abbrev pub IsWhole : List Beat → Type 0
IsWhole [] = ⊥
IsWhole (b ∷ []) = IsOffer b × (b.last ≡ true)
IsWhole (b ∷ c ∷ bs) = IsOffer b × (b.last ≡ false) × IsWhole (c ∷ bs)
