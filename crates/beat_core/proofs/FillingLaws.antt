-- Bytes of a word that do not count change neither frames nor offers.
use Rattle.std.specs.Prelude.{◌≡◌, ℕ, zero, suc, min, if◌then◌else◌, List, [], ◌∷◌, ◌++◌, map}
use Rattle.std.proofs.Common.{subst}
use Rattle.beat_core.specs.declared.beat.Beat.{Beat}
use Rattle.beat_core.specs.Words.{low_bytes, word_of}
use Rattle.beat_core.specs.Beats.{bytes_of_beat}
use Rattle.beat_core.specs.Filling.{filled_up}
use Rattle.beat_core.specs.Clocks.{AreOffers}
use Rattle.beat_core.proofs.WordLaws.{length-low_bytes, IsBytes-low_bytes, low_bytes-word_of}

pub bytes_of_beat-filled_up : (b : Beat) → bytes_of_beat (filled_up b) ≡ bytes_of_beat b
bytes_of_beat-filled_up b =
    subst (λ (n : ℕ). low_bytes n (word_of (bytes_of_beat b)) ≡ bytes_of_beat b) (length-low_bytes (min b.bytes 8) b.word)
    (low_bytes-word_of (bytes_of_beat b) (IsBytes-low_bytes (min b.bytes 8) b.word))

pub AreOffers-filled_up : (n : ℕ) (bs rest : List Beat) → AreOffers n (map filled_up bs ++ rest) → AreOffers n (bs ++ rest)
AreOffers-filled_up n [] rest h = h
AreOffers-filled_up n (b ∷ bs) rest h = (h.0, h.1, AreOffers-filled_up (if b.last then zero else suc n) bs rest h.2)
