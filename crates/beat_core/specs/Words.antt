-- Bytes, and words of up to eight of them.
use Rattle.std.specs.Prelude.{ℕ, zero, suc, ◌+◌, ◌*◌, ◌/◌, ◌%◌, List, [], ◌∷◌}

-- the lowest n bytes of a word, the lowest first
unfoldable pub low_bytes : ℕ → ℕ → List ℕ
low_bytes zero word = []
low_bytes (suc n) word = word % 256 ∷ low_bytes n (word / 256)

-- up to eight bytes as a word, the first the lowest, filled up with zeros
unfoldable pub word_of : List ℕ → ℕ
word_of [] = 0
word_of (x ∷ xs) = x + 256 * word_of xs
