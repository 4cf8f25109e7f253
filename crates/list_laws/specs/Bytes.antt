-- Lists of bytes.
use Rattle.std.specs.Prelude.{ℕ, ◌<◌, List, slice_index}

-- a list of bytes, as the content of a slice is
abbrev pub IsBytes : List ℕ → Type 0
IsBytes xs = (i : ℕ) → slice_index xs i < 256
