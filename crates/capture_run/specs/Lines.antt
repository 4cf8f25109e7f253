-- The line of a verdict.
use Rattle.std.specs.Prelude.{ℕ, List, ◌++◌, codes, decimal}

-- four numbers in decimal with one space between them, and a line feed
abbrev pub verdict_line_of : ℕ → ℕ → ℕ → ℕ → List ℕ
verdict_line_of index verdict target length = decimal index ++ codes " " ++ decimal verdict ++ codes " " ++ decimal target ++ codes " " ++ decimal length ++ codes "\n"
