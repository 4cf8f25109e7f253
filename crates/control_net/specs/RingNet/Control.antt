-- How many places hold a packet, and a number that is counted.
use Rattle.std.specs.Prelude.{ℕ, suc, ◌+◌, Bool, if◌then◌else◌, List, [], ◌∷◌}
use Rattle.net_core.specs.Value.{number_of}

-- how many places hold a packet
abbrev pub packets : List Bool → ℕ
packets [] = 0
packets (h ∷ hs) = number_of h + packets hs

abbrev pub counted : Bool → ℕ → ℕ
counted b k = if b then suc k else k
