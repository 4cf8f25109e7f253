-- What assigns store for outputs.
use Rattle.std.specs.Prelude.{ℕ, ◌==◌, if◌then◌else◌, List, [], ◌∷◌}
use Rattle.net_core.specs.declared.tree.Word.{Word}
use Rattle.net_core.specs.Nets.{AssignTree}
use Rattle.net_core.specs.Value.{nothing}

-- the word that is stored for a port, where each assign stores one of these: that of the first assign of the port
abbrev pub stored_for : List AssignTree → List Word → ℕ → Word
stored_for [] words port = nothing
stored_for (a ∷ rest) [] port = nothing
stored_for (a ∷ rest) (w ∷ words) port = if a.port == port then w else stored_for rest words port
