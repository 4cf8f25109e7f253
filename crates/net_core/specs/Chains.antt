-- Lists in trees, from their elements.
use Rattle.std.specs.Prelude.{List, [], ◌∷◌}
use Rattle.net_core.specs.Nets.{Tree, Trees, TMore, StatementTree, StatementTrees, SBlock, SEnd, SThen}

-- parts of a concatenation in front of others
abbrev pub parts_before : {N : Type 0} → List (Tree N) → Trees N → Trees N
parts_before [] ps = ps
parts_before (t ∷ ts) ps = TMore t (parts_before ts ps)

-- statements in front of others
abbrev pub statements_before : {N : Type 0} → List (StatementTree N) → StatementTrees N → StatementTrees N
statements_before [] more = more
statements_before (a ∷ rest) more = SThen a (statements_before rest more)

-- statements one after another, as one
abbrev pub all_of : {N : Type 0} → List (StatementTree N) → StatementTree N
all_of statements = SBlock (statements_before statements SEnd)
