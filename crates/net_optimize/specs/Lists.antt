-- What lists of parts and of statements mean.
use Rattle.std.specs.Prelude.{◌==◌, if◌then◌else◌, Option, Some, None, List, [], ◌∷◌, map as map_list}
use Rattle.net_core.specs.declared.tree.Word.{Word}
use Rattle.net_core.specs.declared.tree.Net.{Net}
use Rattle.net_core.specs.Nets.{Tree, StatementTree}
use Rattle.net_core.specs.View.{tree_of, statement_of}
use Rattle.net_core.specs.Value.{nothing, Env, value, concatenated}
use Rattle.net_core.specs.Clock.{Stored, edge}
use Rattle.net_optimize.specs.declared.joining.Joined.{Joined}
use Rattle.net_optimize.specs.declared.joining.Guarded.{Guarded}

-- parts, one before another
abbrev pub all_parts : {N : Type 0} → Env N → List (Tree N) → Word
all_parts v [] = nothing
all_parts v (t ∷ ts) = concatenated (value v t) (all_parts v ts)

-- statements under a condition
abbrev pub guarded : {N : Type 0} → Env N → Tree N → List (StatementTree N) → Stored → Stored
guarded v c body s = if (value v c).value == 0 then s else edge v body s

abbrev pub last_done : Env Net → Option Guarded → Stored → Stored
last_done v None s = s
last_done v (Some g) s = guarded v (tree_of g.condition) (map_list statement_of g.body.items) s

abbrev pub joined_done : Env Net → Joined → Stored → Stored
joined_done v j s = last_done v j.last (edge v (map_list statement_of j.first.items) s)
