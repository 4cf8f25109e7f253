-- Values of nets that the right sides of wires have.
use Rattle.std.specs.Prelude.{◌≡◌, ℕ, suc, List, [], ◌∷◌}
use Rattle.net_core.specs.declared.tree.Net.{Net}
use Rattle.net_core.specs.declared.tree.Net.TheVariants.{Wire}
use Rattle.net_core.specs.Nets.{WireTree}
use Rattle.net_core.specs.Value.{Env, right_value}

-- Each of these wires, whose numbers begin with this one, has the value of its right side.
abbrev pub Solves : Env Net → ℕ → List WireTree → Type 0
Solves v at [] = Unit {0}
Solves v at (w ∷ ws) = (right_value v w.right ≡ v.net (Wire at)) × Solves v (suc at) ws
