-- What is known of the values of wires.
use Rattle.std.specs.Prelude.{◌≡◌, ℕ, Option, Some, None, List}
use Rattle.std.proofs.Common.{get_or}
use Rattle.net_core.specs.declared.tree.Word.{Word}
use Rattle.net_core.specs.declared.tree.Net.{Net}
use Rattle.net_core.specs.declared.tree.Net.TheVariants.{Wire}
use Rattle.net_core.specs.declared.tree.Expr.{Expr}
use Rattle.net_core.specs.View.{tree_of}
use Rattle.net_core.specs.Value.{Env, value}

-- an expression, where there is one, has this value
abbrev pub IsValued : Env Net → Option (Expr Net) → Word → Type 0
IsValued v None x = Unit {0}
IsValued v (Some e) x = value v (tree_of e) ≡ x

-- each expression that is known of a wire has the wire's value
abbrev pub AreKnown : Env Net → List (Option (Expr Net)) → Type 0
AreKnown v known = (i : ℕ) → IsValued v (get_or known i None) (v.net (Wire i))
