-- Statements, one after another, some of them under a condition.
use Rattle.std.specs.Prelude.{◌≡◌, ◌==◌, if◌then◌else◌, Bool, true, false, List, [], ◌∷◌, ◌++◌, map as map_list}
use Rattle.std.proofs.Common.{refl, sym, ap, ◌∙◌}
use Rattle.net_core.specs.declared.tree.Stmt.{Stmt}
use Rattle.net_core.specs.View.{statement_of}
use Rattle.net_core.specs.Nets.{Tree, StatementTree, SEnd}
use Rattle.net_core.specs.Value.{Env, value}
use Rattle.net_core.specs.Clock.{Stored, done, all_done, edge}
use Rattle.net_core.specs.Chains.{statements_before}
use Rattle.net_optimize.specs.Lists.{guarded}
use Rattle.net_optimize.proofs.ListLemmas.{map_append, edge_append}

module _ {N : Type 0} (v : Env N) where
  pub all_done_edge : (ts : List (StatementTree N)) (s : Stored) → all_done v (statements_before ts SEnd) s ≡ edge v ts s
  all_done_edge [] s = refl
  all_done_edge (t ∷ ts) s = all_done_edge ts (done v t s)

  -- one statement more
  pub edge_behind : (old new : List (Stmt N)) (x : Stmt N) (s : Stored) → new ≡ old ++ x ∷ [] → edge v (map_list statement_of new) s ≡ done v (statement_of x) (edge v (map_list statement_of old) s)
  edge_behind old new x s e =
      ap (λ xs. edge v (map_list statement_of xs) s) e ∙ ap (λ ts. edge v ts s) (map_append statement_of old (x ∷ [])) ∙ edge_append v (map_list statement_of old) (statement_of x ∷ []) s

  if_twice : (t : Bool) (xs ys : List (StatementTree N)) (s : Stored) → (if t then s else edge v (xs ++ ys) s) ≡ (if t then (if t then s else edge v xs s) else edge v ys (if t then s else edge v xs s))
  if_twice true xs ys s = refl
  if_twice false xs ys s = edge_append v xs ys s

  -- statements under one condition, one list after another
  pub guarded_behind : (c d : Tree N) (xs ys all : List (Stmt N)) (s : Stored) → c ≡ d → all ≡ xs ++ ys
      → guarded v d (map_list statement_of all) s ≡ guarded v d (map_list statement_of ys) (guarded v c (map_list statement_of xs) s)
  guarded_behind c d xs ys all s e is =
      ap (λ zs. guarded v d (map_list statement_of zs) s) is ∙ ap (λ ts. guarded v d ts s) (map_append statement_of xs ys)
      ∙ if_twice ((value v d).value == 0) (map_list statement_of xs) (map_list statement_of ys) s
      ∙ ap (λ x. guarded v d (map_list statement_of ys) (guarded v x (map_list statement_of xs) s)) (sym e)
