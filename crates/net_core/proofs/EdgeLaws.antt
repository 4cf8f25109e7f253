-- Edges, one always block longer.
use Rattle.std.specs.Prelude.{◌≡◌, ℕ, zero, suc, ◌<◌, List, [], ◌∷◌, length, map, take}
use Rattle.std.proofs.Common.{get_or, sym, ap, arith}
use Rattle.net_core.specs.declared.tree.Net.{Net}
use Rattle.net_core.specs.declared.tree.Stmt.{Stmt}
use Rattle.net_core.specs.View.{statement_of}
use Rattle.net_core.specs.Value.{Env}
use Rattle.net_core.specs.Clock.{Stored, done, edge}

pub edge_more : (v : Env Net) (xs : List (Stmt Net)) (i : ℕ) (x : Stmt Net) (s : Stored) → i < length xs → x ≡ get_or xs i x
    → edge v (map statement_of (take (suc i) xs)) s ≡ done v (statement_of x) (edge v (map statement_of (take i xs)) s)
edge_more v [] i x s l e = absurd (omega arith)
edge_more v (y ∷ ys) zero x s l e = ap (λ z. done v (statement_of z) s) (sym e)
edge_more v (y ∷ ys) (suc i) x s l e = edge_more v ys i x (done v (statement_of y) s) (omega arith) e
