-- Lists in trees, one element longer.
use Rattle.std.proofs.Common.{◌≡◌, List, [], ◌∷◌, ◌++◌, map, refl, ap}
use Rattle.net_core.specs.declared.tree.Expr.{Expr}
use Rattle.net_core.specs.declared.tree.Stmt.{Stmt}
use Rattle.net_core.specs.Nets.{Trees, TMore, StatementTrees, SThen}
use Rattle.net_core.specs.View.{tree_of, statement_of}
use Rattle.net_core.specs.Chains.{parts_before, statements_before}

pub parts_one_more : {N : Type 0} (xs : List (Expr N)) (x : Expr N) (ps : Trees N) → parts_before (map tree_of (xs ++ x ∷ [])) ps ≡ parts_before (map tree_of xs) (TMore (tree_of x) ps)
parts_one_more [] x ps = refl
parts_one_more (y ∷ xs) x ps = ap (λ l. TMore (tree_of y) l) (parts_one_more xs x ps)

pub statements_one_more : {N : Type 0} (xs : List (Stmt N)) (x : Stmt N) (more : StatementTrees N) → statements_before (map statement_of (xs ++ x ∷ [])) more ≡ statements_before (map statement_of xs) (SThen (statement_of x) more)
statements_one_more [] x more = refl
statements_one_more (y ∷ xs) x more = ap (λ l. SThen (statement_of y) l) (statements_one_more xs x more)

-- what a loop does that takes the last element off and puts it in front
pub parts_moved : {N : Type 0} (xs rest : List (Expr N)) (x : Expr N) (ps more whole : Trees N) → xs ≡ rest ++ x ∷ [] → more ≡ TMore (tree_of x) ps → parts_before (map tree_of xs) ps ≡ whole → parts_before (map tree_of rest) more ≡ whole
parts_moved xs rest x ps more whole e m h = cc (parts_one_more rest x ps)

pub statements_moved : {N : Type 0} (xs rest : List (Stmt N)) (x : Stmt N) (ss more whole : StatementTrees N) → xs ≡ rest ++ x ∷ [] → more ≡ SThen (statement_of x) ss → statements_before (map statement_of xs) ss ≡ whole
    → statements_before (map statement_of rest) more ≡ whole
statements_moved xs rest x ss more whole e m h = cc (statements_one_more rest x ss)
