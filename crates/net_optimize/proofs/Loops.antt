-- One more element in the loops that make a design of what is kept.
use Rattle.std.specs.Prelude.{◌≡◌, ℕ, ◌+◌, ◌<◌, List, [], ◌∷◌, ◌++◌, length, map}
use Rattle.std.proofs.Common.{refl, sym, ap, ◌∙◌, get_or, drop, append_assoc}
use Rattle.std.proofs.lemmas.List.{drop_more, map_push}
use Rattle.net_core.specs.declared.tree.Expr.{Expr}
use Rattle.net_core.specs.declared.tree.Net.{Net}
use Rattle.net_core.specs.Nets.{Tree, Trees, TMore, StatementTree, StatementTrees, SThen}
use Rattle.net_core.specs.View.{tree_of}
use Rattle.net_core.specs.Chains.{parts_before, statements_before}
use Rattle.net_core.proofs.ChainLaws.{parts_one_more}
use Rattle.net_optimize.specs.Renumber.{busy}

-- what is pushed stands for the first of those that are left
pub parts_pushed : {N : Type 0} (old new : List (Expr N)) (x : Expr N) (t : Tree N) (left rest whole : Trees N) → new ≡ old ++ x ∷ [] → tree_of x ≡ t → left ≡ TMore t rest
    → parts_before (map tree_of old) left ≡ whole → parts_before (map tree_of new) rest ≡ whole
parts_pushed old new x t left rest whole p s l h = cc (parts_one_more old x rest)

before_append : {N : Type 0} (xs ys : List (StatementTree N)) (rest : StatementTrees N) → statements_before (xs ++ ys) rest ≡ statements_before xs (statements_before ys rest)
before_append [] ys rest = refl
before_append (x ∷ xs) ys rest = ap (λ l. SThen x l) (before_append xs ys rest)

pub busy_before : (old new : List (StatementTree Net)) (a b : StatementTree Net) (left rest whole : StatementTrees Net) → new ≡ old ++ busy a → a ≡ b → left ≡ statements_before (busy b) rest
    → statements_before old left ≡ whole → statements_before new rest ≡ whole
busy_before old new a b left rest whole p s l h =
    ap (λ xs. statements_before xs rest) (p ∙ ap (λ x. old ++ busy x) s) ∙ before_append old (busy b) rest ∙ sym (ap (statements_before old) l) ∙ h

pub busy_pushed : (old new : List (StatementTree Net)) (a b : StatementTree Net) (left rest whole : List (StatementTree Net)) → new ≡ old ++ busy a → a ≡ b → left ≡ busy b ++ rest
    → old ++ left ≡ whole → new ++ rest ≡ whole
busy_pushed old new a b left rest whole p s l h =
    ap (λ xs. xs ++ rest) (p ∙ ap (λ x. old ++ busy x) s) ∙ append_assoc old (busy b) rest ∙ sym (ap (λ xs. old ++ xs) l) ∙ h

pub pushed : {A C : Type 0} (v : A → C) (old new : List A) (x : A) (t : C) (left rest whole : List C) → new ≡ old ++ x ∷ [] → v x ≡ t → left ≡ t ∷ rest → map v old ++ left ≡ whole → map v new ++ rest ≡ whole
pushed v old new x t left rest whole p s l h = cc (map_push v old x, append_assoc (map v old) (v x ∷ []) rest)

-- the first of those that are left
pub next : {A : Type 0} (xs : List A) (i : ℕ) (x : A) → i < length xs → x ≡ get_or xs i x → drop i xs ≡ x ∷ drop (i + 1) xs
next xs i x l e = drop_more xs i x l ∙ ap (λ y. y ∷ drop (i + 1) xs) (sym e)
