-- Trees of a part as trees of the design, from those of their parts.
use Rattle.std.specs.Prelude.{◌≡◌, ℕ, ◌+◌, List, [], ◌∷◌, ◌++◌, map}
use Rattle.std.proofs.Common.{sym, ap, ◌∙◌}
use Rattle.net_core.specs.declared.tree.Op.{Op}
use Rattle.net_core.specs.declared.tree.UnaryOp.{UnaryOp}
use Rattle.net_core.specs.declared.tree.Expr.{Expr}
use Rattle.net_core.specs.declared.tree.Stmt.{Stmt}
use Rattle.net_core.specs.Nets.{Tree, TMemoryWord, TUnary, TBinary, TConditional, Trees, TMore, StatementTree, SBlock, SIf, SIfElse, SStore, StatementTrees, SThen}
use Rattle.net_core.specs.View.{tree_of, statement_of}
use Rattle.block_core.specs.Rename.{rename, rename_parts, rename_statement, rename_statements}
use Rattle.net_core.specs.Chains.{parts_before, statements_before}
use Rattle.net_core.proofs.ChainLaws.{parts_one_more, statements_one_more}

module _ {M N : Type 0} (f : M → N) where
  pub memory_word_linked : (t : Tree M) (out : Tree N) (m : M) (m' : N) (i : Tree M) (i' : Tree N) → t ≡ TMemoryWord m i → m' ≡ f m → i' ≡ rename f i → out ≡ TMemoryWord m' i' → out ≡ rename f t
  memory_word_linked t out m m' i i' e a b o = o ∙ (λ k. TMemoryWord (a k) (b k)) ∙ sym (ap (rename f) e)

  pub unary_linked : (t : Tree M) (out : Tree N) (p : UnaryOp) (a : Tree M) (a' : Tree N) → t ≡ TUnary p a → a' ≡ rename f a → out ≡ TUnary p a' → out ≡ rename f t
  unary_linked t out p a a' e x o = o ∙ ap (TUnary p) x ∙ sym (ap (rename f) e)

  pub binary_linked : (t : Tree M) (out : Tree N) (op : Op) (a b : Tree M) (a' b' : Tree N) → t ≡ TBinary op a b → a' ≡ rename f a → b' ≡ rename f b → out ≡ TBinary op a' b' → out ≡ rename f t
  binary_linked t out op a b a' b' e x y o = o ∙ (λ k. TBinary op (x k) (y k)) ∙ sym (ap (rename f) e)

  pub conditional_linked : (t : Tree M) (out : Tree N) (c a b : Tree M) (c' a' b' : Tree N) → t ≡ TConditional c a b → c' ≡ rename f c → a' ≡ rename f a → b' ≡ rename f b → out ≡ TConditional c' a' b' → out ≡ rename f t
  conditional_linked t out c a b c' a' b' e w x y o = o ∙ (λ k. TConditional (w k) (x k) (y k)) ∙ sym (ap (rename f) e)

  pub parts_step : (old new : List (Expr N)) (x : Expr N) (part : Tree M) (left rest : Trees M) (whole : Trees N) → new ≡ old ++ x ∷ [] → tree_of x ≡ rename f part → left ≡ TMore part rest
      → parts_before (map tree_of old) (rename_parts f left) ≡ whole → parts_before (map tree_of new) (rename_parts f rest) ≡ whole
  parts_step old new x part left rest whole e v s h =
      ap (λ xs. parts_before (map tree_of xs) (rename_parts f rest)) e ∙ parts_one_more old x (rename_parts f rest)
      ∙ ap (λ t. parts_before (map tree_of old) (TMore t (rename_parts f rest))) v
      ∙ sym (ap (λ l. parts_before (map tree_of old) (rename_parts f l)) s) ∙ h

  module _ (r m : ℕ) where
    pub block_linked : (t : StatementTree M) (out : StatementTree N) (a : StatementTrees M) (a' : StatementTrees N) → t ≡ SBlock a → a' ≡ rename_statements f r m a → out ≡ SBlock a' → out ≡ rename_statement f r m t
    block_linked t out a a' e x o = o ∙ ap SBlock x ∙ sym (ap (rename_statement f r m) e)

    pub when_linked : (t : StatementTree M) (out : StatementTree N) (c : Tree M) (c' : Tree N) (a : StatementTree M) (a' : StatementTree N) → t ≡ SIf c a → c' ≡ rename f c → a' ≡ rename_statement f r m a → out ≡ SIf c' a' → out ≡ rename_statement f r m t
    when_linked t out c c' a a' e w x o = o ∙ (λ k. SIf (w k) (x k)) ∙ sym (ap (rename_statement f r m) e)

    pub when_else_linked : (t : StatementTree M) (out : StatementTree N) (c : Tree M) (c' : Tree N) (a b : StatementTree M) (a' b' : StatementTree N) → t ≡ SIfElse c a b → c' ≡ rename f c → a' ≡ rename_statement f r m a → b' ≡ rename_statement f r m b
        → out ≡ SIfElse c' a' b' → out ≡ rename_statement f r m t
    when_else_linked t out c c' a b a' b' e w x y o = o ∙ (λ k. SIfElse (w k) (x k) (y k)) ∙ sym (ap (rename_statement f r m) e)

    pub store_linked : (t : StatementTree M) (out : StatementTree N) (k n : ℕ) (i e : Tree M) (i' e' : Tree N) → t ≡ SStore k i e → n ≡ m + k → i' ≡ rename f i → e' ≡ rename f e → out ≡ SStore n i' e' → out ≡ rename_statement f r m t
    store_linked t out k n i e i' e' s w x y o = o ∙ (λ j. SStore (w j) (x j) (y j)) ∙ sym (ap (rename_statement f r m) s)

    pub statements_step : (old new : List (Stmt N)) (x : Stmt N) (first : StatementTree M) (left rest : StatementTrees M) (whole : StatementTrees N) → new ≡ old ++ x ∷ [] → statement_of x ≡ rename_statement f r m first → left ≡ SThen first rest
        → statements_before (map statement_of old) (rename_statements f r m left) ≡ whole → statements_before (map statement_of new) (rename_statements f r m rest) ≡ whole
    statements_step old new x first left rest whole e v s h =
        ap (λ xs. statements_before (map statement_of xs) (rename_statements f r m rest)) e ∙ statements_one_more old x (rename_statements f r m rest)
        ∙ ap (λ t. statements_before (map statement_of old) (SThen t (rename_statements f r m rest))) v
        ∙ sym (ap (λ l. statements_before (map statement_of old) (rename_statements f r m l)) s) ∙ h
