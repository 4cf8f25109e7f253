-- What is spelled as a statement and keeps the rules is read as it.
use Rattle.std.proofs.Common.{◌≡◌, ℕ, zero, suc, ◌<◌, ◌≤◌, Bool, true, false, not, Ok, List, [], ◌∷◌, ◌++◌, length, refl, sym, ap, ◌∙◌, subst, append_assoc, length-append, arith}
use Rattle.std.proofs.lemmas.Bool.{eq-eqb}
use Rattle.net_core.specs.declared.tree.Net.{Net}
use Rattle.net_core.specs.declared.tree.Net.TheVariants as net
use Rattle.net_core.specs.Nets.{Tree, StatementTree, SBlock, SIf, SIfElse, SSet, SStore, StatementTrees, SEnd, SThen}
use Rattle.net_core.specs.Width.{Scope, width_of}
use Rattle.verilog_lex.specs.declared.token.Keyword.TheVariants as keyword
use Rattle.verilog_lex.specs.declared.token.Symbol.TheVariants as symbol
use Rattle.verilog_lex.specs.Lexeme.{Lexeme, LName, LKeyword, LSymbol}
use Rattle.verilog_write.specs.VerilogGrammar.Grammar.{tree_lexemes}
use Rattle.design_rules.specs.FormedSyntax.{statement_depth, statements_depth, ends_open}
use Rattle.design_rules.specs.FormedScope.{Sorts}
use Rattle.verilog_expression.specs.declared.entry.Entry.TheVariants as entry
use Rattle.verilog_expression.specs.Reads.{Read}
use Rattle.verilog_expression.specs.Lexemes.{lexeme_at}
use Rattle.verilog_expression.specs.Expressions.{Resolve, Sized, whole_expr_at}
use Rattle.verilog_expression.specs.Statements.{Free, assigned_at, set_at, index_at, word_at, store_at, target_at, else_at, condition_at, if_at, block_at, begin_at, one_statement_at, statement_at, whole_statement_at}
use Rattle.verilog_expression.specs.Laws.{Names, AreTargetWidths, IsStatementKept, IsBehindStatement, IsNoElse, statement_lexemes}
use Rattle.verilog_expression.proofs.LexemeLaws.{entry_again}
use Rattle.verilog_expression.proofs.SoundTreeLaws.{never}
use Rattle.verilog_expression.proofs.RoundTripTreeLaws.{read, whole_again}
use Rattle.verilog_expression.proofs.StatementRules.{Keeps, AllKeep, IsOfWidth, if_kept, else_kept, set_kept, store_kept, block_kept, more_kept, statement_kept}
use Rattle.verilog_expression.proofs.SoundStatementLaws.{block_lexemes}

-- ---- one step, from what reads the expressions and the statements in it
abbrev IsNoEnd : List Lexeme → Type 0
IsNoEnd (LKeyword keyword.End ∷ ts) = ⊥
IsNoEnd ts = Unit {0}

module _ (expr : List Lexeme → Read Sized) where
  assigned_again : (e : Tree Net) (w v : ℕ) (us rest : List Lexeme) → expr us ≡ read e w (LSymbol symbol.Semicolon ∷ rest) → w ≡ v → assigned_at expr v (LSymbol symbol.LessEqual ∷ us) ≡ Ok (e, rest)
  unfolding assigned_at lexeme_at
  assigned_again e w v us rest h p = rw (h, eq-eqb w v p) refl

  index_again : (i : Tree Net) (w v : ℕ) (us rest : List Lexeme) → expr us ≡ read i w (LSymbol symbol.CloseBracket ∷ rest) → w ≡ v → index_at expr v us ≡ Ok (i, rest)
  unfolding index_at lexeme_at
  index_again i w v us rest h p = rw (h, eq-eqb w v p) refl

  condition_again : (c : Tree Net) (w : ℕ) (us rest : List Lexeme) → expr us ≡ read c w (LSymbol symbol.CloseParenthesis ∷ rest) → w ≡ 1 → condition_at expr (LSymbol symbol.OpenParenthesis ∷ us) ≡ Ok (c, rest)
  unfolding condition_at lexeme_at
  condition_again c w us rest h p = rw (h, eq-eqb w 1 p) refl

  set_again : (free : Free) (own : List Lexeme) (r : ℕ) (e : Tree Net) (w v : ℕ) (us rest : List Lexeme) → free (net.Register r) ≡ true → expr us ≡ read e w (LSymbol symbol.Semicolon ∷ rest) → w ≡ v → target_at free expr own (entry.Value (net.Register r) v) (LSymbol symbol.LessEqual ∷ us) ≡ Ok (SSet r e, rest)
  unfolding target_at set_at
  set_again free own r e w v us rest f h p = rw (f, assigned_again e w v us rest h p) refl

  store_again : (free : Free) (own : List Lexeme) (m : ℕ) (i e : Tree Net) (wi we vi ve : ℕ) (us vs rest : List Lexeme) → free (net.Memory m) ≡ true → expr us ≡ read i wi (LSymbol symbol.CloseBracket ∷ LSymbol symbol.LessEqual ∷ vs) → wi ≡ vi → expr vs ≡ read e we (LSymbol symbol.Semicolon ∷ rest) → we ≡ ve → target_at free expr own (entry.Words m vi ve) (LSymbol symbol.OpenBracket ∷ us) ≡ Ok (SStore m i e, rest)
  unfolding target_at store_at word_at
  store_again free own m i e wi we vi ve us vs rest f h p g q = rw (f, index_again i wi vi us (LSymbol symbol.LessEqual ∷ vs) h p, assigned_again e we ve vs rest g q) refl

  module _ (statement : List Lexeme → Read (StatementTree Net)) where
    no_else : (c : Tree Net) (a : StatementTree Net) (rest : List Lexeme) → IsNoElse rest → else_at statement c a rest ≡ Ok (SIf c a, rest)
    unfolding else_at
    no_else c a (LKeyword keyword.Else ∷ ts) h = absurd h
    no_else c a ts h = refl

    if_again : (c : Tree Net) (a : StatementTree Net) (w : ℕ) (us vs rest : List Lexeme) → expr us ≡ read c w (LSymbol symbol.CloseParenthesis ∷ vs) → w ≡ 1 → statement vs ≡ Ok (a, rest) → IsNoElse rest → if_at expr statement (LSymbol symbol.OpenParenthesis ∷ us) ≡ Ok (SIf c a, rest)
    unfolding if_at
    if_again c a w us vs rest h p f n = rw (condition_again c w us vs h p, f) (no_else c a rest n)

    both_again : (c : Tree Net) (a b : StatementTree Net) (w : ℕ) (us vs zs rest : List Lexeme) → expr us ≡ read c w (LSymbol symbol.CloseParenthesis ∷ vs) → w ≡ 1 → statement vs ≡ Ok (a, LKeyword keyword.Else ∷ zs) → statement zs ≡ Ok (b, rest) → if_at expr statement (LSymbol symbol.OpenParenthesis ∷ us) ≡ Ok (SIfElse c a b, rest)
    unfolding if_at else_at
    both_again c a b w us vs zs rest h p f g = rw (condition_again c w us vs h p, f, g) refl

module _ (statement : List Lexeme → Read (StatementTree Net)) where
  end_again : (n : ℕ) (rest : List Lexeme) → block_at statement (suc n) (LKeyword keyword.End ∷ rest) ≡ Ok (SEnd, rest)
  unfolding block_at
  end_again n rest = refl

  then_again : (n : ℕ) (a : StatementTree Net) (more : StatementTrees Net) (us vs rest : List Lexeme) → IsNoEnd us → statement us ≡ Ok (a, vs) → block_at statement n vs ≡ Ok (more, rest) → block_at statement (suc n) us ≡ Ok (SThen a more, rest)
  unfolding block_at
  then_again n a more (LKeyword keyword.End ∷ us) vs rest i h f = absurd i
  then_again n a more us vs rest i h f = rw (h, f) refl

  begin_again : (more : StatementTrees Net) (us rest : List Lexeme) → block_at statement (length us) us ≡ Ok (more, rest) → begin_at statement us ≡ Ok (SBlock more, rest)
  unfolding begin_at
  begin_again more us rest h = rw h refl

-- ---- what a statement begins with, and how many lexemes it has
some_statement : (name : Net → List ℕ) (a : StatementTree Net) → 0 < length (statement_lexemes name a)
some_statement name (SBlock more) = omega arith
some_statement name (SIf c a) = omega arith
some_statement name (SIfElse c a b) = omega arith
some_statement name (SSet r e) = omega arith
some_statement name (SStore m i e) = omega arith

some_statement_depth : (a : StatementTree Net) → 0 < statement_depth a
some_statement_depth (SBlock more) = omega arith
some_statement_depth (SIf c a) = omega arith
some_statement_depth (SIfElse c a b) = omega arith
some_statement_depth (SSet r e) = omega arith
some_statement_depth (SStore m i e) = omega arith

no_end : (name : Net → List ℕ) (a : StatementTree Net) (rest : List Lexeme) → IsNoEnd (statement_lexemes name a ++ rest)
no_end name (SBlock more) rest = tt
no_end name (SIf c a) rest = tt
no_end name (SIfElse c a b) rest = tt
no_end name (SSet r e) rest = tt
no_end name (SStore m i e) rest = tt

statement_is_no_else : (name : Net → List ℕ) (a : StatementTree Net) (rest : List Lexeme) → IsNoElse (statement_lexemes name a ++ rest)
statement_is_no_else name (SBlock more) rest = tt
statement_is_no_else name (SIf c a) rest = tt
statement_is_no_else name (SIfElse c a b) rest = tt
statement_is_no_else name (SSet r e) rest = tt
statement_is_no_else name (SStore m i e) rest = tt

-- after a statement of a block stands another, or its `end`
block_is_no_else : (name : Net → List ℕ) (more : StatementTrees Net) (rest : List Lexeme) → IsNoElse (block_lexemes name more ++ LKeyword keyword.End ∷ rest)
block_is_no_else name SEnd rest = tt
block_is_no_else name (SThen a more) rest = subst IsNoElse (sym (append_assoc (statement_lexemes name a) (block_lexemes name more) (LKeyword keyword.End ∷ rest))) (statement_is_no_else name a (block_lexemes name more ++ LKeyword keyword.End ∷ rest))

fewer : (a b : List Lexeme) (n : ℕ) → 0 < length a → length (a ++ b) < suc n → length b < n
fewer a b n h k = omega (arith, length-append a b)

closed : (b : Bool) → not b ≡ true → b ≡ true → ⊥
closed true h k = never h
closed false h k = never k

-- ---- whole statements
module _ (names : Resolve) (name : Net → List ℕ) (s : Scope Net) (k : Sorts Net) (named : Names names name s k) where
  module _ (free : Free) (rs : List ℕ) (ms : List (ℕ × ℕ)) (widths : AreTargetWidths s rs ms) where
    set_first : (d r : ℕ) (ts : List Lexeme) → k.value (net.Register r) ≡ true → statement_at names free (suc d) (LName (name (net.Register r)) ∷ ts) ≡ target_at free (whole_expr_at names) (LName (name (net.Register r)) ∷ ts) (entry.Value (net.Register r) (s.net (net.Register r))) ts
    unfolding statement_at one_statement_at
    set_first d r ts h = rw (entry_again names (name (net.Register r)) (entry.Value (net.Register r) (s.net (net.Register r))) ts (named.proper (net.Register r) h) (named.value (net.Register r) h)) refl

    store_first : (d m : ℕ) (ts : List Lexeme) → k.memory (net.Memory m) ≡ true → statement_at names free (suc d) (LName (name (net.Memory m)) ∷ ts) ≡ target_at free (whole_expr_at names) (LName (name (net.Memory m)) ∷ ts) (entry.Words m (s.index (net.Memory m)) (s.memory_word (net.Memory m))) ts
    unfolding statement_at one_statement_at
    store_first d m ts h = rw (entry_again names (name (net.Memory m)) (entry.Words m (s.index (net.Memory m)) (s.memory_word (net.Memory m))) ts (named.memory_proper (net.Memory m) h) (named.words m h)) refl

    tree_again : (t : Tree Net) (w : ℕ) (rest : List Lexeme) → IsOfWidth s k w t → (let close : Lexeme = LSymbol symbol.CloseParenthesis in whole_expr_at names (tree_lexemes name t ++ close ∷ rest) ≡ read t (width_of s t) (close ∷ rest))
    tree_again t w rest h = whole_again names name s k named t (LSymbol symbol.CloseParenthesis ∷ rest) h.kept tt

    set_read : (d r : ℕ) (e : Tree Net) (rest : List Lexeme) → Keeps s k free rs ms (SSet r e) → statement_at names free (suc d) (statement_lexemes name (SSet r e) ++ rest) ≡ Ok (SSet r e, rest)
    set_read d r e rest h =
        let v = set_kept s k free rs ms r e h in
        let behind = LSymbol symbol.Semicolon ∷ rest in
        ap (λ (ts : List Lexeme). statement_at names free (suc d) (LName (name (net.Register r)) ∷ LSymbol symbol.LessEqual ∷ ts)) (append_assoc (tree_lexemes name e) (LSymbol symbol.Semicolon ∷ []) rest)
        ∙ set_first d r _ h.known_targets
        ∙ set_again (whole_expr_at names) free _ r e (width_of s e) (s.net (net.Register r)) (tree_lexemes name e ++ behind) rest h.free_targets
        (whole_again names name s k named e behind v.kept tt) (v.width ∙ widths.register r)

    store_read : (d m : ℕ) (i e : Tree Net) (rest : List Lexeme) → Keeps s k free rs ms (SStore m i e) → statement_at names free (suc d) (statement_lexemes name (SStore m i e) ++ rest) ≡ Ok (SStore m i e, rest)
    store_read d m i e rest h =
        let v = store_kept s k free rs ms m i e h in
        let last = LSymbol symbol.Semicolon ∷ [] in
        let behind = LSymbol symbol.Semicolon ∷ rest in
        let value = tree_lexemes name e ++ behind in
        let others = LSymbol symbol.CloseBracket ∷ LSymbol symbol.LessEqual ∷ value in
        ap (λ (ts : List Lexeme). statement_at names free (suc d) (LName (name (net.Memory m)) ∷ LSymbol symbol.OpenBracket ∷ ts))
        (append_assoc (tree_lexemes name i) (LSymbol symbol.CloseBracket ∷ LSymbol symbol.LessEqual ∷ (tree_lexemes name e ++ last)) rest
        ∙ ap (λ (ts : List Lexeme). tree_lexemes name i ++ LSymbol symbol.CloseBracket ∷ LSymbol symbol.LessEqual ∷ ts) (append_assoc (tree_lexemes name e) last rest))
        ∙ store_first d m _ h.known_targets
        ∙ store_again (whole_expr_at names) free _ m i e (width_of s i) (width_of s e) (s.index (net.Memory m)) (s.memory_word (net.Memory m)) (tree_lexemes name i ++ others) value rest h.free_targets
        (whole_again names name s k named i others v.0.kept tt) (v.0.width ∙ ap (λ (x : ℕ × ℕ). x.0) (widths.memory m))
        (whole_again names name s k named e behind v.1.kept tt) (v.1.width ∙ ap (λ (x : ℕ × ℕ). x.1) (widths.memory m))

    mutual
      unfolding statement_at one_statement_at

      one_statement_again : (a : StatementTree Net) (d : ℕ) (rest : List Lexeme) → statement_depth a ≤ d → Keeps s k free rs ms a → IsBehindStatement a rest → statement_at names free d (statement_lexemes name a ++ rest) ≡ Ok (a, rest)
      one_statement_again a zero rest l h b = absurd (omega (arith, some_statement_depth a))
      one_statement_again (SBlock more) (suc d) rest l h b =
          let behind = LKeyword keyword.End ∷ rest in
          ap (λ (ts : List Lexeme). begin_at (statement_at names free d) ts) (append_assoc (block_lexemes name more) (LKeyword keyword.End ∷ []) rest)
          ∙ begin_again (statement_at names free d) more (block_lexemes name more ++ behind) rest
          (block_again more d (length (block_lexemes name more ++ behind)) rest (omega arith) (block_kept s k free rs ms more h) (omega (arith, length-append (block_lexemes name more) behind)))
      one_statement_again (SIf c a) (suc d) rest l h b =
          let v = if_kept s k free rs ms c a h in
          let first = statement_lexemes name a ++ rest in
          ap (λ (ts : List Lexeme). if_at (whole_expr_at names) (statement_at names free d) (LSymbol symbol.OpenParenthesis ∷ ts)) (append_assoc (tree_lexemes name c) (LSymbol symbol.CloseParenthesis ∷ statement_lexemes name a) rest)
          ∙ if_again (whole_expr_at names) (statement_at names free d) c a (width_of s c) _ first rest
          (tree_again c 1 first v.0) v.0.width (one_statement_again a d rest (omega arith) v.1 (λ o. b refl)) (b refl)
      one_statement_again (SIfElse c a e) (suc d) rest l h b =
          let v = else_kept s k free rs ms c a e h in
          let second = statement_lexemes name e ++ rest in
          let first = statement_lexemes name a ++ LKeyword keyword.Else ∷ second in
          ap (λ (ts : List Lexeme). if_at (whole_expr_at names) (statement_at names free d) (LSymbol symbol.OpenParenthesis ∷ ts))
          (append_assoc (tree_lexemes name c) (LSymbol symbol.CloseParenthesis ∷ (statement_lexemes name a ++ LKeyword keyword.Else ∷ statement_lexemes name e)) rest
          ∙ ap (λ (ts : List Lexeme). tree_lexemes name c ++ LSymbol symbol.CloseParenthesis ∷ ts) (append_assoc (statement_lexemes name a) (LKeyword keyword.Else ∷ statement_lexemes name e) rest))
          ∙ both_again (whole_expr_at names) (statement_at names free d) c a e (width_of s c) _ first second rest
          (tree_again c 1 first v.condition) v.condition.width
          (one_statement_again a d (LKeyword keyword.Else ∷ second) (omega arith) v.first (λ o. closed (ends_open a) v.closed o))
          (one_statement_again e d rest (omega arith) v.second b)
      one_statement_again (SSet r e) (suc d) rest l h b = set_read d r e rest h
      one_statement_again (SStore m i e) (suc d) rest l h b = store_read d m i e rest h

      block_again : (more : StatementTrees Net) (d n : ℕ) (rest : List Lexeme) → statements_depth more ≤ d → AllKeep s k free rs ms more → length (block_lexemes name more) < n → block_at (statement_at names free d) n (block_lexemes name more ++ LKeyword keyword.End ∷ rest) ≡ Ok (more, rest)
      block_again more d zero rest l h m = absurd (omega arith)
      block_again SEnd d (suc n) rest l h m = end_again (statement_at names free d) n rest
      block_again (SThen a more) d (suc n) rest l h m =
          let v = more_kept s k free rs ms a more h in
          let after = block_lexemes name more ++ LKeyword keyword.End ∷ rest in
          ap (λ (ts : List Lexeme). block_at (statement_at names free d) (suc n) ts) (append_assoc (statement_lexemes name a) (block_lexemes name more) (LKeyword keyword.End ∷ rest))
          ∙ then_again (statement_at names free d) n a more _ after rest (no_end name a after)
          (one_statement_again a d after (omega arith) v.0 (λ o. block_is_no_else name more rest))
          (block_again more d n rest (omega arith) v.1 (fewer (statement_lexemes name a) (block_lexemes name more) n (some_statement name a) m))

    statement_read : (a : StatementTree Net) (rest : List Lexeme) → IsStatementKept s k free rs ms a → IsBehindStatement a rest → statement_at names free 64 (statement_lexemes name a ++ rest) ≡ Ok (a, rest)
    statement_read a rest kept b =
        let p = statement_kept s k free rs ms a kept in
        one_statement_again a 64 rest p.0 p.1 b

    -- what is spelled as a statement and keeps the rules is read as it
    pub statement_again : (a : StatementTree Net) (rest : List Lexeme) → IsStatementKept s k free rs ms a → IsBehindStatement a rest → whole_statement_at names free (statement_lexemes name a ++ rest) ≡ Ok (a, rest)
    unfolding whole_statement_at
    statement_again a rest kept b = statement_read a rest kept b
