-- What is read as a statement is spelled so, and keeps the rules.
use Rattle.std.specs.Prelude.{◌==◌}
use Rattle.std.proofs.Common.{◌≡◌, ℕ, zero, suc, ◌≤◌, Bool, true, false, not, Some, Ok, List, [], ◌∷◌, ◌++◌, length, refl, sym, ap, ◌∙◌, subst, append_assoc, get_or, arith}
use Rattle.std.proofs.lemmas.Bool.{eqb-true}
use Rattle.net_core.specs.declared.tree.Net.{Net}
use Rattle.net_core.specs.declared.tree.Net.TheVariants as net
use Rattle.net_core.specs.Nets.{Tree, StatementTree, SBlock, SIf, SIfElse, SSet, SStore, StatementTrees, SEnd, SThen}
use Rattle.net_core.specs.Width.{Scope}
use Rattle.verilog_lex.specs.declared.token.Keyword.TheVariants as keyword
use Rattle.verilog_lex.specs.declared.token.Symbol.TheVariants as symbol
use Rattle.verilog_lex.specs.Lexeme.{Lexeme, LName, LKeyword, LSymbol}
use Rattle.verilog_write.specs.VerilogGrammar.Grammar.{tree_lexemes, statement_trees_lexemes}
use Rattle.design_rules.specs.FormedSyntax.{statement_depth, statements_depth, ends_open}
use Rattle.design_rules.specs.FormedScope.{Sorts}
use Rattle.verilog_expression.specs.declared.fault.Code.TheVariants as code
use Rattle.verilog_expression.specs.declared.entry.Entry.{Entry}
use Rattle.verilog_expression.specs.declared.entry.Entry.TheVariants as entry
use Rattle.verilog_expression.specs.Reads.{Read, ◌>>=◌, kept_if}
use Rattle.verilog_expression.specs.Lexemes.{symbol_at}
use Rattle.verilog_expression.specs.Expressions.{Resolve, Sized, entry_at, whole_expr_at}
use Rattle.verilog_expression.specs.Statements.{Free, assigned_at, set_at, index_at, word_at, store_at, target_at, else_at, condition_at, if_at, block_at, begin_at, one_statement_at, statement_at, whole_statement_at}
use Rattle.verilog_expression.specs.Laws.{IsValueNamed, IsMemoryNamed, Knows, AreTargetWidths, IsTreeFound, IsStatementFound, IsNoElse, statement_lexemes}
use Rattle.verilog_expression.proofs.LexemeLaws.{bind_ok, ok_so, kept_takes, lexeme_takes, entry_takes}
use Rattle.verilog_expression.proofs.SoundTreeLaws.{never, then_text, whole_found}
use Rattle.verilog_expression.proofs.StatementRules.{Keeps, AllKeep, IsOfWidth, if_keeps, else_keeps, set_keeps, store_keeps, block_keeps, none_keep, more_keep, statement_keeps}

abbrev pub block_lexemes : (Net → List ℕ) → StatementTrees Net → List Lexeme
block_lexemes name more = statement_trees_lexemes name (λ r. name (net.Register r)) (λ m. name (net.Memory m)) more

-- ---- texts from their parts
value_text : (e ts t1 t2 t3 : List Lexeme) → ts ≡ LSymbol symbol.LessEqual ∷ t1 → t1 ≡ e ++ t2 → t2 ≡ LSymbol symbol.Semicolon ∷ t3 → ts ≡ LSymbol symbol.LessEqual ∷ (e ++ LSymbol symbol.Semicolon ∷ t3)
value_text e ts t1 t2 t3 p q r = rw (p, q, r) refl

set_text : (l u : List ℕ) (e ts t1 : List Lexeme) → u ≡ l → ts ≡ LSymbol symbol.LessEqual ∷ (e ++ LSymbol symbol.Semicolon ∷ t1) → LName l ∷ ts ≡ (LName u ∷ LSymbol symbol.LessEqual ∷ (e ++ LSymbol symbol.Semicolon ∷ [])) ++ t1
set_text l u e ts t1 o p = rw (o, p) (simp append_assoc)

store_text : (l u : List ℕ) (i e ts t1 t2 : List Lexeme) → u ≡ l → ts ≡ i ++ LSymbol symbol.CloseBracket ∷ t1 → t1 ≡ LSymbol symbol.LessEqual ∷ (e ++ LSymbol symbol.Semicolon ∷ t2) → LName l ∷ LSymbol symbol.OpenBracket ∷ ts ≡ (LName u ∷ LSymbol symbol.OpenBracket ∷ (i ++ LSymbol symbol.CloseBracket ∷ LSymbol symbol.LessEqual ∷ (e ++ LSymbol symbol.Semicolon ∷ []))) ++ t2
store_text l u i e ts t1 t2 o p q = rw (o, p, q) (simp append_assoc)

condition_text : (c ts t0 t1 t2 : List Lexeme) → ts ≡ LSymbol symbol.OpenParenthesis ∷ t0 → t0 ≡ c ++ t1 → t1 ≡ LSymbol symbol.CloseParenthesis ∷ t2 → ts ≡ LSymbol symbol.OpenParenthesis ∷ (c ++ LSymbol symbol.CloseParenthesis ∷ t2)
condition_text c ts t0 t1 t2 p q r = rw (p, q, r) refl

if_text : (c a ts t2 t3 : List Lexeme) → ts ≡ LSymbol symbol.OpenParenthesis ∷ (c ++ LSymbol symbol.CloseParenthesis ∷ t2) → t2 ≡ a ++ t3 → LKeyword keyword.If ∷ ts ≡ (LKeyword keyword.If ∷ LSymbol symbol.OpenParenthesis ∷ (c ++ LSymbol symbol.CloseParenthesis ∷ a)) ++ t3
if_text c a ts t2 t3 p q = rw (p, q) (simp append_assoc)

else_text : (c a b ts t3 t4 : List Lexeme) → LKeyword keyword.If ∷ ts ≡ (LKeyword keyword.If ∷ LSymbol symbol.OpenParenthesis ∷ (c ++ LSymbol symbol.CloseParenthesis ∷ a)) ++ LKeyword keyword.Else ∷ t3 → t3 ≡ b ++ t4 → LKeyword keyword.If ∷ ts ≡ (LKeyword keyword.If ∷ LSymbol symbol.OpenParenthesis ∷ (c ++ LSymbol symbol.CloseParenthesis ∷ (a ++ LKeyword keyword.Else ∷ b))) ++ t4
else_text c a b ts t3 t4 p q =
    let close = LSymbol symbol.CloseParenthesis in
    let other = LKeyword keyword.Else in
    p
    ∙ rw q (ap (λ (l : List Lexeme). LKeyword keyword.If ∷ LSymbol symbol.OpenParenthesis ∷ l)
    (append_assoc c (close ∷ a) (other ∷ (b ++ t4))
    ∙ sym (append_assoc c (close ∷ (a ++ other ∷ b)) t4 ∙ ap (λ (l : List Lexeme). c ++ close ∷ l) (append_assoc a (other ∷ b) t4))))

block_text : (a b ts t1 t2 : List Lexeme) → ts ≡ a ++ t1 → t1 ≡ b ++ t2 → ts ≡ (a ++ b) ++ t2
block_text a b ts t1 t2 p q = rw (p, q) (simp append_assoc)

begin_text : (a ts t1 : List Lexeme) → ts ≡ a ++ LKeyword keyword.End ∷ t1 → LKeyword keyword.Begin ∷ ts ≡ (LKeyword keyword.Begin ∷ (a ++ LKeyword keyword.End ∷ [])) ++ t1
begin_text a ts t1 p = rw p (simp append_assoc)

no_else_before : (b : Bool) → (b ≡ true → ⊥) → not b ≡ true
no_else_before true h = absurd (h refl)
no_else_before false h = refl

-- ---- what reading takes from the beginning
-- of at most this depth; and no `else` stands after an `if` without one
record Takes (name : Net → List ℕ) (s : Scope Net) (k : Sorts Net) (free : Free) (rs : List ℕ) (ms : List (ℕ × ℕ)) (d : ℕ) (ts : List Lexeme) (x : StatementTree Net × List Lexeme) : Type 0 where
  text : ts ≡ statement_lexemes name x.0 ++ x.1
  deep : statement_depth x.0 ≤ d
  behind : ends_open x.0 ≡ true → IsNoElse x.1
  keeps : Keeps s k free rs ms x.0

record TakesAll (name : Net → List ℕ) (s : Scope Net) (k : Sorts Net) (free : Free) (rs : List ℕ) (ms : List (ℕ × ℕ)) (d : ℕ) (ts : List Lexeme) (x : StatementTrees Net × List Lexeme) : Type 0 where
  text : ts ≡ block_lexemes name x.0 ++ LKeyword keyword.End ∷ x.1
  deep : statements_depth x.0 ≤ d
  keeps : AllKeep s k free rs ms x.0

-- the value that a target of this width gets
record TakesValue (name : Net → List ℕ) (s : Scope Net) (k : Sorts Net) (w : ℕ) (ts : List Lexeme) (x : Tree Net × List Lexeme) : Type 0 where
  text : ts ≡ LSymbol symbol.LessEqual ∷ (tree_lexemes name x.0 ++ LSymbol symbol.Semicolon ∷ x.1)
  value : IsOfWidth s k w x.0

record TakesIndex (name : Net → List ℕ) (s : Scope Net) (k : Sorts Net) (w : ℕ) (ts : List Lexeme) (x : Tree Net × List Lexeme) : Type 0 where
  text : ts ≡ tree_lexemes name x.0 ++ LSymbol symbol.CloseBracket ∷ x.1
  value : IsOfWidth s k w x.0

record TakesCondition (name : Net → List ℕ) (s : Scope Net) (k : Sorts Net) (ts : List Lexeme) (x : Tree Net × List Lexeme) : Type 0 where
  text : ts ≡ LSymbol symbol.OpenParenthesis ∷ (tree_lexemes name x.0 ++ LSymbol symbol.CloseParenthesis ∷ x.1)
  value : IsOfWidth s k 1 x.0

module _ (name : Net → List ℕ) (s : Scope Net) (k : Sorts Net) (expr : List Lexeme → Read Sized) (trees : (ts : List Lexeme) (x : Sized × List Lexeme) → expr ts ≡ Ok x → IsTreeFound name s k ts x) where
  of_width : (ts : List Lexeme) (x : Sized × List Lexeme) (w : ℕ) → expr ts ≡ Ok x → (x.0.width == w) ≡ true → IsOfWidth s k w x.0.tree
  of_width ts x w e h =
      let f = trees ts x e in
      record { kept = f.keeps; width = f.width ∙ eqb-true x.0.width w h }

  value_takes : (w : ℕ) (ts : List Lexeme) (x : Tree Net × List Lexeme) → assigned_at expr w ts ≡ Ok x → TakesValue name s k w ts x
  unfolding assigned_at
  value_takes w ts x h =
      let a = bind_ok (symbol_at symbol.LessEqual ts) _ x h in
      let e = bind_ok (expr a.0) _ x a.2 in
      let r = bind_ok (symbol_at symbol.Semicolon e.0.1) _ x e.2 in
      let y = kept_takes (e.0.0.width == w) (e.0.0.tree, r.0) x code.Width e.0.1 r.2 in
      subst (TakesValue name s k w ts) y.1
      (record {
        text = value_text (tree_lexemes name e.0.0.tree) ts a.0 e.0.1 r.0 (lexeme_takes (LSymbol symbol.LessEqual) ts a.0 a.1) (trees a.0 e.0 e.1).text (lexeme_takes (LSymbol symbol.Semicolon) e.0.1 r.0 r.1);
        value = of_width a.0 e.0 w e.1 y.0;
      })

  index_takes : (w : ℕ) (ts : List Lexeme) (x : Tree Net × List Lexeme) → index_at expr w ts ≡ Ok x → TakesIndex name s k w ts x
  unfolding index_at
  index_takes w ts x h =
      let i = bind_ok (expr ts) _ x h in
      let r = bind_ok (symbol_at symbol.CloseBracket i.0.1) _ x i.2 in
      let y = kept_takes (i.0.0.width == w) (i.0.0.tree, r.0) x code.Width i.0.1 r.2 in
      subst (TakesIndex name s k w ts) y.1
      (record {
        text = then_text (tree_lexemes name i.0.0.tree) i.0.1 (LSymbol symbol.CloseBracket ∷ r.0) ts (trees ts i.0 i.1).text (lexeme_takes (LSymbol symbol.CloseBracket) i.0.1 r.0 r.1);
        value = of_width ts i.0 w i.1 y.0;
      })

  condition_takes : (ts : List Lexeme) (x : Tree Net × List Lexeme) → condition_at expr ts ≡ Ok x → TakesCondition name s k ts x
  unfolding condition_at
  condition_takes ts x h =
      let o = bind_ok (symbol_at symbol.OpenParenthesis ts) _ x h in
      let c = bind_ok (expr o.0) _ x o.2 in
      let r = bind_ok (symbol_at symbol.CloseParenthesis c.0.1) _ x c.2 in
      let y = kept_takes (c.0.0.width == 1) (c.0.0.tree, r.0) x code.Width c.0.1 r.2 in
      subst (TakesCondition name s k ts) y.1
      (record {
        text = condition_text (tree_lexemes name c.0.0.tree) ts o.0 c.0.1 r.0 (lexeme_takes (LSymbol symbol.OpenParenthesis) ts o.0 o.1) (trees o.0 c.0 c.1).text (lexeme_takes (LSymbol symbol.CloseParenthesis) c.0.1 r.0 r.1);
        value = of_width o.0 c.0 1 c.1 y.0;
      })

  module _ (free : Free) (rs : List ℕ) (ms : List (ℕ × ℕ)) (widths : AreTargetWidths s rs ms) where
    abbrev TakesStatement : ℕ → List Lexeme → StatementTree Net × List Lexeme → Type 0
    TakesStatement d ts x = Takes name s k free rs ms d ts x

    memory_widths : (m index w : ℕ) → get_or ms m (0, 0) ≡ (s.index (net.Memory m), s.memory_word (net.Memory m)) → s.index (net.Memory m) ≡ index → s.memory_word (net.Memory m) ≡ w → get_or ms m (0, 0) ≡ (index, w)
    memory_widths m index w p q r = p ∙ rw (q, r) refl

    -- after the name of a register
    assignment_takes : (d : ℕ) (own : List Lexeme) (text : List ℕ) (r w : ℕ) (ts : List Lexeme) (x : StatementTree Net × List Lexeme) → IsValueNamed name s k text (net.Register r) w → (kept_if (free (net.Register r)) ts code.Twice own >>= λ u. assigned_at expr w u >>= λ e. Ok (SSet r e.0, e.1)) ≡ Ok x → TakesStatement (suc d) (LName text ∷ ts) x
    assignment_takes d own text r w ts x v h =
        let u = bind_ok (kept_if (free (net.Register r)) ts code.Twice own) _ x h in
        let f = kept_takes (free (net.Register r)) ts u.0 code.Twice own u.1 in
        let e = bind_ok (assigned_at expr w u.0) _ x u.2 in
        let g = value_takes w u.0 e.0 e.1 in
        ok_so (TakesStatement (suc d) (LName text ∷ ts)) (SSet r e.0.0, e.0.1) x e.2
        (record {
          text = set_text text (name (net.Register r)) (tree_lexemes name e.0.0) ts e.0.1 v.named (f.1 ∙ g.text);
          deep = omega arith;
          behind = λ o. never o;
          keeps = set_keeps s k free rs ms r e.0.0 w (widths.register r ∙ v.width) g.value v.known f.0;
        })

    set_takes : (d : ℕ) (own : List Lexeme) (text : List ℕ) (r w : ℕ) (ts : List Lexeme) (x : StatementTree Net × List Lexeme) → IsValueNamed name s k text (net.Register r) w → set_at free expr own r w ts ≡ Ok x → TakesStatement (suc d) (LName text ∷ ts) x
    unfolding set_at
    set_takes d own text r w (LSymbol symbol.OpenBracket ∷ ts) x v h = absurd cc
    set_takes d own text r w ts x v h = assignment_takes d own text r w ts x v h

    word_takes : (d : ℕ) (own : List Lexeme) (text : List ℕ) (m index w : ℕ) (ts : List Lexeme) (x : StatementTree Net × List Lexeme) → IsMemoryNamed name s k text m index w → word_at free expr own m index w ts ≡ Ok x → TakesStatement (suc d) (LName text ∷ LSymbol symbol.OpenBracket ∷ ts) x
    unfolding word_at
    word_takes d own text m index w ts x v h =
        let u = bind_ok (kept_if (free (net.Memory m)) ts code.Twice own) _ x h in
        let f = kept_takes (free (net.Memory m)) ts u.0 code.Twice own u.1 in
        let i = bind_ok (index_at expr index u.0) _ x u.2 in
        let e = bind_ok (assigned_at expr w i.0.1) _ x i.2 in
        let j = index_takes index u.0 i.0 i.1 in
        let g = value_takes w i.0.1 e.0 e.1 in
        ok_so (TakesStatement (suc d) (LName text ∷ LSymbol symbol.OpenBracket ∷ ts)) (SStore m i.0.0 e.0.0, e.0.1) x e.2
        (record {
          text = store_text text (name (net.Memory m)) (tree_lexemes name i.0.0) (tree_lexemes name e.0.0) ts i.0.1 e.0.1 v.named (f.1 ∙ j.text) g.text;
          deep = omega arith;
          behind = λ o. never o;
          keeps = store_keeps s k free rs ms m i.0.0 e.0.0 index w (memory_widths m index w (widths.memory m) v.index v.memory_word) j.value g.value v.known f.0;
        })

    store_takes : (d : ℕ) (own : List Lexeme) (text : List ℕ) (m index w : ℕ) (ts : List Lexeme) (x : StatementTree Net × List Lexeme) → IsMemoryNamed name s k text m index w → store_at free expr own m index w ts ≡ Ok x → TakesStatement (suc d) (LName text ∷ ts) x
    unfolding store_at
    store_takes d own text m index w (LSymbol symbol.OpenBracket ∷ ts) x v h = word_takes d own text m index w ts x v h
    store_takes d own text m index w ts x v h = absurd cc

    target_takes : (names : Resolve) → Knows names name s k → (d : ℕ) (own : List Lexeme) (text : List ℕ) (e : Entry) (ts : List Lexeme) (x : StatementTree Net × List Lexeme) → names text ≡ Some e → target_at free expr own e ts ≡ Ok x → TakesStatement (suc d) (LName text ∷ ts) x
    unfolding target_at
    target_takes names knows d own text (entry.Value (net.Register r) w) ts x e h = set_takes d own text r w ts x (knows.value text (net.Register r) w e) h
    target_takes names knows d own text (entry.Words m i w) ts x e h = store_takes d own text m i w ts x (knows.words text m i w e) h
    target_takes names knows d own text f ts x e h = absurd cc

    module _ (d : ℕ) (statement : List Lexeme → Read (StatementTree Net)) (statements : (ts : List Lexeme) (x : StatementTree Net × List Lexeme) → statement ts ≡ Ok x → TakesStatement d ts x) where
      no_more_takes : (c : Tree Net) (a : StatementTree Net) (t0 t1 ts : List Lexeme) (x : StatementTree Net × List Lexeme) → IsNoElse ts → LKeyword keyword.If ∷ t0 ≡ statement_lexemes name (SIf c a) ++ ts → IsOfWidth s k 1 c → TakesStatement d t1 (a, ts) → (let r : Read (StatementTree Net) = Ok (SIf c a, ts) in r) ≡ Ok x → TakesStatement (suc d) (LKeyword keyword.If ∷ t0) x
      no_more_takes c a t0 t1 ts x n p t f h =
          ok_so (TakesStatement (suc d) (LKeyword keyword.If ∷ t0)) (SIf c a, ts) x h
          (record { text = p; deep = let i : statement_depth a ≤ d = f.deep in omega arith; behind = λ o. n; keeps = if_keeps s k free rs ms c a t f.keeps })

      else_takes : (c : Tree Net) (a : StatementTree Net) (t0 t1 ts : List Lexeme) (x : StatementTree Net × List Lexeme) → LKeyword keyword.If ∷ t0 ≡ statement_lexemes name (SIf c a) ++ ts → IsOfWidth s k 1 c → TakesStatement d t1 (a, ts) → else_at statement c a ts ≡ Ok x → TakesStatement (suc d) (LKeyword keyword.If ∷ t0) x
      unfolding else_at
      else_takes c a t0 t1 (LKeyword keyword.Else ∷ ts) x p t f h =
          let b = bind_ok (statement ts) _ x h in
          let g = statements ts b.0 b.1 in
          ok_so (TakesStatement (suc d) (LKeyword keyword.If ∷ t0)) (SIfElse c a b.0.0, b.0.1) x b.2
          (record {
            text = else_text (tree_lexemes name c) (statement_lexemes name a) (statement_lexemes name b.0.0) t0 ts b.0.1 p g.text;
            deep = let i : statement_depth a ≤ d = f.deep in let j : statement_depth b.0.0 ≤ d = g.deep in omega arith;
            behind = g.behind;
            keeps = else_keeps s k free rs ms c a b.0.0 t (no_else_before _ f.behind) f.keeps g.keeps;
          })
      else_takes c a t0 t1 ts x p t f h = no_more_takes c a t0 t1 ts x tt p t f h

      if_takes : (ts : List Lexeme) (x : StatementTree Net × List Lexeme) → if_at expr statement ts ≡ Ok x → TakesStatement (suc d) (LKeyword keyword.If ∷ ts) x
      unfolding if_at
      if_takes ts x h =
          let c = bind_ok (condition_at expr ts) _ x h in
          let a = bind_ok (statement c.0.1) _ x c.2 in
          let f = condition_takes ts c.0 c.1 in
          let g = statements c.0.1 a.0 a.1 in
          else_takes c.0.0 a.0.0 ts c.0.1 a.0.1 x (if_text (tree_lexemes name c.0.0) (statement_lexemes name a.0.0) ts c.0.1 a.0.1 f.text g.text) f.value g a.2

      then_takes : (block : List Lexeme → Read (StatementTrees Net)) → ((ts : List Lexeme) (x : StatementTrees Net × List Lexeme) → block ts ≡ Ok x → TakesAll name s k free rs ms d ts x) → (ts : List Lexeme) (x : StatementTrees Net × List Lexeme) → (statement ts >>= λ a. block a.1 >>= λ more. Ok (SThen a.0 more.0, more.1)) ≡ Ok x → TakesAll name s k free rs ms d ts x
      then_takes block many ts x h =
          let a = bind_ok (statement ts) _ x h in
          let more = bind_ok (block a.0.1) _ x a.2 in
          let f = statements ts a.0 a.1 in
          let g = many a.0.1 more.0 more.1 in
          ok_so (TakesAll name s k free rs ms d ts) (SThen a.0.0 more.0.0, more.0.1) x more.2
          (record {
            text = block_text (statement_lexemes name a.0.0) (block_lexemes name more.0.0) ts a.0.1 (LKeyword keyword.End ∷ more.0.1) f.text g.text;
            deep = let i : statement_depth a.0.0 ≤ d = f.deep in let j : statements_depth more.0.0 ≤ d = g.deep in omega arith;
            keeps = more_keep s k free rs ms a.0.0 more.0.0 f.keeps g.keeps;
          })

      block_takes : (n : ℕ) (ts : List Lexeme) (x : StatementTrees Net × List Lexeme) → block_at statement n ts ≡ Ok x → TakesAll name s k free rs ms d ts x
      unfolding block_at
      block_takes zero ts x h = absurd cc
      block_takes (suc n) (LKeyword keyword.End ∷ ts) x h = ok_so (TakesAll name s k free rs ms d (LKeyword keyword.End ∷ ts)) (SEnd, ts) x h (record { text = refl; deep = omega arith; keeps = none_keep s k free rs ms })
      block_takes (suc n) ts x h = then_takes (block_at statement n) (block_takes n) ts x h

      begin_takes : (ts : List Lexeme) (x : StatementTree Net × List Lexeme) → begin_at statement ts ≡ Ok x → TakesStatement (suc d) (LKeyword keyword.Begin ∷ ts) x
      unfolding begin_at
      begin_takes ts x h =
          let more = bind_ok (block_at statement (length ts) ts) _ x h in
          let g = block_takes (length ts) ts more.0 more.1 in
          ok_so (TakesStatement (suc d) (LKeyword keyword.Begin ∷ ts)) (SBlock more.0.0, more.0.1) x more.2
          (record {
            text = begin_text (block_lexemes name more.0.0) ts more.0.1 g.text;
            deep = let i : statements_depth more.0.0 ≤ d = g.deep in omega arith;
            behind = λ o. never o;
            keeps = block_keeps s k free rs ms more.0.0 g.keeps;
          })

      one_statement_takes : (names : Resolve) → Knows names name s k → (ts : List Lexeme) (x : StatementTree Net × List Lexeme) → one_statement_at names free expr statement ts ≡ Ok x → TakesStatement (suc d) ts x
      unfolding one_statement_at
      one_statement_takes names knows (LKeyword keyword.Begin ∷ ts) x h = begin_takes ts x h
      one_statement_takes names knows (LKeyword keyword.If ∷ ts) x h = if_takes ts x h
      one_statement_takes names knows (LName text ∷ ts) x h =
          let e = bind_ok (entry_at names (LName text ∷ ts)) _ x h in
          let g = entry_takes names (LName text ∷ ts) e.0 e.1 in
          subst (λ (us : List Lexeme). TakesStatement (suc d) us x) (sym g.text) (target_takes names knows d (LName text ∷ ts) g.name e.0.0 e.0.1 x g.stands e.2)
      one_statement_takes names knows ts x h = absurd cc

module _ (names : Resolve) (name : Net → List ℕ) (s : Scope Net) (k : Sorts Net) (free : Free) (rs : List ℕ) (ms : List (ℕ × ℕ)) (knows : Knows names name s k) (widths : AreTargetWidths s rs ms) where
  statement_takes : (d : ℕ) (ts : List Lexeme) (x : StatementTree Net × List Lexeme) → statement_at names free d ts ≡ Ok x → Takes name s k free rs ms d ts x
  unfolding statement_at
  statement_takes zero ts x h = absurd cc
  statement_takes (suc d) ts x h = one_statement_takes name s k (whole_expr_at names) (whole_found names name s k knows) free rs ms widths d (statement_at names free d) (statement_takes d) names knows ts x h

  one_statement_found : (ts : List Lexeme) (x : StatementTree Net × List Lexeme) → statement_at names free 64 ts ≡ Ok x → IsStatementFound name s k free rs ms ts x
  one_statement_found ts x h =
      let t = statement_takes 64 ts x h in
      record { text = t.text; keeps = statement_keeps s k free rs ms x.0 t.deep t.keeps }

  -- what is read as a statement is spelled so, and keeps the rules
  pub statement_found : (ts : List Lexeme) (x : StatementTree Net × List Lexeme) → whole_statement_at names free ts ≡ Ok x → IsStatementFound name s k free rs ms ts x
  unfolding whole_statement_at
  statement_found ts x h = one_statement_found ts x h
