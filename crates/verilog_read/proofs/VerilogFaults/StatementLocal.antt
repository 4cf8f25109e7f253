-- Statements look no further than what they take, and than their faults depend on.
use Rattle.std.proofs.Common.{◌≡◌, ◌≢◌, ℕ, zero, suc, ◌≤◌, Bool, true, false, Ok, List, [], ◌∷◌, length, refl, sym, ◌∙◌, ap, arith}
use Rattle.net_core.specs.declared.tree.Net.{Net}
use Rattle.net_core.specs.declared.tree.Net.TheVariants as net
use Rattle.net_core.specs.Nets.{Tree, StatementTree, SIf, SSet, SStore, StatementTrees, SEnd, SThen}
use Rattle.verilog_lex.specs.declared.token.Keyword.TheVariants as keyword
use Rattle.verilog_lex.specs.declared.token.Symbol.TheVariants as symbol
use Rattle.verilog_lex.specs.Lexeme.{Lexeme, LName, LKeyword, LSymbol}
use Rattle.verilog_expression.specs.declared.fault.Code.TheVariants as code
use Rattle.verilog_expression.specs.declared.entry.Entry.{Entry}
use Rattle.verilog_expression.specs.declared.entry.Entry.TheVariants as entry
use Rattle.verilog_expression.specs.Reads.{Read, ◌>>=◌, fault, kept_if}
use Rattle.verilog_expression.specs.Expressions.{Resolve, Sized, whole_expr_at}
use Rattle.verilog_expression.specs.Statements.{Free, assigned_at, set_at, index_at, word_at, store_at, target_at, else_at, condition_at, if_at, block_at, begin_at, one_statement_at, statement_at, whole_statement_at}
use Rattle.verilog_read.proofs.VerilogFaults.Local.{Within, Local, IsStrict, raised, loose, from_head, by_heads, by_strict_heads, by_turns, bind_same, gives_local, fails_local, bind_local}
use Rattle.verilog_read.proofs.VerilogFaults.LexemeLocal.{own_fault, symbol_local, closed_local, entry_head}
use Rattle.verilog_read.proofs.VerilogFaults.ExpressionLocal.{whole_expr_local}

module _ (free : Free) (expr : List Lexeme → Read Sized) (E : Local 0 0 expr) where
  assigned_local : (width : ℕ) → Local 0 0 (assigned_at expr width)
  unfolding assigned_at
  assigned_local width = symbol_local symbol.LessEqual _ (bind_local expr _ E (λ e. closed_local symbol.Semicolon _ _ code.Width))

  -- ---- a register
  set_value : (k width : ℕ) → Local 0 0 (λ ts. assigned_at expr width ts >>= λ e. let x : Read (StatementTree Net) = Ok (SSet k e.0, e.1) in x)
  set_value k width = bind_local (assigned_at expr width) _ (assigned_local width) (λ e. gives_local _)

  set_free : (s : List ℕ) (k width : ℕ) (b : Bool) (t : Lexeme) → Local 1 1 (λ ts. kept_if b (t ∷ ts) code.Twice (LName s ∷ t ∷ ts) >>= λ r. (assigned_at expr width r >>= λ e. let x : Read (StatementTree Net) = Ok (SSet k e.0, e.1) in x))
  set_free s k width true t = from_head (set_value k width) t
  set_free s k width false t = fails_local (LName s ∷ t ∷ []) code.Twice 1 1 (omega arith)

  set_head : (s : List ℕ) (k width : ℕ) (t : Lexeme) → Local 1 1 (λ ts. set_at free expr (LName s ∷ t ∷ ts) k width (t ∷ ts))
  unfolding set_at
  set_head s k width (LSymbol symbol.OpenBracket) = fails_local (LName s ∷ LSymbol symbol.OpenBracket ∷ []) code.Unknown 1 1 (omega arith)
  set_head s k width t = set_free s k width (free (net.Register k)) t

  set_none : (s : List ℕ) (k width : ℕ) → Within 0 0 (set_at free expr (LName s ∷ []) k width [])
  unfolding set_at
  set_none s k width = by_free (free (net.Register k))
    where
      by_free : (b : Bool) → Within 0 0 (kept_if {A = List Lexeme} b [] code.Twice (LName s ∷ []) >>= λ r. (assigned_at expr width r >>= λ e. let x : Read (StatementTree Net) = Ok (SSet k e.0, e.1) in x))
      by_free true = (set_value k width).bounded []
      by_free false = omega arith

  set_local : (s : List ℕ) (k width : ℕ) → Local 0 0 (λ ts. set_at free expr (LName s ∷ ts) k width ts)
  set_local s k width = by_heads (λ ts. set_at free expr (LName s ∷ ts) k width ts) (set_none s k width) (set_head s k width)

  -- ---- a word of a memory
  index_local : (index : ℕ) → Local 0 0 (index_at expr index)
  unfolding index_at
  index_local index = bind_local expr _ E (λ i. closed_local symbol.CloseBracket _ _ code.Width)

  word_free : (s : List ℕ) (k index width : ℕ) (b : Bool) → Local 1 1 (λ ts. kept_if b ts code.Twice (LName s ∷ LSymbol symbol.OpenBracket ∷ ts) >>= λ r. (index_at expr index r >>= λ i. (assigned_at expr width i.1 >>= λ e. let x : Read (StatementTree Net) = Ok (SStore k i.0 e.0, e.1) in x)))
  word_free s k index width true = raised 1 1 (bind_local (index_at expr index) _ (index_local index) (λ i. bind_local (assigned_at expr width) _ (assigned_local width) (λ e. gives_local _)))
  word_free s k index width false = fails_local (LName s ∷ LSymbol symbol.OpenBracket ∷ []) code.Twice 1 1 (omega arith)

  store_head : (s : List ℕ) (k index width : ℕ) (t : Lexeme) → Local 1 1 (λ ts. store_at free expr (LName s ∷ t ∷ ts) k index width (t ∷ ts))
  unfolding store_at word_at
  store_head s k index width (LSymbol symbol.OpenBracket) = word_free s k index width (free (net.Memory k))
  store_head s k index width t = fails_local (LName s ∷ t ∷ []) code.Unknown 1 1 (omega arith)

  store_local : (s : List ℕ) (k index width : ℕ) → Local 0 0 (λ ts. store_at free expr (LName s ∷ ts) k index width ts)
  unfolding store_at
  store_local s k index width = by_heads (λ ts. store_at free expr (LName s ∷ ts) k index width ts) (omega arith) (store_head s k index width)

  target_local : (s : List ℕ) (e : Entry) → Local 0 0 (λ ts. target_at free expr (LName s ∷ ts) e ts)
  unfolding target_at
  target_local s (entry.Value (net.Register k) w) = set_local s k w
  target_local s (entry.Words m index w) = store_local s m index w
  target_local s e = fails_local (LName s ∷ []) code.Unknown 0 0 (omega arith)

  -- ---- statements in a statement
  condition_local : Local 0 0 (condition_at expr)
  unfolding condition_at
  condition_local = symbol_local symbol.OpenParenthesis _ (bind_local expr _ E (λ c. closed_local symbol.CloseParenthesis _ _ code.Width))

  module _ (statement : List Lexeme → Read (StatementTree Net)) (S : Local 0 0 statement) where
    else_head : (c : Tree Net) (a : StatementTree Net) (t : Lexeme) → Local 1 1 (λ ts. else_at statement c a (t ∷ ts))
    unfolding else_at
    else_head c a (LKeyword keyword.Else) = raised 1 1 (bind_local statement _ S (λ b. gives_local _))
    else_head c a t = from_head (gives_local (SIf c a)) t

    else_local : (c : Tree Net) (a : StatementTree Net) → Local 0 0 (else_at statement c a)
    unfolding else_at
    else_local c a = by_heads (else_at statement c a) (omega arith) (else_head c a)

    if_local : Local 0 0 (if_at expr statement)
    unfolding if_at
    if_local = bind_local (condition_at expr) _ condition_local (λ c. bind_local statement _ S (else_local c))

    then_local : (f : List Lexeme → Read (StatementTrees Net)) → Local 0 0 f → Local 0 0 (λ ts. statement ts >>= λ a. (f a.1 >>= λ more. let x : Read (StatementTrees Net) = Ok (SThen a.0 more.0, more.1) in x))
    then_local f F = bind_local statement _ S (λ a. bind_local f _ F (λ more. gives_local _))

    block_head : (n : ℕ) → Local 0 0 (block_at statement n) → (t : Lexeme) → Local 1 1 (λ ts. block_at statement (suc n) (t ∷ ts))
    unfolding block_at
    block_head n F (LKeyword keyword.End) = raised 1 1 (gives_local SEnd)
    block_head n F t = from_head (then_local (block_at statement n) F) t

    block_local : (n : ℕ) → Local 0 0 (block_at statement n)
    unfolding block_at
    block_local zero = fails_local [] code.Syntax 0 0 (omega arith)
    block_local (suc n) = by_heads (block_at statement (suc n)) ((then_local (block_at statement n) (block_local n)).bounded []) (block_head n (block_local n))

    module _ (none : statement [] ≡ fault code.Syntax []) (strict : IsStrict statement) where
      then_same : (f g : List Lexeme → Read (StatementTrees Net)) (ts : List Lexeme) → ((l : List Lexeme) → suc (length l) ≤ length ts → f l ≡ g l)
          → (statement ts >>= λ a. (f a.1 >>= λ more. let x : Read (StatementTrees Net) = Ok (SThen a.0 more.0, more.1) in x)) ≡ (statement ts >>= λ a. (g a.1 >>= λ more. Ok (SThen a.0 more.0, more.1)))
      then_same f g ts h =
          bind_same (statement ts) _ _
          (λ a l e. ap (λ (x : Read (StatementTrees Net)). x >>= λ more. let y : Read (StatementTrees Net) = Ok (SThen a more.0, more.1) in y) (h l (strict ts a l e)))

      -- more turns than lexemes change nothing
      block_same : (n m : ℕ) (ts : List Lexeme) → length ts ≤ n → length ts ≤ m → block_at statement n ts ≡ block_at statement m ts
      unfolding block_at
      block_same zero zero ts h k = refl
      block_same zero (suc m) [] h k = rw none refl
      block_same zero (suc m) (t ∷ ts) h k = absurd (omega arith)
      block_same (suc n) zero [] h k = rw none refl
      block_same (suc n) zero (t ∷ ts) h k = absurd (omega arith)
      block_same (suc n) (suc m) (LKeyword keyword.End ∷ ts) h k = refl
      block_same (suc n) (suc m) ts h k = then_same (block_at statement n) (block_at statement m) ts (λ l q. block_same n m l (omega arith) (omega arith))

      begin_local : Local 0 0 (begin_at statement)
      unfolding begin_at
      begin_local = bind_local (λ ts. block_at statement (length ts) ts) _ (by_turns (block_at statement) block_local block_same) (λ more. gives_local _)

      one_head : (names : Resolve) (t : Lexeme) → Local 0 1 (λ ts. one_statement_at names free expr statement (t ∷ ts))
      unfolding one_statement_at
      one_head names (LKeyword keyword.Begin) = raised 0 1 begin_local
      one_head names (LKeyword keyword.If) = raised 0 1 if_local
      one_head names (LName s) = entry_head names s (target_at free expr) (target_local s)
      one_head names t = own_fault t code.Syntax 0

-- ---- statements of at most a depth
statement_none : (names : Resolve) (free : Free) (d : ℕ) → statement_at names free d [] ≡ fault code.Syntax []
unfolding statement_at one_statement_at
statement_none names free zero = refl
statement_none names free (suc d) = refl

none_within : (names : Resolve) (free : Free) (d : ℕ) → Within 0 0 (statement_at names free d [])
none_within names free d = rw (statement_none names free d) (omega arith)

none_given : (names : Resolve) (free : Free) (d : ℕ) (v : StatementTree Net) (l : List Lexeme) → statement_at names free d [] ≢ Ok (v, l)
none_given names free d v l e = let h = sym (statement_none names free d) ∙ e in absurd cc

statement_head : (names : Resolve) (free : Free) (d : ℕ) (t : Lexeme) → Local 0 1 (λ ts. statement_at names free d (t ∷ ts))
unfolding statement_at
statement_head names free zero t = own_fault t code.Syntax 0
statement_head names free (suc d) t =
    let S = by_heads (statement_at names free d) (none_within names free d) (λ t. loose (statement_head names free d t)) in
    one_head free (whole_expr_at names) (whole_expr_local names) (statement_at names free d) S (statement_none names free d)
    (by_strict_heads (statement_at names free d) (none_given names free d) (statement_head names free d)) names t

pub statement_local : (names : Resolve) (free : Free) (d : ℕ) → Local 0 0 (statement_at names free d)
statement_local names free d = by_heads (statement_at names free d) (none_within names free d) (λ t. loose (statement_head names free d t))

pub whole_statement_local : (names : Resolve) (free : Free) → Local 0 0 (whole_statement_at names free)
unfolding whole_statement_at
whole_statement_local names free = statement_local names free 64
