-- Statements from left to right (IEEE 1364-2005, annex A.6, a subset), or the first fault in one.
--
-- A register is set by its name alone, a memory by `name [` and an index. A target of an earlier always block is at fault at
-- its name.
use Rattle.std.specs.Prelude.{ℕ, zero, suc, ◌==◌, Bool, Ok, List, ◌∷◌, length}
use Rattle.net_core.specs.declared.tree.Net.{Net}
use Rattle.net_core.specs.declared.tree.Net.TheVariants as net
use Rattle.net_core.specs.Nets.{Tree, StatementTree, SBlock, SIf, SIfElse, SSet, SStore, StatementTrees, SEnd, SThen}
use Rattle.verilog_lex.specs.declared.token.Keyword.TheVariants as keyword
use Rattle.verilog_lex.specs.declared.token.Symbol.TheVariants as symbol
use Rattle.verilog_lex.specs.Lexeme.{Lexeme, LName, LKeyword, LSymbol}
use Rattle.verilog_expression.specs.declared.fault.Code.TheVariants as code
use Rattle.verilog_expression.specs.declared.entry.Entry.{Entry}
use Rattle.verilog_expression.specs.declared.entry.Entry.TheVariants as entry
use Rattle.verilog_expression.specs.Reads.{Read, ◌>>=◌, fault, kept_if}
use Rattle.verilog_expression.specs.Lexemes.{symbol_at}
use Rattle.verilog_expression.specs.Expressions.{Resolve, Sized, entry_at, whole_expr_at}

-- which registers and memories no earlier always block sets
abbrev pub Free : Type 0
Free = Net → Bool

-- after a target of this width: the value that it gets
unfoldable pub assigned_at : (List Lexeme → Read Sized) → ℕ → List Lexeme → Read (Tree Net)
assigned_at expr width ts = do
  a ← symbol_at symbol.LessEqual ts
  e ← expr a
  r ← symbol_at symbol.Semicolon e.1
  kept_if (e.0.width == width) (e.0.tree, r) code.Width e.1

-- After the name of a register, which begins the first lexemes: no bracket, which asks for a memory.
unfoldable pub set_at : Free → (List Lexeme → Read Sized) → List Lexeme → ℕ → ℕ → List Lexeme → Read (StatementTree Net)
set_at free expr own k width (LSymbol symbol.OpenBracket ∷ ts) = fault code.Unknown own
set_at free expr own k width ts = do
  r ← kept_if (free (net.Register k)) ts code.Twice own
  e ← assigned_at expr width r
  Ok (SSet k e.0, e.1)

-- an index and its bracket
unfoldable pub index_at : (List Lexeme → Read Sized) → ℕ → List Lexeme → Read (Tree Net)
index_at expr index ts = do
  i ← expr ts
  r ← symbol_at symbol.CloseBracket i.1
  kept_if (i.0.width == index) (i.0.tree, r) code.Width i.1

-- in the brackets after the name of a memory
unfoldable pub word_at : Free → (List Lexeme → Read Sized) → List Lexeme → ℕ → ℕ → ℕ → List Lexeme → Read (StatementTree Net)
word_at free expr own k index width ts = do
  r ← kept_if (free (net.Memory k)) ts code.Twice own
  i ← index_at expr index r
  e ← assigned_at expr width i.1
  Ok (SStore k i.0 e.0, e.1)

unfoldable pub store_at : Free → (List Lexeme → Read Sized) → List Lexeme → ℕ → ℕ → ℕ → List Lexeme → Read (StatementTree Net)
store_at free expr own k index width (LSymbol symbol.OpenBracket ∷ ts) = word_at free expr own k index width ts
store_at free expr own k index width ts = fault code.Unknown own

-- after the name of a target, which begins the first lexemes
unfoldable pub target_at : Free → (List Lexeme → Read Sized) → List Lexeme → Entry → List Lexeme → Read (StatementTree Net)
target_at free expr own (entry.Value (net.Register k) w) ts = set_at free expr own k w ts
target_at free expr own (entry.Words m index w) ts = store_at free expr own m index w ts
target_at free expr own e ts = fault code.Unknown own

-- after the first branch of an `if`: an `else` belongs to it
unfoldable pub else_at : (List Lexeme → Read (StatementTree Net)) → Tree Net → StatementTree Net → List Lexeme → Read (StatementTree Net)
else_at statement c a (LKeyword keyword.Else ∷ ts) = do
  b ← statement ts
  Ok (SIfElse c a b.0, b.1)
else_at statement c a ts = Ok (SIf c a, ts)

-- a condition in its parentheses, of one bit
unfoldable pub condition_at : (List Lexeme → Read Sized) → List Lexeme → Read (Tree Net)
condition_at expr ts = do
  o ← symbol_at symbol.OpenParenthesis ts
  c ← expr o
  r ← symbol_at symbol.CloseParenthesis c.1
  kept_if (c.0.width == 1) (c.0.tree, r) code.Width c.1

unfoldable pub if_at : (List Lexeme → Read Sized) → (List Lexeme → Read (StatementTree Net)) → List Lexeme → Read (StatementTree Net)
if_at expr statement ts = do
  c ← condition_at expr ts
  a ← statement c.1
  else_at statement c.0 a.0 a.1

-- the statements up to `end`, fewer than so many
unfoldable pub block_at : (List Lexeme → Read (StatementTree Net)) → ℕ → List Lexeme → Read (StatementTrees Net)
block_at statement zero ts = fault code.Syntax ts
block_at statement (suc n) (LKeyword keyword.End ∷ ts) = Ok (SEnd, ts)
block_at statement (suc n) ts = do
  a ← statement ts
  more ← block_at statement n a.1
  Ok (SThen a.0 more.0, more.1)

-- After `begin`. There are fewer statements than lexemes.
unfoldable pub begin_at : (List Lexeme → Read (StatementTree Net)) → List Lexeme → Read (StatementTree Net)
begin_at statement ts = do
  more ← block_at statement (length ts) ts
  Ok (SBlock more.0, more.1)

-- a statement, from what reads the expressions and the statements in it
unfoldable pub one_statement_at : Resolve → Free → (List Lexeme → Read Sized) → (List Lexeme → Read (StatementTree Net)) → List Lexeme → Read (StatementTree Net)
one_statement_at names free expr statement (LKeyword keyword.Begin ∷ ts) = begin_at statement ts
one_statement_at names free expr statement (LKeyword keyword.If ∷ ts) = if_at expr statement ts
one_statement_at names free expr statement (LName s ∷ ts) = do
  e ← entry_at names (LName s ∷ ts)
  target_at free expr (LName s ∷ ts) e.0 e.1
one_statement_at names free expr statement ts = fault code.Syntax ts

-- a statement of at most this depth: a deeper one is at fault at its first token
unfoldable pub statement_at : Resolve → Free → ℕ → List Lexeme → Read (StatementTree Net)
statement_at names free zero ts = fault code.Syntax ts
statement_at names free (suc d) ts = one_statement_at names free (whole_expr_at names) (statement_at names free d) ts

-- the statement of an always block
unfoldable pub whole_statement_at : Resolve → Free → List Lexeme → Read (StatementTree Net)
whole_statement_at names free ts = statement_at names free 64 ts
