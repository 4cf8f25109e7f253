-- Expressions from left to right (IEEE 1364-2005, annex A.8, a subset): each with its width, or the first fault.
--
-- What follows a name decides the sort that is needed: after `name [` a number asks for a vector and an expression for a
-- memory; a name alone asks for a value. A name of another sort is at fault itself, before anything after it.
-- A width is at fault at the token that ends its phrase.
use Rattle.std.specs.Prelude.{ℕ, zero, suc, ◌+◌, nat_lt, nat_le, Bool, true, false, if◌then◌else◌, Option, Ok, List, ◌∷◌, length}
use Rattle.net_core.specs.declared.tree.UnaryOp.{UnaryOp}
use Rattle.net_core.specs.declared.tree.UnaryOp.TheVariants as unary_op
use Rattle.net_core.specs.declared.tree.Net.{Net}
use Rattle.net_core.specs.declared.tree.Net.TheVariants as net
use Rattle.net_core.specs.Nets.{Tree, TConst, TRead, TBit, TPartSelect, TMemoryWord, TUnary, TBinary, TConditional, TConcatenation, Trees, TLast, TMore}
use Rattle.net_core.specs.Width.{part_select_width, memory_word_width, unary_width, op_width, conditional_width}
use Rattle.verilog_lex.specs.declared.token.Symbol.{Symbol}
use Rattle.verilog_lex.specs.declared.token.Symbol.TheVariants as symbol
use Rattle.verilog_lex.specs.Lexeme.{Lexeme, LName, LSized, LOutOfRange, LSymbol}
use Rattle.verilog_expression.specs.declared.fault.Code.TheVariants as code
use Rattle.verilog_expression.specs.declared.entry.Entry.{Entry}
use Rattle.verilog_expression.specs.declared.entry.Entry.TheVariants as entry
use Rattle.verilog_expression.specs.Reads.{Read, ◌>>=◌, fault, kept_if, found}
use Rattle.verilog_expression.specs.Lexemes.{symbol_at, number_at, name_at, constant_at, op_at, begins_number, begins_expression}

-- what names stand for
abbrev pub Resolve : Type 0
Resolve = List ℕ → Option Entry

-- an expression and its width
pub record Sized : Type 0 where
  pub tree : Tree Net
  pub width : ℕ

-- the expressions of a concatenation and the sum of their widths
pub record SizedParts : Type 0 where
  pub parts : Trees Net
  pub width : ℕ

-- An expression that was read up to a token that ends it, and what stands after that token. Where it has no width, the fault
-- is at this token.
abbrev pub sized : Tree Net → ℕ → List Lexeme → List Lexeme → Read Sized
sized t w rest ends = kept_if (nat_lt 0 w) (record { tree = t; width = w }, rest) code.Width ends

-- what the name in front stands for
unfoldable pub entry_at : Resolve → List Lexeme → Read Entry
entry_at names ts = do
  s ← name_at ts
  e ← found (names s.0) code.Unknown ts
  Ok (e, s.1)

-- after `name [` and a number: one bit of a net, or its bits down to another number
unfoldable pub part_select_at : Net → ℕ → ℕ → List Lexeme → Read Sized
part_select_at n w hi (LSymbol symbol.Colon ∷ ts) = do
  lo ← number_at ts
  r ← symbol_at symbol.CloseBracket lo.1
  sized (TPartSelect n hi lo.0) (part_select_width w hi lo.0) r lo.1
part_select_at n w hi ts = do
  r ← symbol_at symbol.CloseBracket ts
  sized (TBit n hi) (part_select_width w hi hi) r ts

unfoldable pub select_at : Net → ℕ → List Lexeme → Read Sized
select_at n w ts = do
  hi ← number_at ts
  part_select_at n w hi.0 hi.1

-- after `name [` of a memory: an index
unfoldable pub memory_word_at : (List Lexeme → Read Sized) → ℕ → ℕ → ℕ → List Lexeme → Read Sized
memory_word_at expr m index width ts = do
  i ← expr ts
  r ← symbol_at symbol.CloseBracket i.1
  sized (TMemoryWord (net.Memory m) i.0.tree) (memory_word_width i.0.width index width) r i.1

-- in the brackets after the name of a value, which begins the first lexemes
abbrev pub in_value : List Lexeme → Net → ℕ → List Lexeme → Read Sized
in_value own n w ts =
    if begins_number ts then select_at n w ts
    else (if begins_expression ts then fault code.Unknown own else fault code.Syntax ts)

-- in the brackets after the name of a memory
abbrev pub in_words : (List Lexeme → Read Sized) → List Lexeme → ℕ → ℕ → ℕ → List Lexeme → Read Sized
in_words expr own m index width ts = if begins_number ts then fault code.Unknown own else memory_word_at expr m index width ts

-- after a name, which begins the first lexemes
unfoldable pub named_at : (List Lexeme → Read Sized) → List Lexeme → Entry → List Lexeme → Read Sized
named_at expr own (entry.Value n w) (LSymbol symbol.OpenBracket ∷ ts) = in_value own n w ts
named_at expr own (entry.Value n w) ts = Ok (record { tree = TRead n; width = w }, ts)
named_at expr own (entry.Words m index w) (LSymbol symbol.OpenBracket ∷ ts) = in_words expr own m index w ts
named_at expr own e ts = fault code.Unknown own

-- after a parenthesis and its first expression: a choice, or an operator between two operands
unfoldable pub second_at : (List Lexeme → Read Sized) → Sized → List Lexeme → Read Sized
second_at expr a (LSymbol symbol.Question ∷ ts) = do
  b ← expr ts
  m ← symbol_at symbol.Colon b.1
  c ← expr m
  r ← symbol_at symbol.CloseParenthesis c.1
  sized (TConditional a.tree b.0.tree c.0.tree) (conditional_width a.width b.0.width c.0.width) r c.1
second_at expr a ts = do
  o ← op_at ts
  b ← expr o.1
  r ← symbol_at symbol.CloseParenthesis b.1
  sized (TBinary o.0 a.tree b.0.tree) (op_width o.0 a.width b.0.width) r b.1

unfoldable pub paren_at : (List Lexeme → Read Sized) → List Lexeme → Read Sized
paren_at expr ts = do
  a ← expr ts
  second_at expr a.0 a.1

-- the parts of a concatenation after one of them
unfoldable pub more_at : (List Lexeme → Read SizedParts) → Sized → List Lexeme → Read SizedParts
more_at parts a (LSymbol symbol.Comma ∷ ts) = do
  ps ← parts ts
  Ok (record { parts = TMore a.tree ps.0.parts; width = a.width + ps.0.width }, ps.1)
more_at parts a ts = Ok (record { parts = TLast a.tree; width = a.width }, ts)

-- the parts of a concatenation, no more than so many
unfoldable pub parts_at : (List Lexeme → Read Sized) → ℕ → List Lexeme → Read SizedParts
parts_at expr zero ts = fault code.Syntax ts
parts_at expr (suc n) ts = do
  a ← expr ts
  more_at (parts_at expr n) a.0 a.1

-- the width of a concatenation: the sum, at most 64
abbrev pub whole_width : ℕ → ℕ
whole_width sum = if nat_le sum 64 then sum else 0

-- There are no more parts than lexemes.
unfoldable pub concatenation_at : (List Lexeme → Read Sized) → List Lexeme → Read Sized
concatenation_at expr ts = do
  ps ← parts_at expr (length ts) ts
  r ← symbol_at symbol.CloseBrace ps.1
  sized (TConcatenation ps.0.parts) (whole_width ps.0.width) r ps.1

-- the operand of a prefix operator, where one may stand
unfoldable pub unary_at : Bool → UnaryOp → (List Lexeme → Read Sized) → List Lexeme → List Lexeme → Read Sized
unary_at false p operand own ts = fault code.Syntax own
unary_at true p operand own ts = do
  a ← operand ts
  Ok (record { tree = TUnary p a.0.tree; width = unary_width p a.0.width }, a.1)

-- after the symbol that an expression begins with, and which begins the first lexemes
unfoldable pub symbol_first : Bool → (List Lexeme → Read Sized) → (List Lexeme → Read Sized) → Symbol → List Lexeme → List Lexeme → Read Sized
symbol_first any operand expr symbol.Not own ts = unary_at any unary_op.Not operand own ts
symbol_first any operand expr symbol.Or own ts = unary_at any unary_op.ReduceOr operand own ts
symbol_first any operand expr symbol.OpenParenthesis own ts = paren_at expr ts
symbol_first any operand expr symbol.OpenBrace own ts = concatenation_at expr ts
symbol_first any operand expr s own ts = fault code.Syntax own

-- a constant
unfoldable pub constant_expr_at : List Lexeme → Read Sized
constant_expr_at ts = do
  c ← constant_at ts
  Ok (record { tree = TConst c.0; width = c.0.width }, c.1)

-- an expression, from what reads the operand of a prefix operator and what reads every other expression in it
unfoldable pub first_at : Resolve → Bool → (List Lexeme → Read Sized) → (List Lexeme → Read Sized) → List Lexeme → Read Sized
first_at names any operand expr (LSized w v ∷ ts) = constant_expr_at (LSized w v ∷ ts)
first_at names any operand expr (LOutOfRange ∷ ts) = constant_expr_at (LOutOfRange ∷ ts)
first_at names any operand expr (LName s ∷ ts) = do
  e ← entry_at names (LName s ∷ ts)
  named_at expr (LName s ∷ ts) e.0 e.1
first_at names any operand expr (LSymbol s ∷ ts) = symbol_first any operand expr s (LSymbol s ∷ ts) ts
first_at names any operand expr ts = fault code.Syntax ts

-- An expression of at most this depth: a deeper one is at fault at its first token. It begins with a prefix operator only
-- where the flag says so: the operand of one does not.
unfoldable pub expr_at : Resolve → ℕ → Bool → List Lexeme → Read Sized
expr_at names zero any ts = fault code.Syntax ts
expr_at names (suc d) any ts = first_at names any (expr_at names d false) (expr_at names d true) ts

-- an expression that stands in an item or a statement
unfoldable pub whole_expr_at : Resolve → List Lexeme → Read Sized
whole_expr_at names ts = expr_at names 64 true ts
