-- Single lexemes in front of others.
use Rattle.std.specs.Prelude.{ℕ, ◌==◌, Bool, true, false, Option, Some, None, Ok, List, [], ◌∷◌}
use Rattle.std.specs.Str.{bytes_eq}
use Rattle.net_core.specs.declared.tree.Op.{Op}
use Rattle.net_core.specs.declared.tree.Op.TheVariants as op
use Rattle.net_core.specs.declared.tree.Word.{Word}
use Rattle.net_core.specs.Value.{word}
use Rattle.net_core.specs.Width.{word_fits}
use Rattle.design_rules.specs.FormedSyntax.{is_name}
use Rattle.verilog_lex.specs.declared.token.Symbol.{Symbol}
use Rattle.verilog_lex.specs.declared.token.Symbol.TheVariants as symbol
use Rattle.verilog_lex.specs.Words.{keyword_text, symbol_text}
use Rattle.verilog_lex.specs.Lexeme.{Lexeme, LName, LKeyword, LNumber, LSized, LOutOfRange, LSymbol}
use Rattle.verilog_expression.specs.declared.fault.Code.TheVariants as code
use Rattle.verilog_expression.specs.Reads.{Read, Reading, ◌>>=◌, fault, kept_if}

-- two lexemes are the same word, number or symbol
abbrev pub same_lexeme : Lexeme → Lexeme → Bool
same_lexeme (LName a) (LName b) = bytes_eq a b
same_lexeme (LKeyword a) (LKeyword b) = bytes_eq (keyword_text a) (keyword_text b)
same_lexeme (LNumber a) (LNumber b) = a == b
same_lexeme (LSymbol a) (LSymbol b) = bytes_eq (symbol_text a) (symbol_text b)
same_lexeme a b = false

-- what is left after a lexeme that the grammar has here
unfoldable pub lexeme_at : Lexeme → List Lexeme → Reading (List Lexeme)
lexeme_at l [] = fault code.Syntax []
lexeme_at l (t ∷ ts) = kept_if (same_lexeme l t) ts code.Syntax (t ∷ ts)

-- what is left after one symbol
abbrev pub symbol_at : Symbol → List Lexeme → Reading (List Lexeme)
symbol_at s ts = lexeme_at (LSymbol s) ts

-- what is left after a phrase of several lexemes
unfoldable pub behind : List Lexeme → List Lexeme → Reading (List Lexeme)
behind [] ts = Ok ts
behind (l ∷ ls) ts = do
  r ← lexeme_at l ts
  behind ls r

abbrev pub number_at : List Lexeme → Read ℕ
number_at (LNumber n ∷ ts) = Ok (n, ts)
number_at ts = fault code.Syntax ts

-- a name: another word is no name
abbrev pub name_at : List Lexeme → Read (List ℕ)
name_at (LName s ∷ ts) = kept_if (is_name s) (s, ts) code.Syntax (LName s ∷ ts)
name_at ts = fault code.Syntax ts

-- a constant of 1 to 64 bits whose value fits them
abbrev pub constant_at : List Lexeme → Read Word
constant_at (LSized w v ∷ ts) = kept_if (word_fits (word w v)) (word w v, ts) code.Width (LSized w v ∷ ts)
constant_at (LOutOfRange ∷ ts) = fault code.Width (LOutOfRange ∷ ts)
constant_at ts = fault code.Syntax ts

-- the operator of a symbol
abbrev pub op_of : Symbol → Option Op
op_of symbol.Plus = Some op.Add
op_of symbol.Minus = Some op.Sub
op_of symbol.Star = Some op.Mul
op_of symbol.And = Some op.And
op_of symbol.Or = Some op.Or
op_of symbol.Xor = Some op.Xor
op_of symbol.ShiftLeft = Some op.ShiftLeft
op_of symbol.ShiftRight = Some op.ShiftRight
op_of symbol.Equal = Some op.Equal
op_of symbol.NotEqual = Some op.NotEqual
op_of symbol.Less = Some op.Less
op_of symbol.LessEqual = Some op.LessEqual
op_of symbol.Greater = Some op.Greater
op_of symbol.GreaterEqual = Some op.GreaterEqual
op_of s = None

abbrev pub op_at : List Lexeme → Read Op
op_at (LSymbol s ∷ ts) = by_symbol (op_of s)
  where
    by_symbol : Option Op → Read Op
    by_symbol (Some o) = Ok (o, ts)
    by_symbol None = fault code.Syntax (LSymbol s ∷ ts)
op_at ts = fault code.Syntax ts

-- ---- what stands in front
abbrev pub begins_number : List Lexeme → Bool
begins_number (LNumber n ∷ ts) = true
begins_number ts = false

abbrev pub symbol_begins_expression : Symbol → Bool
symbol_begins_expression symbol.Not = true
symbol_begins_expression symbol.Or = true
symbol_begins_expression symbol.OpenParenthesis = true
symbol_begins_expression symbol.OpenBrace = true
symbol_begins_expression s = false

-- a constant, a name, `~`, `|`, `(` or `{`
abbrev pub begins_expression : List Lexeme → Bool
begins_expression (LSized w v ∷ ts) = true
begins_expression (LOutOfRange ∷ ts) = true
begins_expression (LName s ∷ ts) = is_name s
begins_expression (LSymbol s ∷ ts) = symbol_begins_expression s
begins_expression ts = false
