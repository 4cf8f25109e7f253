-- The right side of a wire: an expression, or the quotient or the remainder of two values.
use Rattle.std.specs.Prelude.{ℕ, ◌==◌, Bool, true, false, Ok, List, ◌∷◌}
use Rattle.net_core.specs.declared.tree.Net.{Net}
use Rattle.net_core.specs.Nets.{RightTree, RPlain, RQuotient, RRemainder}
use Rattle.verilog_lex.specs.declared.token.Symbol.TheVariants as symbol
use Rattle.verilog_lex.specs.Lexeme.{Lexeme, LName, LSymbol}
use Rattle.verilog_expression.specs.declared.fault.Code.TheVariants as code
use Rattle.verilog_expression.specs.declared.entry.Entry.{Entry}
use Rattle.verilog_expression.specs.declared.entry.Entry.TheVariants as entry
use Rattle.verilog_expression.specs.Reads.{Read, Reading, ◌>>=◌, fault, kept_if}
use Rattle.verilog_expression.specs.Expressions.{Resolve, entry_at, whole_expr_at}

-- a right side and its width
pub record SizedRight : Type 0 where
  pub right : RightTree Net
  pub width : ℕ

-- a net that can be read, and its width
abbrev pub as_value : List Lexeme → Entry → Reading (Net × ℕ)
as_value own (entry.Value n w) = Ok (n, w)
as_value own e = fault code.Unknown own

unfoldable pub value_at : Resolve → List Lexeme → Read (Net × ℕ)
value_at names ts = do
  e ← entry_at names ts
  n ← as_value ts e.0
  Ok (n, e.1)

abbrev pub division : Bool → Net → Net → RightTree Net
division true a b = RQuotient a b
division false a b = RRemainder a b

-- Two names of one width with `/` or `%` between: the first begins the first lexemes, the others stand after the operator.
unfoldable pub division_at : Resolve → Bool → List Lexeme → List Lexeme → Read SizedRight
division_at names quotient own ts = do
  a ← value_at names own
  b ← value_at names ts
  kept_if (a.0.1 == b.0.1) (record { right = division quotient a.0.0 b.0.0; width = a.0.1 }, b.1) code.Width ts

unfoldable pub plain_at : Resolve → List Lexeme → Read SizedRight
plain_at names ts = do
  e ← whole_expr_at names ts
  Ok (record { right = RPlain e.0.tree; width = e.0.width }, e.1)

unfoldable pub right_at : Resolve → List Lexeme → Read SizedRight
right_at names (LName s ∷ LSymbol symbol.Slash ∷ ts) = division_at names true (LName s ∷ LSymbol symbol.Slash ∷ ts) ts
right_at names (LName s ∷ LSymbol symbol.Percent ∷ ts) = division_at names false (LName s ∷ LSymbol symbol.Percent ∷ ts) ts
right_at names ts = plain_at names ts
