-- How the keywords and the symbols are spelled.
use Rattle.std.specs.Prelude.{ℕ, List, [], ◌∷◌, codes}
use Rattle.verilog_lex.specs.declared.token.Keyword.{Keyword}
use Rattle.verilog_lex.specs.declared.token.Keyword.TheVariants as keyword
use Rattle.verilog_lex.specs.declared.token.Symbol.{Symbol}
use Rattle.verilog_lex.specs.declared.token.Symbol.TheVariants as symbol

abbrev pub keyword_text : Keyword → List ℕ
keyword_text keyword.Module = codes "module"
keyword_text keyword.Endmodule = codes "endmodule"
keyword_text keyword.Input = codes "input"
keyword_text keyword.Output = codes "output"
keyword_text keyword.Wire = codes "wire"
keyword_text keyword.Reg = codes "reg"
keyword_text keyword.Integer = codes "integer"
keyword_text keyword.Initial = codes "initial"
keyword_text keyword.For = codes "for"
keyword_text keyword.Assign = codes "assign"
keyword_text keyword.Always = codes "always"
keyword_text keyword.Posedge = codes "posedge"
keyword_text keyword.Begin = codes "begin"
keyword_text keyword.End = codes "end"
keyword_text keyword.If = codes "if"
keyword_text keyword.Else = codes "else"

abbrev pub symbol_text : Symbol → List ℕ
symbol_text symbol.LessEqual = codes "<="
symbol_text symbol.GreaterEqual = codes ">="
symbol_text symbol.Equal = codes "=="
symbol_text symbol.NotEqual = codes "!="
symbol_text symbol.ShiftLeft = codes "<<"
symbol_text symbol.ShiftRight = codes ">>"
symbol_text symbol.OpenParenthesis = codes "("
symbol_text symbol.CloseParenthesis = codes ")"
symbol_text symbol.OpenBracket = codes "["
symbol_text symbol.CloseBracket = codes "]"
symbol_text symbol.OpenBrace = codes "{"
symbol_text symbol.CloseBrace = codes "}"
symbol_text symbol.Semicolon = codes ";"
symbol_text symbol.Comma = codes ","
symbol_text symbol.Colon = codes ":"
symbol_text symbol.Question = codes "?"
symbol_text symbol.At = codes "@"
symbol_text symbol.Assign = codes "="
symbol_text symbol.Less = codes "<"
symbol_text symbol.Greater = codes ">"
symbol_text symbol.Plus = codes "+"
symbol_text symbol.Minus = codes "-"
symbol_text symbol.Star = codes "*"
symbol_text symbol.Slash = codes "/"
symbol_text symbol.Percent = codes "%"
symbol_text symbol.And = codes "&"
symbol_text symbol.Or = codes "|"
symbol_text symbol.Xor = codes "^"
symbol_text symbol.Not = codes "~"

abbrev pub keywords : List Keyword
keywords =
    keyword.Module ∷ keyword.Endmodule ∷ keyword.Input ∷ keyword.Output ∷ keyword.Wire ∷
    keyword.Reg ∷ keyword.Integer ∷ keyword.Initial ∷ keyword.For ∷ keyword.Assign ∷
    keyword.Always ∷ keyword.Posedge ∷ keyword.Begin ∷ keyword.End ∷ keyword.If ∷ keyword.Else ∷ []

-- those of two bytes first, so that the first that a text begins with is the longest
abbrev pub symbols : List Symbol
symbols =
    symbol.LessEqual ∷ symbol.GreaterEqual ∷ symbol.Equal ∷ symbol.NotEqual ∷ symbol.ShiftLeft ∷
    symbol.ShiftRight ∷ symbol.OpenParenthesis ∷ symbol.CloseParenthesis ∷ symbol.OpenBracket ∷
    symbol.CloseBracket ∷ symbol.OpenBrace ∷ symbol.CloseBrace ∷ symbol.Semicolon ∷ symbol.Comma ∷
    symbol.Colon ∷ symbol.Question ∷ symbol.At ∷ symbol.Assign ∷ symbol.Less ∷ symbol.Greater ∷
    symbol.Plus ∷ symbol.Minus ∷ symbol.Star ∷ symbol.Slash ∷ symbol.Percent ∷ symbol.And ∷
    symbol.Or ∷ symbol.Xor ∷ symbol.Not ∷ []
