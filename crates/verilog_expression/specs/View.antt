-- What lexemes, trees and results in memory stand for.
use Rattle.std.specs.Prelude.{◌≡◌, ℕ, ◌+◌, Option, Some, None, List, ◌∷◌, length, min, Result, Ok, Err}
use Rattle.net_core.specs.declared.tree.Net.{Net}
use Rattle.net_core.specs.declared.tree.Expr.{Expr}
use Rattle.net_core.specs.declared.tree.Parts.{Parts}
use Rattle.net_core.specs.declared.tree.Right.{Right}
use Rattle.net_core.specs.declared.tree.Stmt.{Stmt}
use Rattle.net_core.specs.declared.tree.Stmts.{Stmts}
use Rattle.net_core.specs.Nets.{Tree, StatementTree, StatementTrees}
use Rattle.net_core.specs.Chains.{parts_before, statements_before}
use Rattle.net_core.specs.View.{tree_of, trees_of, right_of, statement_of, statements_of}
use Rattle.verilog_lex.specs.declared.token.Keyword.TheVariants as keyword
use Rattle.verilog_lex.specs.declared.token.Symbol.TheVariants as symbol
use Rattle.verilog_lex.specs.Lexeme.{Lexeme, LName, LKeyword, LNumber, LSymbol, lexemes_of}
use Rattle.verilog_expression.specs.declared.error.PhraseError.{PhraseError}
use Rattle.verilog_expression.specs.declared.error.PhraseError.TheVariants as error
use Rattle.verilog_expression.specs.declared.fault.Code.{Code}
use Rattle.verilog_expression.specs.declared.mark.Mark.{Mark}
use Rattle.verilog_expression.specs.declared.mark.Mark.TheVariants as mark
use Rattle.verilog_expression.specs.declared.rest.Rest.{Rest}
use Rattle.verilog_expression.specs.Reads.{Read, Reading}
use Rattle.verilog_expression.specs.Expressions.{Sized, SizedParts}
use Rattle.verilog_expression.specs.Rights.{SizedRight}

-- the lexemes that are left to read
abbrev pub lexemes_left : Rest → List Lexeme
lexemes_left r = lexemes_of r.text.now r.tokens.now

-- the lexeme that has to stand at a place
abbrev pub mark_lexeme : Mark → Lexeme
mark_lexeme (mark.Name s) = LName s.now
mark_lexeme (mark.Keyword k) = LKeyword k
mark_lexeme (mark.Number n) = LNumber n
mark_lexeme (mark.Symbol s) = LSymbol s

-- a fault at the first of these lexemes
abbrev pub fault_at : Code → List Lexeme → PhraseError
fault_at c ts = error.Fault (record { code = c; left = length ts })

-- What a function returned, seen by view, is what reading gives, unless memory ran out.
abbrev pub Fails : {Y : Type 0} → PhraseError → Reading Y → Type 0
Fails (error.Fault f) reading = reading ≡ Err f
Fails error.NoMemory reading = Unit {0}

abbrev pub Gives : {X Y : Type 0} → (X → Y) → Result X PhraseError → Reading Y → Type 0
Gives view (Ok x) reading = reading ≡ Ok (view x)
Gives view (Err e) reading = Fails e reading

-- the same of a function that has no faults
abbrev pub Finds : {X Y : Type 0} → (X → Y) → Option X → Option Y → Type 0
Finds view (Some x) found = found ≡ Some (view x)
Finds view None found = found ≡ None

-- what was read, and the lexemes after it
abbrev pub as_sized : Expr Net → ℕ → Sized
as_sized e w = record { tree = tree_of e; width = w }

abbrev pub sized_of : Expr Net × ℕ × Rest → Sized × List Lexeme
sized_of x = (as_sized x.0 x.1, lexemes_left x.2)

abbrev pub parts_of : Parts Net × ℕ × Rest → SizedParts × List Lexeme
parts_of x = (record { parts = trees_of x.0; width = x.1 }, lexemes_left x.2)

abbrev pub right_sized : Right Net × ℕ × Rest → SizedRight × List Lexeme
right_sized x = (record { right = right_of x.0; width = x.1 }, lexemes_left x.2)

abbrev pub tree_and_rest : Expr Net × Rest → Tree Net × List Lexeme
tree_and_rest x = (tree_of x.0, lexemes_left x.1)

abbrev pub statement_and_rest : Stmt Net × Rest → StatementTree Net × List Lexeme
statement_and_rest x = (statement_of x.0, lexemes_left x.1)

abbrev pub statements_and_rest : Stmts Net × Rest → StatementTrees Net × List Lexeme
statements_and_rest x = (statements_of x.0, lexemes_left x.1)

-- the same parts, with a sum of at most 255: a width is at most 64
abbrev pub capped : Read SizedParts → Read SizedParts
capped (Ok x) = Ok (record { parts = x.0.parts; width = min x.0.width 255 }, x.1)
capped (Err f) = Err f

-- the lexemes after a comma, and after the `end` of a block
abbrev pub comma_at : List Lexeme → Option (List Lexeme)
comma_at (LSymbol symbol.Comma ∷ ts) = Some ts
comma_at ts = None

abbrev pub end_at : List Lexeme → Option (List Lexeme)
end_at (LKeyword keyword.End ∷ ts) = Some ts
end_at ts = None

-- what is read after parts that stand in front, and whose widths are so many together
abbrev pub behind_parts : List (Tree Net) → ℕ → Read SizedParts → Read SizedParts
behind_parts prefix sum (Ok x) = Ok (record { parts = parts_before prefix x.0.parts; width = sum + x.0.width }, x.1)
behind_parts prefix sum (Err f) = Err f

abbrev pub behind_statements : List (StatementTree Net) → Read (StatementTrees Net) → Read (StatementTrees Net)
behind_statements prefix (Ok x) = Ok (statements_before prefix x.0, x.1)
behind_statements prefix (Err f) = Err f
