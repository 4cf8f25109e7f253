-- The first fault of lexemes is decided by what stands up to it, and by at most two lexemes behind.
use Rattle.std.specs.Prelude.{◌≡◌, ℕ, ◌+◌, ◌<◌, Ok, Err, List, ◌++◌, length, map}
use Rattle.std.proofs.Common.{get_or}
use Rattle.net_core.specs.Nets.{Netlist}
use Rattle.verilog_expression.specs.verilog_write.VerilogGrammar.Spelling.{Spells}
use Rattle.verilog_lex.specs.declared.token.Token.{Token}
use Rattle.verilog_lex.specs.Lexeme.{Lexeme, lexemes_of}
use Rattle.verilog_lex.specs.Tokens.{tokens_in}
use Rattle.verilog_expression.specs.declared.fault.Code.{Code}
use Rattle.verilog_expression.specs.declared.fault.Code.TheVariants as code
use Rattle.verilog_expression.specs.declared.fault.Fault.{Fault}
use Rattle.verilog_expression.specs.Reads.{Reading}
use Rattle.verilog_expression.specs.Expressions.{Resolve, whole_expr_at}
use Rattle.verilog_expression.specs.Rights.{right_at}
use Rattle.verilog_expression.specs.Statements.{Free, whole_statement_at}
use Rattle.verilog_read.specs.Designs.{design_at}
use Rattle.verilog_read.specs.Texts.{error_of, outcome_of}

-- How many lexemes after its own a fault may depend on. A target is a second driver only where a bracket after it is as its sort asks,
-- and else it is unknown. Of what sort a name has to be is told by the bracket after it and by what stands first in there.
abbrev pub lexemes_behind : Code → ℕ
lexemes_behind code.Syntax = 0
lexemes_behind code.Unknown = 2
lexemes_behind code.Twice = 1
lexemes_behind code.Width = 0
lexemes_behind code.Order = 0

-- a fault at a lexeme from which on so many are left
abbrev pub fault_with : Code → ℕ → Fault
fault_with c left = record { code = c; left = left }

-- The first fault is that of a front: where n lexemes of the front are left from the fault's own on, and its code depends on those alone,
-- all lexemes that begin with this front have the same fault at the same lexeme.
abbrev pub HasFaultOfFront : {A : Type 0} → (List Lexeme → Reading A) → Type 0
HasFaultOfFront read =
    (front rest other : List Lexeme) (c : Code) (n : ℕ) → lexemes_behind c < n
    → read (front ++ rest) ≡ Err (fault_with c (n + length rest)) → read (front ++ other) ≡ Err (fault_with c (n + length other))

-- ---- phrases
abbrev pub ExpressionsHaveFaultOfFront : Type 0
ExpressionsHaveFaultOfFront = (names : Resolve) → HasFaultOfFront (whole_expr_at names)

abbrev pub RightSidesHaveFaultOfFront : Type 0
RightSidesHaveFaultOfFront = (names : Resolve) → HasFaultOfFront (right_at names)

abbrev pub StatementsHaveFaultOfFront : Type 0
StatementsHaveFaultOfFront = (names : Resolve) (free : Free) → HasFaultOfFront (whole_statement_at names free)

-- ---- designs and texts
abbrev pub DesignsHaveFaultOfFront : Type 0
DesignsHaveFaultOfFront = HasFaultOfFront design_at

-- the lexemes of a text, each with its place, begin so
pub record BeginsWith (text : List ℕ) (ts : List Token) (front : List Lexeme) : Type 0 where
  pub tokens : tokens_in text ≡ Ok ts
  pub rest : List Lexeme
  pub lexemes : lexemes_of text ts ≡ front ++ rest

-- the place of the token of this number, or the length of the text where there is none
abbrev pub start_of : List ℕ → List Token → ℕ → ℕ
start_of text ts k = get_or (map (λ t. t.start) ts) k (length text)

-- The error of a text is at its token of this number. Where another text has the same lexemes up to that token, and as many after it as
-- the error may depend on, it has the same error at its token of this number, and spells no design.
pub record SharesError (text other : List ℕ) (ts us : List Token) (front : List Lexeme) (c : Code) (at : ℕ) : Type 0 where
  pub number : ℕ
  pub place : at ≡ start_of text ts number
  pub same : number + lexemes_behind c < length front → outcome_of other ≡ Err (error_of c (start_of other us number))
  pub spells_none : number + lexemes_behind c < length front → (d : Netlist) → ¬ Spells other d

abbrev pub TextsShareFirstError : Type 0
TextsShareFirstError =
    (text other : List ℕ) (ts us : List Token) (front : List Lexeme) → BeginsWith text ts front → BeginsWith other us front
    → (c : Code) (at : ℕ) → outcome_of text ≡ Err (error_of c at) → SharesError text other ts us front c at
