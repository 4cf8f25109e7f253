-- What a text is: a design, or its first error. The whole text is looked through for tokens first; the ports come last.
use Rattle.std.specs.Prelude.{◌≡◌, ℕ, ◌-◌, Option, Some, None, Result, Ok, Err, List, length, map}
use Rattle.std.proofs.Common.{get_or}
use Rattle.net_core.specs.declared.design.Design.{Design}
use Rattle.net_core.specs.Nets.{Netlist}
use Rattle.net_core.specs.View.{netlist_of}
use Rattle.verilog_lex.specs.declared.token.Token.{Token}
use Rattle.verilog_lex.specs.Lexeme.{lexemes_of}
use Rattle.verilog_lex.specs.Tokens.{tokens_in}
use Rattle.verilog_expression.specs.declared.fault.Code.{Code}
use Rattle.verilog_expression.specs.declared.fault.Code.TheVariants as code
use Rattle.verilog_expression.specs.Reads.{Reading}
use Rattle.verilog_read.specs.declared.error.ReadError.{ReadError}
use Rattle.verilog_read.specs.declared.error.ReadError.TheVariants.{Lex, Syntax, Unknown, Twice, Width, Order, Ports, NoMemory}
use Rattle.verilog_read.specs.Designs.{design_at, port_fault}

-- the place of the token from which on so many are left, or the length of the text where none is
abbrev pub place_of : List ℕ → List Token → ℕ → ℕ
place_of text ts left = get_or (map (λ t. t.start) ts) (length ts - left) (length text)

abbrev pub error_of : Code → ℕ → ReadError
error_of code.Syntax at = Syntax at
error_of code.Unknown at = Unknown at
error_of code.Twice at = Twice at
error_of code.Width at = Width at
error_of code.Order at = Order at

abbrev pub by_ports : Netlist → Option ℕ → Result Netlist ReadError
by_ports d None = Ok d
by_ports d (Some k) = Err (Ports k)

abbrev pub by_lexemes : List ℕ → List Token → Reading Netlist → Result Netlist ReadError
by_lexemes text ts (Ok d) = by_ports d (port_fault d)
by_lexemes text ts (Err f) = Err (error_of f.code (place_of text ts f.left))

abbrev pub by_tokens : List ℕ → Result (List Token) ℕ → Result Netlist ReadError
by_tokens text (Ok ts) = by_lexemes text ts (design_at (lexemes_of text ts))
by_tokens text (Err at) = Err (Lex at)

-- the design that a text spells, or its first error
unfoldable pub outcome_of : List ℕ → Result Netlist ReadError
outcome_of text = by_tokens text (tokens_in text)

-- What was returned is the outcome, unless memory ran out.
abbrev pub IsOutcome : Result Design ReadError → Result Netlist ReadError → Type 0
IsOutcome (Ok d) outcome = outcome ≡ Ok (netlist_of d)
IsOutcome (Err NoMemory) outcome = Unit {0}
IsOutcome (Err e) outcome = outcome ≡ Err e

-- this design is read, unless memory runs out
abbrev pub ReadsNetlist : Result Design ReadError → Netlist → Type 0
ReadsNetlist (Ok d) p = netlist_of d ≡ p
ReadsNetlist (Err NoMemory) p = Unit {0}
ReadsNetlist (Err e) p = ⊥
