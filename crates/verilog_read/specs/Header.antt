-- The header of a design from left to right: its name and its ports (IEEE 1364-2005, annex A.1.3, a subset).
use Rattle.std.specs.Prelude.{ℕ, zero, suc, nat_lt, Bool, true, false, ◌&&◌, Ok, List, [], ◌∷◌, ◌++◌, length, codes}
use Rattle.std.specs.Str.{bytes_eq}
use Rattle.std.specs.List.{list_any}
use Rattle.std.proofs.Common.{not}
use Rattle.net_core.specs.declared.design.Port.{Port}
use Rattle.net_core.specs.Nets.{Netlist}
use Rattle.verilog_lex.specs.declared.token.Keyword.TheVariants as keyword
use Rattle.verilog_lex.specs.declared.token.Symbol.TheVariants as symbol
use Rattle.verilog_lex.specs.Lexeme.{Lexeme, LName, LKeyword, LNumber, LSymbol}
use Rattle.verilog_expression.specs.declared.fault.Code.TheVariants as code
use Rattle.verilog_expression.specs.Reads.{Read, ◌>>=◌, fault, kept_if}
use Rattle.verilog_expression.specs.Lexemes.{lexeme_at, symbol_at, behind, number_at, name_at}

-- A width: `[n:0]` with n from 1 to 63, or nothing where it is 1.
unfoldable pub range_at : List Lexeme → Read ℕ
range_at (LSymbol symbol.OpenBracket ∷ ts) = do
  n ← number_at ts
  a ← behind (LSymbol symbol.Colon ∷ LNumber 0 ∷ []) n.1
  r ← symbol_at symbol.CloseBracket a
  kept_if (nat_lt 0 n.0 && nat_lt n.0 64) (suc n.0, r) code.Width a
range_at ts = Ok (1, ts)

-- a name that nothing before has
unfoldable pub fresh_at : Netlist → List Lexeme → Read (List ℕ)
fresh_at d ts = do
  s ← name_at ts
  kept_if (not (list_any (bytes_eq s.0) d.names)) s code.Twice ts

-- the direction of a port: whether it is an output
abbrev pub direction_at : List Lexeme → Read Bool
direction_at (LKeyword keyword.Input ∷ ts) = Ok (false, ts)
direction_at (LKeyword keyword.Output ∷ ts) = Ok (true, ts)
direction_at ts = fault code.Syntax ts

abbrev pub with_port : List ℕ → Port → Netlist → Netlist
with_port s p d = record d { names = d.names ++ s ∷ []; ports = d.ports ++ p ∷ [] }

unfoldable pub port_at : Netlist → List Lexeme → Read Netlist
port_at d ts = do
  o ← direction_at ts
  a ← lexeme_at (LKeyword keyword.Wire) o.1
  w ← range_at a
  s ← fresh_at d w.1
  Ok (with_port s.0 (record { output = o.0; width = w.0 }) d, s.1)

-- after a port: others, where a comma follows
unfoldable pub more_ports_at : (Netlist → List Lexeme → Read Netlist) → Netlist → List Lexeme → Read Netlist
more_ports_at ports d (LSymbol symbol.Comma ∷ ts) = ports d ts
more_ports_at ports d ts = Ok (d, ts)

-- the ports, no more than so many
unfoldable pub ports_at : ℕ → Netlist → List Lexeme → Read Netlist
ports_at zero d ts = fault code.Syntax ts
ports_at (suc n) d ts = do
  p ← port_at d ts
  more_ports_at (ports_at n) p.0 p.1

abbrev pub no_design : Netlist
no_design = record { names = []; ports = []; declared = []; wires = []; assigns = []; always = [] }

-- There are no more ports than lexemes.
unfoldable pub header_at : List Lexeme → Read Netlist
header_at ts = do
  a ← behind (LKeyword keyword.Module ∷ LName (codes "ehdl") ∷ LSymbol symbol.OpenParenthesis ∷ []) ts
  p ← ports_at (length a) no_design a
  r ← behind (LSymbol symbol.CloseParenthesis ∷ LSymbol symbol.Semicolon ∷ []) p.1
  Ok (p.0, r)
