-- Which bytes spell which design: the text is the lexemes of the design with separators between, each token the longest that
-- begins at its place, and the design keeps the rules of the subset.
use Rattle.std.specs.Prelude.{ℕ, List}
use Rattle.verilog_lex.specs.Lexeme.{Lexes}
use Rattle.net_core.specs.Nets.{Netlist}
use Rattle.verilog_write.specs.VerilogGrammar.Grammar.{design_lexemes}
use Rattle.design_rules.specs.Formed.{IsWellFormed}

pub record Spells (text : List ℕ) (d : Netlist) : Type 0 where
  pub lexemes : Lexes text (design_lexemes d)
  pub formed : IsWellFormed d
