-- What can be written in the subset: each net that is read or set has a name, and each constant fits its width.
use Rattle.std.specs.Prelude.{◌≤◌}
use Rattle.net_core.specs.declared.tree.Net.{Net}
use Rattle.net_core.specs.declared.tree.Net.TheVariants.{Register, Memory}
use Rattle.net_core.specs.declared.design.Declared.{Declared}
use Rattle.net_core.specs.declared.design.Declared.TheVariants as declared
use Rattle.net_core.specs.Nets.{Tree, TConst, TRead, TBit, TPartSelect, TMemoryWord, TUnary, TBinary, TConditional, TConcatenation, Trees, TLast, TMore, RightTree, RPlain, RQuotient, RRemainder, StatementTree, SBlock, SIf, SIfElse, SSet, SStore, StatementTrees, SEnd, SThen, Netlist}
use Rattle.net_core.specs.Names.{name_of}
use Rattle.net_core.specs.Width.{Fits}
use Rattle.verilog_lex.specs.Spelling.{IsName}
use Rattle.verilog_write.specs.VerilogGrammar.Grammar.{integer_name}

abbrev pub IsNamed : Netlist → Net → Type 0
IsNamed d n = IsName (name_of d n)

abbrev mutual
  pub IsWritable : Netlist → Tree Net → Type 0
  IsWritable d (TConst w) = Fits w
  IsWritable d (TRead n) = IsNamed d n
  IsWritable d (TBit n i) = IsNamed d n
  IsWritable d (TPartSelect n hi lo) = IsNamed d n
  IsWritable d (TMemoryWord m i) = IsNamed d m × IsWritable d i
  IsWritable d (TUnary p a) = IsWritable d a
  IsWritable d (TBinary op a b) = IsWritable d a × IsWritable d b
  IsWritable d (TConditional c a b) = IsWritable d c × IsWritable d a × IsWritable d b
  IsWritable d (TConcatenation ps) = AreWritable d ps

  pub AreWritable : Netlist → Trees Net → Type 0
  AreWritable d (TLast a) = IsWritable d a
  AreWritable d (TMore a ps) = IsWritable d a × AreWritable d ps

abbrev pub IsRightWritable : Netlist → RightTree Net → Type 0
IsRightWritable d (RPlain e) = IsWritable d e
IsRightWritable d (RQuotient a b) = IsNamed d a × IsNamed d b
IsRightWritable d (RRemainder a b) = IsNamed d a × IsNamed d b

abbrev mutual
  pub IsStatementWritable : Netlist → StatementTree Net → Type 0
  IsStatementWritable d (SBlock more) = AreStatementsWritable d more
  IsStatementWritable d (SIf c a) = IsWritable d c × IsStatementWritable d a
  IsStatementWritable d (SIfElse c a b) = IsWritable d c × IsStatementWritable d a × IsStatementWritable d b
  IsStatementWritable d (SSet r e) = IsNamed d (Register r) × IsWritable d e
  IsStatementWritable d (SStore m i e) = IsNamed d (Memory m) × IsWritable d i × IsWritable d e

  pub AreStatementsWritable : Netlist → StatementTrees Net → Type 0
  AreStatementsWritable d SEnd = Unit {0}
  AreStatementsWritable d (SThen a more) = IsStatementWritable d a × AreStatementsWritable d more

abbrev pub IsDeclarationWritable : Netlist → Declared → Type 0
IsDeclarationWritable d declared.Integer = Unit {0}
IsDeclarationWritable d (declared.Register w) = Fits w
IsDeclarationWritable d (declared.Memory index first i) = (index ≤ 16) × Fits first × IsName (integer_name d i)
