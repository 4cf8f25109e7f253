-- The items of a design from left to right, each after those before it (IEEE 1364-2005, annex A.1.4, a subset).
use Rattle.std.specs.Prelude.{ℕ, zero, suc, ◌==◌, nat_le, Option, Some, None, Ok, List, [], ◌∷◌, ◌++◌, codes}
use Rattle.std.proofs.Common.{not}
use Rattle.net_core.specs.declared.tree.Net.{Net}
use Rattle.net_core.specs.Nets.{StatementTree, WireTree, AssignTree, Netlist}
use Rattle.net_core.specs.Width.{is_assigned}
use Rattle.verilog_lex.specs.declared.token.Keyword.TheVariants as keyword
use Rattle.verilog_lex.specs.declared.token.Symbol.TheVariants as symbol
use Rattle.verilog_lex.specs.Lexeme.{Lexeme, LName, LKeyword, LSymbol}
use Rattle.verilog_expression.specs.declared.fault.Code.TheVariants as code
use Rattle.verilog_expression.specs.declared.entry.Entry.{Entry}
use Rattle.verilog_expression.specs.declared.entry.Entry.TheVariants as entry
use Rattle.verilog_expression.specs.Reads.{Read, ◌>>=◌, fault, kept_if, found}
use Rattle.verilog_expression.specs.Lexemes.{symbol_at, behind, name_at}
use Rattle.verilog_expression.specs.Expressions.{whole_expr_at}
use Rattle.verilog_expression.specs.Rights.{right_at}
use Rattle.verilog_expression.specs.Statements.{whole_statement_at}
use Rattle.verilog_read.specs.declared.section.Section.{Section}
use Rattle.verilog_read.specs.declared.section.Section.TheVariants as section
use Rattle.verilog_read.specs.Entries.{entry_in, free_in}
use Rattle.verilog_read.specs.Header.{range_at, fresh_at}
use Rattle.verilog_read.specs.Declarations.{ends_at, integer_item_at, reg_item_at}

abbrev pub with_wire : List ℕ → WireTree → Netlist → Netlist
with_wire s w d = record d { names = d.names ++ s ∷ []; wires = d.wires ++ w ∷ [] }

abbrev pub with_assign : AssignTree → Netlist → Netlist
with_assign a d = record d { assigns = d.assigns ++ a ∷ [] }

abbrev pub with_always : StatementTree Net → Netlist → Netlist
with_always a d = record d { always = d.always ++ a ∷ [] }

-- after `wire`: the right side does not know the wire's own name
unfoldable pub wire_at : Netlist → List Lexeme → Read Netlist
wire_at d ts = do
  w ← range_at ts
  s ← fresh_at d w.1
  b ← symbol_at symbol.Assign s.1
  e ← right_at (entry_in d) b
  r ← ends_at (e.0.width == w.0) e.1
  Ok (with_wire s.0 (record { width = w.0; right = e.0.right }) d, r)

-- the number and the width of an output
abbrev pub as_output : Option Entry → Option (ℕ × ℕ)
as_output (Some (entry.Output port width)) = Some (port, width)
as_output e = None

-- the name of an output to which nothing is assigned yet
unfoldable pub output_at : Netlist → List Lexeme → Read (ℕ × ℕ)
output_at d ts = do
  s ← name_at ts
  o ← found (as_output (entry_in d s.0)) code.Unknown ts
  kept_if (not (is_assigned d.assigns o.0)) (o, s.1) code.Twice ts

-- after `assign`
unfoldable pub assign_at : Netlist → List Lexeme → Read Netlist
assign_at d ts = do
  o ← output_at d ts
  b ← symbol_at symbol.Assign o.1
  e ← whole_expr_at (entry_in d) b
  r ← ends_at (e.0.width == o.0.1) e.1
  Ok (with_assign (record { port = o.0.0; value = e.0.tree }) d, r)

-- after `always`
unfoldable pub always_at : Netlist → List Lexeme → Read Netlist
always_at d ts = do
  a ← behind (LSymbol symbol.At ∷ LSymbol symbol.OpenParenthesis ∷ LKeyword keyword.Posedge ∷ LName (codes "clk") ∷ LSymbol symbol.CloseParenthesis ∷ []) ts
  e ← whole_statement_at (entry_in d) (free_in d) a
  Ok (with_always e.0 d, e.1)

-- an item, whose section is known by its first word
unfoldable pub item_at : Netlist → List Lexeme → Read Netlist
item_at d (LKeyword keyword.Integer ∷ ts) = integer_item_at d ts
item_at d (LKeyword keyword.Reg ∷ ts) = reg_item_at d ts
item_at d (LKeyword keyword.Wire ∷ ts) = wire_at d ts
item_at d (LKeyword keyword.Assign ∷ ts) = assign_at d ts
item_at d (LKeyword keyword.Always ∷ ts) = always_at d ts
item_at d ts = fault code.Syntax ts

-- ---- sections
abbrev pub rank : Section → ℕ
rank section.Declared = 0
rank section.Wires = 1
rank section.Assigns = 2
rank section.Always = 3

-- the section of the item that begins here
abbrev pub section_of : List Lexeme → Option Section
section_of (LKeyword keyword.Integer ∷ ts) = Some section.Declared
section_of (LKeyword keyword.Reg ∷ ts) = Some section.Declared
section_of (LKeyword keyword.Wire ∷ ts) = Some section.Wires
section_of (LKeyword keyword.Assign ∷ ts) = Some section.Assigns
section_of (LKeyword keyword.Always ∷ ts) = Some section.Always
section_of ts = None

-- an item that stands in no earlier section than the one before it
unfoldable pub item_in : Section → Netlist → List Lexeme → Read (Section × Netlist)
item_in now d ts = do
  s ← found (section_of ts) code.Syntax ts
  ordered ← kept_if (nat_le (rank now) (rank s)) ts code.Order ts
  x ← item_at d ordered
  Ok ((s, x.0), x.1)

-- the items up to `endmodule`, fewer than so many
unfoldable pub items_at : ℕ → Section → Netlist → List Lexeme → Read Netlist
items_at zero now d ts = fault code.Syntax ts
items_at (suc n) now d (LKeyword keyword.Endmodule ∷ ts) = Ok (d, ts)
items_at (suc n) now d ts = do
  x ← item_in now d ts
  items_at n x.0.0 x.0.1 x.1
