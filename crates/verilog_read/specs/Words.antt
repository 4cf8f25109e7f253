-- The first words of items, and what a register or a memory has after its name.
use Rattle.std.specs.Prelude.{Bool, true, false, Option, Some, None, Ok, List, ◌∷◌}
use Rattle.net_core.specs.Nets.{Netlist}
use Rattle.verilog_lex.specs.declared.token.Keyword.TheVariants as keyword
use Rattle.verilog_lex.specs.declared.token.Symbol.TheVariants as symbol
use Rattle.verilog_lex.specs.Lexeme.{Lexeme, LKeyword, LSymbol}
use Rattle.verilog_expression.specs.declared.fault.Code.TheVariants as code
use Rattle.verilog_expression.specs.Reads.{Read, fault}
use Rattle.verilog_read.specs.declared.section.Section.{Section}
use Rattle.verilog_read.specs.declared.section.Section.TheVariants as section
use Rattle.verilog_read.specs.declared.sections.Item.{Item}
use Rattle.verilog_read.specs.declared.sections.Item.TheVariants as item
use Rattle.verilog_read.specs.Declarations.{integer_item_at, reg_item_at}
use Rattle.verilog_read.specs.Items.{wire_at, assign_at, always_at}

-- the item that begins here, and what stands after its first word
abbrev pub begins_at : List Lexeme → Option (Item × List Lexeme)
begins_at (LKeyword keyword.Integer ∷ ts) = Some (item.Integer, ts)
begins_at (LKeyword keyword.Reg ∷ ts) = Some (item.Reg, ts)
begins_at (LKeyword keyword.Wire ∷ ts) = Some (item.Wire, ts)
begins_at (LKeyword keyword.Assign ∷ ts) = Some (item.Assign, ts)
begins_at (LKeyword keyword.Always ∷ ts) = Some (item.Always, ts)
begins_at ts = None

abbrev pub item_section : Item → Section
item_section item.Integer = section.Declared
item_section item.Reg = section.Declared
item_section item.Wire = section.Wires
item_section item.Assign = section.Assigns
item_section item.Always = section.Always

-- after the first word of an item
abbrev pub behind_word : Item → Netlist → List Lexeme → Read Netlist
behind_word item.Integer = integer_item_at
behind_word item.Reg = reg_item_at
behind_word item.Wire = wire_at
behind_word item.Assign = assign_at
behind_word item.Always = always_at

-- after the name of a register, `=`, and of a memory, `[`: whether it is the first
abbrev pub storage_at : List Lexeme → Read Bool
storage_at (LSymbol symbol.Assign ∷ ts) = Ok (true, ts)
storage_at (LSymbol symbol.OpenBracket ∷ ts) = Ok (false, ts)
storage_at ts = fault code.Syntax ts
