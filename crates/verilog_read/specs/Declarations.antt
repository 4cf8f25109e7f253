-- Integers, registers and memories from left to right (IEEE 1364-2005, annex A.2.1, a subset).
use Rattle.std.specs.Prelude.{ℕ, zero, suc, ◌-◌, ◌^◌, ◌==◌, Bool, if◌then◌else◌, Option, Some, None, Ok, List, [], ◌∷◌, ◌++◌}
use Rattle.std.specs.Str.{bytes_eq}
use Rattle.net_core.specs.declared.design.Declared.{Declared}
use Rattle.net_core.specs.declared.design.Declared.TheVariants as declared
use Rattle.net_core.specs.Nets.{Netlist}
use Rattle.verilog_lex.specs.declared.token.Keyword.TheVariants as keyword
use Rattle.verilog_lex.specs.declared.token.Symbol.TheVariants as symbol
use Rattle.verilog_lex.specs.Lexeme.{Lexeme, LKeyword, LNumber, LSymbol}
use Rattle.verilog_expression.specs.declared.fault.Code.TheVariants as code
use Rattle.verilog_expression.specs.declared.entry.Entry.{Entry}
use Rattle.verilog_expression.specs.declared.entry.Entry.TheVariants as entry
use Rattle.verilog_expression.specs.Reads.{Read, Reading, ◌>>=◌, fault, kept_if, found}
use Rattle.verilog_expression.specs.Lexemes.{lexeme_at, symbol_at, behind, number_at, name_at, constant_at}
use Rattle.verilog_read.specs.Entries.{entry_in}
use Rattle.verilog_read.specs.Header.{range_at, fresh_at}

abbrev pub with_declared : List ℕ → Declared → Netlist → Netlist
with_declared s x d = record d { names = d.names ++ s ∷ []; declared = d.declared ++ x ∷ [] }

-- the semicolon of an item, whose two sides have one width where the flag says so
unfoldable pub ends_at : Bool → List Lexeme → Reading (List Lexeme)
ends_at fits ts = do
  r ← symbol_at symbol.Semicolon ts
  kept_if fits r code.Width ts

-- after `integer`
unfoldable pub integer_item_at : Netlist → List Lexeme → Read Netlist
integer_item_at d ts = do
  s ← fresh_at d ts
  r ← symbol_at symbol.Semicolon s.1
  Ok (with_declared s.0 declared.Integer d, r)

-- after `reg`, a width, a name and `=`
unfoldable pub register_at : Netlist → ℕ → List ℕ → List Lexeme → Read Netlist
register_at d width s ts = do
  c ← constant_at ts
  r ← ends_at (c.0.width == width) c.1
  Ok (with_declared s (declared.Register c.0) d, r)

-- the least width, from one on, of an index whose last value is this
abbrev pub index_from : ℕ → ℕ → ℕ → Option ℕ
index_from zero width last = None
index_from (suc more) width last = if last == 2 ^ width - 1 then Some width else index_from more (suc width) last

-- the width of an index, from 1 to 16
abbrev pub index_of : ℕ → Option ℕ
index_of last = index_from 16 1 last

-- A part of the loop that fills a memory: a lexeme; a name that stood before, where another is unknown; the number of words,
-- where another is a wrong bound.
pub data Part : Type 0 where
  This : Lexeme → Part
  Same : List ℕ → Part
  Bound : ℕ → Part

unfoldable pub part_at : Part → List Lexeme → Reading (List Lexeme)
part_at (This l) ts = lexeme_at l ts
part_at (Same s) ts = do
  t ← name_at ts
  kept_if (bytes_eq s t.0) t.1 code.Unknown ts
part_at (Bound n) ts = do
  m ← number_at ts
  kept_if (n == m.0) m.1 code.Width ts

unfoldable pub all_parts_at : List Part → List Lexeme → Reading (List Lexeme)
all_parts_at [] ts = Ok ts
all_parts_at (p ∷ ps) ts = do
  r ← part_at p ts
  all_parts_at ps r

-- the loop over an integer that fills a memory, after its first name and before the constant
abbrev pub loop_parts : List ℕ → List ℕ → ℕ → List Part
loop_parts name i words =
    This (LSymbol symbol.Assign) ∷ This (LNumber 0) ∷ This (LSymbol symbol.Semicolon)
    ∷ Same i ∷ This (LSymbol symbol.Less) ∷ Bound words ∷ This (LSymbol symbol.Semicolon)
    ∷ Same i ∷ This (LSymbol symbol.Assign) ∷ Same i ∷ This (LSymbol symbol.Plus) ∷ This (LNumber 1) ∷ This (LSymbol symbol.CloseParenthesis)
    ∷ Same name ∷ This (LSymbol symbol.OpenBracket) ∷ Same i ∷ This (LSymbol symbol.CloseBracket) ∷ This (LSymbol symbol.Assign) ∷ []

-- the number of an integer
abbrev pub as_integer : Option Entry → Option ℕ
as_integer (Some (entry.Integer k)) = Some k
as_integer e = None

-- the name of an integer, and its number
unfoldable pub integer_at : Netlist → List Lexeme → Read (List ℕ × ℕ)
integer_at d ts = do
  s ← name_at ts
  k ← found (as_integer (entry_in d s.0)) code.Unknown ts
  Ok ((s.0, k), s.1)

-- after `reg`, a width, a name and the range of its index
unfoldable pub fill_at : Netlist → ℕ → List ℕ → ℕ → List Lexeme → Read Netlist
fill_at d width s index ts = do
  a ← behind (LSymbol symbol.Semicolon ∷ LKeyword keyword.Initial ∷ LKeyword keyword.For ∷ LSymbol symbol.OpenParenthesis ∷ []) ts
  i ← integer_at d a
  b ← all_parts_at (loop_parts s i.0.0 (2 ^ index)) i.1
  c ← constant_at b
  r ← ends_at (c.0.width == width) c.1
  Ok (with_declared s (declared.Memory index c.0 i.0.1) d, r)

-- after `reg`, a width, a name and `[`
unfoldable pub memory_at : Netlist → ℕ → List ℕ → List Lexeme → Read Netlist
memory_at d width s ts = do
  a ← behind (LNumber 0 ∷ LSymbol symbol.Colon ∷ []) ts
  n ← number_at a
  r ← symbol_at symbol.CloseBracket n.1
  index ← found (index_of n.0) code.Width n.1
  fill_at d width s index r

unfoldable pub stored_at : Netlist → ℕ → List ℕ → List Lexeme → Read Netlist
stored_at d width s (LSymbol symbol.Assign ∷ ts) = register_at d width s ts
stored_at d width s (LSymbol symbol.OpenBracket ∷ ts) = memory_at d width s ts
stored_at d width s ts = fault code.Syntax ts

-- after `reg`
unfoldable pub reg_item_at : Netlist → List Lexeme → Read Netlist
reg_item_at d ts = do
  w ← range_at ts
  s ← fresh_at d w.1
  stored_at d w.0 s.0 s.1
