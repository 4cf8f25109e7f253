-- The lexemes of a design: the grammar of the subset of IEEE 1364-2005 (annex A) in which designs are written.
use Rattle.std.specs.Prelude.{ℕ, suc, ◌+◌, ◌-◌, ◌^◌, ◌==◌, if◌then◌else◌, List, [], ◌∷◌, ◌++◌, length, codes}
use Rattle.std.proofs.Common.{get_or}
use Rattle.net_core.specs.declared.tree.Op.{Op}
use Rattle.net_core.specs.declared.tree.Op.TheVariants as op
use Rattle.net_core.specs.declared.tree.UnaryOp.{UnaryOp}
use Rattle.net_core.specs.declared.tree.UnaryOp.TheVariants as unary_op
use Rattle.net_core.specs.declared.tree.Net.{Net}
use Rattle.net_core.specs.declared.tree.Net.TheVariants as net
use Rattle.net_core.specs.declared.tree.Word.{Word}
use Rattle.net_core.specs.declared.design.Port.{Port}
use Rattle.net_core.specs.declared.design.Declared.{Declared}
use Rattle.net_core.specs.declared.design.Declared.TheVariants as declared
use Rattle.net_core.specs.Nets.{Tree, TConst, TRead, TBit, TPartSelect, TMemoryWord, TUnary, TBinary, TConditional, TConcatenation, Trees, TLast, TMore, RightTree, RPlain, RQuotient, RRemainder, StatementTree, SBlock, SIf, SIfElse, SSet, SStore, StatementTrees, SEnd, SThen, WireTree, AssignTree, Netlist}
use Rattle.net_core.specs.Names.{is_integer, place_of, name_of}
use Rattle.verilog_lex.specs.declared.token.Keyword.TheVariants as keyword
use Rattle.verilog_lex.specs.declared.token.Symbol.{Symbol}
use Rattle.verilog_lex.specs.declared.token.Symbol.TheVariants as symbol
use Rattle.verilog_lex.specs.Lexeme.{Lexeme, LName, LKeyword, LNumber, LSized, LSymbol}

abbrev pub op_symbol : Op → Symbol
op_symbol op.Add = symbol.Plus
op_symbol op.Sub = symbol.Minus
op_symbol op.Mul = symbol.Star
op_symbol op.And = symbol.And
op_symbol op.Or = symbol.Or
op_symbol op.Xor = symbol.Xor
op_symbol op.ShiftLeft = symbol.ShiftLeft
op_symbol op.ShiftRight = symbol.ShiftRight
op_symbol op.Equal = symbol.Equal
op_symbol op.NotEqual = symbol.NotEqual
op_symbol op.Less = symbol.Less
op_symbol op.LessEqual = symbol.LessEqual
op_symbol op.Greater = symbol.Greater
op_symbol op.GreaterEqual = symbol.GreaterEqual

abbrev pub unary_symbol : UnaryOp → Symbol
unary_symbol unary_op.Not = symbol.Not
unary_symbol unary_op.ReduceOr = symbol.Or

-- a constant: size, `'`, radix, digits
abbrev pub constant : Word → Lexeme
constant w = LSized w.width w.value

-- Expressions, from the names of nets.
abbrev mutual
  pub tree_lexemes : {N : Type 0} → (N → List ℕ) → Tree N → List Lexeme
  tree_lexemes name (TConst w) = constant w ∷ []
  tree_lexemes name (TRead n) = LName (name n) ∷ []
  tree_lexemes name (TBit n i) = LName (name n) ∷ LSymbol symbol.OpenBracket ∷ LNumber i ∷ LSymbol symbol.CloseBracket ∷ []
  tree_lexemes name (TPartSelect n hi lo) = LName (name n) ∷ LSymbol symbol.OpenBracket ∷ LNumber hi ∷ LSymbol symbol.Colon ∷ LNumber lo ∷ LSymbol symbol.CloseBracket ∷ []
  tree_lexemes name (TMemoryWord m i) = LName (name m) ∷ LSymbol symbol.OpenBracket ∷ (tree_lexemes name i ++ LSymbol symbol.CloseBracket ∷ [])
  tree_lexemes name (TUnary p a) = LSymbol (unary_symbol p) ∷ tree_lexemes name a
  tree_lexemes name (TBinary o a b) = LSymbol symbol.OpenParenthesis ∷ (tree_lexemes name a ++ LSymbol (op_symbol o) ∷ (tree_lexemes name b ++ LSymbol symbol.CloseParenthesis ∷ []))
  tree_lexemes name (TConditional c a b) = LSymbol symbol.OpenParenthesis ∷ (tree_lexemes name c ++ LSymbol symbol.Question ∷ (tree_lexemes name a ++ LSymbol symbol.Colon ∷ (tree_lexemes name b ++ LSymbol symbol.CloseParenthesis ∷ [])))
  tree_lexemes name (TConcatenation ps) = LSymbol symbol.OpenBrace ∷ (parts_lexemes name ps ++ LSymbol symbol.CloseBrace ∷ [])

  pub parts_lexemes : {N : Type 0} → (N → List ℕ) → Trees N → List Lexeme
  parts_lexemes name (TLast a) = tree_lexemes name a
  parts_lexemes name (TMore a ps) = tree_lexemes name a ++ LSymbol symbol.Comma ∷ parts_lexemes name ps

abbrev pub right_lexemes : {N : Type 0} → (N → List ℕ) → RightTree N → List Lexeme
right_lexemes name (RPlain e) = tree_lexemes name e
right_lexemes name (RQuotient a b) = LName (name a) ∷ LSymbol symbol.Slash ∷ LName (name b) ∷ []
right_lexemes name (RRemainder a b) = LName (name a) ∷ LSymbol symbol.Percent ∷ LName (name b) ∷ []

-- Statements, from the names of nets, of registers and of memories.
abbrev mutual
  pub statement_tree_lexemes : {N : Type 0} → (N → List ℕ) → (ℕ → List ℕ) → (ℕ → List ℕ) → StatementTree N → List Lexeme
  statement_tree_lexemes name register memory (SBlock more) = LKeyword keyword.Begin ∷ (statement_trees_lexemes name register memory more ++ LKeyword keyword.End ∷ [])
  statement_tree_lexemes name register memory (SIf c a) = LKeyword keyword.If ∷ LSymbol symbol.OpenParenthesis ∷ (tree_lexemes name c ++ LSymbol symbol.CloseParenthesis ∷ statement_tree_lexemes name register memory a)
  statement_tree_lexemes name register memory (SIfElse c a b) = LKeyword keyword.If ∷ LSymbol symbol.OpenParenthesis ∷ (tree_lexemes name c ++ LSymbol symbol.CloseParenthesis ∷ (statement_tree_lexemes name register memory a ++ LKeyword keyword.Else ∷ statement_tree_lexemes name register memory b))
  statement_tree_lexemes name register memory (SSet r e) = LName (register r) ∷ LSymbol symbol.LessEqual ∷ (tree_lexemes name e ++ LSymbol symbol.Semicolon ∷ [])
  statement_tree_lexemes name register memory (SStore m i e) = LName (memory m) ∷ LSymbol symbol.OpenBracket ∷ (tree_lexemes name i ++ LSymbol symbol.CloseBracket ∷ LSymbol symbol.LessEqual ∷ (tree_lexemes name e ++ LSymbol symbol.Semicolon ∷ []))

  pub statement_trees_lexemes : {N : Type 0} → (N → List ℕ) → (ℕ → List ℕ) → (ℕ → List ℕ) → StatementTrees N → List Lexeme
  statement_trees_lexemes name register memory SEnd = []
  statement_trees_lexemes name register memory (SThen a more) = statement_tree_lexemes name register memory a ++ statement_trees_lexemes name register memory more

-- `[w-1:0]`, and nothing where the width is 1
abbrev pub range_lexemes : ℕ → List Lexeme
range_lexemes w = if w == 1 then [] else LSymbol symbol.OpenBracket ∷ LNumber (w - 1) ∷ LSymbol symbol.Colon ∷ LNumber 0 ∷ LSymbol symbol.CloseBracket ∷ []

abbrev pub port_lexemes : List ℕ → Port → List Lexeme
port_lexemes name p = LKeyword (if p.output then keyword.Output else keyword.Input) ∷ LKeyword keyword.Wire ∷ (range_lexemes p.width ++ LName name ∷ [])

-- the loop that gives each word of a memory its first value, over an integer
abbrev pub fill_lexemes : List ℕ → List ℕ → ℕ → Word → List Lexeme
fill_lexemes name i words first =
    LKeyword keyword.Initial ∷ LKeyword keyword.For ∷ LSymbol symbol.OpenParenthesis
    ∷ LName i ∷ LSymbol symbol.Assign ∷ LNumber 0 ∷ LSymbol symbol.Semicolon
    ∷ LName i ∷ LSymbol symbol.Less ∷ LNumber words ∷ LSymbol symbol.Semicolon
    ∷ LName i ∷ LSymbol symbol.Assign ∷ LName i ∷ LSymbol symbol.Plus ∷ LNumber 1 ∷ LSymbol symbol.CloseParenthesis
    ∷ LName name ∷ LSymbol symbol.OpenBracket ∷ LName i ∷ LSymbol symbol.CloseBracket ∷ LSymbol symbol.Assign ∷ constant first ∷ LSymbol symbol.Semicolon ∷ []

-- what is declared, by its name and the names of integers
abbrev pub declared_lexemes : (ℕ → List ℕ) → List ℕ → Declared → List Lexeme
declared_lexemes integer name declared.Integer = LKeyword keyword.Integer ∷ LName name ∷ LSymbol symbol.Semicolon ∷ []
declared_lexemes integer name (declared.Register w) = LKeyword keyword.Reg ∷ (range_lexemes w.width ++ LName name ∷ LSymbol symbol.Assign ∷ constant w ∷ LSymbol symbol.Semicolon ∷ [])
declared_lexemes integer name (declared.Memory index first i) =
    LKeyword keyword.Reg ∷ (range_lexemes first.width
    ++ LName name ∷ LSymbol symbol.OpenBracket ∷ LNumber 0 ∷ LSymbol symbol.Colon ∷ LNumber (2 ^ index - 1) ∷ LSymbol symbol.CloseBracket ∷ LSymbol symbol.Semicolon
    ∷ fill_lexemes name (integer i) (2 ^ index) first)

abbrev pub wire_lexemes : {N : Type 0} → (N → List ℕ) → List ℕ → ℕ → RightTree N → List Lexeme
wire_lexemes name own width right = LKeyword keyword.Wire ∷ (range_lexemes width ++ LName own ∷ LSymbol symbol.Assign ∷ (right_lexemes name right ++ LSymbol symbol.Semicolon ∷ []))

abbrev pub assign_lexemes : {N : Type 0} → (N → List ℕ) → List ℕ → Tree N → List Lexeme
assign_lexemes name port e = LKeyword keyword.Assign ∷ LName port ∷ LSymbol symbol.Assign ∷ (tree_lexemes name e ++ LSymbol symbol.Semicolon ∷ [])

abbrev pub always_lexemes : List Lexeme → List Lexeme
always_lexemes statement = LKeyword keyword.Always ∷ LSymbol symbol.At ∷ LSymbol symbol.OpenParenthesis ∷ LKeyword keyword.Posedge ∷ LName (codes "clk") ∷ LSymbol symbol.CloseParenthesis ∷ statement

-- ---- a design, whose names stand in order of declaration: those of ports, of what is declared, of wires
abbrev pub text_at : Netlist → ℕ → List ℕ
text_at d place = get_or d.names place []

abbrev pub integer_name : Netlist → ℕ → List ℕ
integer_name d i = text_at d (length d.ports + place_of is_integer d.declared i)

abbrev pub register_name : Netlist → ℕ → List ℕ
register_name d k = name_of d (net.Register k)

abbrev pub memory_name : Netlist → ℕ → List ℕ
memory_name d k = name_of d (net.Memory k)

-- the ports, from a place on, with commas between
abbrev pub ports_lexemes : Netlist → ℕ → List Port → List Lexeme
ports_lexemes d at [] = []
ports_lexemes d at (p ∷ []) = port_lexemes (text_at d at) p
ports_lexemes d at (p ∷ q ∷ ps) = port_lexemes (text_at d at) p ++ LSymbol symbol.Comma ∷ ports_lexemes d (suc at) (q ∷ ps)

abbrev pub all_declared : Netlist → ℕ → List Declared → List Lexeme
all_declared d at [] = []
all_declared d at (x ∷ xs) = declared_lexemes (integer_name d) (text_at d at) x ++ all_declared d (suc at) xs

abbrev pub all_wires : Netlist → ℕ → List WireTree → List Lexeme
all_wires d at [] = []
all_wires d at (w ∷ ws) = wire_lexemes (name_of d) (text_at d at) w.width w.right ++ all_wires d (suc at) ws

abbrev pub all_assigns : Netlist → List AssignTree → List Lexeme
all_assigns d [] = []
all_assigns d (a ∷ rest) = assign_lexemes (name_of d) (text_at d a.port) a.value ++ all_assigns d rest

abbrev pub all_always : Netlist → List (StatementTree Net) → List Lexeme
all_always d [] = []
all_always d (a ∷ rest) = always_lexemes (statement_tree_lexemes (name_of d) (register_name d) (memory_name d) a) ++ all_always d rest

abbrev pub items_lexemes : Netlist → List Lexeme
items_lexemes d =
    all_declared d (length d.ports) d.declared
    ++ (all_wires d (length d.ports + length d.declared) d.wires
    ++ (all_assigns d d.assigns ++ all_always d d.always))

-- the whole text of a design
abbrev pub design_lexemes : Netlist → List Lexeme
design_lexemes d =
    LKeyword keyword.Module ∷ LName (codes "ehdl") ∷ LSymbol symbol.OpenParenthesis
    ∷ (ports_lexemes d 0 d.ports ++ LSymbol symbol.CloseParenthesis ∷ LSymbol symbol.Semicolon ∷ (items_lexemes d ++ LKeyword keyword.Endmodule ∷ []))
