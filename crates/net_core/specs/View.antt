-- What a design in memory stands for.
use Rattle.std.specs.Prelude.{map}
use Rattle.std.specs.Prelude.{string_bytes}
use Rattle.net_core.specs.declared.tree.Expr.{Expr, Const, Read, Bit, PartSelect, MemoryWord', Unary', Binary', Conditional', Concatenation'}
use Rattle.net_core.specs.declared.tree.Parts.{Parts, Last, More'}
use Rattle.net_core.specs.declared.tree.Right.{Right}
use Rattle.net_core.specs.declared.tree.Right.TheVariants.{Plain, Quotient, Remainder}
use Rattle.net_core.specs.declared.tree.Stmt.{Stmt, Block', If', IfElse', Set, Store}
use Rattle.net_core.specs.declared.tree.Stmts.{Stmts, End, Then'}
use Rattle.net_core.specs.declared.design.Wire.{Wire}
use Rattle.net_core.specs.declared.design.Assign.{Assign}
use Rattle.net_core.specs.declared.design.Design.{Design}
use Rattle.net_core.specs.Nets.{Tree, TConst, TRead, TBit, TPartSelect, TMemoryWord, TUnary, TBinary, TConditional, TConcatenation, Trees, TLast, TMore, RightTree, RPlain, RQuotient, RRemainder, StatementTree, SBlock, SIf, SIfElse, SSet, SStore, StatementTrees, SEnd, SThen, WireTree, AssignTree, Netlist}

abbrev mutual
  pub tree_of : {N : Type 0} → Expr N → Tree N
  tree_of (Const w) = TConst w
  tree_of (Read n) = TRead n
  tree_of (Bit n i) = TBit n i
  tree_of (PartSelect n hi lo) = TPartSelect n hi lo
  tree_of (MemoryWord' m p i) = TMemoryWord m (tree_of i)
  tree_of (Unary' o p a) = TUnary o (tree_of a)
  tree_of (Binary' op p a q b) = TBinary op (tree_of a) (tree_of b)
  tree_of (Conditional' p c q a r b) = TConditional (tree_of c) (tree_of a) (tree_of b)
  tree_of (Concatenation' p ps) = TConcatenation (trees_of ps)

  pub trees_of : {N : Type 0} → Parts N → Trees N
  trees_of (Last a) = TLast (tree_of a)
  trees_of (More' a p ps) = TMore (tree_of a) (trees_of ps)

abbrev pub right_of : {N : Type 0} → Right N → RightTree N
right_of (Plain e) = RPlain (tree_of e)
right_of (Quotient a b) = RQuotient a b
right_of (Remainder a b) = RRemainder a b

abbrev mutual
  pub statement_of : {N : Type 0} → Stmt N → StatementTree N
  statement_of (Block' p more) = SBlock (statements_of more)
  statement_of (If' c p a) = SIf (tree_of c) (statement_of a)
  statement_of (IfElse' c p a q b) = SIfElse (tree_of c) (statement_of a) (statement_of b)
  statement_of (Set r e) = SSet r (tree_of e)
  statement_of (Store m i e) = SStore m (tree_of i) (tree_of e)

  pub statements_of : {N : Type 0} → Stmts N → StatementTrees N
  statements_of End = SEnd
  statements_of (Then' a p more) = SThen (statement_of a) (statements_of more)

abbrev pub wire_of : Wire → WireTree
wire_of w = record { width = w.width; right = right_of w.right }

abbrev pub assign_of : Assign → AssignTree
assign_of a = record { port = a.port; value = tree_of a.value }

abbrev pub netlist_of : Design → Netlist
netlist_of d = record {
  names = map string_bytes d.names.items;
  ports = d.ports.items;
  declared = d.declared.items;
  wires = map wire_of d.wires.items;
  assigns = map assign_of d.assigns.items;
  always = map statement_of d.always.items;
}
