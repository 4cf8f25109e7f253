-- A netlist's code, by which a proof tells netlists apart: the trees' codes are those of the design's trees in memory.
use Rattle.std.specs.Prelude.{◌≡◌, ℕ, List, refl}
use Rattle.std.specs.Coded.{Coded, code_by, coded×, coded_ℕ, coded_list}
use Rattle.std.proofs.Common.{ap}
use Rattle.std.specs.declared.boxed.Box.{Box}
use Rattle.std.specs.declared.alloc.Global.{Global}
use denote.RawPtr.{null_ptr}
use Rattle.net_core.specs.declared.tree.Net.{Net}
use Rattle.net_core.specs.declared.tree.Word.{Word}
use Rattle.net_core.specs.declared.tree.Expr.{Expr, Const, Read, Bit, PartSelect, MemoryWord, Unary, Binary, Conditional, Concatenation}
use Rattle.net_core.specs.declared.tree.Parts.{Parts, Last, More}
use Rattle.net_core.specs.declared.tree.Right.{Right}
use Rattle.net_core.specs.declared.tree.Right.TheVariants.{Plain, Quotient, Remainder}
use Rattle.net_core.specs.declared.tree.Stmt.{Stmt, Block, If, IfElse, Set, Store}
use Rattle.net_core.specs.declared.tree.Stmts.{Stmts, End, Then}
use Rattle.net_core.specs.declared.design.Port.{Port}
use Rattle.net_core.specs.declared.design.Declared.{Declared}
use Rattle.net_core.specs.contracts.tree.Expr as expr
use Rattle.net_core.specs.contracts.tree.Right as right
use Rattle.net_core.specs.contracts.tree.Stmt as stmt
use Rattle.net_core.specs.contracts.tree.Word as word
use Rattle.net_core.specs.contracts.design.Port as port
use Rattle.net_core.specs.contracts.design.Declared as declared
use Rattle.net_core.specs.contracts.tree.Net as net
use Rattle.net_core.specs.Nets.{Tree, TConst, TRead, TBit, TPartSelect, TMemoryWord, TUnary, TBinary, TConditional, TConcatenation, Trees, TLast, TMore, RightTree, RPlain, RQuotient, RRemainder, StatementTree, SBlock, SIf, SIfElse, SSet, SStore, StatementTrees, SEnd, SThen, WireTree, AssignTree, Netlist}
use Rattle.net_core.specs.Clock.{Stored}
use Rattle.net_core.specs.View.{tree_of, trees_of, right_of, statement_of, statements_of}

abbrev boxed : {A : Type 0} → A → Box A Global
boxed a = record { ptr = null_ptr; alloc = record { memory = record { seal = tt } }; value = a }

abbrev mutual
  expr_of : Tree Net → Expr Net
  expr_of (TConst w) = Const w
  expr_of (TRead n) = Read n
  expr_of (TBit n i) = Bit n i
  expr_of (TPartSelect n hi lo) = PartSelect n hi lo
  expr_of (TMemoryWord m i) = MemoryWord m (boxed (expr_of i))
  expr_of (TUnary p a) = Unary p (boxed (expr_of a))
  expr_of (TBinary op a b) = Binary op (boxed (expr_of a)) (boxed (expr_of b))
  expr_of (TConditional c a b) = Conditional (boxed (expr_of c)) (boxed (expr_of a)) (boxed (expr_of b))
  expr_of (TConcatenation ps) = Concatenation (boxed (parts_of ps))

  parts_of : Trees Net → Parts Net
  parts_of (TLast a) = Last (expr_of a)
  parts_of (TMore a ps) = More (expr_of a) (boxed (parts_of ps))

mutual
  pub tree_of-expr_of : (t : Tree Net) → tree_of (expr_of t) ≡ t
  tree_of-expr_of (TConst w) = refl
  tree_of-expr_of (TRead n) = refl
  tree_of-expr_of (TBit n i) = refl
  tree_of-expr_of (TPartSelect n hi lo) = refl
  tree_of-expr_of (TMemoryWord m i) = ap (λ x. TMemoryWord m x) (tree_of-expr_of i)
  tree_of-expr_of (TUnary p a) = ap (λ x. TUnary p x) (tree_of-expr_of a)
  tree_of-expr_of (TBinary op a b) = λ i. TBinary op (tree_of-expr_of a i) (tree_of-expr_of b i)
  tree_of-expr_of (TConditional c a b) = λ i. TConditional (tree_of-expr_of c i) (tree_of-expr_of a i) (tree_of-expr_of b i)
  tree_of-expr_of (TConcatenation ps) = ap (λ x. TConcatenation x) (trees_of-parts_of ps)

  pub trees_of-parts_of : (ps : Trees Net) → trees_of (parts_of ps) ≡ ps
  trees_of-parts_of (TLast a) = ap (λ x. TLast x) (tree_of-expr_of a)
  trees_of-parts_of (TMore a ps) = λ i. TMore (tree_of-expr_of a i) (trees_of-parts_of ps i)

abbrev pub coded_tree : Coded (Tree Net)
coded_tree = code_by (Expr Net) (expr.the_row net.the_row).coded expr_of tree_of tree_of-expr_of

abbrev right_in : RightTree Net → Right Net
right_in (RPlain e) = Plain (expr_of e)
right_in (RQuotient a b) = Quotient a b
right_in (RRemainder a b) = Remainder a b

pub right_of-right_in : (r : RightTree Net) → right_of (right_in r) ≡ r
right_of-right_in (RPlain e) = ap (λ x. RPlain x) (tree_of-expr_of e)
right_of-right_in (RQuotient a b) = refl
right_of-right_in (RRemainder a b) = refl

abbrev pub coded_right : Coded (RightTree Net)
coded_right = code_by (Right Net) (right.the_row net.the_row).coded right_in right_of right_of-right_in

abbrev mutual
  stmt_of : StatementTree Net → Stmt Net
  stmt_of (SBlock more) = Block (boxed (stmts_of more))
  stmt_of (SIf c a) = If (expr_of c) (boxed (stmt_of a))
  stmt_of (SIfElse c a b) = IfElse (expr_of c) (boxed (stmt_of a)) (boxed (stmt_of b))
  stmt_of (SSet r e) = Set r (expr_of e)
  stmt_of (SStore m i e) = Store m (expr_of i) (expr_of e)

  stmts_of : StatementTrees Net → Stmts Net
  stmts_of SEnd = End
  stmts_of (SThen a more) = Then (stmt_of a) (boxed (stmts_of more))

mutual
  pub statement_of-stmt_of : (a : StatementTree Net) → statement_of (stmt_of a) ≡ a
  statement_of-stmt_of (SBlock more) = ap (λ x. SBlock x) (statements_of-stmts_of more)
  statement_of-stmt_of (SIf c a) = λ i. SIf (tree_of-expr_of c i) (statement_of-stmt_of a i)
  statement_of-stmt_of (SIfElse c a b) = λ i. SIfElse (tree_of-expr_of c i) (statement_of-stmt_of a i) (statement_of-stmt_of b i)
  statement_of-stmt_of (SSet r e) = ap (λ x. SSet r x) (tree_of-expr_of e)
  statement_of-stmt_of (SStore m j e) = λ i. SStore m (tree_of-expr_of j i) (tree_of-expr_of e i)

  pub statements_of-stmts_of : (more : StatementTrees Net) → statements_of (stmts_of more) ≡ more
  statements_of-stmts_of SEnd = refl
  statements_of-stmts_of (SThen a more) = λ i. SThen (statement_of-stmt_of a i) (statements_of-stmts_of more i)

abbrev pub coded_statement : Coded (StatementTree Net)
coded_statement = code_by (Stmt Net) (stmt.the_row net.the_row).coded stmt_of statement_of statement_of-stmt_of

abbrev pub coded_wire : Coded WireTree
coded_wire = code_by (ℕ × RightTree Net) (coded× coded_ℕ coded_right) (λ w. (w.width, w.right)) (λ p. record { width = p.0; right = p.1 }) (λ w. refl)

abbrev pub coded_assign : Coded AssignTree
coded_assign = code_by (ℕ × Tree Net) (coded× coded_ℕ coded_tree) (λ a. (a.port, a.value)) (λ p. record { port = p.0; value = p.1 }) (λ a. refl)

abbrev pub coded_netlist : Coded Netlist
coded_netlist =
    code_by
    (List (List ℕ) × (List Port × (List Declared × (List WireTree × (List AssignTree × List (StatementTree Net))))))
    (coded× (coded_list (coded_list coded_ℕ)) (coded× (coded_list port.the_row.coded) (coded× (coded_list declared.the_row.coded) (coded× (coded_list coded_wire) (coded× (coded_list coded_assign) (coded_list coded_statement))))))
    (λ d. (d.names, (d.ports, (d.declared, (d.wires, (d.assigns, d.always))))))
    (λ p. record { names = p.0; ports = p.1.0; declared = p.1.1.0; wires = p.1.1.1.0; assigns = p.1.1.1.1.0; always = p.1.1.1.1.1 })
    (λ d. refl)

abbrev pub coded_stored : Coded Stored
coded_stored =
    code_by (List Word × List (List Word)) (coded× (coded_list word.the_row.coded) (coded_list (coded_list word.the_row.coded)))
    (λ s. (s.registers, s.memories)) (λ p. record { registers = p.0; memories = p.1 }) (λ s. refl)
