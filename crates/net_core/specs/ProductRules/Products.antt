-- No chain of products in one clock: where each wire is replaced by its right side, no product stands inside an operand of
-- another.
use Rattle.std.specs.Prelude.{if◌then◌else◌, Bool, true, false, ◌&&◌, ◌||◌, List, [], ◌∷◌, ◌++◌}
use Rattle.std.proofs.Common.{get_or, not}
use Rattle.net_core.specs.declared.tree.Op.{Op}
use Rattle.net_core.specs.declared.tree.Op.TheVariants.{Add, Sub, Mul, And, Or, Xor, ShiftLeft, ShiftRight, Equal, NotEqual, Less, LessEqual, Greater, GreaterEqual}
use Rattle.net_core.specs.declared.tree.Net.{Net}
use Rattle.net_core.specs.declared.tree.Net.TheVariants.{Port, Register, Memory, Wire}
use Rattle.net_core.specs.Nets.{Tree, TConst, TRead, TBit, TPartSelect, TMemoryWord, TUnary, TBinary, TConditional, TConcatenation, Trees, TLast, TMore, RightTree, RPlain, RQuotient, RRemainder, StatementTree, SBlock, SIf, SIfElse, SSet, SStore, StatementTrees, SEnd, SThen, WireTree, AssignTree, Netlist}

abbrev pub is_product : Op → Bool
is_product Add = false
is_product Sub = false
is_product Mul = true
is_product And = false
is_product Or = false
is_product Xor = false
is_product ShiftLeft = false
is_product ShiftRight = false
is_product Equal = false
is_product NotEqual = false
is_product Less = false
is_product LessEqual = false
is_product Greater = false
is_product GreaterEqual = false

-- whether a net's value is made by a product, from whether those of the wires before it are
abbrev pub made_by_product : List Bool → Net → Bool
made_by_product ws (Port k) = false
made_by_product ws (Register k) = false
made_by_product ws (Memory k) = false
made_by_product ws (Wire k) = get_or ws k false

-- a product stands in the tree, where these nets are made by one
abbrev mutual
  pub has_product : {N : Type 0} → (N → Bool) → Tree N → Bool
  has_product made (TConst w) = false
  has_product made (TRead n) = made n
  has_product made (TBit n i) = made n
  has_product made (TPartSelect n hi lo) = made n
  has_product made (TMemoryWord m i) = has_product made i
  has_product made (TUnary p a) = has_product made a
  has_product made (TBinary op a b) = is_product op || (has_product made a || has_product made b)
  has_product made (TConditional c a b) = has_product made c || (has_product made a || has_product made b)
  has_product made (TConcatenation ps) = parts_product made ps

  pub parts_product : {N : Type 0} → (N → Bool) → Trees N → Bool
  parts_product made (TLast a) = has_product made a
  parts_product made (TMore a ps) = has_product made a || parts_product made ps

-- no product stands inside an operand of another
abbrev mutual
  pub is_flat : {N : Type 0} → (N → Bool) → Tree N → Bool
  is_flat made (TConst w) = true
  is_flat made (TRead n) = true
  is_flat made (TBit n i) = true
  is_flat made (TPartSelect n hi lo) = true
  is_flat made (TMemoryWord m i) = is_flat made i
  is_flat made (TUnary p a) = is_flat made a
  is_flat made (TBinary op a b) = (if is_product op then not (has_product made a || has_product made b) else true) && (is_flat made a && is_flat made b)
  is_flat made (TConditional c a b) = is_flat made c && (is_flat made a && is_flat made b)
  is_flat made (TConcatenation ps) = parts_flat made ps

  pub parts_flat : {N : Type 0} → (N → Bool) → Trees N → Bool
  parts_flat made (TLast a) = is_flat made a
  parts_flat made (TMore a ps) = is_flat made a && parts_flat made ps

abbrev pub right_product : {N : Type 0} → (N → Bool) → RightTree N → Bool
right_product made (RPlain e) = has_product made e
right_product made (RQuotient a b) = true
right_product made (RRemainder a b) = true

abbrev pub right_flat : {N : Type 0} → (N → Bool) → RightTree N → Bool
right_flat made (RPlain e) = is_flat made e
right_flat made (RQuotient a b) = not (made a || made b)
right_flat made (RRemainder a b) = not (made a || made b)

-- of each wire, whether a product stands in it
abbrev pub wire_products : List Bool → List WireTree → List Bool
wire_products ws [] = ws
wire_products ws (w ∷ rest) = wire_products (ws ++ right_product (made_by_product ws) w.right ∷ []) rest

abbrev pub wires_flat : List Bool → List WireTree → Bool
wires_flat ws [] = true
wires_flat ws (w ∷ rest) = right_flat (made_by_product ws) w.right && wires_flat (ws ++ right_product (made_by_product ws) w.right ∷ []) rest

abbrev mutual
  pub statement_flat : {N : Type 0} → (N → Bool) → StatementTree N → Bool
  statement_flat made (SBlock more) = statements_flat made more
  statement_flat made (SIf c a) = is_flat made c && statement_flat made a
  statement_flat made (SIfElse c a b) = is_flat made c && (statement_flat made a && statement_flat made b)
  statement_flat made (SSet r e) = is_flat made e
  statement_flat made (SStore m i e) = is_flat made i && is_flat made e

  pub statements_flat : {N : Type 0} → (N → Bool) → StatementTrees N → Bool
  statements_flat made SEnd = true
  statements_flat made (SThen a more) = statement_flat made a && statements_flat made more

abbrev pub assigns_flat : List Bool → List AssignTree → Bool
assigns_flat ws [] = true
assigns_flat ws (a ∷ rest) = is_flat (made_by_product ws) a.value && assigns_flat ws rest

abbrev pub always_flat : List Bool → List (StatementTree Net) → Bool
always_flat ws [] = true
always_flat ws (a ∷ rest) = statement_flat (made_by_product ws) a && always_flat ws rest

-- the bound on products, of a whole design
abbrev pub no_product_chains : Netlist → Bool
no_product_chains d = let ws = wire_products [] d.wires in wires_flat [] d.wires && (assigns_flat ws d.assigns && always_flat ws d.always)
