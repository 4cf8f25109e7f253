-- What the grammar of the subset can spell (IEEE 1364-2005, 3.7, 5.1, 9.4 and annex A): names, how deep trees nest, the
-- operand of a prefix operator, and which `if` an `else` belongs to.
use Rattle.std.specs.Prelude.{ℕ, suc, ◌==◌, nat_eq, nat_le, Bool, true, false, ◌&&◌, ◌||◌, List, [], ◌∷◌, codes, max}
use Rattle.std.specs.Str.{bytes_eq}
use Rattle.std.specs.List.{list_any, list_all, starts_with}
use Rattle.std.proofs.Common.{not}
use Rattle.net_core.specs.Nets.{Tree, TConst, TRead, TBit, TPartSelect, TMemoryWord, TUnary, TBinary, TConditional, TConcatenation, Trees, TLast, TMore, RightTree, RPlain, RQuotient, RRemainder, StatementTree, SBlock, SIf, SIfElse, SSet, SStore, StatementTrees, SEnd, SThen}

abbrev pub is_letter : ℕ → Bool
is_letter c = (nat_le 97 c && nat_le c 122) || (nat_le 65 c && nat_le c 90)

abbrev pub is_digit : ℕ → Bool
is_digit c = nat_le 48 c && nat_le c 57

abbrev pub is_underscore : ℕ → Bool
is_underscore c = c == 95

abbrev pub begins_name : ℕ → Bool
begins_name c = is_letter c || is_underscore c

abbrev pub continues_name : ℕ → Bool
continues_name c = begins_name c || is_digit c

-- letters, digits and `_`, not beginning with a digit
abbrev pub is_identifier : List ℕ → Bool
is_identifier [] = false
is_identifier (c ∷ cs) = begins_name c && list_all continues_name cs

-- Of the standard's keywords only those that begin with `pulsestyle_` have an underscore, so none of these is reserved.
abbrev pub is_unreserved : List ℕ → Bool
is_unreserved cs = list_any is_underscore cs && not (starts_with nat_eq cs (codes "pulsestyle_"))

-- `clk` and `ehdl` are names too: they are no keywords
abbrev pub is_name : List ℕ → Bool
is_name cs = (bytes_eq cs (codes "clk") || bytes_eq cs (codes "ehdl")) || (is_identifier cs && is_unreserved cs)

-- Expressions: one that stands in an item or a statement has depth 1, one directly inside another one more.
abbrev mutual
  pub depth : {N : Type 0} → Tree N → ℕ
  depth (TConst w) = 1
  depth (TRead n) = 1
  depth (TBit n i) = 1
  depth (TPartSelect n hi lo) = 1
  depth (TMemoryWord m i) = suc (depth i)
  depth (TUnary p a) = suc (depth a)
  depth (TBinary op a b) = suc (max (depth a) (depth b))
  depth (TConditional c a b) = suc (max (depth c) (max (depth a) (depth b)))
  depth (TConcatenation ps) = suc (parts_depth ps)

  pub parts_depth : {N : Type 0} → Trees N → ℕ
  parts_depth (TLast a) = depth a
  parts_depth (TMore a ps) = max (depth a) (parts_depth ps)

abbrev pub is_prefixed : {N : Type 0} → Tree N → Bool
is_prefixed (TConst w) = false
is_prefixed (TRead n) = false
is_prefixed (TBit n i) = false
is_prefixed (TPartSelect n hi lo) = false
is_prefixed (TMemoryWord m i) = false
is_prefixed (TUnary p a) = true
is_prefixed (TBinary op a b) = false
is_prefixed (TConditional c a b) = false
is_prefixed (TConcatenation ps) = false

-- no operand of a prefix operator begins with one: `~ ~ a` and `| ~ a` are no expressions
abbrev mutual
  pub prefixes_apart : {N : Type 0} → Tree N → Bool
  prefixes_apart (TConst w) = true
  prefixes_apart (TRead n) = true
  prefixes_apart (TBit n i) = true
  prefixes_apart (TPartSelect n hi lo) = true
  prefixes_apart (TMemoryWord m i) = prefixes_apart i
  prefixes_apart (TUnary p a) = not (is_prefixed a) && prefixes_apart a
  prefixes_apart (TBinary op a b) = prefixes_apart a && prefixes_apart b
  prefixes_apart (TConditional c a b) = prefixes_apart c && (prefixes_apart a && prefixes_apart b)
  prefixes_apart (TConcatenation ps) = parts_apart ps

  pub parts_apart : {N : Type 0} → Trees N → Bool
  parts_apart (TLast a) = prefixes_apart a
  parts_apart (TMore a ps) = prefixes_apart a && parts_apart ps

-- an expression that stands in an item or a statement
abbrev pub tree_spelled : {N : Type 0} → Tree N → Bool
tree_spelled t = nat_le (depth t) 64 && prefixes_apart t

-- the sides of a quotient and of a remainder are names
abbrev pub right_spelled : {N : Type 0} → RightTree N → Bool
right_spelled (RPlain e) = tree_spelled e
right_spelled (RQuotient a b) = true
right_spelled (RRemainder a b) = true

-- Statements: that of an always block has depth 1, one between `begin` and `end` or under an `if` one more.
abbrev mutual
  pub statement_depth : {N : Type 0} → StatementTree N → ℕ
  statement_depth (SBlock more) = suc (statements_depth more)
  statement_depth (SIf c a) = suc (statement_depth a)
  statement_depth (SIfElse c a b) = suc (max (statement_depth a) (statement_depth b))
  statement_depth (SSet r e) = 1
  statement_depth (SStore m i e) = 1

  pub statements_depth : {N : Type 0} → StatementTrees N → ℕ
  statements_depth SEnd = 0
  statements_depth (SThen a more) = max (statement_depth a) (statements_depth more)

-- ends with an `if` that would take an `else` after it
abbrev pub ends_open : {N : Type 0} → StatementTree N → Bool
ends_open (SBlock more) = false
ends_open (SIf c a) = true
ends_open (SIfElse c a b) = ends_open b
ends_open (SSet r e) = false
ends_open (SStore m i e) = false

-- an `else` belongs to the nearest `if` before it that has none
abbrev mutual
  pub elses_placed : {N : Type 0} → StatementTree N → Bool
  elses_placed (SBlock more) = all_placed more
  elses_placed (SIf c a) = elses_placed a
  elses_placed (SIfElse c a b) = not (ends_open a) && (elses_placed a && elses_placed b)
  elses_placed (SSet r e) = true
  elses_placed (SStore m i e) = true

  pub all_placed : {N : Type 0} → StatementTrees N → Bool
  all_placed SEnd = true
  all_placed (SThen a more) = elses_placed a && all_placed more

-- the expressions of a statement pass a test
abbrev mutual
  pub trees_pass : {N : Type 0} → (Tree N → Bool) → StatementTree N → Bool
  trees_pass p (SBlock more) = all_trees_pass p more
  trees_pass p (SIf c a) = p c && trees_pass p a
  trees_pass p (SIfElse c a b) = p c && (trees_pass p a && trees_pass p b)
  trees_pass p (SSet r e) = p e
  trees_pass p (SStore m i e) = p i && p e

  pub all_trees_pass : {N : Type 0} → (Tree N → Bool) → StatementTrees N → Bool
  all_trees_pass p SEnd = true
  all_trees_pass p (SThen a more) = trees_pass p a && all_trees_pass p more

abbrev pub statement_spelled : {N : Type 0} → StatementTree N → Bool
statement_spelled a = nat_le (statement_depth a) 64 && (elses_placed a && trees_pass tree_spelled a)
