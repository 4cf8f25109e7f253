-- Which designs have few enough nets for numbers of 32 bits.
use Rattle.std.specs.Prelude.{◌≡◌, ℕ, ◌^◌, nat_lt, ◌&&◌, Bool, true, false, List, map, sum_by, Result, MatchResult}
use Rattle.std.specs.List.{list_all}
use Rattle.net_core.specs.declared.tree.Net.{Net}
use Rattle.net_core.specs.declared.tree.Net.TheVariants as net
use Rattle.net_core.specs.Nets.{Tree, TConst, TRead, TBit, TPartSelect, TMemoryWord, TUnary, TBinary, TConditional, TConcatenation, Trees, TLast, TMore, RightTree, RPlain, RQuotient, RRemainder, StatementTree, SBlock, SIf, SIfElse, SSet, SStore, StatementTrees, SEnd, SThen, WireTree, AssignTree}
use Rattle.block_core.specs.declared.error.LinkError.{LinkError}
use Rattle.block_core.specs.declared.error.LinkError.TheVariants as error
use Rattle.block_core.specs.declared.name.Name.{Name}
use Rattle.block_core.specs.Blocks.{BlockTree, OutputTree, registers_of, memories_of, wires_of, Whole}
use Rattle.block_core.specs.declared.block.Placed.{Placed}
use Rattle.block_core.specs.declared.starts.Section.{Section}
use Rattle.block_core.specs.declared.starts.Section.TheVariants as section
use Rattle.block_core.specs.Link.{resolve, link_output, all_wires, all_statements}
use Rattle.block_core.specs.View.{block_of, count_in}

abbrev pub in_range : ℕ → Bool
in_range n = nat_lt n (2 ^ 32)

-- ---- each net that is read or set. A port keeps the number that it has
abbrev pub net_in_range : Net → Bool
net_in_range (net.Port i) = true
net_in_range (net.Register i) = in_range i
net_in_range (net.Memory i) = in_range i
net_in_range (net.Wire i) = in_range i

abbrev mutual
  pub tree_in_range : Tree Net → Bool
  tree_in_range (TConst w) = true
  tree_in_range (TRead n) = net_in_range n
  tree_in_range (TBit n i) = net_in_range n
  tree_in_range (TPartSelect n hi lo) = net_in_range n
  tree_in_range (TMemoryWord m i) = net_in_range m && tree_in_range i
  tree_in_range (TUnary p a) = tree_in_range a
  tree_in_range (TBinary op a b) = tree_in_range a && tree_in_range b
  tree_in_range (TConditional c a b) = tree_in_range c && (tree_in_range a && tree_in_range b)
  tree_in_range (TConcatenation ps) = trees_in_range ps

  pub trees_in_range : Trees Net → Bool
  trees_in_range (TLast a) = tree_in_range a
  trees_in_range (TMore a ps) = tree_in_range a && trees_in_range ps

abbrev pub right_in_range : RightTree Net → Bool
right_in_range (RPlain e) = tree_in_range e
right_in_range (RQuotient a b) = net_in_range a && net_in_range b
right_in_range (RRemainder a b) = net_in_range a && net_in_range b

abbrev mutual
  pub statement_in_range : StatementTree Net → Bool
  statement_in_range (SBlock more) = statements_in_range more
  statement_in_range (SIf c a) = tree_in_range c && statement_in_range a
  statement_in_range (SIfElse c a b) = tree_in_range c && (statement_in_range a && statement_in_range b)
  statement_in_range (SSet k e) = tree_in_range e && in_range k
  statement_in_range (SStore k i e) = tree_in_range i && (tree_in_range e && in_range k)

  pub statements_in_range : StatementTrees Net → Bool
  statements_in_range SEnd = true
  statements_in_range (SThen a more) = statement_in_range a && statements_in_range more

abbrev pub wires_in_range : List WireTree → Bool
wires_in_range ws = list_all (λ w. right_in_range w.right) ws

abbrev pub assigns_in_range : List AssignTree → Bool
assigns_in_range os = list_all (λ o. tree_in_range o.value) os

-- ---- how many nets of a sort all parts have
abbrev pub total : {P : Type 0} → (BlockTree (Name P) → ℕ) → Whole P → ℕ
total count d = sum_by (λ p. count (d.block p)) d.parts

-- How many registers, memories and wires there are, and the number of each that is read or set, is below 2 ^ 32.
abbrev pub design_in_range : {P : Type 0} → Whole P → List (OutputTree (Name P)) → Bool
design_in_range d outputs =
    (in_range (total registers_of d) && (in_range (total memories_of d) && in_range (total wires_of d)))
    && (wires_in_range (all_wires d d.parts) && (assigns_in_range (map (link_output (resolve d)) outputs) && list_all statement_in_range (all_statements d d.parts)))

-- ---- while a design is made
abbrev pub placed_total : {P : Type 0} → Section → List (Placed P) → ℕ
placed_total s placed = sum_by (λ m. count_in s (block_of m.block)) placed

abbrev pub totals_in_range : {P : Type 0} → List (Placed P) → Bool
totals_in_range placed = in_range (placed_total section.Registers placed) && (in_range (placed_total section.Memories placed) && in_range (placed_total section.Wires placed))

-- A result tells whether this holds: Ok where it does, TooMany where it does not. Want of memory says nothing.
abbrev pub Tells : {A : Type 0} → Result A LinkError → Bool → Type 0
Tells r holds = MatchResult r (λ _. holds ≡ true) (λ e. e ≡ error.TooMany → holds ≡ false)
