-- Blocks that keep their products apart by themselves.
use Rattle.std.specs.Prelude.{◌≡◌, Bool, true, List}
use Rattle.std.specs.List.{list_all}
use Rattle.net_core.specs.ProductRules.Products.{right_flat, statement_flat}
use Rattle.block_core.specs.declared.name.Name.{Name}
use Rattle.block_core.specs.Blocks.{BlockTree, BlockWireTree}
use Rattle.block_core.specs.ProductBlocks.Apart.{is_marked, IsApart}

-- There are marks for its wires under which the block has its products apart, whichever wires of other parts are marked.
pub record IsApartAlone {P : Type 0} (p : P) (b : BlockTree (Name P)) : Type 0 where
  pub marks : List Bool
  pub apart : (all : P → List Bool) → all p ≡ marks → IsApart (is_marked all) marks b

abbrev pub wire_flat : {N : Type 0} → (N → Bool) → BlockWireTree N → Bool
wire_flat made w = right_flat made w.right

-- Whichever nets products make, no product of the block has an operand that one makes.
pub record IsFree {N : Type 0} (b : BlockTree N) : Type 0 where
  pub wires : (made : N → Bool) → list_all (wire_flat made) b.wires ≡ true
  pub statement : (made : N → Bool) → statement_flat made b.statement ≡ true
