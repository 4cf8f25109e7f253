-- What keeps the products of a linked design apart, block by block.
use Rattle.std.specs.Prelude.{◌≡◌, ℕ, Bool, true, false, ◌&&◌, List, [], ◌∷◌}
use Rattle.std.proofs.Common.{get_or}
use Rattle.net_core.specs.declared.design.Port.{Port}
use Rattle.net_core.specs.ProductRules.Products.{right_product, is_flat, right_flat, statement_flat, no_product_chains}
use Rattle.block_core.specs.declared.name.Name.{Name}
use Rattle.block_core.specs.declared.name.Name.TheVariants as name
use Rattle.block_core.specs.Blocks.{BlockTree, BlockWireTree, OutputTree, Whole, Among}
use Rattle.block_core.specs.Link.{link}
use Rattle.block_core.specs.Formed.{IsFormed}

-- whether a net is marked, by the marks of each part's wires; no other net is
abbrev pub is_marked : {P : Type 0} → (P → List Bool) → Name P → Bool
is_marked marks (name.Port i) = false
is_marked marks (name.Register p i) = false
is_marked marks (name.Memory p i) = false
is_marked marks (name.Wire p i) = get_or (marks p) i true

-- A wire without a mark is made by no product, and no product of a wire has an operand that is marked or in which a product stands.
abbrev pub AreMarked : {N : Type 0} → (N → Bool) → List Bool → List (BlockWireTree N) → Type 0
AreMarked made [] [] = Unit {0}
AreMarked made (m ∷ ms) (w ∷ ws) = (m ≡ false → right_product made w.right ≡ false) × (right_flat made w.right ≡ true) × AreMarked made ms ws
AreMarked made [] (w ∷ ws) = ⊥
AreMarked made (m ∷ ms) [] = ⊥

-- so too in what a block sets
pub record IsApart {N : Type 0} (made : N → Bool) (own : List Bool) (b : BlockTree N) : Type 0 where
  pub wires : AreMarked made own b.wires
  pub statement : statement_flat made b.statement ≡ true

abbrev pub outputs_flat : {N : Type 0} → (N → Bool) → List (OutputTree N) → Bool
outputs_flat made [] = true
outputs_flat made (o ∷ os) = is_flat made o.value && outputs_flat made os

-- There are marks for the wires of each part under which its block is so, and what is shown.
pub record HasNoProductChains {P : Type 0} (d : Whole P) (outputs : List (OutputTree (Name P))) : Type 0 where
  pub marks : P → List Bool
  pub blocks : (p : P) → Among p d.parts → IsApart (is_marked marks) (marks p) (d.block p)
  pub shows : outputs_flat (is_marked marks) outputs ≡ true

-- no product of such a design stands inside an operand of another
abbrev pub LinkedHasNoProductChains : (P : Type 0) → Type 0
LinkedHasNoProductChains P = (d : Whole P) (names : List (List ℕ)) (ports : List Port) (outputs : List (OutputTree (Name P)))
    → IsFormed d ports outputs → HasNoProductChains d outputs → no_product_chains (link d names ports outputs) ≡ true
