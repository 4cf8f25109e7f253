-- Which nets a part may read: each wire stands after those that it reads.
use Rattle.std.specs.Prelude.{◌≡◌, ℕ, suc, ◌<◌, List, [], ◌∷◌}
use Rattle.std.proofs.Common.{◌⊎◌}
use Rattle.net_core.specs.Nets.{Tree, TConst, TRead, TBit, TPartSelect, TMemoryWord, TUnary, TBinary, TConditional, TConcatenation, Trees, TLast, TMore, RightTree, RPlain, RQuotient, RRemainder}
use Rattle.block_core.specs.declared.name.Name.{Name}
use Rattle.block_core.specs.declared.name.Name.TheVariants as name
use Rattle.block_core.specs.Blocks.{BlockWireTree, wires_of, Whole, Among}

-- each net of a tree is such a one
abbrev mutual
  pub Reads : {N : Type 0} → (N → Type 0) → Tree N → Type 0
  Reads q (TConst w) = Unit {0}
  Reads q (TRead n) = q n
  Reads q (TBit n i) = q n
  Reads q (TPartSelect n hi lo) = q n
  Reads q (TMemoryWord m i) = q m × Reads q i
  Reads q (TUnary p a) = Reads q a
  Reads q (TBinary op a b) = Reads q a × Reads q b
  Reads q (TConditional c a b) = Reads q c × Reads q a × Reads q b
  Reads q (TConcatenation ps) = AllRead q ps

  pub AllRead : {N : Type 0} → (N → Type 0) → Trees N → Type 0
  AllRead q (TLast a) = Reads q a
  AllRead q (TMore a ps) = Reads q a × AllRead q ps

abbrev pub RightReads : {N : Type 0} → (N → Type 0) → RightTree N → Type 0
RightReads q (RPlain e) = Reads q e
RightReads q (RQuotient a b) = q a × q b
RightReads q (RRemainder a b) = q a × q b

-- a port, what a part stores, a wire of an earlier part, or an earlier one of the same part
abbrev pub IsBefore : {P : Type 0} → Whole P → List P → P → ℕ → Name P → Type 0
IsBefore d before p at (name.Port i) = Unit {0}
IsBefore d before p at (name.Register q i) = Among q d.parts
IsBefore d before p at (name.Memory q i) = Among q d.parts
IsBefore d before p at (name.Wire q i) = ((q ≡ p) × (i < at)) ⊎ (Among q before × (i < wires_of (d.block q)))

-- the wires of a part, from one on, read earlier ones
abbrev pub InOrder : {P : Type 0} → Whole P → List P → P → ℕ → List (BlockWireTree (Name P)) → Type 0
InOrder d before p at [] = Unit {0}
InOrder d before p at (w ∷ ws) = RightReads (IsBefore d before p at) w.right × InOrder d before p (suc at) ws

-- so do those of each part, where these stand before
abbrev pub AllInOrder : {P : Type 0} → Whole P → List P → List P → Type 0
AllInOrder d before [] = Unit {0}
AllInOrder d before (p ∷ ps) = InOrder d before p 0 (d.block p).wires × AllInOrder d (p ∷ before) ps
