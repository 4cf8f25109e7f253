-- Blocks of nets, each under names of its own, and designs that are made of them.
use Rattle.std.specs.Prelude.{◌≡◌, ℕ, suc, ◌+◌, ◌^◌, List, [], ◌∷◌, ◌++◌, length, map, replicate}
use Rattle.std.proofs.Common.{get_or, ◌⊎◌}
use Rattle.net_core.specs.declared.tree.Word.{Word}
use Rattle.net_core.specs.Nets.{Tree, RightTree, StatementTree}
use Rattle.net_core.specs.Clock.{Stored}
use Rattle.block_core.specs.declared.name.Name.{Name}
use Rattle.block_core.specs.declared.block.BlockMemory.{BlockMemory}

pub record BlockWireTree (N : Type 0) : Type 0 where
  pub width : ℕ
  pub right : RightTree N

-- registers by their first values, memories, wires in text order, and one statement, which sets the block's own registers
-- and memories by their number in the block
pub record BlockTree (N : Type 0) : Type 0 where
  pub registers : List Word
  pub memories : List BlockMemory
  pub wires : List (BlockWireTree N)
  pub statement : StatementTree N

-- what an output shows
pub record OutputTree (N : Type 0) : Type 0 where
  pub port : ℕ
  pub value : Tree N

abbrev pub registers_of : {N : Type 0} → BlockTree N → ℕ
registers_of b = length b.registers

abbrev pub memories_of : {N : Type 0} → BlockTree N → ℕ
memories_of b = length b.memories

abbrev pub wires_of : {N : Type 0} → BlockTree N → ℕ
wires_of b = length b.wires

-- the words that a memory first holds
abbrev pub first_memory : BlockMemory → List Word
first_memory m = replicate (2 ^ m.index) m.first

-- what a block first stores
abbrev pub first_of : {N : Type 0} → BlockTree N → Stored
first_of b = record { registers = b.registers; memories = map first_memory b.memories }

-- ---- designs of parts
-- the parts in their order, where each stands among them, and its block
pub record Whole (P : Type 0) : Type 0 where
  pub parts : List P
  pub place : P → ℕ
  pub block : P → BlockTree (Name P)

-- the parts from a place on stand where they say
abbrev pub PlacedFrom : {P : Type 0} → (P → ℕ) → ℕ → List P → Type 0
PlacedFrom place at [] = Unit {0}
PlacedFrom place at (p ∷ ps) = (place p ≡ at) × PlacedFrom place (suc at) ps

pub record IsPlaced {P : Type 0} (d : Whole P) : Type 0 where
  pub placed : PlacedFrom d.place 0 d.parts

abbrev pub Among : {P : Type 0} → P → List P → Type 0
Among p [] = ⊥
Among p (q ∷ qs) = (p ≡ q) ⊎ Among p qs

-- what each part has, one after another
abbrev pub gather : {P A : Type 0} → (P → List A) → List P → List A
gather g [] = []
gather g (p ∷ ps) = g p ++ gather g ps

-- where each of these begins, from a first number on
abbrev pub running : ℕ → List ℕ → List ℕ
running at [] = []
running at (n ∷ ns) = at ∷ running (at + n) ns

-- where a part's nets begin among those of all parts, by how many each block has
abbrev pub start : {P : Type 0} → (BlockTree (Name P) → ℕ) → Whole P → P → ℕ
start count d p = get_or (running 0 (map (λ q. count (d.block q)) d.parts)) (d.place p) 0
