-- All parts of a pipeline in their order.
use Rattle.std.specs.Prelude.{◌≡◌, ℕ, List, [], ◌∷◌, ◌++◌, length, map as map_list}
use Rattle.std.proofs.Common.{get_or}
use Rattle.std.specs.declared.vec.Vec.{Vec}
use Rattle.std.specs.declared.alloc.Global.{Global}
use Rattle.net_core.specs.Nets.{SBlock, SEnd}
use Rattle.block_core.specs.declared.name.Name.{Name}
use Rattle.block_core.specs.declared.block.Block.{Block}
use Rattle.block_core.specs.declared.block.Placed.{Placed}
use Rattle.block_core.specs.Blocks.{BlockTree, Whole}
use Rattle.block_core.specs.View.{block_of}
use Rattle.hazard_core.specs.cell_core.Rows.{numbers}
use Rattle.pipe_net.specs.declared.parts.Part.{Part}
use Rattle.pipe_net.specs.declared.parts.Sizes.{Sizes}
use Rattle.pipe_net.specs.Parts.{part, part_place, parts_of}

-- lists of blocks, each of one sort or two
abbrev pub Lists : Type 0
Lists = List (List (BlockTree (Name Part)))

abbrev pub blocks_in : List (Vec (Block (Name Part)) Global) → Lists
blocks_in lists = map_list (λ xs. map_list block_of xs.items) lists

-- one list after another
abbrev pub all_of : {A : Type 0} → List (List A) → List A
all_of [] = []
all_of (xs ∷ more) = xs ++ all_of more

-- the lists of two and two elements, one after another
abbrev pub pairwise : {A B C : Type 0} → (A → B → List C) → List A → List B → List C
pairwise f [] ys = []
pairwise f (x ∷ xs) [] = []
pairwise f (x ∷ xs) (y ∷ ys) = f x y ++ pairwise f xs ys

-- ---- the parts that have them
abbrev pub no_block : BlockTree (Name Part)
no_block = record { registers = []; memories = []; wires = []; statement = SBlock SEnd }

abbrev pub whole_of : Sizes → Lists → Whole Part
whole_of z lists = record { parts = parts_of z; place = part_place; block = λ p. get_or (all_of lists) p.number no_block }

-- parts from the first on, each with its block
pub record AreNumbered (blocks : List (BlockTree (Name Part))) (ms : List (Placed Part)) : Type 0 where
  pub parts : map_list (λ m. m.part) ms ≡ map_list part (numbers 0 (length blocks))
  pub are : map_list (λ m. block_of m.block) ms ≡ blocks
