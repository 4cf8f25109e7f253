-- The nets of the block that gives the sources of a packet.
use Rattle.std.specs.Prelude.{ℕ, zero, suc, List, [], ◌∷◌}
use Rattle.net_core.specs.declared.tree.Op.TheVariants.{Add, Less}
use Rattle.net_core.specs.Nets.{Tree, TRead, TMemoryWord, TBinary, TConditional, SBlock, SEnd}
use Rattle.block_core.specs.declared.name.Name.{Name}
use Rattle.block_core.specs.declared.name.Name.TheVariants as name
use Rattle.block_core.specs.Blocks.{BlockTree, BlockWireTree}
use Rattle.frame_net.specs.declared.held.Kept.{Kept}
use Rattle.frame_net.specs.declared.held.Kept.TheVariants.{Ifindex, Time, Word as FrameWord}
use Rattle.frame_net.specs.Gather.{kept_width}
use Rattle.frame_net.specs.GatherNets.{net, constant, wire, beside}

-- a memory of a part at an index
abbrev pub held : {P : Type 0} → P → ℕ → Tree (Name P) → Tree (Name P)
held p k index = TMemoryWord (name.Memory p k) index

-- eight bytes for each beat before the last, and those of the last
abbrev pub frame_length : {N : Type 0} → Tree N → Tree N → Tree N
frame_length last bytes = TBinary Add (beside last (constant 3 0)) (beside (constant 10 0) bytes)

-- a word of the frame, or 0 where the last beat stands before it
abbrev pub word_within : {N : Type 0} → Tree N → ℕ → Tree N → Tree N
word_within last zero there = there
word_within last (suc j) there = TConditional (TBinary Less last (constant 11 (suc j))) (constant 64 0) there

abbrev pub kept_tree : {P : Type 0} → P → P → Name P → ℕ → Kept → Tree (Name P)
kept_tree p gather slot k Ifindex = held gather k (TRead slot)
kept_tree p gather slot k Time = held gather k (TRead slot)
kept_tree p gather slot k (FrameWord j) = word_within (net p 0) j (held gather k (TRead slot))

-- what is kept, from the memory of a number on
abbrev pub kept_wires : {P : Type 0} → P → P → Name P → ℕ → List Kept → List (BlockWireTree (Name P))
kept_wires p gather slot k [] = []
kept_wires p gather slot k (x ∷ kept) = wire (kept_width x) (kept_tree p gather slot k x) ∷ kept_wires p gather slot (suc k) kept

-- 0, 1: the number of the last beat, and its bytes; 2: the length of the frame; 3 and on: what else is kept
abbrev pub sources_wires : {P : Type 0} → P → P → List Kept → Name P → List (BlockWireTree (Name P))
sources_wires p gather kept slot =
    wire 11 (held gather 1 (TRead slot)) ∷ wire 4 (held gather 2 (TRead slot)) ∷ wire 14 (frame_length (net p 0) (net p 1)) ∷ kept_wires p gather slot 3 kept

abbrev pub sources_block : {P : Type 0} → P → P → List Kept → Name P → BlockTree (Name P)
sources_block p gather kept slot = record { registers = []; memories = []; wires = sources_wires p gather kept slot; statement = SBlock SEnd }
