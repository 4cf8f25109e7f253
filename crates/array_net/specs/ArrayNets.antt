-- The nets of the block of an array.
use Rattle.std.specs.Prelude.{ℕ, ◌-◌, List, [], ◌∷◌, map as map_list}
use Rattle.net_core.specs.declared.tree.Op.TheVariants.{And, Equal, Less, LessEqual}
use Rattle.net_core.specs.declared.ports.TheConstants.{HOST_MAP, HOST_INDEX, HOST_WORD}
use Rattle.net_core.specs.Nets.{Tree, TRead, TBinary, TConditional, StatementTree, SBlock, SEnd}
use Rattle.net_core.specs.Chains.{statements_before}
use Rattle.block_core.specs.declared.name.Name.{Name}
use Rattle.block_core.specs.declared.name.Name.TheVariants as name
use Rattle.block_core.specs.Blocks.{BlockTree, BlockWireTree}
use Rattle.xdp_maps.specs.declared.decl.MapDecl.{MapDecl}
use Rattle.hazard_core.specs.Commits.{word_count}
use Rattle.frame_net.specs.GatherNets.{port, net, constant, wire}
use Rattle.frame_net.specs.Stores.{widths_memory, store_statements}
use Rattle.array_net.specs.declared.words.WordNets.{WordNets}
use Rattle.array_net.specs.declared.block.MapNets.{MapNets}
use Rattle.array_net.specs.WordTrees.{host_index, words_read, word_memories, word_stores}

-- whether the host names a slot of a map that has so many
abbrev pub names_slot : {P : Type 0} → ℕ → ℕ → Tree (Name P)
names_slot map cap = TBinary And (TBinary Equal (port HOST_MAP) (constant 4 map)) (TBinary LessEqual (port HOST_INDEX) (constant 16 (cap - 1)))

-- whether it names a word of an array
abbrev pub has_word : {P : Type 0} → ℕ → MapDecl → Tree (Name P)
has_word map d = TBinary And (names_slot map d.cap) (TBinary Less (port HOST_WORD) (constant 4 (word_count d.value)))

-- the slot of the operation where one commits, else the host's index
abbrev pub chosen_index : {P : Type 0} → ℕ → MapNets (Name P) → Tree (Name P)
chosen_index bits nets = TConditional (TRead nets.commits) (TRead nets.slot) (host_index bits)

-- 0: the host names a slot; 1: the index; 2: the host writes; 3: what it reads
abbrev pub array_wires : {P : Type 0} → P → ℕ → MapDecl → ℕ → MapNets (Name P) → List (BlockWireTree (Name P))
array_wires p map d bits nets =
    wire 1 (names_slot map d.cap)
    ∷ wire bits (chosen_index bits nets)
    ∷ wire 1 (TBinary And (TRead nets.writes) (net p 0))
    ∷ wire 64 (TConditional (net p 0) (words_read p bits 0 d.value 0 (word_count d.value) (constant 64 0)) (constant 64 0))
    ∷ []

abbrev pub array_statement : {P : Type 0} → P → MapDecl → MapNets (Name P) → List (WordNets (Name P)) → StatementTree (Name P)
array_statement p d nets words = SBlock (statements_before (store_statements 0 (word_stores nets.commits (name.Wire p 2) (name.Wire p 1) 0 d.value 0 words)) SEnd)

abbrev pub array_block : {P : Type 0} → P → ℕ → MapDecl → ℕ → MapNets (Name P) → List (WordNets (Name P)) → BlockTree (Name P)
array_block p map d bits nets words = record { registers = []; memories = map_list widths_memory (word_memories bits d.value); wires = array_wires p map d bits nets; statement = array_statement p d nets words }
