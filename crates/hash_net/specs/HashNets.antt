-- The nets of the block of a hash.
use Rattle.std.specs.Prelude.{ℕ, suc, ◌+◌, List, [], ◌∷◌, ◌++◌, map as map_list}
use Rattle.net_core.specs.declared.tree.Op.TheVariants.{Add, Sub, And, Or, Less, LessEqual}
use Rattle.net_core.specs.declared.tree.UnaryOp.TheVariants.{ReduceOr}
use Rattle.net_core.specs.declared.ports.TheConstants.{HOST_WORD, HOST_DATA}
use Rattle.net_core.specs.Nets.{Tree, TRead, TUnary, TBinary, TConditional, StatementTree, SBlock, SIf, SSet, SEnd}
use Rattle.net_core.specs.Chains.{statements_before}
use Rattle.net_core.specs.Value.{word}
use Rattle.block_core.specs.declared.name.Name.{Name}
use Rattle.block_core.specs.declared.name.Name.TheVariants as name
use Rattle.block_core.specs.Blocks.{BlockTree, BlockWireTree}
use Rattle.overlay_net.specs.xdp_maps.declared.decl.MapDecl.{MapDecl}
use Rattle.overlay_net.specs.hazard_core.Commits.{word_count}
use Rattle.frame_net.specs.GatherNets.{port, net, register, constant, wire, beside}
use Rattle.frame_net.specs.SourcesNets.{held}
use Rattle.frame_net.specs.Stores.{Store, widths_memory, store_statements}
use Rattle.array_net.specs.declared.words.WordNets.{WordNets}
use Rattle.array_net.specs.WordTrees.{host_index, is_word, words_read, word_memories, word_stores}
use Rattle.array_net.specs.ArrayNets.{names_slot, chosen_index}
use Rattle.hash_net.specs.declared.block.HashNets.{HashNets}

-- ---- memories: 0 whether a slot is used, from 1 on the words of its key, and after them those of its value; the host's number of a word
-- is that of its memory
abbrev pub value_first : MapDecl → ℕ
value_first d = suc (word_count d.key)

abbrev pub hash_memories : ℕ → MapDecl → List (ℕ × ℕ)
hash_memories bits d = (bits, 1) ∷ (word_memories bits d.key ++ word_memories bits d.value)

-- ---- what the host names: a word of a slot, and one that it may write, by whether no packet is inside
abbrev pub is_value : {P : Type 0} → MapDecl → Tree (Name P)
is_value d = TBinary LessEqual (constant 4 (value_first d)) (port HOST_WORD)

abbrev pub has_word : {P : Type 0} → P → ℕ → ℕ → MapDecl → Name P → Tree (Name P)
has_word p map bits d idle =
    TBinary And (TBinary And (names_slot map d.cap) (TBinary Less (port HOST_WORD) (constant 4 (value_first d + word_count d.value))))
    (TBinary Or (TRead idle) (TBinary And (is_value d) (held p 0 (host_index bits))))

-- ---- a clock
-- 0: the host names a slot; 1: the index; 2: the slot there is used; 3, 4: the host writes what only an idle clock lets it, and values;
-- 5, 6: whether the used bit is set, and what it becomes; 7: what the host reads
abbrev pub used_sets : {P : Type 0} → P → HashNets (Name P) → Tree (Name P)
used_sets p nets = TBinary Or (TBinary And (TRead nets.map.commits) (TBinary Or (TRead nets.inserts) (TRead nets.deletes))) (TBinary And (net p 3) (is_word 0))

abbrev pub used_bit : {P : Type 0} → HashNets (Name P) → Tree (Name P)
used_bit nets = TConditional (TRead nets.map.commits) (TRead nets.inserts) (TUnary ReduceOr (port HOST_DATA))

abbrev pub used_read : {P : Type 0} → P → ℕ → Tree (Name P) → Tree (Name P)
used_read p bits rest = TConditional (is_word 0) (beside (constant 63 0) (held p 0 (host_index bits))) rest

abbrev pub value_read : {P : Type 0} → P → ℕ → MapDecl → Tree (Name P)
value_read p bits d =
    used_read p bits (words_read p bits 1 d.key 0 (word_count d.key) (words_read p bits (value_first d) d.value 0 (word_count d.value) (constant 64 0)))

-- what the host writes: what only an idle clock lets it, and values
abbrev pub idle_gate : {P : Type 0} → P → HashNets (Name P) → Tree (Name P)
idle_gate p nets = TBinary And (TRead nets.map.writes) (TBinary And (net p 0) (TRead nets.idle))

abbrev pub value_gate : {P : Type 0} → P → HashNets (Name P) → Tree (Name P)
value_gate p nets = TBinary And (TRead nets.map.writes) (TBinary And (net p 0) (TBinary Or (TRead nets.idle) (net p 2)))

abbrev pub hash_wires : {P : Type 0} → P → ℕ → MapDecl → ℕ → HashNets (Name P) → List (BlockWireTree (Name P))
hash_wires p map d bits nets =
    wire 1 (names_slot map d.cap)
    ∷ wire bits (chosen_index bits nets.map)
    ∷ wire 1 (held p 0 (net p 1))
    ∷ wire 1 (idle_gate p nets)
    ∷ wire 1 (value_gate p nets)
    ∷ wire 1 (used_sets p nets)
    ∷ wire 1 (used_bit nets)
    ∷ wire 64 (TConditional (net p 0) (value_read p bits d) (constant 64 0))
    ∷ []

-- the number of used slots, with the bit that a slot gets in place of that which it has
abbrev pub count_after : {P : Type 0} → P → ℕ → Tree (Name P)
count_after p bits = TBinary Sub (TBinary Add (register p 0) (beside (constant bits 0) (net p 6))) (beside (constant bits 0) (net p 2))

abbrev pub used_store : {P : Type 0} → P → Store (Name P)
used_store p = record { condition = net p 5; at = net p 1; value = net p 6 }

-- the words of a key are set with the used bit
abbrev pub key_nets : {N : Type 0} → N → N → WordNets N
key_nets inserts key = record { sets = inserts; word = key }

-- of keys and of values
abbrev pub hash_words : {P : Type 0} → P → MapDecl → Name P → List (WordNets (Name P)) → List (WordNets (Name P)) → List (Store (Name P))
hash_words p d commits keys values =
    word_stores commits (name.Wire p 3) (name.Wire p 1) 1 d.key 0 keys ++ word_stores commits (name.Wire p 4) (name.Wire p 1) (value_first d) d.value 0 values

abbrev pub hash_stores : {P : Type 0} → P → MapDecl → HashNets (Name P) → List (Name P) → List (WordNets (Name P)) → List (Store (Name P))
hash_stores p d nets keys values = used_store p ∷ hash_words p d nets.map.commits (map_list (key_nets nets.inserts) keys) values

abbrev pub hash_statement : {P : Type 0} → P → MapDecl → ℕ → HashNets (Name P) → List (Name P) → List (WordNets (Name P)) → StatementTree (Name P)
hash_statement p d bits nets keys values = SBlock (statements_before (SIf (net p 5) (SSet 0 (count_after p bits)) ∷ store_statements 0 (hash_stores p d nets keys values)) SEnd)

abbrev pub hash_block : {P : Type 0} → P → ℕ → MapDecl → ℕ → HashNets (Name P) → List (Name P) → List (WordNets (Name P)) → BlockTree (Name P)
hash_block p map d bits nets keys values = record {
  registers = word (bits + 1) 0 ∷ [];
  memories = map_list widths_memory (hash_memories bits d);
  wires = hash_wires p map d bits nets;
  statement = hash_statement p d bits nets keys values;
}
