-- The nets of memories of words: what is read of them, and what they take in a clock.
use Rattle.std.specs.Prelude.{ℕ, zero, suc, ◌+◌, ◌-◌, ◌==◌, if◌then◌else◌, List, [], ◌∷◌}
use Rattle.net_core.specs.declared.tree.Op.TheVariants.{And, Or, Equal}
use Rattle.net_core.specs.declared.ports.TheConstants.{HOST_INDEX, HOST_WORD, HOST_DATA}
use Rattle.net_core.specs.Nets.{Tree, TRead, TPartSelect, TBinary, TConditional}
use Rattle.block_core.specs.declared.name.Name.{Name}
use Rattle.block_core.specs.declared.name.Name.TheVariants as name
use Rattle.hazard_core.specs.Commits.{word_count}
use Rattle.frame_net.specs.GatherNets.{port, constant, beside}
use Rattle.frame_net.specs.SourcesNets.{held}
use Rattle.frame_net.specs.Stores.{Store}
use Rattle.array_net.specs.declared.words.WordNets.{WordNets}
use Rattle.array_net.specs.Words.{word_width}

-- ---- the host's ports: its index, of so many bits, the low bits of what it writes, and whether it names a word
abbrev pub host_index : {P : Type 0} → ℕ → Tree (Name P)
host_index bits = TPartSelect (name.Port HOST_INDEX) (bits - 1) 0

abbrev pub host_data : {P : Type 0} → ℕ → Tree (Name P)
host_data width = TPartSelect (name.Port HOST_DATA) (width - 1) 0

abbrev pub is_word : {P : Type 0} → ℕ → Tree (Name P)
is_word number = TBinary Equal (port HOST_WORD) (constant 4 number)

-- ---- what is read, where a memory has the first words of byte strings
-- a number of so many bits as one of 64
abbrev pub filled : {N : Type 0} → ℕ → Tree N → Tree N
filled width t = if width == 64 then t else beside (constant (64 - width) 0) t

abbrev pub word_shown : {P : Type 0} → P → ℕ → ℕ → ℕ → Tree (Name P) → Tree (Name P)
word_shown p first bytes j index = filled (word_width bytes j) (held p (first + j) index)

-- a word where the host names it, else what the others show
abbrev pub word_read : {P : Type 0} → P → ℕ → ℕ → ℕ → ℕ → Tree (Name P) → Tree (Name P)
word_read p bits first bytes j rest = TConditional (is_word (first + j)) (word_shown p first bytes j (host_index bits)) rest

-- so many words, from one on
abbrev pub words_read : {P : Type 0} → P → ℕ → ℕ → ℕ → ℕ → ℕ → Tree (Name P) → Tree (Name P)
words_read p bits first bytes j zero rest = rest
words_read p bits first bytes j (suc n) rest = word_read p bits first bytes j (words_read p bits first bytes (suc j) n rest)

-- ---- memories: the widths of their indexes and of their words, of so many from one on
abbrev pub memories_from : ℕ → ℕ → ℕ → ℕ → List (ℕ × ℕ)
memories_from bits bytes j zero = []
memories_from bits bytes j (suc n) = (bits, word_width bytes j) ∷ memories_from bits bytes (suc j) n

abbrev pub word_memories : ℕ → ℕ → List (ℕ × ℕ)
word_memories bits bytes = memories_from bits bytes 0 (word_count bytes)

-- ---- what they take: where an operation commits the words that it sets, where the gate is 1 the one that the host names
abbrev pub word_store : {P : Type 0} → Name P → Name P → Name P → ℕ → ℕ → ℕ → WordNets (Name P) → Store (Name P)
word_store commits gate index first bytes j n = record {
  condition = TBinary Or (TBinary And (TRead commits) (TRead n.sets)) (TBinary And (TRead gate) (is_word (first + j)));
  at = TRead index;
  value = TConditional (TRead commits) (TRead n.word) (host_data (word_width bytes j));
}

abbrev pub word_stores : {P : Type 0} → Name P → Name P → Name P → ℕ → ℕ → ℕ → List (WordNets (Name P)) → List (Store (Name P))
word_stores commits gate index first bytes j [] = []
word_stores commits gate index first bytes j (n ∷ nets) = word_store commits gate index first bytes j n ∷ word_stores commits gate index first bytes (suc j) nets
