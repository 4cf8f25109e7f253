-- The block that reads words of a slot of a map's table.
use Rattle.std.specs.Prelude.{◌≡◌, ℕ, ◌+◌, ◌<◌, ◌≤◌, List, [], length, map as map_list, replicate, IsTrue}
use Rattle.std.specs.List.{list_all, range_with_len}
use Rattle.std.proofs.Common.{get_or}
use Rattle.net_core.specs.Nets.{TRead, SBlock, SEnd}
use Rattle.net_core.specs.Ports.{port_list}
use Rattle.net_core.specs.Value.{word, Env}
use Rattle.net_core.specs.Clock.{Stored, done}
use Rattle.block_core.specs.design_rules.FormedSyntax.{right_spelled, statement_spelled}
use Rattle.block_core.specs.ProductBlocks.Alone.{IsFree}
use Rattle.block_core.specs.declared.name.Name.{Name}
use Rattle.block_core.specs.declared.name.Name.TheVariants as name
use Rattle.block_core.specs.Blocks.{BlockTree, BlockWireTree, Whole, Among}
use Rattle.block_core.specs.Parts.{Solve, Goes, Within}
use Rattle.block_core.specs.Order.{IsBefore, InOrder}
use Rattle.block_core.specs.Formed.{name_width, block_memories, block_wires, IsTypedBlock, StatementReads, IsThere}
use Rattle.overlay_net.specs.hazard_core.Commits.{word_count, word_at as byte_word}
use Rattle.frame_net.specs.GatherNets.{wire}
use Rattle.hash_net.specs.array_net.Words.{word_width, HoldsWords}
use Rattle.hash_net.specs.array_net.WordTrees.{word_shown}
use Rattle.hash_net.specs.array_net.Hosts.{SeesMemories}

-- the wire of a word, where a memory of another part has the first words of byte strings
abbrev pub fetched_wire : {P : Type 0} → P → ℕ → ℕ → Name P → ℕ → BlockWireTree (Name P)
fetched_wire of first bytes slot j = wire 64 (word_shown of first bytes j (TRead slot))

-- those of so many words, from one on
abbrev pub fetch_block : {P : Type 0} → P → ℕ → ℕ → ℕ → ℕ → Name P → BlockTree (Name P)
fetch_block of first bytes from count slot = record { registers = []; memories = []; wires = map_list (λ i. fetched_wire of first bytes slot (from + i)) (range_with_len 0 count); statement = SBlock SEnd }

-- The block: wires alone, which show so many words, from one on, of a byte string of a slot. It is well typed, in order and spelled where the other part
-- has the memories of these words and the net of the slot is there.
pub record IsFetch {P : Type 0} (part of : P) (bits first bytes from count : ℕ) (slot : Name P) (b : BlockTree (Name P)) : Type 0 where
  pub registers : b.registers ≡ []
  pub memories : b.memories ≡ []
  pub wires : block_wires b ≡ replicate count 64
  pub typed : (w : Whole P) → ((j : ℕ) → j < word_count bytes → get_or (block_memories (w.block of)) (first + j) (0, 0) ≡ (bits, word_width bytes j)) → name_width w port_list slot ≡ bits → IsTypedBlock w port_list b
  pub ordered : (w : Whole P) (before : List P) → Among of w.parts → IsBefore w before part 0 slot → InOrder w before part 0 b.wires
  pub reads : (w : Whole P) → StatementReads (IsThere w) b.statement
  pub within : Within 0 0 b.statement
  pub wires_spelled : IsTrue (list_all (λ w. right_spelled w.right) b.wires)
  pub spelled : IsTrue (statement_spelled b.statement)
  pub free : IsFree b
  pub goes : (v : Env (Name P)) → Goes v b.wires
  pub stays : (v : Env (Name P)) (s : Stored) → done v b.statement s ≡ s
  pub shows : (v : Env (Name P)) (s : Stored) (cap : ℕ) (strings : ℕ → List ℕ) (n i : ℕ) → Solve v part 0 b.wires → SeesMemories of v s → HoldsWords cap bytes s.memories first strings → first + word_count bytes ≤ length s.memories
      → (v.net slot).value ≡ n → n < cap → i < count → v.net (name.Wire part i) ≡ word 64 (byte_word (strings n) (from + i))

-- ---- the nets of these words
abbrev pub fetched_words : {P : Type 0} → P → ℕ → List (Name P)
fetched_words part count = map_list (λ i. name.Wire part i) (range_with_len 0 count)
