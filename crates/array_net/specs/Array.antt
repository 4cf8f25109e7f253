-- The block of an array.
use Rattle.std.specs.Prelude.{◌≡◌, ℕ, ◌^◌, ◌<◌, Bool, true, false, List, [], ◌∷◌, length, map as map_list, replicate, slice_set, IsTrue}
use Rattle.std.specs.List.{list_all}
use Rattle.net_core.specs.Nets.{Tree}
use Rattle.net_core.specs.Ports.{port_list}
use Rattle.net_core.specs.Value.{word, bit, Env, value}
use Rattle.net_core.specs.Clock.{Stored, done}
use Rattle.block_core.specs.design_rules.FormedSyntax.{right_spelled, statement_spelled}
use Rattle.block_core.specs.ProductBlocks.Alone.{IsFree}
use Rattle.block_core.specs.declared.name.Name.{Name}
use Rattle.block_core.specs.declared.name.Name.TheVariants as name
use Rattle.block_core.specs.Blocks.{BlockTree, first_of, registers_of, memories_of, Whole, Among}
use Rattle.block_core.specs.Parts.{Solve, Goes, Within}
use Rattle.block_core.specs.Order.{IsBefore, InOrder}
use Rattle.block_core.specs.Formed.{names_scope, name_width, block_registers, block_memories, block_wires, IsTypedBlock, StatementReads, IsThere}
use Rattle.xdp_maps.specs.declared.decl.MapDecl.{MapDecl}
use Rattle.hazard_core.specs.declared.slot.Slot.{Slot}
use Rattle.hazard_core.specs.declared.access.Access.{Access}
use Rattle.hazard_core.specs.Tables.{slot_at}
use Rattle.hazard_core.specs.Commits.{word_count, word_at as byte_word, shown_word, may_write}
use Rattle.array_net.specs.declared.words.WordNets.{WordNets}
use Rattle.array_net.specs.declared.block.MapNets.{MapNets}
use Rattle.array_net.specs.Words.{HoldsWords, AsksWords, HaveWidths, AreThere}
use Rattle.array_net.specs.WordTrees.{word_shown, word_memories}
use Rattle.array_net.specs.ArrayNets.{has_word}
use Rattle.array_net.specs.Hosts.{SeesHost, SeesMemories, named_word, written_table}

-- the wire that shows the word that the host names
abbrev pub value_name : {P : Type 0} → P → Name P
value_name p = name.Wire p 3

-- Memories hold the table of an array: each slot is used, and has a value of the declared length, whose words they hold.
pub record StoresArray (d : MapDecl) (bits : ℕ) (slots : List Slot) (s : Stored) : Type 0 where
  pub registers : s.registers ≡ []
  pub memories : map_list length s.memories ≡ replicate (word_count d.value) (2 ^ bits)
  pub count : length slots ≡ d.cap
  pub used : (n : ℕ) → n < d.cap → (slot_at slots n).used ≡ true
  pub lengths : (n : ℕ) → n < d.cap → length (slot_at slots n).value ≡ d.value
  pub words : HoldsWords d.cap d.value s.memories 0 (λ n. (slot_at slots n).value)

-- as many slots as are declared, each used, with zeros as its value
pub record IsZeroed (d : MapDecl) (slots : List Slot) : Type 0 where
  pub count : length slots ≡ d.cap
  pub used : (n : ℕ) → n < d.cap → (slot_at slots n).used ≡ true
  pub values : (n : ℕ) → n < d.cap → (slot_at slots n).value ≡ replicate d.value 0

-- ---- a clock
-- the table with other bytes as the value of a slot
abbrev pub with_value : List Slot → ℕ → List ℕ → List Slot
with_value slots n new = slice_set slots n (record (slot_at slots n) { value = new })

-- An operation sets words of a slot, and its value becomes these bytes.
pub record AsksArray {P : Type 0} (d : MapDecl) (bits : ℕ) (nets : MapNets (Name P)) (words : List (WordNets (Name P))) (v : Env (Name P)) (slots : List Slot) (n : ℕ) (new : List ℕ) : Type 0 where
  pub commits : v.net nets.commits ≡ bit true
  pub silent : v.net nets.writes ≡ bit false
  pub in_slot : v.net nets.slot ≡ word bits n
  pub within : n < d.cap
  pub len : length new ≡ d.value
  pub asked : AsksWords v d.value 0 words (slot_at slots n).value new

-- The block: what it has, that it is well typed, in order and spelled where the nets that it reads of other parts are, what a clock does, and what trees
-- show of it: whether the host may write the word that it names, and a word of a slot's value.
pub record IsArray {P : Type 0} (part : P) (map : ℕ) (d : MapDecl) (bits : ℕ) (nets : MapNets (Name P)) (words : List (WordNets (Name P))) (b : BlockTree (Name P)) : Type 0 where
  pub registers : block_registers b ≡ []
  pub memories : block_memories b ≡ word_memories bits d.value
  pub wires : block_wires b ≡ 1 ∷ bits ∷ 1 ∷ 64 ∷ []
  pub typed : (w : Whole P) → w.block part ≡ b → name_width w port_list nets.commits ≡ 1 → name_width w port_list nets.slot ≡ bits → name_width w port_list nets.writes ≡ 1 → HaveWidths (names_scope w port_list) d.value 0 words
      → IsTypedBlock w port_list b
  pub ordered : (w : Whole P) (before : List P) → Among part w.parts → IsBefore w before part 0 nets.commits → IsBefore w before part 0 nets.slot → IsBefore w before part 0 nets.writes → InOrder w before part 0 b.wires
  pub reads : (w : Whole P) → Among part w.parts → IsThere w nets.commits → AreThere (IsThere w) words → StatementReads (IsThere w) b.statement
  pub within : Within (registers_of b) (memories_of b) b.statement
  pub wires_spelled : IsTrue (list_all (λ w. right_spelled w.right) b.wires)
  pub spelled : IsTrue (statement_spelled b.statement)
  pub free : IsFree b
  pub goes : (v : Env (Name P)) → Goes v b.wires
  pub first : (slots : List Slot) → IsZeroed d slots → StoresArray d bits slots (first_of b)
  pub stays : (v : Env (Name P)) (s : Stored) → Solve v part 0 b.wires → v.net nets.commits ≡ bit false → v.net nets.writes ≡ bit false → done v b.statement s ≡ s
  pub commits : (v : Env (Name P)) (s : Stored) (slots : List Slot) (n : ℕ) (new : List ℕ) → Solve v part 0 b.wires → StoresArray d bits slots s → AsksArray d bits nets words v slots n new
      → StoresArray d bits (with_value slots n new) (done v b.statement s)
  pub written : (v : Env (Name P)) (s : Stored) (slots : List Slot) (a : Access) (number : ℕ) (idle : Bool) → Solve v part 0 b.wires → StoresArray d bits slots s → SeesHost v a number → v.net nets.commits ≡ bit false → v.net nets.writes ≡ bit true
      → StoresArray d bits (written_table idle (named_word map d a) slots a.index number) (done v b.statement s)
  pub allows : (v : Env (Name P)) (s : Stored) (slots : List Slot) (a : Access) (number : ℕ) (idle : Bool) → StoresArray d bits slots s → SeesHost v a number → value v (has_word map d) ≡ bit (may_write idle (slot_at slots a.index) (named_word map d a))
  pub loads : (v : Env (Name P)) (s : Stored) (slots : List Slot) (index : Tree (Name P)) (n j : ℕ) → StoresArray d bits slots s → SeesMemories part v s → (value v index).value ≡ n → n < d.cap → j < word_count d.value
      → value v (word_shown part 0 d.value j index) ≡ word 64 (byte_word (slot_at slots n).value j)
  pub shows : (v : Env (Name P)) (s : Stored) (slots : List Slot) (a : Access) (number : ℕ) → Solve v part 0 b.wires → StoresArray d bits slots s → SeesHost v a number → SeesMemories part v s
      → v.net (value_name part) ≡ word 64 (shown_word (slot_at slots a.index) (named_word map d a))
