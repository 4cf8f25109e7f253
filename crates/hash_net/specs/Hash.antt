-- The block of a hash.
use Rattle.std.specs.Prelude.{◌≡◌, ℕ, ◌+◌, ◌^◌, ◌<◌, Bool, true, false, if◌then◌else◌, List, [], ◌∷◌, length, map as map_list, replicate, slice_set, IsTrue}
use Rattle.std.specs.List.{list_all}
use Rattle.std.proofs.Common.{get_or}
use Rattle.net_core.specs.Nets.{Tree}
use Rattle.net_core.specs.Ports.{port_list}
use Rattle.net_core.specs.Value.{word, bit, Env, value}
use Rattle.net_core.specs.Clock.{Stored, done}
use Rattle.block_core.specs.design_rules.FormedSyntax.{right_spelled, statement_spelled}
use Rattle.block_core.specs.ProductBlocks.Alone.{IsFree}
use Rattle.block_core.specs.declared.name.Name.{Name}
use Rattle.block_core.specs.declared.name.Name.TheVariants as name
use Rattle.block_core.specs.Blocks.{BlockTree, first_of, registers_of, memories_of, Whole, Among}
use Rattle.block_core.specs.Parts.{Solve, Goes, Within}
use Rattle.block_core.specs.Order.{IsBefore, InOrder}
use Rattle.block_core.specs.Formed.{names_scope, name_width, block_registers, block_memories, block_wires, IsTypedBlock, StatementReads, IsThere}
use Rattle.overlay_net.specs.xdp_maps.declared.decl.MapDecl.{MapDecl}
use Rattle.overlay_net.specs.hazard_core.declared.slot.Slot.{Slot}
use Rattle.overlay_net.specs.hazard_core.declared.access.Access.{Access}
use Rattle.overlay_net.specs.hazard_core.Tables.{slot_at, used_count, empty_slot}
use Rattle.overlay_net.specs.hazard_core.Shaped.{IsShaped}
use Rattle.overlay_net.specs.hazard_core.Commits.{word_count, word_at as byte_word, shown_word, may_write}
use Rattle.frame_net.specs.Frames.{word_at}
use Rattle.array_net.specs.declared.words.WordNets.{WordNets}
use Rattle.array_net.specs.Words.{HoldsWords, AsksWords, HaveWidths, AreThere}
use Rattle.array_net.specs.WordTrees.{word_shown}
use Rattle.array_net.specs.Hosts.{SeesHost, SeesMemories, named_word, written_table}
use Rattle.hash_net.specs.declared.block.HashNets.{HashNets}
use Rattle.hash_net.specs.HashNets.{value_first, hash_memories, has_word, key_nets}

-- ---- names of its nets: the number of used slots, and the word that the host names
abbrev pub count_name : {P : Type 0} → P → Name P
count_name p = name.Register p 0

abbrev pub value_name : {P : Type 0} → P → Name P
value_name p = name.Wire p 7

-- The register holds the number of used slots, and memories hold the table of a hash: which slots are used, and the words of keys and values, each of
-- the declared length.
pub record StoresHash (d : MapDecl) (bits : ℕ) (slots : List Slot) (s : Stored) : Type 0 where
  pub registers : s.registers ≡ word (bits + 1) (used_count slots) ∷ []
  pub memories : map_list length s.memories ≡ replicate (value_first d + word_count d.value) (2 ^ bits)
  pub count : length slots ≡ d.cap
  pub shaped : (n : ℕ) → n < d.cap → IsShaped d (slot_at slots n)
  pub used : (n : ℕ) → n < d.cap → word_at (get_or s.memories 0 []) n ≡ bit (slot_at slots n).used
  pub keys : HoldsWords d.cap d.key s.memories 1 (λ n. (slot_at slots n).key)
  pub values : HoldsWords d.cap d.value s.memories (value_first d) (λ n. (slot_at slots n).value)

-- ---- a clock
-- what the block sees of itself
pub record SeesOwn {P : Type 0} (part : P) (v : Env (Name P)) (s : Stored) : Type 0 where
  pub register : v.net (name.Register part 0) ≡ get_or s.registers 0 (word 0 0)
  pub memories : SeesMemories part v s

-- whether a slot is used after an operation, which puts an entry there, or takes it away, or neither
abbrev pub used_after : Bool → Bool → Bool → Bool
used_after inserts deletes old = if inserts then true else if deletes then false else old

-- An operation makes a slot another one: words of its key are set where it puts an entry there.
pub record AsksHash {P : Type 0} (d : MapDecl) (bits : ℕ) (nets : HashNets (Name P)) (keys : List (Name P)) (values : List (WordNets (Name P))) (v : Env (Name P)) (n : ℕ) (old new : Slot) : Type 0 where
  pub commits : v.net nets.map.commits ≡ bit true
  pub silent : v.net nets.map.writes ≡ bit false
  pub in_slot : v.net nets.map.slot ≡ word bits n
  pub within : n < d.cap
  pub shaped : IsShaped d new
  pub inserts : Bool
  pub deletes : Bool
  pub is_insert : v.net nets.inserts ≡ bit inserts
  pub is_delete : v.net nets.deletes ≡ bit deletes
  pub used : new.used ≡ used_after inserts deletes old.used
  pub key_words : AsksWords v d.key 0 (map_list (key_nets nets.inserts) keys) old.key new.key
  pub value_words : AsksWords v d.value 0 values old.value new.value

-- ---- the nets that it reads of other parts: their widths, and where they stand
pub record HaveHashWidths {P : Type 0} (w : Whole P) (d : MapDecl) (bits : ℕ) (nets : HashNets (Name P)) (keys : List (Name P)) (values : List (WordNets (Name P))) : Type 0 where
  pub commits : name_width w port_list nets.map.commits ≡ 1
  pub slot : name_width w port_list nets.map.slot ≡ bits
  pub writes : name_width w port_list nets.map.writes ≡ 1
  pub idle : name_width w port_list nets.idle ≡ 1
  pub inserts : name_width w port_list nets.inserts ≡ 1
  pub deletes : name_width w port_list nets.deletes ≡ 1
  pub key_words : HaveWidths (names_scope w port_list) d.key 0 (map_list (key_nets nets.inserts) keys)
  pub value_words : HaveWidths (names_scope w port_list) d.value 0 values

abbrev pub AreNets : {N : Type 0} → (N → Type 0) → HashNets N → Type 0
AreNets q nets = q nets.map.commits × q nets.map.slot × q nets.map.writes × q nets.idle × q nets.inserts × q nets.deletes

-- The block: what it has, that it is well typed, in order and spelled where the nets that it reads of other parts are, what a clock does, and what trees
-- show of it: whether the host may write the word that it names, and a word of a slot's value.
pub record IsHash {P : Type 0} (part : P) (map : ℕ) (d : MapDecl) (bits : ℕ) (nets : HashNets (Name P)) (keys : List (Name P)) (values : List (WordNets (Name P))) (b : BlockTree (Name P)) : Type 0 where
  pub registers : block_registers b ≡ (bits + 1) ∷ []
  pub memories : block_memories b ≡ hash_memories bits d
  pub wires : block_wires b ≡ 1 ∷ bits ∷ 1 ∷ 1 ∷ 1 ∷ 1 ∷ 1 ∷ 64 ∷ []
  pub typed : (w : Whole P) → w.block part ≡ b → HaveHashWidths w d bits nets keys values → IsTypedBlock w port_list b
  pub ordered : (w : Whole P) (before : List P) → Among part w.parts → AreNets (IsBefore w before part 0) nets → InOrder w before part 0 b.wires
  pub reads : (w : Whole P) → Among part w.parts → AreNets (IsThere w) nets → AreThere (IsThere w) (map_list (key_nets nets.inserts) keys) → AreThere (IsThere w) values → StatementReads (IsThere w) b.statement
  pub within : Within (registers_of b) (memories_of b) b.statement
  pub wires_spelled : IsTrue (list_all (λ w. right_spelled w.right) b.wires)
  pub spelled : IsTrue (statement_spelled b.statement)
  pub free : IsFree b
  pub goes : (v : Env (Name P)) → Goes v b.wires
  pub first : StoresHash d bits (replicate d.cap (empty_slot d)) (first_of b)
  pub stays : (v : Env (Name P)) (s : Stored) → Solve v part 0 b.wires → v.net nets.map.commits ≡ bit false → v.net nets.map.writes ≡ bit false → done v b.statement s ≡ s
  pub commits : (v : Env (Name P)) (s : Stored) (slots : List Slot) (n : ℕ) (new : Slot) → Solve v part 0 b.wires → SeesOwn part v s → StoresHash d bits slots s → AsksHash d bits nets keys values v n (slot_at slots n) new
      → StoresHash d bits (slice_set slots n new) (done v b.statement s)
  pub written : (v : Env (Name P)) (s : Stored) (slots : List Slot) (a : Access) (number : ℕ) (idle : Bool) → Solve v part 0 b.wires → SeesOwn part v s → StoresHash d bits slots s → SeesHost v a number
      → v.net nets.map.commits ≡ bit false → v.net nets.map.writes ≡ bit true → v.net nets.idle ≡ bit idle → StoresHash d bits (written_table idle (named_word map d a) slots a.index number) (done v b.statement s)
  pub allows : (v : Env (Name P)) (s : Stored) (slots : List Slot) (a : Access) (number : ℕ) (idle : Bool) → Solve v part 0 b.wires → SeesOwn part v s → StoresHash d bits slots s → SeesHost v a number → v.net nets.idle ≡ bit idle
      → value v (has_word part map bits d nets.idle) ≡ bit (may_write idle (slot_at slots a.index) (named_word map d a))
  pub loads : (v : Env (Name P)) (s : Stored) (slots : List Slot) (index : Tree (Name P)) (n j : ℕ) → SeesOwn part v s → StoresHash d bits slots s → (value v index).value ≡ n → n < d.cap → j < word_count d.value
      → value v (word_shown part (value_first d) d.value j index) ≡ word 64 (byte_word (slot_at slots n).value j)
  pub shows : (v : Env (Name P)) (s : Stored) (slots : List Slot) (a : Access) (number : ℕ) → Solve v part 0 b.wires → SeesOwn part v s → StoresHash d bits slots s → SeesHost v a number
      → v.net (value_name part) ≡ word 64 (shown_word (slot_at slots a.index) (named_word map d a))
