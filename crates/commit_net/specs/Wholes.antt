-- What is asked of the block of a map, whole: a part that gives the slot, and one that gives the words.
use Rattle.std.specs.Prelude.{◌≡◌, ℕ, ◌^◌, ◌<◌, true, false, List, length, map as map_list}
use Rattle.net_core.specs.Ports.{port_list}
use Rattle.net_core.specs.Value.{word, bit, Env}
use Rattle.block_core.specs.declared.name.Name.{Name}
use Rattle.block_core.specs.Blocks.{BlockTree, Whole, Among}
use Rattle.block_core.specs.Parts.{Solve}
use Rattle.block_core.specs.Order.{IsBefore}
use Rattle.block_core.specs.Formed.{names_scope, name_width, IsThere}
use Rattle.overlay_net.specs.xdp_maps.declared.decl.MapDecl.{MapDecl}
use Rattle.overlay_net.specs.xdp_maps.Contents.{IsBytes}
use Rattle.overlay_net.specs.cell_core.Sites.{ProgramView, site_at}
use Rattle.overlay_net.specs.cell_core.Formed.{FitsMap}
use Rattle.overlay_net.specs.hazard_core.declared.slot.Slot.{Slot}
use Rattle.overlay_net.specs.hazard_core.Tables.{TableState, decl_of, table_at, slot_at}
use Rattle.overlay_net.specs.hazard_core.Shaped.{AreShaped}
use Rattle.overlay_net.specs.hazard_core.StageValues.{StageValues}
use Rattle.overlay_net.specs.hazard_core.Commits.{word_count, written_slot, committed}
use Rattle.overlay_net.specs.hazard_core.Changes.{IsRightCommit}
use Rattle.hash_net.specs.array_net.declared.words.WordNets.{WordNets}
use Rattle.hash_net.specs.array_net.declared.block.MapNets.{MapNets}
use Rattle.hash_net.specs.array_net.Words.{HaveWidths, AreThere}
use Rattle.hash_net.specs.array_net.Array.{AsksArray}
use Rattle.hash_net.specs.declared.block.HashNets.{HashNets}
use Rattle.hash_net.specs.HashNets.{key_nets}
use Rattle.hash_net.specs.Hash.{HaveHashWidths, AreNets, AsksHash}
use Rattle.overlay_net.specs.cell_nets.Operands.{AreFit, AreDeclared, IsNetOf}
use Rattle.overlay_net.specs.cell_nets.OperandBlocks.Wiring.{IsWiring}
use Rattle.commit_net.specs.declared.choosing.CommitNets.{CommitNets}
use Rattle.commit_net.specs.Choosing.{all_read, Commits}
use Rattle.commit_net.specs.Wiring.{outside_of, ShowsValue}

-- ---- the slot that the operation at site j writes: the table, what stands in it before, and what after
abbrev pub table_of : ProgramView → TableState → ℕ → List Slot
table_of p t j = table_at t (site_at p.sites j).map

abbrev pub slot_before : ProgramView → TableState → List ℕ → StageValues → ℕ → Slot
slot_before p t taken h j = slot_at (table_of p t j) (written_slot p t taken h j)

abbrev pub slot_after : ProgramView → TableState → List ℕ → StageValues → ℕ → Slot
slot_after p t taken h j = slot_at (table_of p (committed p t taken h j) j) (written_slot p t taken h j)

-- It is one of the table of a map of this declaration, whose slots have keys and values of the declared lengths, and there is a value of bytes. The operation fits its map.
pub record WritesSlot (p : ProgramView) (t : TableState) (taken : List ℕ) (h : StageValues) (j : ℕ) (d : MapDecl) : Type 0 where
  pub declared : decl_of t.decls (site_at p.sites j).map ≡ d
  pub fits : FitsMap t.decls (site_at p.sites j)
  pub shaped : AreShaped t
  pub right : IsRightCommit p t taken h j
  pub value : IsBytes d.value (slot_before p t taken h j).value

-- ---- the part of the slot, which a part that reads the words there may read
pub record IsSlotPart {P : Type 0} (part : P) (bits : ℕ) (ns : List (CommitNets (Name P))) (slot : Name P) (b : BlockTree (Name P)) : Type 0 where
  pub wiring : IsWiring part (all_read ns) b
  pub width : (w : Whole P) → w.block part ≡ b → AreDeclared (names_scope w port_list) (all_read ns) → name_width w port_list slot ≡ bits
  pub before : (w : Whole P) (earlier : List P) (later : P) → w.block part ≡ b → Among part earlier → ((n : Name P) → IsNetOf (all_read ns) n → IsBefore w earlier later 0 n) → IsBefore w earlier later 0 slot
  pub there : (w : Whole P) → Among part w.parts → ((n : Name P) → IsNetOf (all_read ns) n → IsThere w n) → IsThere w slot
  pub shows : (v : Env (Name P)) (p : ProgramView) (t : TableState) (taken : List ℕ) (h : StageValues) (j : ℕ) → AreFit v (all_read ns) → Solve v part 0 b.wires → Commits v p t taken h j ns → written_slot p t taken h j < 2 ^ bits
      → v.net slot ≡ word bits (written_slot p t taken h j)

-- ---- the part of the words, by the words that stand in the slot
-- Of a hash: what is given has its widths and stands before later parts, and asks in the clock of a commit that the slot becomes what it is after that.
pub record IsHashCommit {P : Type 0} (part : P) (d : MapDecl) (bits : ℕ) (ns : List (CommitNets (Name P))) (words : List (Name P)) (nets : HashNets (Name P)) (keys : List (Name P)) (values : List (WordNets (Name P))) (b : BlockTree (Name P)) : Type 0 where
  pub wiring : IsWiring part (outside_of ns words) b
  pub key_count : length keys ≡ word_count d.key
  pub value_count : length values ≡ word_count d.value
  pub widths :
      (w : Whole P) → w.block part ≡ b → AreDeclared (names_scope w port_list) (outside_of ns words) → name_width w port_list nets.map.commits ≡ 1 → name_width w port_list nets.map.slot ≡ bits → name_width w port_list nets.map.writes ≡ 1
      → name_width w port_list nets.idle ≡ 1 → HaveHashWidths w d bits nets keys values
  pub before :
      (w : Whole P) (earlier : List P) (later : P) → w.block part ≡ b → Among part earlier → ((n : Name P) → IsNetOf (outside_of ns words) n → IsBefore w earlier later 0 n) → IsBefore w earlier later 0 nets.map.commits → IsBefore w earlier later 0 nets.map.slot
      → IsBefore w earlier later 0 nets.map.writes → IsBefore w earlier later 0 nets.idle → AreNets (IsBefore w earlier later 0) nets
  pub there :
      (w : Whole P) → Among part w.parts → ((n : Name P) → IsNetOf (outside_of ns words) n → IsThere w n)
      → (IsThere w nets.inserts × IsThere w nets.deletes) × AreThere (IsThere w) (map_list (key_nets nets.inserts) keys) × AreThere (IsThere w) values
  pub asks : (v : Env (Name P)) (p : ProgramView) (t : TableState) (taken : List ℕ) (h : StageValues) (j : ℕ) → AreFit v (outside_of ns words) → Solve v part 0 b.wires → Commits v p t taken h j ns → WritesSlot p t taken h j d
      → ShowsValue v words (slot_before p t taken h j).value → v.net nets.map.commits ≡ bit true → v.net nets.map.writes ≡ bit false → v.net nets.map.slot ≡ word bits (written_slot p t taken h j)
      → AsksHash d bits nets keys values v (written_slot p t taken h j) (slot_before p t taken h j) (slot_after p t taken h j)

-- Of an array, whose slots keep their keys and stay used.
pub record IsArrayCommit {P : Type 0} (part : P) (d : MapDecl) (ns : List (CommitNets (Name P))) (words : List (Name P)) (values : List (WordNets (Name P))) (b : BlockTree (Name P)) : Type 0 where
  pub wiring : IsWiring part (outside_of ns words) b
  pub value_count : length values ≡ word_count d.value
  pub widths : (w : Whole P) → w.block part ≡ b → AreDeclared (names_scope w port_list) (outside_of ns words) → HaveWidths (names_scope w port_list) d.value 0 values
  pub there : (w : Whole P) → Among part w.parts → ((n : Name P) → IsNetOf (outside_of ns words) n → IsThere w n) → AreThere (IsThere w) values
  pub asks : (v : Env (Name P)) (p : ProgramView) (t : TableState) (taken : List ℕ) (h : StageValues) (j bits : ℕ) (nets : MapNets (Name P)) → AreFit v (outside_of ns words) → Solve v part 0 b.wires → Commits v p t taken h j ns → WritesSlot p t taken h j d
      → ShowsValue v words (slot_before p t taken h j).value → v.net nets.commits ≡ bit true → v.net nets.writes ≡ bit false → v.net nets.slot ≡ word bits (written_slot p t taken h j)
      → AsksArray d bits nets values v (table_of p t j) (written_slot p t taken h j) (slot_after p t taken h j).value
