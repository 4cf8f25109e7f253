-- The parts of a map: what they are, and what a clock of them does.
use Rattle.std.specs.Prelude.{◌≡◌, ℕ, ◌+◌, ◌^◌, ◌<◌, ◌≤◌, Bool, true, false, List, [], ◌∷◌}
use Rattle.std.proofs.Common.{get_or}
use Rattle.net_core.specs.Nets.{Tree}
use Rattle.net_core.specs.Ports.{port_list}
use Rattle.net_core.specs.Value.{word, bit, Env, value}
use Rattle.net_core.specs.Clock.{Stored, done}
use Rattle.net_core.specs.Width.{width_of}
use Rattle.block_core.specs.design_rules.FormedSyntax.{depth, prefixes_apart}
use Rattle.net_core.specs.ProductRules.Products.{is_flat}
use Rattle.block_core.specs.declared.name.Name.{Name}
use Rattle.block_core.specs.Blocks.{BlockTree, first_of, Whole, Among}
use Rattle.block_core.specs.Parts.{Goes}
use Rattle.block_core.specs.Order.{Reads, IsBefore, AllInOrder}
use Rattle.block_core.specs.Formed.{names_scope, name_width, block_registers, block_memories, IsTypedBlock, StatementReads, IsThere}
use Rattle.overlay_net.specs.xdp_maps.declared.decl.MapKind.TheVariants.{Hash}
use Rattle.overlay_net.specs.cell_core.Sites.{ProgramView}
use Rattle.overlay_net.specs.hazard_core.declared.slot.Slot.{Slot}
use Rattle.overlay_net.specs.hazard_core.declared.access.Access.{Access}
use Rattle.overlay_net.specs.hazard_core.Tables.{TableState, table_at, slot_at, used_count}
use Rattle.overlay_net.specs.hazard_core.StageValues.{StageValues, writes}
use Rattle.overlay_net.specs.hazard_core.Commits.{word_count, word_at as byte_word, written_slot, committed}
use Rattle.hash_net.specs.array_net.Words.{word_width}
use Rattle.hash_net.specs.array_net.WordTrees.{word_shown}
use Rattle.hash_net.specs.array_net.Hosts.{SeesHost}
use Rattle.hash_net.specs.Hash.{count_name}
use Rattle.hash_net.specs.HashNets.{hash_memories}
use Rattle.overlay_net.specs.cell_nets.Operands.{AreFit, AreDeclared, IsNetOf}
use Rattle.commit_net.specs.declared.choosing.CommitNets.{CommitNets}
use Rattle.commit_net.specs.Choosing.{all_read, Commits}
use Rattle.commit_net.specs.Fetching.{fetched_words}
use Rattle.commit_net.specs.Wiring.{outside_of}
use Rattle.commit_net.specs.Wholes.{table_of}
use Rattle.commit_net.specs.Laws.{IsCommit}
use Rattle.commit_net.specs.declared.map_block.form.MapForm.{MapForm}
use Rattle.commit_net.specs.declared.map_block.parts.MapParts.{MapParts}
use Rattle.commit_net.specs.declared.map_block.parts.ControlNets.{ControlNets}
use Rattle.commit_net.specs.MapBlock.Parts.{MapTrees, in_order, Each, AreParts, SolveAll, IsText, IsIdle, OfControl, HaveOneBit, with_slot_net}
use Rattle.commit_net.specs.MapBlock.Stored.{StoresMap, IsFirst, SeesStored, first_value, host_may, host_word, IsMapOf, after_write, may_here, shown_here}

-- The tree that says whether the host may write the word that it names: of one bit, over ports, the map's memories and whether no packet is inside.
pub record IsMayTree {P : Type 0} (ps : MapParts P) (c : ControlNets (Name P)) (bs : MapTrees (Name P)) (t : Tree (Name P)) : Type 0 where
  pub typed : (w : Whole P) → AreParts w ps bs → name_width w port_list c.idle ≡ 1 → width_of (names_scope w port_list) t ≡ 1
  pub reads : (w : Whole P) (before : List P) (p : P) (at : ℕ) → Among ps.own w.parts → IsBefore w before p at c.idle → Reads (IsBefore w before p at) t
  pub low : depth t ≤ 5
  pub apart : prefixes_apart t ≡ true
  pub flat : (made : Name P → Bool) → is_flat made t ≡ true

-- What the last part stores, which parts after may read: words of values, in memories from one on; and of a hash its table, and how many slots are used.
pub record IsOwnPart {N : Type 0} (f : MapForm) (b : BlockTree N) : Type 0 where
  pub values : (j : ℕ) → j < word_count f.decl.value → get_or (block_memories b) (first_value f.decl + j) (0, 0) ≡ (f.bits, word_width f.decl.value j)
  pub counter : f.decl.kind ≡ Hash → block_registers b ≡ (f.bits + 1) ∷ []
  pub table : f.decl.kind ≡ Hash → block_memories b ≡ hash_memories f.bits f.decl

-- The blocks stand as they are said to be, over the nets of control and what stands for the operations: the parts before the last store nothing, and
-- all are well typed, in order and spelled where what they read of other parts is declared and stands before them.
pub record AreFormed {P : Type 0} (f : MapForm) (ps : MapParts P) (c : ControlNets (Name P)) (ns : List (CommitNets (Name P))) (bs : MapTrees (Name P)) : Type 0 where
  pub finds_idle : IsIdle bs.finds
  pub fetches_idle : IsIdle bs.fetches
  pub asks_idle : IsIdle bs.asks
  pub typed : (w : Whole P) → AreParts w ps bs → AreDeclared (names_scope w port_list) (all_read ns) → HaveOneBit w c → Each (λ p b. IsTypedBlock w port_list b) ps bs
  pub ordered : (w : Whole P) (before : List P) → AreParts w ps bs → ((n : Name P) → IsNetOf (all_read ns) n → IsBefore w before ps.finder 0 n) → OfControl (IsBefore w before ps.finder 0) c → AllInOrder w before (in_order ps)
  pub reads : (w : Whole P) → AreParts w ps bs → ((n : Name P) → IsNetOf (all_read ns) n → IsThere w n) → OfControl (IsThere w) c → Each (λ p b. StatementReads (IsThere w) b.statement) ps bs
  pub texts : Each (λ p b. IsText b) ps bs
  pub goes : (v : Env (Name P)) → AreFit v (outside_of ns (fetched_words ps.fetcher (word_count f.decl.value))) → SolveAll v ps bs → Each (λ p b. Goes v b.wires) ps bs
  -- what these parts read besides is the words that the second one fetches: it is declared and there where what stands for the operations is
  pub declared : (w : Whole P) → AreParts w ps bs → AreDeclared (names_scope w port_list) (all_read ns) → AreDeclared (names_scope w port_list) (outside_of ns (fetched_words ps.fetcher (word_count f.decl.value)))
  pub there : (w : Whole P) → AreParts w ps bs → ((n : Name P) → IsNetOf (all_read ns) n → IsThere w n) → (n : Name P) → IsNetOf (outside_of ns (fetched_words ps.fetcher (word_count f.decl.value))) n → IsThere w n
  pub own : IsOwnPart f bs.stores
  -- the width of what the host reads
  pub shown : (w : Whole P) → AreParts w ps bs → name_width w port_list (host_word f ps.own) ≡ 64
  pub may : IsMayTree ps c bs (host_may f ps.own c.idle)
  -- the slot that is written, which parts after may read
  pub slot_width : (w : Whole P) → AreParts w ps bs → AreDeclared (names_scope w port_list) (all_read ns) → name_width w port_list bs.slot ≡ f.bits
  pub slot_before : (w : Whole P) (earlier : List P) (later : P) → AreParts w ps bs → Among ps.finder earlier → ((n : Name P) → IsNetOf (all_read ns) n → IsBefore w earlier later 0 n) → IsBefore w earlier later 0 bs.slot
  pub slot_there : (w : Whole P) → AreParts w ps bs → ((n : Name P) → IsNetOf (all_read ns) n → IsThere w n) → IsThere w bs.slot

-- A clock: the operation that commits, else the write of the host that goes through, and nothing where there is neither. In between, what is shown of
-- the table.
pub record DoesMap {P : Type 0} (f : MapForm) (ps : MapParts P) (c : ControlNets (Name P)) (ns : List (CommitNets (Name P))) (bs : MapTrees (Name P)) : Type 0 where
  pub first : (slots : List Slot) → IsFirst f.decl slots → StoresMap f.decl f.bits slots (first_of bs.stores)
  pub stays : (v : Env (Name P)) (s : Stored) → SolveAll v ps bs → v.net c.commits ≡ bit false → v.net c.writes ≡ bit false → done v bs.stores.statement s ≡ s
  pub commits : (v : Env (Name P)) (s : Stored) (p : ProgramView) (t : TableState) (taken : List ℕ) (h : StageValues) (j : ℕ) → SolveAll v ps bs → SeesStored ps.own v s → StoresMap f.decl f.bits (table_of p t j) s → writes p t.decls h j ≡ true
      → IsCommit v p t taken h j f.decl ns (with_slot_net c bs.slot) → StoresMap f.decl f.bits (table_of p (committed p t taken h j) j) (done v bs.stores.statement s)
  pub finds : (v : Env (Name P)) (p : ProgramView) (t : TableState) (taken : List ℕ) (h : StageValues) (j : ℕ) → AreFit v (all_read ns) → SolveAll v ps bs → Commits v p t taken h j ns → written_slot p t taken h j < 2 ^ f.bits
      → v.net bs.slot ≡ word f.bits (written_slot p t taken h j)
  pub written : (v : Env (Name P)) (s : Stored) (t : TableState) (a : Access) (number : ℕ) (idle : Bool) → SolveAll v ps bs → SeesStored ps.own v s → IsMapOf t f → StoresMap f.decl f.bits (table_at t f.number) s → SeesHost v a number
      → v.net c.commits ≡ bit false → v.net c.writes ≡ bit true → v.net c.idle ≡ bit idle → StoresMap f.decl f.bits (table_at (after_write idle t a number) f.number) (done v bs.stores.statement s)
  pub allows : (v : Env (Name P)) (s : Stored) (t : TableState) (a : Access) (number : ℕ) (idle : Bool) → SolveAll v ps bs → SeesStored ps.own v s → IsMapOf t f → StoresMap f.decl f.bits (table_at t f.number) s → SeesHost v a number
      → v.net c.idle ≡ bit idle → value v (host_may f ps.own c.idle) ≡ bit (may_here f idle t a)
  pub shows : (v : Env (Name P)) (s : Stored) (t : TableState) (a : Access) (number : ℕ) → SolveAll v ps bs → SeesStored ps.own v s → IsMapOf t f → StoresMap f.decl f.bits (table_at t f.number) s → SeesHost v a number
      → v.net (host_word f ps.own) ≡ word 64 (shown_here f t a)
  pub loads : (v : Env (Name P)) (s : Stored) (slots : List Slot) (index : Tree (Name P)) (n j : ℕ) → SeesStored ps.own v s → StoresMap f.decl f.bits slots s → (value v index).value ≡ n → n < f.decl.cap → j < word_count f.decl.value
      → value v (word_shown ps.own (first_value f.decl) f.decl.value j index) ≡ word 64 (byte_word (slot_at slots n).value j)
  pub counts : (v : Env (Name P)) (s : Stored) (slots : List Slot) → f.decl.kind ≡ Hash → SeesStored ps.own v s → StoresMap f.decl f.bits slots s → v.net (count_name ps.own) ≡ word (f.bits + 1) (used_count slots)

pub record IsMapBlock {P : Type 0} (f : MapForm) (ps : MapParts P) (c : ControlNets (Name P)) (ns : List (CommitNets (Name P))) (bs : MapTrees (Name P)) : Type 0 where
  pub formed : AreFormed f ps c ns bs
  pub does : DoesMap f ps c ns bs
