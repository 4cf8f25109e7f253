-- What a commit leaves of the tables, and what the block of its map then stores.
use Rattle.std.specs.Prelude.{◌≡◌, ◌≢◌, ℕ, ◌^◌, ◌≤◌, true, false, List, slice_set}
use Rattle.net_core.specs.Value.{bit, Env}
use Rattle.net_core.specs.Clock.{Stored, done}
use Rattle.block_core.specs.declared.name.Name.{Name}
use Rattle.block_core.specs.Blocks.{BlockTree}
use Rattle.block_core.specs.Parts.{Solve}
use Rattle.overlay_net.specs.xdp_maps.declared.decl.MapDecl.{MapDecl}
use Rattle.overlay_net.specs.xdp_maps.declared.decl.MapKind.TheVariants.{Array}
use Rattle.overlay_net.specs.cell_core.Sites.{ProgramView, site_at}
use Rattle.overlay_net.specs.hazard_core.Tables.{TableState, decl_of, table_at}
use Rattle.overlay_net.specs.hazard_core.StageValues.{StageValues, writes}
use Rattle.overlay_net.specs.hazard_core.Commits.{word_count, written_slot, committed}
use Rattle.overlay_net.specs.hazard_core.Changes.{IsRightCommit}
use Rattle.hash_net.specs.array_net.declared.words.WordNets.{WordNets}
use Rattle.hash_net.specs.array_net.declared.block.MapNets.{MapNets}
use Rattle.hash_net.specs.array_net.Hosts.{SeesMemories}
use Rattle.hash_net.specs.array_net.Array.{with_value, StoresArray, IsArray}
use Rattle.hash_net.specs.declared.block.HashNets.{HashNets}
use Rattle.hash_net.specs.HashNets.{value_first}
use Rattle.hash_net.specs.Hash.{StoresHash, SeesOwn, IsHash}
use Rattle.overlay_net.specs.cell_nets.Operands.{AreFit}
use Rattle.commit_net.specs.declared.choosing.CommitNets.{CommitNets}
use Rattle.commit_net.specs.Choosing.{all_read, Commits}
use Rattle.commit_net.specs.Fetching.{fetched_words, IsFetch}
use Rattle.commit_net.specs.Wholes.{table_of, slot_after, WritesSlot, IsSlotPart, IsHashCommit, IsArrayCommit}

-- the tables differ in one slot of the map of site j
pub record WritesOne (p : ProgramView) (t : TableState) (taken : List ℕ) (h : StageValues) (j : ℕ) : Type 0 where
  pub decls : (committed p t taken h j).decls ≡ t.decls
  pub table : table_of p (committed p t taken h j) j ≡ slice_set (table_of p t j) (written_slot p t taken h j) (slot_after p t taken h j)
  pub others : (m : ℕ) → m ≢ (site_at p.sites j).map → table_at (committed p t taken h j) m ≡ table_at t m

-- A commit changes one slot of one table.
abbrev pub CommitsOneSlot : Type 0
CommitsOneSlot = (p : ProgramView) (t : TableState) (taken : List ℕ) (h : StageValues) (j : ℕ) → IsRightCommit p t taken h j → WritesOne p t taken h j

-- Of an array it changes the value alone.
abbrev pub CommitsOneValue : Type 0
CommitsOneValue =
    (p : ProgramView) (t : TableState) (taken : List ℕ) (h : StageValues) (j : ℕ) → IsRightCommit p t taken h j → (decl_of t.decls (site_at p.sites j).map).kind ≡ Array → writes p t.decls h j ≡ true
    → table_of p (committed p t taken h j) j ≡ with_value (table_of p t j) (written_slot p t taken h j) (slot_after p t taken h j).value

-- ---- a commit through its parts: one gives the slot, one after it the words there, and one after this what the block of the map is asked
-- What stands for the operations has its widths, and one of them commits, on tables as they are; so say the nets of control.
pub record IsCommit {P : Type 0} (v : Env (Name P)) (p : ProgramView) (t : TableState) (taken : List ℕ) (h : StageValues) (j : ℕ) (d : MapDecl) (ns : List (CommitNets (Name P))) (nets : MapNets (Name P)) : Type 0 where
  pub fit : AreFit v (all_read ns)
  pub operation : Commits v p t taken h j ns
  pub slot : WritesSlot p t taken h j d
  pub commits : v.net nets.commits ≡ bit true
  pub silent : v.net nets.writes ≡ bit false

-- The block of a hash stores after that the table that the commit leaves.
abbrev pub HashStores : (P : Type 0) → Type 0
HashStores P =
    (finder fetcher asker part : P) (map : ℕ) (d : MapDecl) (bits : ℕ) (ns : List (CommitNets (Name P))) (nets : HashNets (Name P)) (keys : List (Name P)) (values : List (WordNets (Name P))) (finds fetches asks b : BlockTree (Name P)) → d.cap ≤ 2 ^ bits
    → IsSlotPart finder bits ns nets.map.slot finds → IsFetch fetcher part bits (value_first d) d.value 0 (word_count d.value) nets.map.slot fetches → IsHashCommit asker d bits ns (fetched_words fetcher (word_count d.value)) nets keys values asks → IsHash part map d bits nets keys values b
    → (v : Env (Name P)) (s : Stored) (p : ProgramView) (t : TableState) (taken : List ℕ) (h : StageValues) (j : ℕ) → Solve v finder 0 finds.wires → Solve v fetcher 0 fetches.wires → Solve v asker 0 asks.wires → Solve v part 0 b.wires → SeesOwn part v s → StoresHash d bits (table_of p t j) s
    → IsCommit v p t taken h j d ns nets.map → StoresHash d bits (table_of p (committed p t taken h j) j) (done v b.statement s)

-- So does that of an array, of an operation that writes.
abbrev pub ArrayStores : (P : Type 0) → Type 0
ArrayStores P =
    (finder fetcher asker part : P) (map : ℕ) (d : MapDecl) (bits : ℕ) (ns : List (CommitNets (Name P))) (nets : MapNets (Name P)) (values : List (WordNets (Name P))) (finds fetches asks b : BlockTree (Name P)) → d.kind ≡ Array → d.cap ≤ 2 ^ bits → IsSlotPart finder bits ns nets.slot finds
    → IsFetch fetcher part bits 0 d.value 0 (word_count d.value) nets.slot fetches → IsArrayCommit asker d ns (fetched_words fetcher (word_count d.value)) values asks → IsArray part map d bits nets values b → (v : Env (Name P)) (s : Stored) (p : ProgramView) (t : TableState) (taken : List ℕ) (h : StageValues) (j : ℕ)
    → Solve v finder 0 finds.wires → Solve v fetcher 0 fetches.wires → Solve v asker 0 asks.wires → Solve v part 0 b.wires → SeesMemories part v s → StoresArray d bits (table_of p t j) s → writes p t.decls h j ≡ true → IsCommit v p t taken h j d ns nets
    → StoresArray d bits (table_of p (committed p t taken h j) j) (done v b.statement s)
