-- Which cells read the sites of a program, and what these reads wait for.
use Rattle.std.specs.Prelude.{ℕ, ◌≡◌, ◌≢◌, ◌*◌, ◌<◌, ◌≤◌, ◌⊎◌, ◌++◌, true, Option, Some, List, length, get_or, take, drop, Contains}
use Rattle.cell_core.specs.xdp_maps.declared.decl.MapDecl.{MapDecl}
use Rattle.cell_core.specs.xdp_maps.Calls.{change_bytes}
use Rattle.cell_core.specs.xdp_maps.State.{no_decl}
use Rattle.cell_core.specs.xdp_machine.Memory.{bytes_in}
use Rattle.cell_core.specs.xdp_machine.State.{PacketIn}
use Rattle.cell_core.specs.declared.operator.Operator.TheVariants.{Found, Answer}
use Rattle.cell_core.specs.declared.site.Act.{Act}
use Rattle.cell_core.specs.declared.site.Act.TheVariants as act
use Rattle.cell_core.specs.Acts.{finds_key, reads, asks, says_done, pointer_operand}
use Rattle.cell_core.specs.Cells.{CellView, IsRun, cell_at, site_in, is_heavy, on}
use Rattle.cell_core.specs.Sites.{SiteView, ProgramView, site_at, records}
use Rattle.cell_core.specs.Rows.{AreRows, greatest, taken_by}
use Rattle.operator_cells.specs.HeldCells.Aligned.{IsAligned}

-- ---- the cells that read a site

-- how many bits of what an operation answers a cell has: of a number in an entry its own, of what a helper answers 64
abbrev pub answer_bits : Act → ℕ
answer_bits (act.Load at size) = 8 * bytes_in size
answer_bits (act.Atomic at a) = 8 * change_bytes a.wide
answer_bits a = 64

-- The cells among these that read site number j.
pub record SiteIsRead (decls : List MapDecl) (cells : List CellView) (j : ℕ) (s : SiteView) : Type 0 where
  -- if the packet asks whether its key is there, one says so
  pub found : asks s.act (get_or decls s.map no_decl).kind ≡ true → (c : ℕ) × (c < length cells) × ((cell_at cells c).op ≡ Found j)
  -- if it may fail, one has all 64 bits of what it answered
  pub tells : says_done s.act (get_or decls s.map no_decl).kind ≡ true → (c : ℕ) × (c < length cells) × ((cell_at cells c).op ≡ Answer j) × ((cell_at cells c).width ≡ 64) × ((cell_at cells c).from ≡ 0)
  -- no two read the same
  pub one : (c d : ℕ) → c < length cells → d < length cells → site_in (cell_at cells c).op ≡ Some j → (cell_at cells d).op ≡ (cell_at cells c).op → c ≡ d
  -- only of what looks for a key one says whether it is there, and only what reads answers
  pub finds : (c : ℕ) → c < length cells → (cell_at cells c).op ≡ Found j → finds_key s.act ≡ true
  pub answers : (c : ℕ) → c < length cells → (cell_at cells c).op ≡ Answer j → reads s.act ≡ true
  -- each takes the site's key, and of an update the flags, of an access the pointer; all take the same
  pub takes : (c x : ℕ) → c < length cells → site_in (cell_at cells c).op ≡ Some j → Contains (s.key ++ take 1 (drop (pointer_operand s.act) s.operands)) x → Contains (cell_at cells c).ins x
  pub alike : (c d : ℕ) → c < length cells → d < length cells → site_in (cell_at cells c).op ≡ Some j → site_in (cell_at cells d).op ≡ Some j → (cell_at cells c).ins ≡ (cell_at cells d).ins
  -- one that says whether the key is there has one bit, one that answers those of the answer, both the low ones
  pub found_bits : (c : ℕ) → c < length cells → (cell_at cells c).op ≡ Found j → ((cell_at cells c).width ≡ 1) × ((cell_at cells c).from ≡ 0)
  pub answered_bits : (c : ℕ) → c < length cells → (cell_at cells c).op ≡ Answer j → ((cell_at cells c).width ≡ answer_bits s.act) × ((cell_at cells c).from ≡ 0)
  -- and of an access these are the bits of a number at a multiple of its bytes
  pub aligned : IsAligned s.act

-- The reads of the sites of a program on its maps: so of each site, and they stand in the order of their sites.
pub record ReadsAreMade (decls : List MapDecl) (p : ProgramView) : Type 0 where
  pub each : (j : ℕ) → j < length p.sites → SiteIsRead decls p.cells j (site_at p.sites j)
  pub ordered : (c d i j : ℕ) → c < length p.cells → d < length p.cells → site_in (cell_at p.cells d).op ≡ Some i → site_in (cell_at p.cells c).op ≡ Some j → i < j → d < c

-- What an operation adds to read its site, that of this number and map, which no cell did before; each of its reads takes the cell that stood
-- for what is pending of the map.
pub record OperationReads (decls : List MapDecl) (map : Option ℕ) (pending : ℕ) (old new : List CellView) (j : ℕ) (s : SiteView) : Type 0 where
  pub map_is : map ≡ Some s.map
  pub read : ((d : ℕ) → d < length old → site_in (cell_at old d).op ≢ Some j) → SiteIsRead decls new j s
  pub pends : (c : ℕ) → length old ≤ c → c < length new → site_in (cell_at new c).op ≡ Some j → Contains (cell_at new c).ins pending

-- ---- what reads wait for

-- ranks of cells: none is below that of an input
pub record AreRanks (cells : List CellView) (rank : ℕ → ℕ) : Type 0 where
  pub each : (k : ℕ) → k < length cells → greatest rank (cell_at cells k).ins ≤ rank k

-- Cell c waits for cell x, which is one of its inputs, or one of theirs, and so on: in all ranks it is no higher than the highest input of c.
abbrev pub IsBehind : List CellView → ℕ → ℕ → Type 0
IsBehind cells c x = (rank : ℕ → ℕ) → AreRanks cells rank → rank x ≤ greatest rank (cell_at cells c).ins

-- a cell that site number i takes, or that reads it
abbrev pub BelongsTo : List CellView → ℕ → SiteView → ℕ → Type 0
BelongsTo cells i s x = Contains (taken_by s) x ⊎ ((x < length cells) × (site_in (cell_at cells x).op ≡ Some i))

-- Of two sites of one map on one path, whatever values stand for reads: where the earlier may write, each read of the later waits for all that the
-- earlier takes, and for its reads.
pub record ReadsWait (p : ProgramView) : Type 0 where
  pub waits : (packet : PacketIn) (v : ℕ → ℕ) → IsRun packet p.cells v → (c i j : ℕ) → c < length p.cells → site_in (cell_at p.cells c).op ≡ Some j → i < j
      → (site_at p.sites i).map ≡ (site_at p.sites j).map → records (site_at p.sites i).act ≡ true → on (v (site_at p.sites i).guard) ≡ true → on (v (site_at p.sites j).guard) ≡ true
      → (x : ℕ) → BelongsTo p.cells i (site_at p.sites i) x → IsBehind p.cells c x

-- No cell stands in an earlier row than one for which it waits, and in a later one if it is heavy, as reads are.
abbrev pub RowsStandBehind : Type 0
RowsStandBehind =
    (cells : List CellView) (row : ℕ → ℕ) (c x : ℕ) → AreRows cells row → c < length cells → IsBehind cells c x → (row x ≤ row c) × (is_heavy (cell_at cells c).op ≡ true → row x < row c)
