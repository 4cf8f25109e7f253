-- What the packets hold of reads: what the read finds on the maps as they are now, unless it is marked or known to be off the path.
use Rattle.std.specs.Prelude.{◌≡◌, ℕ, suc, ◌<◌, ◌^◌, nat_lt, Bool, true, false, not, ◌&&◌, ◌||◌, Option, Some, None, List, length}
use Rattle.hazard_core.specs.xdp_maps.declared.decl.MapDecl.{MapDecl}
use Rattle.hazard_core.specs.xdp_maps.declared.decl.MapKind.TheVariants.{Hash}
use Rattle.hazard_core.specs.xdp_machine.State.{PacketIn}
use Rattle.hazard_core.specs.cell_core.declared.operator.Operator.TheVariants.{Found, Answer}
use Rattle.hazard_core.specs.cell_core.declared.site.Act.TheVariants as act
use Rattle.hazard_core.specs.cell_core.Cells.{cell_at, bits_from, site_in, is_read}
use Rattle.hazard_core.specs.cell_core.Sites.{SiteView, site_at}
use Rattle.hazard_core.specs.declared.slot.Slot.{Slot}
use Rattle.hazard_core.specs.Tables.{TableState, decl_of}
use Rattle.hazard_core.specs.StageValues.{StageValues, stage_value, pointer_in, guard_on, found_cell}
use Rattle.hazard_core.specs.Rows.{cell_number, cell_pointer}
use Rattle.hazard_core.specs.declared.change.Change.{Change}
use Rattle.hazard_core.specs.Changes.{IsChange, with_tables, finds_key, reads}
use Rattle.hazard_core.specs.Keeping.{LooksBelow}
use Rattle.realization.specs.beat_core.Ports.{Arrival}
use Rattle.pipe_core.specs.Machine.{Packet, Build, packet_of, marked_at, entered, marked_by}
use Rattle.pipe_core.specs.Computed.{IsPlanned}

-- The reads of a site stand in one row, after all that they take. Only what looks for a key says whether it is there, and only what reads
-- answers.
pub record ReadsArePlanned (b : Build) : Type 0 where
  pub planned : IsPlanned b
  pub sites : (c j : ℕ) → c < length b.program.cells → site_in (cell_at b.program.cells c).op ≡ Some j → j < length b.program.sites
  pub below : (c j : ℕ) → c < length b.program.cells → site_in (cell_at b.program.cells c).op ≡ Some j → LooksBelow b.plan.row (b.plan.row c) (site_at b.program.sites j)
  pub together : (c d j : ℕ) → c < length b.program.cells → d < length b.program.cells → site_in (cell_at b.program.cells c).op ≡ Some j → site_in (cell_at b.program.cells d).op ≡ Some j → b.plan.row c ≡ b.plan.row d
  pub finds : (c j : ℕ) → c < length b.program.cells → (cell_at b.program.cells c).op ≡ Found j → finds_key (site_at b.program.sites j).act ≡ true
  pub answers : (c j : ℕ) → c < length b.program.cells → (cell_at b.program.cells c).op ≡ Answer j → reads (site_at b.program.sites j).act ≡ true

-- with maps of these declarations an update of a hash has a cell that says whether its key is there
abbrev pub UpdatesFind : List MapDecl → Build → Type 0
UpdatesFind decls b = (j : ℕ) → j < length b.program.sites → (site_at b.program.sites j).act ≡ act.Update → (decl_of decls (site_at b.program.sites j).map).kind ≡ Hash → found_cell b.program.cells j < length b.program.cells

-- a cell is as it would be made on these tables from what the packet holds
pub record IsMade (b : Build) (t : TableState) (packet : PacketIn) (h : StageValues) (c : ℕ) : Type 0 where
  pub value : stage_value h c
      ≡ bits_from (cell_number b.program b.plan.row (b.plan.row c) t packet h (cell_at b.program.cells c) (cell_at b.program.cells c).op) (cell_at b.program.cells c).from (cell_at b.program.cells c).width
  pub pointer : pointer_in h c ≡ cell_pointer b.program b.plan.row (b.plan.row c) t h (cell_at b.program.cells c) (cell_at b.program.cells c).op

-- in a packet that holds the rows below r
abbrev pub off_below : (ℕ → ℕ) → ℕ → StageValues → SiteView → Bool
off_below row r h s = nat_lt (row s.guard) r && not (guard_on h s)

abbrev pub excused_as : Build → ℕ → Packet → Option ℕ → Bool
excused_as b r x None = false
excused_as b r x (Some j) = marked_at x j || off_below b.plan.row r x.held (site_at b.program.sites j)

-- reads of the rows below r fit their cells
abbrev pub ReadsFit : Build → ℕ → StageValues → Type 0
ReadsFit b r h = (c : ℕ) → c < length b.program.cells → b.plan.row c < r → is_read (cell_at b.program.cells c).op ≡ true → stage_value h c < 2 ^ (cell_at b.program.cells c).width

-- Each cell of the rows below r is as it would be made now, but for reads that are marked or off the path; and those fit their cells.
pub record Agrees (b : Build) (t : TableState) (packet : PacketIn) (r : ℕ) (x : Packet) : Type 0 where
  pub values : length x.held.values ≡ length b.program.cells
  pub pointers : length x.held.pointers ≡ length b.program.cells
  pub fit : ReadsFit b r x.held
  pub each : (c : ℕ) → c < length b.program.cells → b.plan.row c < r → excused_as b r x (site_in (cell_at b.program.cells c).op) ≡ false → IsMade b t packet x.held c

-- A packet that takes in a row agrees with the maps as it did before.
abbrev pub EnteringAgrees : Type 0
EnteringAgrees =
    (b : Build) → ReadsArePlanned b → (t : TableState) (c : Arrival) (k : ℕ) (x : Packet) → Agrees b t (packet_of c) k x → Agrees b t (packet_of c) (suc k) (entered b t k c x)

-- So does one that a change may mark.
abbrev pub MarkingAgrees : Type 0
MarkingAgrees =
    (b : Build) → ReadsArePlanned b → (t : TableState) (ts : List (List Slot)) (e : Change) (packet : PacketIn) (k : ℕ) (x : Packet) → UpdatesFind t.decls b → IsChange t e ts → Agrees b t packet (suc k) x
    → Agrees b (with_tables t ts) packet (suc k) (marked_by b t k e x)
