-- Accesses go through pointers into their own maps, whatever a packet holds of its reads.
use Rattle.std.specs.Prelude.{ℕ, suc, ◌≡◌, ◌<◌, true, None, length, slice_index}
use Rattle.xdp_object.specs.xdp_machine.State.{PacketIn}
use Rattle.hazard_core.specs.cell_core.declared.operator.Operator.TheVariants.{Answer}
use Rattle.hazard_core.specs.cell_core.Acts.{is_access, pointer_operand}
use Rattle.hazard_core.specs.cell_core.Cells.{cell_at, site_in}
use Rattle.hazard_core.specs.cell_core.Sites.{ProgramView, site_at, records}
use Rattle.operator_cells.specs.HeldCells.Paths.{GraphView}
use Rattle.operator_cells.specs.HeldCells.Law.{IsLaw}
use Rattle.hazard_core.specs.Tables.{TableState}
use Rattle.hazard_core.specs.StageValues.{StageValues, access_pointer, written_pointer}
use Rattle.hazard_core.specs.TableLaws.Leading.{LeadsInto, FoundsLead}
use Rattle.row_plan.specs.Plan.{Plan, IsPlan}
use Rattle.pipe_runs.specs.pipe_core.Machine.{Build}
use Rattle.pipe_runs.specs.pipe_core.Agreement.{IsMade, ReadsFit}
use Rattle.ehdl_build.specs.ProgramPlan.Pipelinable.{build_of}

-- Of the rows below r a packet holds what the cells that are no reads make of the others; its reads fit their cells, and what it found of keys
-- leads into the maps of their sites. The reads may be wrong, and off the path.
pub record HoldsOwn (b : Build) (t : TableState) (packet : PacketIn) (r : ℕ) (h : StageValues) : Type 0 where
  pub own : (c : ℕ) → c < length b.program.cells → b.plan.row c < r → site_in (cell_at b.program.cells c).op ≡ None → IsMade b t packet h c
  pub fit : ReadsFit b r h
  pub founds : FoundsLead b.program t h

-- Then the pointer of an access leads into the map of its site, if its cell is in these rows:
abbrev pub PointersLead : Type 0
PointersLead =
    (g : GraphView) (p : ProgramView) (plan : Plan) (slots : ℕ) → IsLaw g p → IsPlan p plan → (t : TableState) (packet : PacketIn) (r : ℕ) (h : StageValues) (j : ℕ) → j < length p.sites → is_access (site_at p.sites j).act ≡ true
    → slice_index plan.rows (slice_index (site_at p.sites j).operands (pointer_operand (site_at p.sites j).act)) < r → HoldsOwn (build_of p plan slots) t packet r h
    → LeadsInto p t (site_at p.sites j).map (access_pointer h (site_at p.sites j))

-- of a read of it by the rows below the read,
abbrev pub ReadsLead : Type 0
ReadsLead =
    (g : GraphView) (p : ProgramView) (plan : Plan) (slots : ℕ) → IsLaw g p → IsPlan p plan → (t : TableState) (packet : PacketIn) (h : StageValues) (c j : ℕ) → c < length p.cells → (cell_at p.cells c).op ≡ Answer j
    → is_access (site_at p.sites j).act ≡ true → HoldsOwn (build_of p plan slots) t packet (slice_index plan.rows c) h → LeadsInto p t (site_at p.sites j).map (access_pointer h (site_at p.sites j))

-- and of each by the rows up to the commit place.
abbrev pub SitesLead : Type 0
SitesLead =
    (g : GraphView) (p : ProgramView) (plan : Plan) (slots : ℕ) → IsLaw g p → IsPlan p plan → (t : TableState) (packet : PacketIn) (h : StageValues) (j : ℕ) → j < length p.sites → is_access (site_at p.sites j).act ≡ true
    → HoldsOwn (build_of p plan slots) t packet (suc plan.commit) h → LeadsInto p t (site_at p.sites j).map (access_pointer h (site_at p.sites j))

-- So does the entry that an operation writes.
abbrev pub RecordsLead : Type 0
RecordsLead =
    (g : GraphView) (p : ProgramView) (plan : Plan) (slots : ℕ) → IsLaw g p → IsPlan p plan → (t : TableState) (packet : PacketIn) (h : StageValues) (j : ℕ) → j < length p.sites → records (site_at p.sites j).act ≡ true
    → HoldsOwn (build_of p plan slots) t packet (suc plan.commit) h → LeadsInto p t (site_at p.sites j).map (written_pointer p t h j)
