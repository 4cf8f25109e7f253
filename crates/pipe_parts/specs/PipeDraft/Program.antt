-- The programs for which a pipeline is made.
use Rattle.std.specs.Prelude.{◌≡◌, ℕ, ◌+◌, ◌^◌, ◌<◌, ◌≤◌, Some, List, length, slice_index, All, Contains}
use Rattle.hazard_core.specs.xdp_maps.declared.decl.MapDecl.{MapDecl}
use Rattle.hazard_core.specs.xdp_maps.Contents.{IsWithinLimits}
use Rattle.hazard_core.specs.cell_core.declared.program.FrameByte.{FrameByte}
use Rattle.hazard_core.specs.cell_core.Cells.{cell_at, site_in}
use Rattle.hazard_core.specs.cell_core.Formed.{AreFormed, AllFit}
use Rattle.hazard_core.specs.cell_core.Sites.{ProgramView, site_at}
use Rattle.row_plan.specs.Plan.{Plan, IsPlan}
use Rattle.overlay_net.specs.ValueNet.Words.{IsAligned}
use Rattle.read_net.specs.pipe_core.Machine.{Build}
use Rattle.stage_net.specs.Staged.{IsReadCell}
use Rattle.pipe_net.specs.Layout.{HasAnswer}

-- the rows of a plan, for the machine of the pipe; there is room for a frame in each place, and for three that come, wait or go
abbrev pub build_of : ProgramView → Plan → Build
build_of p plan = record {
  program = p;
  plan = record { row = slice_index plan.rows; commit = plan.commit; last = plan.last };
  slots = plan.last + 4;
}

-- A program with its plan, and its maps. Its cells are formed and have rows up to the last, and packets commit in one of these; what it answers has the widths of an
-- answer, and is there in the last row. Its sites fit the maps, accesses are aligned, and each cell that reads a site is the one that reads this of it. There are at most sixteen
-- maps, within their limits.
pub record IsForPipe (p : ProgramView) (plan : Plan) (decls : List MapDecl) : Type 0 where
  pub few : length p.cells < 2 ^ 32
  pub formed : AreFormed p.cells
  pub planned : IsPlan p plan
  pub rows : (k : ℕ) → k < length p.cells → slice_index plan.rows k ≤ plan.last
  pub commit : plan.commit ≤ plan.last
  pub answer : HasAnswer (build_of p plan)
  pub changed : (x : FrameByte) → Contains p.frame x → x.at < 256
  pub maps : length decls ≤ 16
  pub limits : All IsWithinLimits decls
  pub fits : AllFit decls p.sites
  pub aligned : (j : ℕ) → j < length p.sites → IsAligned (site_at p.sites j).act
  pub reads : (c j : ℕ) → c < length p.cells → site_in (cell_at p.cells c).op ≡ Some j → IsReadCell p (slice_index plan.rows) c j
