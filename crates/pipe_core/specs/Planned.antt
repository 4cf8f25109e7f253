-- A program with its plan in memory, and what the code of the pipe asks of them.
use Rattle.std.specs.Prelude.{◌≡◌, ℕ, ◌<◌, ◌≤◌, ◌^◌, Some, length, Contains}
use Rattle.hazard_core.specs.cell_core.declared.program.FrameByte.{FrameByte}
use Rattle.hazard_core.specs.cell_core.Cells.{cell_at, site_in}
use Rattle.hazard_core.specs.cell_core.Sites.{ProgramView}
use Rattle.hazard_core.specs.cell_core.Formed.{AreFormed}
use Rattle.hazard_core.specs.cell_core.View.{program_of}
use Rattle.hazard_core.specs.StageValues.{stage_value}
use Rattle.hazard_core.specs.declared.rows.Source.{Source}
use Rattle.realization.specs.beat_core.Ports.{Arrival}
use Rattle.pipe_core.specs.declared.planned.Planned.{Planned}
use Rattle.pipe_core.specs.Machine.{Build, Packet}
use Rattle.pipe_core.specs.BuildView.{BuildView, build_in}

-- what contracts see of it
abbrev pub planned_view : Planned → BuildView
planned_view p = record { program = program_of p.program.now; rows = p.rows.items; commit = p.commit; last = p.last; slots = p.slots }

-- and what the machine is built for
abbrev pub build_of : Planned → Build
build_of p = build_in (planned_view p)

-- what a packet reads of a frame that came
abbrev pub arrival_of : Source → Arrival
arrival_of s = record { ifindex = s.ifindex; time = s.time; frame = s.frame.now }

-- Cells are well formed, and reads are of sites that there are, few enough to be numbered. The cells of the answer have the widths of an answer.
pub record IsUsable (p : ProgramView) : Type 0 where
  pub formed : AreFormed p.cells
  pub known : (k j : ℕ) → k < length p.cells → site_in (cell_at p.cells k).op ≡ Some j → j < length p.sites
  pub few : length p.sites < 2 ^ 32
  pub verdict : (cell_at p.cells p.verdict).width ≤ 32
  pub target : (cell_at p.cells p.target).width ≤ 32
  pub bytes : (x : FrameByte) → Contains p.frame x → (cell_at p.cells x.cell).width ≤ 8

-- A packet of a program: it holds a value of the width of each cell, and a mark for each site.
pub record IsPacketOf (p : ProgramView) (x : Packet) : Type 0 where
  pub values : length x.held.values ≡ length p.cells
  pub pointers : length x.held.pointers ≡ length p.cells
  pub marks : length x.marks ≡ length p.sites
  pub widths : (c : ℕ) → stage_value x.held c < 2 ^ (cell_at p.cells c).width
