-- What a cover is for: the runs of both programs are the same.
use Rattle.std.specs.Prelude.{ℕ, ◌≡◌, List}
use Rattle.xdp_machine.specs.xdp_maps.State.{MapState}
use Rattle.xdp_machine.specs.State.{PacketIn, start}
use Rattle.xdp_machine.specs.Ranges.{IsInRange}
use Rattle.xdp_machine.specs.Program.{XdpProgram, program_code, IsProgram}
use Rattle.xdp_machine.specs.Runs.{Leaves}
use Rattle.xdp_machine.specs.Touched.{Touched, Touches}
use Rattle.unfold_core.specs.declared.unfolding.Unfolded.{Unfolded}
use Rattle.unfold_core.specs.Unfolding.{IsUnfolded}
use Rattle.cover_core.specs.Cover.{IsCover}

-- The packet has a run of either program; both come to one end, and touch the same.
pub record HasSameRun (a b : XdpProgram) (packet : PacketIn) (maps : MapState) : Type 0 where
  pub left : Leaves
  pub touched : Touched
  pub of_b : Touches (program_code b) packet maps left touched
  pub of_a : Touches (program_code a) packet maps left touched

-- Every packet of bytes has, over all sound maps of the declarations.
abbrev pub HaveSameRuns : XdpProgram → XdpProgram → Type 0
HaveSameRuns a b = (packet : PacketIn) (maps : MapState) → maps.decls ≡ a.decls → IsInRange (start packet maps) → HasSameRun a b packet maps

-- A cover of a program by one that unfolds keeps its runs.
abbrev pub CoversKeepRuns : Type 0
CoversKeepRuns = (a b : XdpProgram) (u : Unfolded) (origin : List ℕ) → IsProgram b → IsUnfolded b u → IsCover a b u origin → HaveSameRuns a b
