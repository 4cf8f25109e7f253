-- What contracts see of a pipe and of its ports.
use Rattle.std.specs.Prelude.{◌≡◌, ℕ, suc, ◌+◌, ◌≤◌, Bool, true, nat_le, min, Option, Some, None, length}
use Rattle.realization.specs.beat_core.declared.beat.Beat.{Beat}
use Rattle.hazard_core.specs.cell_core.Formed.{AllFit}
use Rattle.pipe_core.specs.Machine.{State, Input, Output, Build, inside}
use Rattle.pipe_core.specs.BuildView.{BuildView}
use Rattle.pipe_core.specs.FrameQueue.{came_bytes}
use Rattle.pipe_core.specs.declared.arrived.TheConstants.{FRAME_ROOM}
use Rattle.pipe_core.specs.declared.ports.In.{In}
use Rattle.pipe_core.specs.declared.ports.Out.{Out}

-- what it was built for, and its state
pub record PipeView : Type 0 where
  pub build : BuildView
  pub state : State

abbrev pub input_of : In → Input
input_of x = record { beat = x.beat; ifindex = x.ifindex; time = x.time; take = x.take; host = x.host }

abbrev pub output_of : Out → Output
output_of x = record {
  ready = x.ready;
  beat = x.beat;
  verdict = x.verdict;
  target = x.target;
  reloaded = x.reloaded;
  host_ready = x.host_ready;
  host_value = x.host_value;
  host_passed = x.host_passed;
}

-- With a beat that is offered the frame that comes has no more bytes than there is room for.
abbrev pub has_room : State → Option Beat → Bool
has_room s None = true
has_room s (Some x) = nat_le (came_bytes s.part + min x.bytes 8) FRAME_ROOM

-- The sites fit the maps, there is a place for each row, the packets in the places have frames, and each site has a slot that it has taken.
pub record IsSteady (b : Build) (s : State) (room : ℕ) : Type 0 where
  pub fits : AllFit s.tables.decls b.program.sites
  pub places : length s.places ≡ suc b.plan.last
  pub packets : inside s.places ≤ length s.frames
  pub taken : length s.taken ≡ length b.program.sites
  pub slots : room ≡ b.slots
