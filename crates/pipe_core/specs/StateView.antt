-- The state of the machine in parts.
use Rattle.std.specs.Prelude.{ℕ, Option, List}
use Rattle.hazard_core.specs.Tables.{TableState}
use Rattle.pipe_core.specs.Machine.{Packet, State}
use Rattle.pipe_core.specs.FrameQueue.{FrameQueue}

abbrev pub state_of : TableState → FrameQueue → List (Option Packet) → ℕ → List ℕ → ℕ → State
state_of t q places done taken passed = record {
  tables = t;
  answers = q.answers;
  pos = q.pos;
  frames = q.frames;
  part = q.part;
  places = places;
  done = done;
  taken = taken;
  passed = passed;
}
