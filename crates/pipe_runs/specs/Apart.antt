-- Packets whose cell runs do not conflict.
use Rattle.std.specs.Prelude.{◌≡◌, ◌+◌, List}
use Rattle.std.specs.List.{AllByRecursion}
use Rattle.cell_core.specs.beat_core.Ports.{Arrival}
use Rattle.cell_core.specs.xdp_maps.State.{MapState}
use Rattle.cell_core.specs.xdp_machine.Touched.{Touched}
use Rattle.pipe_core.specs.realization.Bounds.{ConflictFree}
use Rattle.pipe_core.specs.realization.Realizes.{IsPacket}
use Rattle.pipe_core.specs.Machine.{Build}
use Rattle.pipe_core.specs.Apart.{AllRun}

-- Whatever the reads off their paths find, the cell runs of packets on these maps touch this.
abbrev pub Touch : Build → MapState → List Arrival → List Touched → Type 0
Touch b maps packets ts = AllByRecursion IsPacket packets → (us : List Touched) → AllRun b.program maps packets us → us ≡ ts

-- They touch this, and none reads what one of fewer than S + 4 before it wrote.
pub record DoNotConflict (b : Build) (maps : MapState) (packets : List Arrival) (ts : List Touched) : Type 0 where
  pub touch : Touch b maps packets ts
  pub apart : ConflictFree (b.plan.last + 3) ts
