-- Which clocks are right.
use Rattle.std.specs.Prelude.{◌≡◌, false}
use Rattle.block_core.specs.net_core.declared.ports.Inputs.{Inputs}
use Rattle.pipe_core.specs.Machine.{State, inside}
use Rattle.pipe_core.specs.SeenChanges.{SeenChanges}
use Rattle.pipe_core.specs.Pipeable.{IsPipelinable}
use Rattle.pipe_core.specs.Right.{IsRight}
use Rattle.pipe_net.specs.Layout.{Layout}
use Rattle.pipe_net.specs.PipeClocks.Standing.{IsRightClock}

-- Where the machine is right, and the host writes nothing in the clock.
abbrev pub ReadsAreRight : Type 0
ReadsAreRight = (l : Layout) → IsPipelinable l.decls l.build → (w : SeenChanges) → IsRight l.build l.decls w → (i : Inputs) → i.host_write ≡ false → IsRightClock l i w.trace.state

-- Whatever the host does, where no packet is inside.
abbrev pub EmptyIsRight : Type 0
EmptyIsRight = (l : Layout) (i : Inputs) (s : State) → inside s.places ≡ 0 → IsRightClock l i s
