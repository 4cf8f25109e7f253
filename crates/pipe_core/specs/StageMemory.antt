-- The places in memory. Each has the memory of a packet, also where none is in it.
use Rattle.std.specs.Prelude.{Option, Some, None, List, All, if◌then◌else◌}
use Rattle.hazard_core.specs.cell_core.Sites.{ProgramView}
use Rattle.pipe_core.specs.declared.places.Stage.{Stage}
use Rattle.pipe_core.specs.Machine.{Packet}
use Rattle.pipe_core.specs.Planned.{IsPacketOf}

-- the packet in a place
abbrev pub in_place : Stage → Option Packet
in_place p = if p.used then Some p.packet else None

-- All have the memory of a packet of the program.
abbrev pub HaveStageMemory : ProgramView → List Stage → Type 0
HaveStageMemory p places = All (λ x. IsPacketOf p x.packet) places
