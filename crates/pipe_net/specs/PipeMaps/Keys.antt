-- Tables keep their keys over clocks of the machine, whatever the host writes.
use Rattle.std.specs.Prelude.{◌≡◌, ℕ}
use Rattle.hazard_core.specs.xdp_maps.State.{MapState, IsSound}
use Rattle.hazard_core.specs.cell_core.Formed.{AllFit}
use Rattle.hazard_core.specs.Changes.{IsRightCommit}
use Rattle.hazard_core.specs.Tables.{tables_of}
use Rattle.pipe_core.specs.Machine.{Packet, State, Input, Build, Commits, clock}
use Rattle.pipe_net.specs.Saying.{action_in}
use Rattle.pipe_net.specs.PipeMaps.Premises.{HoldKeys}

-- An operation that commits is a right one.
abbrev pub KeysFollow : Type 0
KeysFollow =
    (b : Build) (i : Input) (s : State) → AllFit s.tables.decls b.program.sites → ((j : ℕ) (x : Packet) → action_in b i s ≡ Commits j x → IsRightCommit b.program s.tables s.taken x.held j) → HoldKeys s.tables → HoldKeys (clock b i s).tables

abbrev pub KeysBegin : Type 0
KeysBegin = (maps : MapState) → IsSound maps → HoldKeys (tables_of maps)
