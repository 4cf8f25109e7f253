-- A drive that a statement stops.
use Rattle.std.specs.Prelude.{◌≡◌, ℕ, suc, Some, List, []}
use Rattle.beat_core.specs.Ports.{Offered}
use Rattle.net_core.specs.Nets.{Netlist}
use Rattle.net_core.specs.Clock.{Stored, stopping}
use Rattle.net_core.specs.Ports.{words_of}
use Rattle.realization.specs.History.{drive_inputs, drive, Stopped}

pub stopped_drive : (d : Netlist) (s : Stored) (left : List Offered) (owed limit w : ℕ) → stopping d (words_of (drive_inputs left)) s ≡ Some w
    → drive d s left (suc owed) (suc limit) ≡ record { trace = []; ended = Stopped w }
unfolding drive
stopped_drive d s left owed limit w e = rw (e, drive)
