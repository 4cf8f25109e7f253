-- A design, simulated: the host loads maps into it, packets are driven through it, and the host reads the maps that it then holds.
use Rattle.std.specs.Prelude.{ℕ, List, [], ◌∷◌, length, Option, Some, None, Result, Ok, Err}
use Rattle.beat_core.specs.declared.frame.Timed.{Timed}
use Rattle.beat_core.specs.declared.answer.Answer.{Answer}
use Rattle.net_core.specs.declared.tree.Net.TheVariants.{Wire}
use Rattle.net_core.specs.declared.ports.Inputs.{Inputs}
use Rattle.net_core.specs.Nets.{Netlist}
use Rattle.net_core.specs.Names.{name_of}
use Rattle.net_core.specs.Clock.{Stored, first_stored, after, stopping}
use Rattle.net_core.specs.Ports.{words_of}
use Rattle.net_core.specs.Trace.{trace, stored_after}
use Rattle.xdp_maps.specs.declared.decl.MapDecl.{MapDecl}
use Rattle.xdp_maps.specs.State.{MapState}
use Rattle.maps_text.specs.Writing.{text_of}
use Rattle.port_drive.specs.realization.History.{answers_given, Drive, Ended, Answered, Stopped, OutOfClocks}
use Rattle.port_drive.specs.realization.HostHistory.Host.{load, dump}
use Rattle.port_drive.specs.Hosting.{shown_maps}
use Rattle.port_drive.specs.Reports.{full_drive, given_in}
use Rattle.ehdl_top.specs.declared.error.CommandError.{CommandError}
use Rattle.ehdl_top.specs.declared.error.CommandError.TheVariants as error

-- ---- why it is given up
-- the wire whose divisor is zero in the first of these clocks in which one is
abbrev pub first_stop : Netlist → Stored → List Inputs → Option ℕ
first_stop design s [] = None
first_stop design s (i ∷ is) = elim (stopping design (words_of i) s) [
  | None ↦ first_stop design (after design (words_of i) s) is
  | Some w ↦ Some w
]

abbrev pub x_value : Netlist → ℕ → CommandError
x_value design w = error.XValue (name_of design (Wire w))

-- why a drive over so many frames was given up, if it was
abbrev pub drive_error : Netlist → ℕ → Drive → Ended → Option CommandError
drive_error design frames drive Answered = None
drive_error design frames drive (Stopped w) = Some (x_value design w)
drive_error design frames drive OutOfClocks = Some (error.Late (length (answers_given [] drive.trace)) frames)

-- ---- what it gives
-- the answers, and the maps in the end, or why there are none
pub record Simulation : Type 0 where
  pub answers : List Answer
  pub end : Result MapState CommandError

-- the dump of maps of these declarations
abbrev pub dumped : Netlist → Stored → List MapDecl → Result MapState CommandError
dumped design s decls = elim (first_stop design s (dump decls)) [
  | None ↦ Ok (shown_maps decls (trace design s (dump decls)))
  | Some w ↦ Err (x_value design w)
]

-- the full drive of these packets in at most so many clocks, and after it the dump
abbrev pub driven : Netlist → Stored → List MapDecl → ℕ → List Timed → ℕ → Simulation
driven design s decls ifindex packets clocks =
    let drive : Drive = full_drive design ifindex s packets clocks in
    record {
      answers = answers_given [] drive.trace;
      end = elim (drive_error design (length packets) drive drive.ended) [
        | None ↦ dumped design (stored_after design s (given_in drive.trace)) decls
        | Some e ↦ Err e
      ];
    }

-- the load of these maps from the first values on, and after it the drive
abbrev pub simulation : Netlist → MapState → ℕ → List Timed → ℕ → Simulation
simulation design maps ifindex packets clocks = elim (first_stop design (first_stored design) (load maps)) [
  | None ↦ driven design (stored_after design (first_stored design) (load maps)) maps.decls ifindex packets clocks
  | Some w ↦ record { answers = []; end = Err (x_value design w) }
]

-- ---- how it ends
-- the text of the final maps, where there are any
abbrev pub final_text : Result MapState CommandError → Option (List ℕ)
final_text (Ok maps) = Some (text_of maps)
final_text (Err e) = None

abbrev pub given_up : Result MapState CommandError → Option CommandError
given_up (Ok maps) = None
given_up (Err e) = Some e
