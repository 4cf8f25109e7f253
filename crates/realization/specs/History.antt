-- What goes over at the ports in a list of clocks: frames inwards, answers outwards.
use Rattle.std.specs.Prelude.{ℕ, zero, suc, ◌+◌, if◌then◌else◌, Bool, true, ◌&&◌, Option, Some, None, List, [], ◌∷◌, ◌++◌}
use Rattle.beat_core.specs.declared.answer.Answer.{Answer}
use Rattle.beat_core.specs.declared.beat.Beat.{Beat}
use Rattle.beat_core.specs.Ports.{Offered, arrivals_among, Given, answers_among}
use Rattle.net_core.specs.declared.ports.Inputs.{Inputs}
use Rattle.net_core.specs.declared.ports.TheConstants.{SILENT}
use Rattle.net_core.specs.Nets.{Netlist}
use Rattle.net_core.specs.Clock.{Stored, after, stopping}
use Rattle.net_core.specs.Ports.{words_of}
use Rattle.net_core.specs.Trace.{Cycle, cycle_of}
-- (a frame that came, as beats make it)
pub use Rattle.beat_core.specs.Ports.{Arrival}

-- ---- inwards
abbrev pub offered_beat : Cycle → Beat
offered_beat m = record { word = m.given.in_data; bytes = m.given.in_bytes; last = m.given.in_last }

-- a beat goes over where valid and ready are both 1
abbrev pub goes_in : Cycle → Bool
goes_in m = m.shown.in_ready && m.given.in_valid

abbrev pub beats_in : List Cycle → List Beat
beats_in [] = []
beats_in (m ∷ ms) = if goes_in m then offered_beat m ∷ beats_in ms else beats_in ms

-- the beats that went over, each with the interface number and the time that stood beside it
abbrev pub offers_in : List Cycle → List Offered
offers_in [] = []
offers_in (m ∷ ms) = if goes_in m then record { beat = offered_beat m; ifindex = m.given.in_ifindex; time = m.given.in_time } ∷ offers_in ms else offers_in ms

-- The frames that went over whole. Of the first this went over before, where one is begun.
abbrev pub arrivals : Option Arrival → List Cycle → List Arrival
arrivals begun ms = arrivals_among begun (offers_in ms)

-- ---- outwards
abbrev pub shown_beat : Cycle → Beat
shown_beat m = record { word = m.shown.out_data; bytes = m.shown.out_bytes; last = m.shown.out_last }

abbrev pub goes_out : Cycle → Bool
goes_out m = m.shown.out_valid && m.given.out_ready

-- the beats that went over, each with the verdict and the target that stood beside it
abbrev pub given_out : List Cycle → List Given
given_out [] = []
given_out (m ∷ ms) =
    if goes_out m then record { beat = shown_beat m; verdict = m.shown.out_verdict; target = m.shown.out_target } ∷ given_out ms
    else given_out ms

-- the answers that went over whole; of the first these bytes went over before
abbrev pub answers_given : List ℕ → List Cycle → List Answer
answers_given so_far ms = answers_among so_far (given_out ms)

-- the beats after the last whole answer, where these went over before
abbrev pub open_beats : List Beat → List Cycle → List Beat
open_beats before [] = before
open_beats before (m ∷ ms) =
    if goes_out m then (if m.shown.out_last then open_beats [] ms else open_beats (before ++ shown_beat m ∷ []) ms)
    else open_beats before ms

-- in how many of these clocks packets are sent back
abbrev pub reload_clocks : List Cycle → ℕ
reload_clocks [] = 0
reload_clocks (m ∷ ms) = (if m.shown.out_reload then 1 else 0) + reload_clocks ms

-- ---- the full drive
-- what stands at the inputs while a beat is offered beside its interface number and its time, or none: what is shown is taken, and
-- the host is silent
abbrev pub inputs_with : Option Offered → Inputs
inputs_with None = record SILENT { out_ready = true }
inputs_with (Some o) = record SILENT {
  in_valid = true;
  in_data = o.beat.word;
  in_bytes = o.beat.bytes;
  in_last = o.beat.last;
  in_ifindex = o.ifindex;
  in_time = o.time;
  out_ready = true;
}

-- the next beat is offered while one is left
abbrev pub drive_inputs : List Offered → Inputs
drive_inputs [] = inputs_with None
drive_inputs (o ∷ os) = inputs_with (Some o)

-- how a drive ends: with its last answer, at a wire whose divisor is zero, or out of clocks
pub data Ended : Type 0 where
  Answered : Ended
  Stopped : ℕ → Ended
  OutOfClocks : Ended

pub record Drive : Type 0 where
  pub trace : List Cycle
  pub ended : Ended

abbrev pub and_then : Cycle → Drive → Drive
and_then m rest = record { trace = m ∷ rest.trace; ended = rest.ended }

-- what is left to offer after a clock
abbrev pub left_after : Cycle → List Offered → List Offered
left_after m [] = []
left_after m (o ∷ os) = if goes_in m then os else o ∷ os

-- how many of these answers are owed after a clock
abbrev pub owed_after : Cycle → ℕ → ℕ
owed_after m zero = zero
owed_after m (suc owed) = if goes_out m && m.shown.out_last then owed else suc owed

-- The drive of a design from what is stored, with these beats to offer, while answers are owed, in at most so many clocks.
unfoldable pub drive : Netlist → Stored → List Offered → ℕ → ℕ → Drive
drive d s left zero limit = record { trace = []; ended = Answered }
drive d s left (suc owed) zero = record { trace = []; ended = OutOfClocks }
drive d s left (suc owed) (suc limit) =
    let i : Inputs = drive_inputs left in
    let m : Cycle = cycle_of d s i in
    elim (stopping d (words_of i) s) [
      | None ↦ and_then m (drive d (after d (words_of i) s) (left_after m left) (owed_after m (suc owed)) limit)
      | Some w ↦ record { trace = []; ended = Stopped w }
    ]
