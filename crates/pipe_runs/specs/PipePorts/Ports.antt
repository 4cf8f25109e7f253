-- What goes over at the ports of a design that follows the machine, in one clock and in all.
use Rattle.std.specs.Prelude.{◌≡◌, ℕ, suc, ◌+◌, ◌==◌, Option, Some, None, List, [], ◌∷◌, ◌++◌, length, take, map as map_list}
use Rattle.cell_core.specs.beat_core.declared.beat.Beat.{Beat}
use Rattle.cell_core.specs.beat_core.Beats.{beats_of}
use Rattle.cell_core.specs.beat_core.Clocks.{AreOffers}
use Rattle.cell_core.specs.beat_core.Ports.{Offered, offered}
use Rattle.cell_core.specs.xdp_maps.State.{MapState}
use Rattle.pipe_core.specs.net_core.declared.tree.Word.{Word}
use Rattle.pipe_core.specs.net_core.declared.ports.Inputs.{Inputs}
use Rattle.pipe_core.specs.net_core.declared.ports.TheConstants.{IN_READY}
use Rattle.pipe_core.specs.net_core.Ports.{outputs_at}
use Rattle.pipe_core.specs.net_core.Nets.{Netlist}
use Rattle.pipe_core.specs.net_core.Clock.{Stored}
use Rattle.pipe_core.specs.net_core.Trace.{Cycle, trace}
use Rattle.pipe_core.specs.realization.History.{offers_in, beats_in, arrivals, answers_given, open_beats, owed_after}
use Rattle.pipe_net.specs.frame_net.Frames.{position_of}
use Rattle.pipe_core.specs.Machine.{State, Build, is_ready, beat_over, taken_beat, first_answer, new_state, some_send, output}
use Rattle.pipe_core.specs.History.{gave_in, begin}
use Rattle.pipe_core.specs.Drive.{ahead, beats_in as machine_beats}
use Rattle.pipe_core.specs.HostRuns.Inputs.{input_of}
use Rattle.pipe_core.specs.HostRuns.Silent.{silent}
use Rattle.pipe_net.specs.Machine.{Shows}
use Rattle.pipe_net.specs.Relation.{IsAt}
use Rattle.pipe_runs.specs.PipeAnswers.Coming.{AllMayCome}
use Rattle.pipe_runs.specs.PipePorts.Followed.{WriteNothing, IsFollowed, ran}

-- ---- one clock
-- the clock in which this stands at the outputs
abbrev pub cycle : Inputs → (ℕ → Word) → Cycle
cycle i at = record { given = i; shown = outputs_at (λ port. (at port).value) }

-- what goes over inwards, with the numbers that stand beside the beat
abbrev pub offers_by : Inputs → Option Beat → List Offered
offers_by i None = []
offers_by i (Some x) = offered i.in_ifindex i.in_time x ∷ []

-- The design takes and gives in the clock what the machine does.
pub record ShowsClock (b : Build) (s : State) (i : Inputs) (at : ℕ → Word) : Type 0 where
  pub ready : ((at IN_READY).value == 1) ≡ is_ready b s
  pub offers : (ms : List Cycle) → offers_in (cycle i at ∷ ms) ≡ offers_by i (beat_over b s (input_of i)) ++ offers_in ms
  pub beats : (ms : List Cycle) → beats_in (cycle i at ∷ ms) ≡ ahead (beat_over b s (input_of i)) (beats_in ms)
  -- it shows whether packets are sent back
  pub sent : (cycle i at).shown.out_reload ≡ some_send b 0 s.places
  -- with each answer that is given whole one fewer is owed
  pub owes : (owed : ℕ) → length (gave_in s.answers (taken_beat s (input_of i))) + owed_after (cycle i at) (suc owed) ≡ suc owed

-- It does so where its outputs show what the machine's do.
abbrev pub PortsShowClocks : Type 0
PortsShowClocks = (b : Build) (s : State) (i : Inputs) (at : ℕ → Word) → Shows (output b (input_of i) s) at → ShowsClock b s i at

-- ---- all clocks
-- the beats of the first answer that are given
abbrev pub begun : State → List Beat
begun s = take s.pos (beats_of (first_answer s.answers).frame)

-- What went over at the ports is what the machine's history says: packets that came, answers that were given, the beats given of the next one, and the beats that came, which a machine with a
-- silent host takes too.
pub record ShowsHistory (b : Build) (maps : MapState) (n : Netlist) (st : Stored) (is : List Inputs) : Type 0 where
  pub came : (ran b maps is).came ≡ arrivals None (trace n st is)
  pub gave : (ran b maps is).gave ≡ answers_given [] (trace n st is)
  pub opens : open_beats [] (trace n st is) ≡ begun (ran b maps is).state
  pub beats : beats_in (trace n st is) ≡ machine_beats b (map_list (λ i. silent (input_of i)) is) (new_state b maps)
  -- the next beat of the first answer is there
  pub position : IsAt (ran b maps is).state.pos (ran b maps is).state.answers
  -- offers that go on from those that came are offers of the frame that is coming
  pub rest : (bs : List Beat) → AreOffers 0 (beats_in (trace n st is) ++ bs) → AreOffers (position_of (ran b maps is).state.part) bs

-- So it is over every list of clocks in which the design follows the machine.
abbrev pub PortsShowHistories : Type 0
PortsShowHistories =
    (b : Build) (maps : MapState) (n : Netlist) (st : Stored) → IsFollowed b maps n st → (is : List Inputs) → WriteNothing is → AllMayCome b is (begin b maps) → ShowsHistory b maps n st is
