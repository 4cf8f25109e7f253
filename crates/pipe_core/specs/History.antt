-- What comes into the pipe and goes out of it in a list of clocks.
use Rattle.std.specs.Prelude.{◌≡◌, suc, ◌+◌, ◌≤◌, if◌then◌else◌, Option, Some, None, is_some, List, [], ◌∷◌, ◌++◌, length, drop}
use Rattle.realization.specs.beat_core.declared.beat.Beat.{Beat}
use Rattle.realization.specs.beat_core.declared.answer.Answer.{Answer}
use Rattle.hazard_core.specs.xdp_maps.State.{MapState}
use Rattle.hazard_core.specs.cell_core.Cells.{bit}
use Rattle.hazard_core.specs.cell_core.Sites.{ProgramView}
use Rattle.hazard_core.specs.StageValues.{StageValues}
use Rattle.realization.specs.beat_core.Ports.{Arrival}
use Rattle.pipe_core.specs.Machine.{Packet, State, Input, Build, Action, Moves, new_state, place_at, inside, flushed, action_of, came_with, beat_over, taken_beat, first_answer, answer_of, clock}

-- Of the clocks so far: the frames that came whole, what each packet held of the cells when it left the pipe, and the answers that
-- were given whole.
pub record Trace : Type 0 where
  pub state : State
  pub came : List Arrival
  pub left : List StageValues
  pub gave : List Answer

abbrev pub came_in : State → Input → Option Beat → List Arrival
came_in s i None = []
came_in s i (Some b) = if b.last then came_with s.part i b ∷ [] else []

abbrev pub left_as : Action → Option Packet → List StageValues
left_as Moves (Some x) = x.held ∷ []
left_as action x = []

abbrev pub left_in : Build → Input → State → List StageValues
left_in b i s = let rest = flushed b 0 s.places in left_as (action_of b i s rest) (place_at rest b.plan.last)

abbrev pub gave_in : List Answer → Option Beat → List Answer
gave_in answers None = []
gave_in answers (Some b) = if b.last then first_answer answers ∷ [] else []

-- a trace with a clock added
unfoldable pub next : Build → Input → Trace → Trace
next b i t = record {
  state = clock b i t.state;
  came = t.came ++ came_in t.state i (beat_over b t.state i);
  left = t.left ++ left_in b i t.state;
  gave = t.gave ++ gave_in t.state.answers (taken_beat t.state i);
}

abbrev pub run : Build → List Input → Trace → Trace
run b [] t = t
run b (i ∷ is) t = run b is (next b i t)

-- a trace of no clocks
abbrev pub begin : Build → MapState → Trace
begin b maps = record { state = new_state b maps; came = []; left = []; gave = [] }

-- what packets answer that held this when they left, to these frames
abbrev pub answers_of : ProgramView → List StageValues → List Arrival → List Answer
answers_of p [] cs = []
answers_of p (h ∷ hs) [] = []
answers_of p (h ∷ hs) (c ∷ cs) = answer_of p h c ∷ answers_of p hs cs

-- The pipe holds what has come and is not given, in the order in which it came, and no more than there is room for. Each answer that is
-- given, or is to be given, is that of its own packet to its own frame.
pub record IsInOrder (b : Build) (t : Trace) : Type 0 where
  pub room : length t.state.answers + length t.state.frames + bit (is_some t.state.part) ≤ b.slots
  pub places : length t.state.places ≡ suc b.plan.last
  -- those of the packets in the places come first
  pub packets : inside t.state.places ≤ length t.state.frames
  pub begun : length t.left ≤ length t.came
  pub frames : t.state.frames ≡ drop (length t.left) t.came
  pub answers : t.gave ++ t.state.answers ≡ answers_of b.program t.left t.came

-- A clock keeps this of every trace, whatever comes.
abbrev pub KeepsOrder : Type 0
KeepsOrder = (b : Build) (i : Input) (t : Trace) → IsInOrder b t → IsInOrder b (next b i t)

-- So it holds of every list of clocks from the first on.
abbrev pub IsAlwaysInOrder : Type 0
IsAlwaysInOrder = (b : Build) (maps : MapState) (is : List Input) → IsInOrder b (run b is (begin b maps))
