-- A machine does not ask which bytes stand in a beat that do not count.
use Rattle.std.specs.Prelude.{◌≡◌, Bool, true, false, if◌then◌else◌, Option, Some, None, List, [], ◌∷◌, ◌++◌, map}
use Rattle.std.specs.List.{AllByRecursion}
use Rattle.std.specs.Option.{option_map}
use Rattle.std.proofs.Common.{refl, ap, ◌∙◌}
use Rattle.cell_core.specs.beat_core.declared.beat.Beat.{Beat}
use Rattle.cell_core.specs.beat_core.Filling.{filled_up}
use Rattle.cell_core.specs.beat_core.Ports.{Arrival}
use Rattle.cell_core.proofs.beat_core_laws.FillingLaws.{bytes_of_beat-filled_up}
use Rattle.pipe_core.specs.net_core.declared.ports.Inputs.{Inputs}
use Rattle.pipe_core.specs.Machine.{State, Input, Build, beat_over, is_ready, came_with, gathered, taken_beat, scattered, work, clock}
use Rattle.pipe_core.specs.History.{Trace, came_in, left_in, gave_in, next, run}
use Rattle.pipe_core.specs.Drive.{ahead, beats_in}
use Rattle.pipe_core.specs.HostRuns.Inputs.{input_of}
use Rattle.pipe_core.specs.HostRuns.Silent.{silent}

-- the same with zeros in their place
abbrev pub filled : Input → Input
filled i = record i { beat = option_map filled_up i.beat }

over_filled : (b : Build) (s : State) (i : Input) → beat_over b s (filled i) ≡ option_map filled_up (beat_over b s i)
over_filled b s i = by (is_ready b s)
  where
    by : (ready : Bool) → (if ready then option_map filled_up i.beat else None) ≡ option_map filled_up (if ready then i.beat else None)
    by true = refl
    by false = refl

came_with_filled : (part : Option Arrival) (i : Input) (x : Beat) → came_with part (filled i) (filled_up x) ≡ came_with part i x
came_with_filled None i x = ap (λ bytes. record { ifindex = i.ifindex; time = i.time; frame = bytes }) (bytes_of_beat-filled_up x)
came_with_filled (Some a) i x = ap (λ bytes. record a { frame = a.frame ++ bytes }) (bytes_of_beat-filled_up x)

gathered_filled : (w : State) (i : Input) (o : Option Beat) → gathered w (filled i) (option_map filled_up o) ≡ gathered w i o
gathered_filled w i None = refl
gathered_filled w i (Some x) =
    ap (λ (a : Arrival). (if x.last then record w { frames = w.frames ++ a ∷ []; part = None } else record w { part = Some a })) (came_with_filled w.part i x)

clock_filled : (b : Build) (i : Input) (s : State) → clock b (filled i) s ≡ clock b i s
unfolding clock work
clock_filled b i s =
    ap (λ o. scattered (gathered (work b i s) (filled i) o) (taken_beat s i)) (over_filled b s i)
    ∙ ap (λ g. scattered g (taken_beat s i)) (gathered_filled (work b i s) i (beat_over b s i))

came_filled : (s : State) (i : Input) (o : Option Beat) → came_in s (filled i) (option_map filled_up o) ≡ came_in s i o
came_filled s i None = refl
came_filled s i (Some x) = ap (λ a. if x.last then a ∷ [] else []) (came_with_filled s.part i x)

next_filled : (b : Build) (i : Input) (t : Trace) → next b (filled i) t ≡ next b i t
unfolding next
next_filled b i t =
    let s = clock_filled b i t.state in
    let c : came_in t.state (filled i) (beat_over b t.state (filled i)) ≡ came_in t.state i (beat_over b t.state i) = ap (came_in t.state (filled i)) (over_filled b t.state i) ∙ came_filled t.state i (beat_over b t.state i) in
    λ j. record { state = s j; came = t.came ++ c j; left = t.left ++ left_in b i t.state; gave = t.gave ++ gave_in t.state.answers (taken_beat t.state i) }

run_filled : (b : Build) (is : List Input) (t : Trace) → run b (map filled is) t ≡ run b is t
run_filled b [] t = refl
run_filled b (i ∷ is) t = ap (run b (map filled is)) (next_filled b i t) ∙ run_filled b is (next b i t)

ahead_filled : (o : Option Beat) (bs : List Beat) → ahead (option_map filled_up o) (map filled_up bs) ≡ map filled_up (ahead o bs)
ahead_filled None bs = refl
ahead_filled (Some x) bs = refl

beats_filled : (b : Build) (is : List Input) (s : State) → beats_in b (map filled is) s ≡ map filled_up (beats_in b is s)
beats_filled b [] s = refl
beats_filled b (i ∷ is) s =
    ap (ahead (beat_over b s (filled i))) (ap (beats_in b (map filled is)) (clock_filled b i s) ∙ beats_filled b is (clock b i s))
    ∙ ap (λ o. ahead o (map filled_up (beats_in b is (clock b i s)))) (over_filled b s i)
    ∙ ahead_filled (beat_over b s i) (beats_in b is (clock b i s))

-- ---- by what stands at the ports, with a host that is silent
abbrev pub quiet : List Inputs → List Input
quiet is = map (λ i. silent (input_of i)) is

abbrev pub quiet_filled : List Inputs → List Input
quiet_filled is = map filled (quiet is)

pub all_silent : (is : List Inputs) → AllByRecursion (λ (i : Input). i.host ≡ None) (quiet_filled is)
all_silent [] = tt
all_silent (i ∷ is) = (refl, all_silent is)

pub run_quiet : (b : Build) (is : List Inputs) (t : Trace) → run b (quiet_filled is) t ≡ run b (quiet is) t
run_quiet b is t = run_filled b (quiet is) t

pub beats_quiet : (b : Build) (is : List Inputs) (s : State) → beats_in b (quiet_filled is) s ≡ map filled_up (beats_in b (quiet is) s)
beats_quiet b is s = beats_filled b (quiet is) s
