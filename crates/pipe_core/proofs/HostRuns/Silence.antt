-- A host that reads, beside a silent one.
use Rattle.std.proofs.Common.{◌≡◌, Bool, true, false, List, [], ◌∷◌, ◌++◌, if◌then◌else◌, Option, Some, None, refl, ap, ◌∙◌}
use Rattle.realization.specs.beat_core.declared.beat.Beat.{Beat}
use Rattle.realization.specs.beat_core.Ports.{Arrival}
use Rattle.hazard_core.specs.declared.access.Access.{Access}
use Rattle.hazard_core.specs.StageValues.{StageValues}
use Rattle.hazard_core.specs.Tables.{TableState}
use Rattle.pipe_core.specs.Machine.{Packet, State, Input, Build, Action, some_send, flushed, is_idle, host_ready, host_writes, written_if, action_of, action_as, worked, work, beat_over, gathered, taken_beat, scattered, clock, output, place_at}
use Rattle.pipe_core.specs.History.{Trace, came_in, left_as, left_in, gave_in, next, run}
use Rattle.realization.specs.net_core.declared.ports.Inputs.{Inputs}
use Rattle.std.specs.Prelude.{map as map_list}
use Rattle.pipe_core.specs.HostRuns.Inputs.{access_in, input_of}
use Rattle.pipe_core.specs.HostRuns.Silent.{silent, ReadsAreSilent, RunsAreSilent}

nothing_written : (ready idle : Bool) (t : TableState) (a : Access) (h : Option Access) → h ≡ Some a → a.write ≡ None → host_writes ready idle t h ≡ None
nothing_written ready idle t a h e w = ap (host_writes ready idle t) e ∙ ap (written_if _ a) w ∙ never _
  where
    never : (c : Bool) → written_if c a None ≡ None
    never true = refl
    never false = refl

same_action : (b : Build) (i : Input) (a : Access) → i.host ≡ Some a → a.write ≡ None → (s : State) (rest : List (Option Packet)) → action_of b i s rest ≡ action_of b (silent i) s rest
same_action b i a e w s rest = ap (action_as b s rest) (nothing_written (host_ready b s) (is_idle s) s.tables a i.host e w)

same_work : (b : Build) (i : Input) (a : Access) → i.host ≡ Some a → a.write ≡ None → (s : State) → work b i s ≡ work b (silent i) s
unfolding work
same_work b i a e w s = ap (worked b s (some_send b 0 s.places) (flushed b 0 s.places)) (same_action b i a e w s (flushed b 0 s.places))

same_gathered : (s : State) (i : Input) (o : Option Beat) → gathered s i o ≡ gathered s (silent i) o
same_gathered s i None = refl
same_gathered s i (Some x) = refl

same_clock : (b : Build) (i : Input) (a : Access) → i.host ≡ Some a → a.write ≡ None → (s : State) → clock b i s ≡ clock b (silent i) s
unfolding clock
same_clock b i a e w s =
    ap (λ (u : State). scattered (gathered u i (beat_over b s i)) (taken_beat s i)) (same_work b i a e w s)
    ∙ ap (λ (u : State). scattered u (taken_beat s i)) (same_gathered (work b (silent i) s) i (beat_over b s i))

same_came : (s : State) (i : Input) (o : Option Beat) → came_in s i o ≡ came_in s (silent i) o
same_came s i None = refl
same_came s i (Some x) = refl

same_next : (b : Build) (i : Input) (a : Access) → i.host ≡ Some a → a.write ≡ None → (t : Trace) → next b i t ≡ next b (silent i) t
unfolding next
same_next b i a e w t =
    ap (λ (s : State). made s (came_in t.state i (beat_over b t.state i)) (left_in b i t.state)) (same_clock b i a e w t.state)
    ∙ ap (λ (cs : List Arrival). made (clock b (silent i) t.state) cs (left_in b i t.state)) (same_came t.state i (beat_over b t.state i))
    ∙ ap (λ (u : Action). made (clock b (silent i) t.state) (came_in t.state (silent i) (beat_over b t.state i)) (left_as u (place_at (flushed b 0 t.state.places) b.plan.last))) (same_action b i a e w t.state (flushed b 0 t.state.places))
  where
    made : State → List Arrival → List StageValues → Trace
    made s came left = record { state = s; came = t.came ++ came; left = t.left ++ left; gave = t.gave ++ gave_in t.state.answers (taken_beat t.state i) }

same_shown : (b : Build) (i : Input) (s : State) → record (output b i s) { host_value = 0 } ≡ output b (silent i) s
unfolding output
same_shown b i s = refl

pub reads_are_silent : ReadsAreSilent
reads_are_silent b i a e w = record { state = same_clock b i a e w; trace = same_next b i a e w; shown = same_shown b i }

reads_of : (i : Inputs) → i.host_write ≡ false → (access_in i).write ≡ None
reads_of i e = ap (λ (c : Bool). if c then Some i.host_data else None) e

pub runs_are_silent : RunsAreSilent
runs_are_silent b [] reads t = refl
runs_are_silent b (i ∷ is) reads t =
    ap (run b (map_list input_of is)) (same_next b (input_of i) (access_in i) refl (reads_of i reads.0) t)
    ∙ runs_are_silent b is reads.1 (next b (silent (input_of i)) t)
