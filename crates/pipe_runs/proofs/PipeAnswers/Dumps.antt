-- A design shows the host the maps.
use Rattle.std.specs.Prelude.{◌≡◌, ℕ, false, List, [], ◌∷◌, map as map_list}
use Rattle.std.specs.List.{AllByRecursion}
use Rattle.std.proofs.Common.{refl, ap, ◌∙◌}
use Rattle.pipe_core.specs.net_core.declared.tree.Word.{Word}
use Rattle.pipe_core.specs.net_core.declared.ports.Inputs.{Inputs}
use Rattle.pipe_core.specs.net_core.Nets.{Netlist}
use Rattle.pipe_core.specs.net_core.Ports.{words_of}
use Rattle.pipe_core.specs.net_core.Clock.{Stored, after}
use Rattle.pipe_core.specs.net_core.Trace.{trace}
use Rattle.pipe_core.specs.realization.HostHistory.Host as host
use Rattle.pipe_core.specs.realization.HostHistory.Host.{dump, dumped}
use Rattle.pipe_core.specs.Machine.{Build, output}
use Rattle.pipe_core.specs.History.{Trace, next, run, begin}
use Rattle.pipe_core.specs.Pipeable.{IsPipelinable}
use Rattle.pipe_core.specs.HostRuns.Inputs.{input_of}
use Rattle.pipe_core.specs.HostRuns.Runs.{outputs, shown_words}
use Rattle.pipe_core.specs.HostRuns.Dumps.{DumpsMaps}
use Rattle.pipe_net.specs.Layout.{Layout}
use Rattle.pipe_runs.specs.PipeAnswers.Going.{IsGoing, GoOn, BeginGoing}
use Rattle.pipe_runs.specs.PipeAnswers.Following.{FollowsAlways}
use Rattle.pipe_runs.specs.PipeAnswers.Dumps.{RunsGoOn, DumpsAreShown}
use Rattle.pipe_runs.proofs.PipeAnswers.Following.{never_stops}

all_go : GoOn → (l : Layout) → IsPipelinable l.decls l.build → (is : List Inputs) → AllByRecursion (λ i. i.host_write ≡ false) is → (t : Trace) → IsGoing l t → IsGoing l (run l.build (map_list input_of is) t)
all_go on l pipelinable [] quiet t going = going
all_go on l pipelinable (i ∷ is) quiet t going = all_go on l pipelinable is quiet.1 (next l.build (input_of i) t) (on l pipelinable i quiet.0 t going)

pub runs_go_on : GoOn → BeginGoing → RunsGoOn
runs_go_on on first l pipelinable maps are sound is quiet = all_go on l pipelinable is quiet (begin l.build maps) (first l pipelinable maps are sound)

-- what stands at the ports are the words that the machine shows
same_words : (b : Build) (d : Netlist) (is : List Inputs) (t : Trace) (st : Stored) → FollowsAlways b d is t st → host.shown_words (trace d st is) ≡ shown_words (outputs b is t.state)
unfolding next
same_words b d [] t st h = refl
same_words b d (i ∷ is) t st h =
    let later = host.shown_words (trace d (after d (words_of i) st) is) in
    ap (λ (w : Word). w.value ∷ later) h.1.host_value ∙ ap (λ (ws : List ℕ). (output b (input_of i) t.state).host_value ∷ ws) (same_words b d is (next b (input_of i) t) (after d (words_of i) st) h.2)

pub dumps_are_shown : DumpsMaps → DumpsAreShown
dumps_are_shown dumps l t going idle d st follows =
    let decls = t.state.tables.decls in
    let is = dumps l.build t.state going.right.at.tables_are (λ m n lt within used. (going.keys.bytes.each m n lt within).value) idle going.order.packets in
    record {
      never = never_stops l.build d (dump decls) t st follows;
      shown = ap (dumped decls) (same_words l.build d (dump decls) t st follows) ∙ is.shown;
    }
