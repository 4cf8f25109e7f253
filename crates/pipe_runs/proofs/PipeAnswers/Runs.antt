-- What the machine answers while its host only reads.
use Rattle.std.specs.Prelude.{◌≡◌, None, List, [], ◌∷◌, ◌++◌, map as map_list}
use Rattle.std.specs.List.{AllByRecursion}
use Rattle.std.proofs.Common.{refl, sym, ap, ◌∙◌, subst}
use Rattle.cell_core.specs.xdp_maps.State.{opened_state}
use Rattle.pipe_core.specs.net_core.declared.ports.Inputs.{Inputs}
use Rattle.pipe_core.specs.realization.HostHistory.Host.{load}
use Rattle.pipe_core.specs.Machine.{Input, Build}
use Rattle.pipe_core.specs.History.{Trace, next, run, begin, IsAlwaysInOrder}
use Rattle.pipe_core.specs.SequentialOrder.{RunsInTurn, FinalMaps}
use Rattle.pipe_core.specs.HostRuns.Inputs.{input_of}
use Rattle.pipe_core.specs.HostRuns.Silent.{silent, RunsAreSilent}
use Rattle.pipe_core.specs.HostRuns.Loads.{LoadsTraces}
use Rattle.pipe_runs.specs.PipeAnswers.Runs.{RunsFrom, ReadsRunInTurn, LoadsRunInTurn}

all_silent : (is : List Inputs) → AllByRecursion (λ (i : Input). i.host ≡ None) (map_list (λ (i : Inputs). silent (input_of i)) is)
all_silent [] = tt
all_silent (i ∷ is) = (refl, all_silent is)

pub reads_run : IsAlwaysInOrder → RunsInTurn → FinalMaps → RunsAreSilent → ReadsRunInTurn
reads_run order runs last silence b maps pipelinable sound is quiet =
    let quiets = map_list (λ (i : Inputs). silent (input_of i)) is in
    subst (RunsFrom b maps) (sym (silence b is quiet (begin b maps)))
    (record { order = order b maps quiets; runs = runs b maps pipelinable sound quiets (all_silent is); last = last b maps pipelinable sound quiets (all_silent is) })

run_behind : (b : Build) (xs ys : List Inputs) (t : Trace) → run b (map_list input_of (xs ++ ys)) t ≡ run b (map_list input_of ys) (run b (map_list input_of xs) t)
run_behind b [] ys t = refl
run_behind b (x ∷ xs) ys t = run_behind b xs ys (next b (input_of x) t)

pub loads_run : ReadsRunInTurn → LoadsTraces → LoadsRunInTurn
loads_run reads loads b maps pipelinable sound is quiet =
    let behind = run_behind b (load maps) is (begin b (opened_state maps.decls)) ∙ ap (run b (map_list input_of is)) (loads b maps sound) in
    subst (RunsFrom b maps) (sym behind) (reads b maps pipelinable sound is quiet)
