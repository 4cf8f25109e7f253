-- A design follows the machine in every clock.
use Rattle.std.specs.Prelude.{◌≡◌, false, List, [], ◌∷◌, ◌++◌, map as map_list}
use Rattle.std.specs.List.{AllByRecursion}
use Rattle.std.proofs.Common.{subst}
use Rattle.cell_core.specs.xdp_maps.State.{opened_state}
use Rattle.pipe_core.specs.net_core.declared.ports.Inputs.{Inputs}
use Rattle.pipe_core.specs.net_core.Nets.{Netlist}
use Rattle.pipe_core.specs.net_core.Ports.{words_of}
use Rattle.pipe_core.specs.net_core.Clock.{Stored, after}
use Rattle.pipe_core.specs.net_core.Trace.{NeverStops, stored_after}
use Rattle.pipe_core.specs.realization.HostHistory.Host.{load}
use Rattle.pipe_core.specs.Machine.{Build}
use Rattle.pipe_core.specs.History.{Trace, next, run, begin}
use Rattle.pipe_core.specs.HostRuns.Inputs.{input_of}
use Rattle.pipe_core.specs.HostRuns.Loads.{LoadsTraces}
use Rattle.pipe_net.specs.Layout.{Layout}
use Rattle.pipe_runs.specs.PipeAnswers.Going.{AreRightClocks}
use Rattle.pipe_runs.specs.PipeAnswers.Loading.{LoadedRunsAreRight}
use Rattle.pipe_runs.specs.PipeAnswers.Coming.{AllMayCome, LoadsMayCome}
use Rattle.pipe_runs.specs.PipeAnswers.Following.{FollowsRight, FollowsAlways, DesignsFollow, DesignsShow}

always : (l : Layout) (d : Netlist) (is : List Inputs) (t : Trace) (st : Stored) → AllMayCome l.build is t → AreRightClocks l is t → FollowsRight l d is t st → FollowsAlways l.build d is t st
always l d [] t st come right follows = tt
always l d (i ∷ is) t st come right follows =
    let now = follows.1 come.0 right.0 in
    (now.0, follows.0 come.0.fits right.0, always l d is (next l.build (input_of i) t) (after d (words_of i) st) come.1 right.1 now.1)

first_part : (b : Build) (d : Netlist) (xs ys : List Inputs) (t : Trace) (st : Stored) → FollowsAlways b d (xs ++ ys) t st → FollowsAlways b d xs t st
first_part b d [] ys t st h = tt
first_part b d (x ∷ xs) ys t st h = (h.0, h.1, first_part b d xs ys (next b (input_of x) t) (after d (words_of x) st) h.2)

later_part : (b : Build) (d : Netlist) (xs ys : List Inputs) (t : Trace) (st : Stored) → FollowsAlways b d (xs ++ ys) t st → FollowsAlways b d ys (run b (map_list input_of xs) t) (stored_after d st xs)
later_part b d [] ys t st h = h
later_part b d (x ∷ xs) ys t st h = later_part b d xs ys (next b (input_of x) t) (after d (words_of x) st) h.2

pub never_stops : (b : Build) (d : Netlist) (is : List Inputs) (t : Trace) (st : Stored) → FollowsAlways b d is t st → NeverStops d st is
never_stops b d [] t st h = tt
never_stops b d (i ∷ is) t st h = (h.0, never_stops b d is (next b (input_of i) t) (after d (words_of i) st) h.2)

pub designs_follow : LoadedRunsAreRight → LoadsMayCome → LoadsTraces → DesignsFollow
designs_follow right come loads l pipelinable maps are sound few is quiet may d st follows =
    let t = begin l.build (opened_state maps.decls) in
    let all = always l d (load maps ++ is) t st (come l.build maps sound few is may) (right l pipelinable maps are sound few is quiet) follows in
    record {
      loads = first_part l.build d (load maps) is t st all;
      runs = subst (λ (u : Trace). FollowsAlways l.build d is u (stored_after d st (load maps))) (loads l.build maps sound) (later_part l.build d (load maps) is t st all);
      never = never_stops l.build d (load maps ++ is) t st all;
    }

-- ---- a clock after others
behind : (l : Layout) (d : Netlist) (xs ys : List Inputs) (t : Trace) (st : Stored) → AllMayCome l.build xs t → AreRightClocks l xs t → FollowsRight l d (xs ++ ys) t st
    → FollowsRight l d ys (run l.build (map_list input_of xs) t) (stored_after d st xs)
behind l d [] ys t st come right h = h
behind l d (x ∷ xs) ys t st come right h = behind l d xs ys (next l.build (input_of x) t) (after d (words_of x) st) come.1 right.1 (h.1 come.0 right.0).1

come_first : (b : Build) (xs ys : List Inputs) (t : Trace) → AllMayCome b (xs ++ ys) t → AllMayCome b xs t
come_first b [] ys t h = tt
come_first b (x ∷ xs) ys t h = (h.0, come_first b xs ys (next b (input_of x) t) h.1)

right_first : (l : Layout) (xs ys : List Inputs) (t : Trace) → AreRightClocks l (xs ++ ys) t → AreRightClocks l xs t
right_first l [] ys t h = tt
right_first l (x ∷ xs) ys t h = (h.0, right_first l xs ys (next l.build (input_of x) t) h.1)

right_later : (l : Layout) (xs ys : List Inputs) (t : Trace) → AreRightClocks l (xs ++ ys) t → AreRightClocks l ys (run l.build (map_list input_of xs) t)
right_later l [] ys t h = h
right_later l (x ∷ xs) ys t h = right_later l xs ys (next l.build (input_of x) t) h.1

quiet_more : (is : List Inputs) (i : Inputs) → AllByRecursion (λ i. i.host_write ≡ false) is → i.host_write ≡ false → AllByRecursion (λ i. i.host_write ≡ false) (is ++ i ∷ [])
quiet_more [] i quiet none = (none, tt)
quiet_more (x ∷ is) i quiet none = (quiet.0, quiet_more is i quiet.1 none)

pub designs_show : LoadedRunsAreRight → LoadsMayCome → LoadsTraces → DesignsShow
designs_show right come loads l pipelinable maps are sound few is i quiet may fits none d st follows =
    let t = begin l.build (opened_state maps.decls) in
    let clocks = right l pipelinable maps are sound few (is ++ i ∷ []) (quiet_more is i quiet none) in
    let loaded = behind l d (load maps) (is ++ i ∷ []) t st (come_first l.build (load maps) is t (come l.build maps sound few is may)) (right_first l (load maps) (is ++ i ∷ []) t clocks) follows in
    let from = subst (λ (u : Trace). FollowsRight l d (is ++ i ∷ []) u (stored_after d st (load maps))) (loads l.build maps sound) loaded in
    let later = subst (AreRightClocks l (is ++ i ∷ [])) (loads l.build maps sound) (right_later l (load maps) (is ++ i ∷ []) t clocks) in
    let last = behind l d is (i ∷ []) (begin l.build maps) (stored_after d st (load maps)) may (right_first l is (i ∷ []) (begin l.build maps) later) from in
    last.0 fits (right_later l is (i ∷ []) (begin l.build maps) later).0
