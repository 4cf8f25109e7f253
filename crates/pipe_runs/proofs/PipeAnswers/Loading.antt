-- The clocks of a load are right.
use Rattle.std.specs.Prelude.{◌≡◌, ℕ, zero, suc, if◌then◌else◌, Bool, true, false, Option, None, Some, List, [], ◌∷◌, ◌++◌, length, drop, map as map_list}
use Rattle.std.specs.List.{AllByRecursion}
use Rattle.std.proofs.Common.{refl, sym, ap, ◌∙◌, subst, arith}
use Rattle.cell_core.specs.beat_core.Ports.{Arrival}
use Rattle.cell_core.specs.xdp_maps.State.{opened_state}
use Rattle.pipe_core.specs.net_core.declared.ports.Inputs.{Inputs}
use Rattle.pipe_core.specs.realization.HostHistory.Host.{load}
use Rattle.pipe_core.specs.Machine.{Packet, State, Build, Commits, place_at, inside, flushed, action_of, action_as, commits_as, commits_or_moves, chosen, host_writes, host_ready, is_idle, beat_over, is_ready}
use Rattle.pipe_core.specs.History.{Trace, next, run, begin, came_in, IsInOrder, KeepsOrder, IsAlwaysInOrder}
use Rattle.pipe_core.specs.HostRuns.Inputs.{input_of, beat_in}
use Rattle.pipe_core.specs.HostRuns.Loads.{LoadsTraces}
use Rattle.pipe_core.specs.HostRuns.Fits.{IsHostClock, LoadsFit}
use Rattle.pipe_core.proofs.FlushLaws.{flushed_at}
use Rattle.pipe_net.specs.Layout.{Layout}
use Rattle.pipe_runs.specs.PipeAnswers.Going.{IsRightClock, AreRightClocks, RunsAreRight}
use Rattle.pipe_runs.specs.PipeAnswers.Loading.{EmptyRunsAreRight, LoadedRunsAreRight}

-- ---- places without packets
none_at : {X : Type 0} (xs : List (Option Packet)) (k : ℕ) (x : Packet) → inside xs ≡ 0 → place_at xs k ≡ Some x → X
none_at [] k x e f = cc
none_at (None ∷ xs) zero x e f = cc
none_at (None ∷ xs) (suc k) x e f = none_at xs k x e f
none_at (Some y ∷ xs) k x e f = cc

commits_at : (b : Build) (s : State) (rest : List (Option Packet)) (j : ℕ) (x : Packet) (w : Option _) → action_as b s rest w ≡ Commits j x → place_at rest b.plan.commit ≡ Some x
commits_at b s rest j x (Some w) e = cc
commits_at b s rest j x None e = by (place_at rest b.plan.commit) e
  where
    chose : (y : Packet) (c : Option ℕ) → commits_as y c ≡ Commits j x → Some y ≡ Some x
    chose y None f = cc
    chose y (Some n) f = cc

    by : (o : Option Packet) → commits_or_moves b s o ≡ Commits j x → o ≡ Some x
    by None f = cc
    by (Some y) f = chose y (chosen b s.tables s.done y) f

empty_is_right : (l : Layout) (i : Inputs) (s : State) → inside s.places ≡ 0 → IsRightClock l i s
empty_is_right l i s none = record {
  tables = λ k x le e. none_at s.places k x none e;
  action = record { tables = λ j x e. no_commit j x e; commits = λ j x e. no_commit j x e };
}
  where
    no_commit : {X : Type 0} (j : ℕ) (x : Packet) → action_of l.build (input_of i) s (flushed l.build 0 s.places) ≡ Commits j x → X
    no_commit j x e =
        none_at s.places l.build.plan.commit x none
        (flushed_at l.build 0 s.places l.build.plan.commit x (commits_at l.build s (flushed l.build 0 s.places) j x (host_writes (host_ready l.build s) (is_idle s) s.tables (input_of i).host) e))

-- ---- while no beat is offered
pub no_beat : (b : Build) (s : State) (i : Inputs) → i.in_valid ≡ false → beat_over b s (input_of i) ≡ None
no_beat b s i e = by (is_ready b s) i.in_valid e
  where
    by : (r v : Bool) → v ≡ false → (if r then (if v then Some (beat_in i) else None) else None) ≡ None
    by r true f = cc
    by true false f = refl
    by false false f = refl

none_came : (b : Build) (i : Inputs) (t : Trace) → i.in_valid ≡ false → t.came ≡ [] → (next b (input_of i) t).came ≡ []
unfolding next
none_came b i t e none = ap (λ (cs : List Arrival). cs ++ came_in t.state (input_of i) (beat_over b t.state (input_of i))) none ∙ ap (came_in t.state (input_of i)) (no_beat b t.state i e)

none_inside : (b : Build) (t : Trace) → IsInOrder b t → t.came ≡ [] → inside t.state.places ≡ 0
none_inside b t order none =
    let few = order.packets in
    let frames : t.state.frames ≡ [] = order.frames ∙ nothing (length t.left) t.came none in
    let long : length t.state.frames ≡ 0 = ap (λ (cs : List Arrival). length cs) frames in
    omega (arith, few, long)
  where
    nothing : (n : ℕ) (cs : List Arrival) → cs ≡ [] → drop n cs ≡ []
    nothing zero cs e = e
    nothing (suc n) [] e = refl
    nothing (suc n) (c ∷ cs) e = cc

empty_all : KeepsOrder → (l : Layout) (is : List Inputs) → AllByRecursion (λ i. i.in_valid ≡ false) is → (t : Trace) → IsInOrder l.build t → t.came ≡ [] → AreRightClocks l is t
empty_all keeps l [] offers t order none = tt
empty_all keeps l (i ∷ is) offers t order none =
    (empty_is_right l i t.state (none_inside l.build t order none), empty_all keeps l is offers.1 (next l.build (input_of i) t) (keeps l.build (input_of i) t order) (none_came l.build i t offers.0 none))

pub empty_runs : KeepsOrder → IsAlwaysInOrder → EmptyRunsAreRight
empty_runs keeps always l maps is offers = empty_all keeps l is offers (begin l.build maps) (always l.build maps []) refl

-- ---- a load, and what comes after it
both_right : (l : Layout) (xs ys : List Inputs) (t : Trace) → AreRightClocks l xs t → AreRightClocks l ys (run l.build (map_list input_of xs) t) → AreRightClocks l (xs ++ ys) t
both_right l [] ys t h g = g
both_right l (x ∷ xs) ys t h g = (h.0, both_right l xs ys (next l.build (input_of x) t) h.1 g)

none_offered : (is : List Inputs) → AllByRecursion IsHostClock is → AllByRecursion (λ (i : Inputs). i.in_valid ≡ false) is
none_offered [] h = tt
none_offered (i ∷ is) h = (h.0.offers, none_offered is h.1)

pub loaded_runs : EmptyRunsAreRight → RunsAreRight → LoadsTraces → LoadsFit → LoadedRunsAreRight
loaded_runs empty runs loads fit l pipelinable maps are sound few is quiet =
    both_right l (load maps) is (begin l.build (opened_state maps.decls))
    (empty l (opened_state maps.decls) (load maps) (none_offered (load maps) (fit maps sound few).load))
    (subst (AreRightClocks l is) (sym (loads l.build maps sound)) (runs l pipelinable maps are sound is quiet))
