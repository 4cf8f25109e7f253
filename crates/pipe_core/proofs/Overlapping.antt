-- Over every list of clocks packets are cell runs one after another.
use Rattle.std.proofs.Common.{◌≡◌, ℕ, zero, suc, inl, inr, List, [], ◌∷◌, ◌++◌, Option, Some, None, drop, refl, sym, ap, ◌∙◌, subst, arith}
use Rattle.std.specs.Prelude.{replicate}
use Rattle.std.specs.List.{AllByRecursion}
use Rattle.std.proofs.lemmas.Bool.{cases_lt}
use Rattle.hazard_core.specs.xdp_maps.State.{MapState, IsSound}
use Rattle.hazard_core.specs.cell_core.Rows.{RowsRise}
use Rattle.hazard_core.specs.cell_core.Sites.{ProgramView}
use Rattle.hazard_core.specs.Tables.{TableState, tables_of, maps_of}
use Rattle.hazard_core.specs.Tabled.{LoadsTables}
use Rattle.hazard_core.specs.Standing.{TablesStand}
use Rattle.hazard_core.specs.Replay.{CommitsInTurn, MapsInTurn, ReadsInTurn, SeesEarlier}
use Rattle.pipe_core.specs.Machine.{Packet, Input, Build, place_at, inside, some_send, work, clock, beat_over}
use Rattle.pipe_core.specs.History.{Trace, came_in, left_in, next, run, IsInOrder}
use Rattle.pipe_core.specs.Computed.{IsAlwaysComputed}
use Rattle.pipe_core.specs.Sequential.{AreCellRuns}
use Rattle.pipe_core.specs.Pipeable.{IsPipelinable}
use Rattle.pipe_core.specs.SeenChanges.{SeenChanges, views_after, rest_of, action_in, observed, watch, watch_start}
use Rattle.pipe_core.specs.Right.{KeepsRight, IsAlwaysRight}
use Rattle.pipe_core.specs.SequentialOrder.{left_maps, passed_maps, AreChained, IsSequential, KeepsSequential, RunsInTurn, FinalMaps}
use Rattle.pipe_core.proofs.Order.{beats_keep, keeps_order, begins}
use Rattle.pipe_core.proofs.Carrying.{work_carries, keeps_computed, computed}
use Rattle.pipe_core.proofs.Acting.{action_is}
use Rattle.pipe_core.proofs.Sequencing.{left_append, runs_append, runs_more, Core, action_core}

-- ---- a clock

core_now : (seen : SeesEarlier) (in_turn : CommitsInTurn) (maps_action : MapsInTurn) (reads_action : ReadsInTurn) → RowsRise → (b : Build) (maps : MapState) → IsPipelinable maps.decls b → (i : Input) → i.host ≡ None → (w : SeenChanges) → IsInOrder b w.trace → IsSequential b maps w →
    Core b (left_maps b.program maps w.trace.left) maps.decls w.trace.state.frames (left_in b i w.trace.state) (views_after b w.trace.state (action_in b i w.trace.state) w.views) (work b i w.trace.state).places
unfolding work
core_now seen in_turn maps_action reads_action rise b maps fit i silent w o h =
    let s = w.trace.state in
    action_core seen in_turn maps_action reads_action b maps fit w h o (some_send b 0 s.places) (action_in b i s) (action_is b i silent s (rest_of b s))
    (work_carries b rise fit.rows.reads.planned i s o.places o.packets h.computed.places).left

pub keeps_sequential : SeesEarlier → CommitsInTurn → MapsInTurn → ReadsInTurn → RowsRise → KeepsRight → KeepsSequential
unfolding observed next
keeps_sequential seen in_turn maps_action reads_action rise right b maps fit i silent w o h =
    let p = b.program in
    let s = w.trace.state in
    let t = w.trace in
    let gone = left_in b i s in
    let more = came_in s i (beat_over b s i) in
    let core = core_now seen in_turn maps_action reads_action rise b maps fit i silent w o h in
    let beats = beats_keep b i t o in
    let views = views_after b s (action_in b i s) w.views in
    let all : left_maps p maps (t.left ++ gone) ≡ left_maps p (left_maps p maps t.left) gone = left_append p maps t.left gone in
    record {
      right = right b maps.decls fit i silent w o h.right;
      computed = keeps_computed rise b fit.rows.reads.planned i t o h.computed;
      runs = runs_more p maps (left_maps p maps (t.left ++ gone)) (t.left ++ gone) t.came more
          (runs_append p maps (left_maps p maps (t.left ++ gone)) t.left gone t.came h.runs
          (subst (λ fs. AreCellRuns p (left_maps p maps t.left) gone fs (left_maps p maps (t.left ++ gone))) o.frames (subst (AreCellRuns p (left_maps p maps t.left) gone s.frames) (sym all) core.runs)));
      view_decls = core.view_decls;
      view_tables = core.view_tables;
      chained = subst (λ m. AreChained p m views (suc b.plan.commit) (drop (suc b.plan.commit) (clock b i s).places)) (sym all)
          (subst (λ xs. AreChained p (left_maps p (left_maps p maps t.left) gone) views (suc b.plan.commit) (drop (suc b.plan.commit) xs)) (sym beats.places) core.chained);
      now = core.now ∙ ap (λ xs. passed_maps p (left_maps p (left_maps p maps t.left) gone) (drop (suc b.plan.commit) xs)) (sym beats.places) ∙ ap (λ m. passed_maps p m (drop (suc b.plan.commit) (clock b i s).places)) (sym all);
    }

-- ---- all clocks

no_chain : (p : ProgramView) (maps : MapState) (views : ℕ → TableState) (k n m : ℕ) → AreChained p maps views k (drop n (replicate m None))
no_chain p maps views k n zero = by n
  where
    by : (n : ℕ) → AreChained p maps views k (drop n [])
    by zero = tt
    by (suc n) = tt
no_chain p maps views k zero (suc m) = no_chain p maps views (suc k) zero m
no_chain p maps views k (suc n) (suc m) = no_chain p maps views k n m

no_passed : (p : ProgramView) (maps : MapState) (n m : ℕ) → passed_maps p maps (drop n (replicate m None)) ≡ maps
no_passed p maps n zero = by n
  where
    by : (n : ℕ) → passed_maps p maps (drop n []) ≡ maps
    by zero = refl
    by (suc n) = refl
no_passed p maps zero (suc m) = no_passed p maps zero m
no_passed p maps (suc n) (suc m) = no_passed p maps n m

pub begins_sequential : IsAlwaysRight → IsAlwaysComputed → LoadsTables → TablesStand → (b : Build) (maps : MapState) → IsPipelinable maps.decls b → IsSound maps → IsSequential b maps (watch_start b maps)
begins_sequential right computed loads stand b maps fit sound = record {
  right = right b maps fit sound [] tt;
  computed = computed b fit.rows.reads.planned maps [];
  runs = refl;
  view_decls = λ k l. refl;
  view_tables = λ k l. loads maps sound;
  chained = no_chain b.program maps (λ k. tables_of maps) (suc b.plan.commit) (suc b.plan.commit) (suc b.plan.last);
  now = stand maps sound ∙ sym (no_passed b.program maps (suc b.plan.commit) (suc b.plan.last));
}

all_sequential : KeepsSequential → (b : Build) (maps : MapState) → IsPipelinable maps.decls b → (is : List Input) → AllByRecursion (λ i. i.host ≡ None) is → (w : SeenChanges) → IsInOrder b w.trace → IsSequential b maps w → IsSequential b maps (watch b is w)
unfolding observed
all_sequential keeps b maps fit [] silent w o h = h
all_sequential keeps b maps fit (i ∷ is) silent w o h = all_sequential keeps b maps fit is silent.1 (observed b i w) (keeps_order b i w.trace o) (keeps b maps fit i silent.0 w o h)

pub watch_runs : (b : Build) (is : List Input) (w : SeenChanges) → (watch b is w).trace ≡ run b is w.trace
unfolding observed
watch_runs b [] w = refl
watch_runs b (i ∷ is) w = watch_runs b is (observed b i w)

module _ (keeps : KeepsSequential) (right : IsAlwaysRight) (computed : IsAlwaysComputed) (loads : LoadsTables) (stand : TablesStand) where
  pub sequential : (b : Build) (maps : MapState) → IsPipelinable maps.decls b → IsSound maps → (is : List Input) → AllByRecursion (λ i. i.host ≡ None) is → IsSequential b maps (watch b is (watch_start b maps))
  sequential b maps fit sound is silent = all_sequential keeps b maps fit is silent (watch_start b maps) (begins b maps) (begins_sequential right computed loads stand b maps fit sound)

  pub runs_in_turn : RunsInTurn
  runs_in_turn b maps fit sound is silent = subst (λ (t : Trace). AreCellRuns b.program maps t.left t.came (left_maps b.program maps t.left)) (watch_runs b is (watch_start b maps)) (sequential b maps fit sound is silent).runs

  nobody_passed : (p : ProgramView) (m : MapState) (n : ℕ) (xs : List (Option Packet)) → inside xs ≡ 0 → passed_maps p m (drop n xs) ≡ m
  nobody_passed p m zero [] e = refl
  nobody_passed p m (suc n) [] e = refl
  nobody_passed p m n (Some x ∷ xs) e = absurd (omega (arith, e))
  nobody_passed p m zero (None ∷ xs) e = nobody_passed p m zero xs e
  nobody_passed p m (suc n) (None ∷ xs) e = nobody_passed p m n xs e

  nobody_at : (n : ℕ) (xs : List (Option Packet)) (x : Packet) → inside xs ≡ 0 → place_at xs n ≡ Some x → ⊥
  nobody_at n [] x e q = cc
  nobody_at n (Some y ∷ xs) x e q = omega (arith, e)
  nobody_at zero (None ∷ xs) x e q = cc
  nobody_at (suc n) (None ∷ xs) x e q = nobody_at n xs x e q

  empty_maps : (b : Build) (maps : MapState) (w : SeenChanges) → IsSequential b maps w → inside w.trace.state.places ≡ 0 → maps_of w.trace.state.tables ≡ left_maps b.program maps w.trace.left
  empty_maps b maps w h none = ap maps_of (sym (h.right.agreed.begun still)) ∙ h.now ∙ nobody_passed b.program (left_maps b.program maps w.trace.left) (suc b.plan.commit) w.trace.state.places none
    where
      still : w.trace.state.done ≡ 0
      still = elim (cases_lt 0 w.trace.state.done) [
        | inl l ↦ let u = h.right.at.amid l in absurd (nobody_at b.plan.commit w.trace.state.places u.packet none u.here)
        | inr l ↦ omega (arith, l)
      ]

  pub final_maps : FinalMaps
  final_maps b maps fit sound is silent =
      subst (λ (t : Trace). inside t.state.places ≡ 0 → maps_of t.state.tables ≡ left_maps b.program maps t.left) (watch_runs b is (watch_start b maps)) (empty_maps b maps (watch b is (watch_start b maps)) (sequential b maps fit sound is silent))
