-- What the machine keeps in clocks in which the host writes nothing and only what may come does.
use Rattle.std.specs.Prelude.{◌≡◌, false, List, [], ◌∷◌, ◌++◌}
use Rattle.std.specs.List.{AllByRecursion}
use Rattle.std.proofs.Common.{refl, sym, ap, ◌∙◌, subst}
use Rattle.cell_core.specs.beat_core.declared.answer.Answer.{Answer}
use Rattle.cell_core.specs.beat_core.Ports.{Arrival}
use Rattle.cell_core.specs.xdp_maps.State.{MapState, IsSound}
use Rattle.pipe_core.specs.net_core.declared.ports.Inputs.{Inputs}
use Rattle.cell_core.specs.CellLaws.{ValuesFit}
use Rattle.pipe_core.specs.Machine.{Build, beat_over}
use Rattle.pipe_core.specs.History.{Trace, next, begin, came_in}
use Rattle.pipe_core.specs.SequentialOrder.{left_maps}
use Rattle.pipe_core.specs.Pipeable.{IsPipelinable}
use Rattle.pipe_core.specs.HostRuns.Inputs.{input_of}
use Rattle.pipe_net.specs.Machine.{MayCome}
use Rattle.pipe_net.specs.Layout.{HasAnswer}
use Rattle.pipe_net.specs.Relation.{IsAt}
use Rattle.pipe_runs.specs.PipeAnswers.Runs.{RunsFrom, ReadsRunInTurn}
use Rattle.pipe_runs.specs.PipePorts.Followed.{WriteNothing, ran}
use Rattle.pipe_runs.proofs.PipePorts.Clock.{IsSome, FirstIsBytes, Ticks, ticks, position_then}
use Rattle.pipe_runs.proofs.PipePorts.Bytes.{HasBytes, PartHasBytes, part_bytes, came_bytes, answers_bytes}
use Rattle.pipe_runs.proofs.PipePorts.Lists.{all_append, all_behind, run_behind}

some_of : (answers : List Answer) → AllByRecursion (λ (r : Answer). HasBytes r.frame) answers → AllByRecursion IsSome answers
some_of [] h = tt
some_of (r ∷ rest) h = (h.0.some, some_of rest h.1)

first_of : (answers : List Answer) → AllByRecursion (λ (r : Answer). HasBytes r.frame) answers → FirstIsBytes answers
first_of [] h = tt
first_of (r ∷ rest) h = h.0.bytes

module _ (fit : ValuesFit) (action : ReadsRunInTurn) (b : Build) (maps : MapState) (pipelinable : IsPipelinable maps.decls b) (has : HasAnswer b) (sound : IsSound maps) where
  -- the machine is here after clocks in which the host wrote nothing
  pub record Reached (t : Trace) : Type 0 where
    pub clocks : List Inputs
    pub silent : WriteNothing clocks
    pub is : ran b maps clocks ≡ t

  pub reached_then : (t : Trace) (i : Inputs) → i.host_write ≡ false → Reached t → Reached (next b (input_of i) t)
  reached_then t i quiet r = record {
    clocks = r.clocks ++ i ∷ [];
    silent = all_append (λ j. j.host_write ≡ false) r.clocks (i ∷ []) r.silent (quiet, tt);
    is = run_behind b r.clocks (i ∷ []) (begin b maps) ∙ ap (next b (input_of i)) r.is;
  }

  pub runs_at : (t : Trace) → Reached t → RunsFrom b maps t
  runs_at t r = subst (RunsFrom b maps) r.is (action b maps pipelinable sound r.clocks r.silent)

  -- frames have bytes, and the next beat of the first answer is there
  pub record Stands (t : Trace) : Type 0 where
    pub reached : Reached t
    pub came : AllByRecursion (λ (c : Arrival). HasBytes c.frame) t.came
    pub part : PartHasBytes t.state.part
    pub position : IsAt t.state.pos t.state.answers

  pub begins : Stands (begin b maps)
  begins = record { reached = record { clocks = []; silent = tt; is = refl }; came = tt; part = tt; position = refl }

  bytes_at : (t : Trace) → Reached t → AllByRecursion (λ (c : Arrival). HasBytes c.frame) t.came → AllByRecursion (λ (r : Answer). HasBytes r.frame) t.state.answers
  bytes_at t r came =
      let f = runs_at t r in
      all_behind (λ (r : Answer). HasBytes r.frame) t.gave t.state.answers
      (subst (AllByRecursion (λ (r : Answer). HasBytes r.frame)) (sym f.order.answers) (answers_bytes fit b has maps t.left t.came (left_maps b.program maps t.left) f.runs came))

  pub ticks_at : (t : Trace) → Stands t → (i : Inputs) → Ticks b t.state i
  ticks_at t h i = ticks b t.state i h.position (first_of t.state.answers (bytes_at t h.reached h.came))

  pub first_at : (t : Trace) → Stands t → FirstIsBytes t.state.answers
  first_at t h = first_of t.state.answers (bytes_at t h.reached h.came)

  came_then : (t : Trace) → Stands t → (i : Inputs) → MayCome b t.state i → AllByRecursion (λ (c : Arrival). HasBytes c.frame) (next b (input_of i) t).came
  unfolding next
  came_then t h i may =
      all_append (λ (c : Arrival). HasBytes c.frame) t.came (came_in t.state (input_of i) (beat_over b t.state (input_of i))) h.came (came_bytes t.state i (beat_over b t.state (input_of i)) h.part may.offer)

  part_then : (t : Trace) → Stands t → (i : Inputs) → MayCome b t.state i → PartHasBytes (next b (input_of i) t).state.part
  unfolding next
  part_then t h i may = subst PartHasBytes (sym (ticks_at t h i).part) (part_bytes t.state.part i (beat_over b t.state (input_of i)) h.part may.offer)

  at_then : (t : Trace) → Stands t → (i : Inputs) → AllByRecursion (λ (r : Answer). HasBytes r.frame) (next b (input_of i) t).state.answers → IsAt (next b (input_of i) t).state.pos (next b (input_of i) t).state.answers
  unfolding next
  at_then t h i some = position_then b t.state i h.position (some_of _ some)

  pub stands_then : (t : Trace) (i : Inputs) → i.host_write ≡ false → MayCome b t.state i → Stands t → Stands (next b (input_of i) t)
  stands_then t i quiet may h =
      let reached = reached_then t i quiet h.reached in
      let came = came_then t h i may in
      record { reached = reached; came = came; part = part_then t h i may; position = at_then t h i (bytes_at (next b (input_of i) t) reached came) }
