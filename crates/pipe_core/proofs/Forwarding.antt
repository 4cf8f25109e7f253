-- Where no runs of its frames conflict, nothing is sent back in a full drive.
use Rattle.std.proofs.Common.{◌≡◌, ◌+◌, List, [], ◌∷◌, ◌++◌, sym, ◌∙◌, subst, append_assoc, refl}
use Rattle.std.specs.List.{flat_map}
use Rattle.std.proofs.lemmas.List.{append-nil}
use Rattle.realization.specs.beat_core.declared.beat.Beat.{Beat}
use Rattle.realization.specs.beat_core.Beats.{beats_of}
use Rattle.realization.specs.beat_core.Ports.{Arrival}
use Rattle.hazard_core.specs.xdp_maps.State.{MapState, IsSound}
use Rattle.hazard_core.specs.xdp_machine.Touched.{Touched}
use Rattle.hazard_core.specs.Tabled.{LoadsTables}
use Rattle.hazard_core.specs.Standing.{TablesStand}
use Rattle.pipe_core.specs.Machine.{Build, beat_over}
use Rattle.pipe_core.specs.History.{came_in, next, IsInOrder}
use Rattle.pipe_core.specs.Computed.{IsAlwaysComputed}
use Rattle.pipe_core.specs.Pipeable.{IsPipelinable}
use Rattle.pipe_core.specs.Right.{IsAlwaysRight}
use Rattle.pipe_core.specs.SequentialOrder.{IsSequential, KeepsSequential}
use Rattle.pipe_core.specs.SeenChanges.{SeenChanges, observed, watch_start}
use Rattle.pipe_core.specs.ChangeCauses.{HaveChangeCauses, KeepsChangeCauses, BeginsChangeCauses}
use Rattle.pipe_core.specs.Found.{AreFound, KeepsFound, BeginsFound}
use Rattle.pipe_core.specs.Apart.{AllRun, ConflictFree, EndsUnsent}
use Rattle.pipe_core.specs.Unconflicting.{NothingMustReload, StaysForward, EndsWithoutConflicts}
use Rattle.pipe_core.specs.Drive.{Driven, driving, drive_clock, Beside, drive}
use Rattle.pipe_core.specs.Forward.{GoesForward}
use Rattle.pipe_core.proofs.Order.{keeps_order, begins}
use Rattle.pipe_core.proofs.Overlapping.{begins_sequential}
use Rattle.pipe_core.proofs.Timing.{left_after}

-- clocks add frames to those that came
record Later (b : Build) (clocks : List Beside) (d : Driven) : Type 0 where
  more : List Arrival
  came : (drive b clocks d).trace.came ≡ d.trace.came ++ more

later : (b : Build) (clocks : List Beside) (d : Driven) → Later b clocks d
unfolding drive_clock next
later b [] d = record { more = []; came = sym (append-nil d.trace.came) }
later b (x ∷ xs) d =
    let i = driving x.ifindex x.time d.left in
    let now = came_in d.trace.state i (beat_over b d.trace.state i) in
    let l = later b xs (drive_clock b x.ifindex x.time d) in
    record { more = now ++ l.more; came = l.came ∙ append_assoc d.trace.came now l.more }

-- what holds while nothing was sent back
record Undisturbed (b : Build) (maps : MapState) (w : SeenChanges) : Type 0 where
  order : IsInOrder b w.trace
  sequential : IsSequential b maps w
  change_causes : HaveChangeCauses b maps w
  found : AreFound b w

module _ (reload : NothingMustReload) (keeps : KeepsSequential) (blames : KeepsChangeCauses) (finds : KeepsFound) (b : Build) (maps : MapState) (fit : IsPipelinable maps.decls b) (sound : IsSound maps) where
  stays : (clocks more : List Beside) (left : List Beat) (w : SeenChanges) → Undisturbed b maps w
      → ((ts : List Touched) → AllRun b.program maps (drive b (clocks ++ more) (record { left = left; trace = w.trace })).trace.came ts → ConflictFree (b.plan.last + 3) ts)
      → GoesForward b clocks (record { left = left; trace = w.trace })
  unfolding drive_clock observed
  stays [] more left w u apart = tt
  stays (x ∷ xs) more left w u apart =
      let i = driving x.ifindex x.time left in
      let l = later b ((x ∷ xs) ++ more) (record { left = left; trace = w.trace }) in
      let unsent = reload b maps fit sound w u.order u.sequential u.sequential.right.agreed.marked u.change_causes u.found l.more (λ ts runs. apart ts (subst (λ cs. AllRun b.program maps cs ts) (sym l.came) runs)) in
      let next : Undisturbed b maps (observed b i w) = record {
        order = keeps_order b i w.trace u.order;
        sequential = keeps b maps fit i refl w u.order u.sequential;
        change_causes = blames b maps fit i refl w u.order u.sequential unsent u.change_causes;
        found = finds b maps fit i refl w u.order u.sequential u.found;
      } in
      (unsent, stays xs more (left_after b w.trace.state left) (observed b i w) next apart)

module _ (reload : NothingMustReload) (keeps : KeepsSequential) (right : IsAlwaysRight) (computed : IsAlwaysComputed) (loads : LoadsTables) (stand : TablesStand) (blames : KeepsChangeCauses) (begins_change_causes : BeginsChangeCauses) (finds : KeepsFound) (begins_found : BeginsFound) where
  pub stays_forward : StaysForward
  stays_forward b maps fit sound frames clocks more apart =
      let start : Undisturbed b maps (watch_start b maps) = record {
        order = begins b maps;
        sequential = begins_sequential right computed loads stand b maps fit sound;
        change_causes = begins_change_causes b maps;
        found = begins_found b maps;
      } in
      stays reload keeps blames finds b maps fit sound clocks more (flat_map beats_of frames) (watch_start b maps) start apart

  pub ends_without_conflicts : EndsUnsent → EndsWithoutConflicts
  ends_without_conflicts ends b maps fit sound slots frames whole clocks more long apart q bound enough =
      ends b maps fit sound slots frames whole clocks more long (stays_forward b maps fit sound frames clocks more apart) q bound enough
