-- In the stated clocks of a drive the machine gives all answers.
use Rattle.std.specs.Prelude.{◌≡◌, ℕ, suc, ◌+◌, ◌*◌, ◌≤◌, List, [], ◌∷◌, ◌++◌, length, map}
use Rattle.std.specs.List.{flat_map, AllByRecursion}
use Rattle.std.proofs.Common.{refl, sym, ap, ◌∙◌, subst, arith}
use Rattle.cell_core.specs.beat_core.declared.beat.Beat.{Beat}
use Rattle.cell_core.specs.beat_core.Beats.{beat_count, beats_of}
use Rattle.cell_core.specs.beat_core.Filling.{filled_up}
use Rattle.cell_core.specs.beat_core.Ports.{Arrival, Offered}
use Rattle.cell_core.specs.xdp_maps.State.{MapState, IsSound}
use Rattle.cell_core.specs.xdp_machine.Touched.{Touched}
use Rattle.pipe_core.specs.net_core.declared.ports.Inputs.{Inputs}
use Rattle.cell_core.specs.Rows.{record_count}
use Rattle.pipe_core.specs.Machine.{Build, new_state}
use Rattle.pipe_core.specs.History.{Trace, run, begin}
use Rattle.pipe_core.specs.Drive.{Driven, Beside, drive, drive_start, clocks_of, beats_in, EndsInTime, EndsLate}
use Rattle.pipe_core.specs.Apart.{AllRun, ConflictFree}
use Rattle.pipe_core.specs.Unconflicting.{EndsWithoutConflicts}
use Rattle.pipe_core.specs.LineRate.{reloads_in, FullDriveAtLineRate, LateDriveAtLineRate, LateFirstAtLineRate}
use Rattle.pipe_core.specs.Pipeable.{IsPipelinable}
use Rattle.pipe_core.specs.HostRuns.Inputs.{input_of}
use Rattle.pipe_core.specs.HostRuns.Silent.{silent, ReadsAreSilent, RunsAreSilent}
use Rattle.pipe_core.specs.realization.Bounds.{all_writing, most_beats, clock_bound, clock_bound_apart, beats_before, FollowWithin, line_clocks, wait_clocks}
use Rattle.pipe_core.specs.realization.Realizes.{IsPacket, frames_in, all_offers, beats_offered}
use Rattle.pipe_core.proofs.realization_laws.LineLaws.{equal_before, equal_most, equal_follow}
use Rattle.pipe_runs.specs.PipePorts.Followed.{WriteNothing, ran}
use Rattle.pipe_runs.specs.Apart.{Touch, DoNotConflict}
use Rattle.pipe_runs.proofs.Histories.{beats_of_all, frames_of_packets}
use Rattle.pipe_runs.proofs.Filled.{quiet_filled, all_silent, run_quiet, beats_quiet}
use Rattle.pipe_runs.proofs.Drives.{behind, left_behind, besides, reloads_by, length_besides, drive_from, same_drive, same_reloads, besides_more}
use Rattle.pipe_runs.proofs.Bounds.{bound_enough, late_enough, written, apart_enough, all_written, conflict_free}

pub record ClockLaws : Type 0 where
  pub reads : ReadsAreSilent
  pub silence : RunsAreSilent
  pub in_time : EndsInTime
  pub late : EndsLate
  pub apart : EndsWithoutConflicts
  pub line : FullDriveAtLineRate
  pub sent : LateDriveAtLineRate
  pub first : LateFirstAtLineRate

pub as_many_frames : (packets : List Arrival) → length (frames_in packets) ≡ length packets
as_many_frames [] = refl
as_many_frames (a ∷ rest) = ap suc (as_many_frames rest)

module _ (laws : ClockLaws) (b : Build) (maps : MapState) (pipelinable : IsPipelinable maps.decls b) (sound : IsSound maps) (slots : b.slots ≡ b.plan.last + 4) (packets : List Arrival) (are : AllByRecursion IsPacket packets) where
  abbrev frames : List (List ℕ)
  frames = frames_in packets

  -- the machine gives so many answers in a drive of so many clocks
  abbrev pub Gives : Trace → List Offered → ℕ → Type 0
  Gives t left limit = length (behind b limit t left).gave ≡ length packets

  given_by : (t : Trace) (left : List Offered) (limit : ℕ) → length (drive b (besides b limit t left) (drive_from t left)).trace.gave ≡ length frames → Gives t left limit
  given_by t left limit e = ap (λ (d : Driven). length d.trace.gave) (sym (same_drive laws.reads b limit t left)) ∙ e ∙ as_many_frames packets

  abbrev all_from : Driven
  all_from = drive_from (begin b maps) (all_offers packets)

  starts : drive_start b maps frames ≡ all_from
  starts = ap (λ (bs : List Beat). record { left = bs; trace = begin b maps }) (sym (beats_of_all packets))

  -- ---- from the first clock on
  pub gives_in_time : (limit : ℕ) → clock_bound (length packets) b.plan.last (most_beats frames) (record_count b.program.sites) ≤ limit → Gives (begin b maps) (all_offers packets) limit
  gives_in_time limit long =
      let clocks = besides b limit (begin b maps) (all_offers packets) in
      let many = subst (λ n. clock_bound n b.plan.last (most_beats frames) (record_count b.program.sites) ≤ limit) (sym (as_many_frames packets)) long in
      given_by (begin b maps) (all_offers packets) limit
      (ap (λ (d : Driven). length (drive b clocks d).trace.gave) (sym starts)
      ∙ laws.in_time b maps pipelinable sound slots frames (frames_of_packets packets are) clocks (omega (arith, bound_enough b frames, many, length_besides b limit (begin b maps) (all_offers packets))))

  -- ---- after some clocks
  pub gives_late : (is : List Inputs) → WriteNothing is → (left : List Offered)
      → map filled_up (beats_in b (map (λ (i : Inputs). silent (input_of i)) is) (new_state b maps)) ++ beats_offered left ≡ flat_map beats_of frames
      → (limit : ℕ) → clock_bound (length packets + 1) b.plan.last (most_beats frames) (record_count b.program.sites) ≤ limit → Gives (ran b maps is) left limit
  gives_late is quiet left over limit long =
      let t = ran b maps is in
      let clocks = besides b limit t left in
      let same : run b (quiet_filled is) (begin b maps) ≡ t = run_quiet b is (begin b maps) ∙ sym (laws.silence b is quiet (begin b maps)) in
      let many = subst (λ n. clock_bound (n + 1) b.plan.last (most_beats frames) (record_count b.program.sites) ≤ limit) (sym (as_many_frames packets)) long in
      given_by t left limit
      (ap (λ (u : Trace). length (drive b clocks (drive_from u left)).trace.gave) (sym same)
      ∙ laws.late b maps pipelinable sound slots (quiet_filled is) (all_silent is) frames (frames_of_packets packets are) (beats_offered left) (ap (λ bs. bs ++ beats_offered left) (beats_quiet b is (new_state b maps)) ∙ over)
      clocks (omega (arith, late_enough b frames, many, length_besides b limit t left)))

  -- ---- the same at line rate, whatever is sent back: in as many clocks as needed all of them have come
  module _ (is : List Inputs) (quiet : WriteNothing is) (left : List Offered) (over : map filled_up (beats_in b (map (λ (i : Inputs). silent (input_of i)) is) (new_state b maps)) ++ beats_offered left ≡ flat_map beats_of frames)
      (limit late : ℕ) (ts : List Touched) (touches : Touch b maps packets ts) (follow : FollowWithin b.plan.last frames late)
      (came : (behind b (limit + clock_bound (length packets + 1) b.plan.last (most_beats frames) (record_count b.program.sites)) (ran b maps is) left).came ≡ packets) where
    abbrev from : Trace
    from = ran b maps is

    abbrev late_more : ℕ
    late_more = clock_bound (length packets + 1) b.plan.last (most_beats frames) (record_count b.program.sites)

    abbrev late_clocks : List Beside
    late_clocks = besides b limit from left

    abbrev late_later : List Beside
    late_later = besides b late_more (behind b limit from left) (left_behind b limit from left)

    late_all : late_clocks ++ late_later ≡ besides b (limit + late_more) from left
    late_all = sym (besides_more b limit late_more (limit + late_more) refl from left)

    same_run : run b (quiet_filled is) (begin b maps) ≡ from
    same_run = run_quiet b is (begin b maps) ∙ sym (laws.silence b is quiet (begin b maps))

    late_driven : (drive b (late_clocks ++ late_later) (drive_from from left)).trace.came ≡ packets
    late_driven = ap (λ (xs : List Beside). (drive b xs (drive_from from left)).trace.came) late_all ∙ ap (λ (d : Driven). d.trace.came) (same_drive laws.reads b (limit + late_more) from left) ∙ came

    late_long : clocks_of b frames + b.plan.last + 2 ≤ length (late_clocks ++ late_later) + 1
    late_long =
        let many : clock_bound (length frames + 1) b.plan.last (most_beats frames) (record_count b.program.sites) ≡ late_more = ap (λ n. clock_bound (n + 1) b.plan.last (most_beats frames) (record_count b.program.sites)) (as_many_frames packets) in
        omega (arith, late_enough b frames, many, ap length late_all, length_besides b (limit + late_more) from left)

    late_writes : (us : List Touched) → AllRun b.program maps (drive b (late_clocks ++ late_later) (drive_from from left)).trace.came us → all_writing us ≤ all_writing ts
    late_writes us run = subst (λ vs. all_writing us ≤ all_writing vs) (touches are us (subst (λ (cs : List Arrival). AllRun b.program maps cs us) late_driven run)) (omega arith)

    reloads : reloads_in b late_clocks (drive_from from left) * (b.plan.commit + 2) ≡ reloads_by b limit from left * (b.plan.commit + 2)
    reloads = ap (λ n. n * (b.plan.commit + 2)) (same_reloads laws.reads b limit from left)

    over_quiet : beats_in b (quiet_filled is) (new_state b maps) ++ beats_offered left ≡ flat_map beats_of frames
    over_quiet = ap (λ bs. bs ++ beats_offered left) (beats_quiet b is (new_state b maps)) ∙ over

    pub gives_sent : line_clocks b.plan.last frames late + all_writing ts + reloads_by b limit from left * (b.plan.commit + 2) ≤ limit → Gives from left limit
    gives_sent long =
        given_by from left limit
        (laws.sent b maps pipelinable sound slots (quiet_filled is) (all_silent is) frames (frames_of_packets packets are) (beats_offered left) over_quiet late_clocks late_later late_long
        (drive_from from left) (ap (λ (u : Trace). drive_from u left) (sym same_run)) (all_writing ts) late_writes late follow (omega (arith, long, reloads, length_besides b limit from left)))

    -- the first k answers
    pub gives_some : (k : ℕ) → k ≤ length packets → wait_clocks b.plan.last frames late k + all_writing ts + reloads_by b limit from left * (b.plan.commit + 2) ≤ limit + beats_before (length from.gave) frames → k ≤ length (behind b limit from left).gave
    gives_some k few long =
        subst (λ (d : Driven). k ≤ length d.trace.gave) (same_drive laws.reads b limit from left)
        (laws.first b maps pipelinable sound slots (quiet_filled is) (all_silent is) frames (frames_of_packets packets are) (beats_offered left) over_quiet late_clocks late_later late_long
        (drive_from from left) (ap (λ (u : Trace). drive_from u left) (sym same_run)) (all_writing ts) late_writes late follow k (omega (arith, few, as_many_frames packets)) (omega (arith, long, reloads, length_besides b limit from left)))

  -- ---- packets that do not conflict: in as many clocks as needed all of them have come
  abbrev all_clocks : ℕ → ℕ
  all_clocks limit = limit + clock_bound (length packets) b.plan.last (most_beats frames) (record_count b.program.sites)

  module _ (limit : ℕ) (ts : List Touched) (apart : DoNotConflict b maps packets ts) (came : (behind b (all_clocks limit) (begin b maps) (all_offers packets)).came ≡ packets) where
    abbrev clocks : List Beside
    clocks = besides b limit (begin b maps) (all_offers packets)

    abbrev more : ℕ
    more = clock_bound (length packets) b.plan.last (most_beats frames) (record_count b.program.sites)

    abbrev later : List Beside
    later = besides b more (behind b limit (begin b maps) (all_offers packets)) (left_behind b limit (begin b maps) (all_offers packets))

    all : clocks ++ later ≡ besides b (limit + more) (begin b maps) (all_offers packets)
    all = sym (besides_more b limit more (limit + more) refl (begin b maps) (all_offers packets))

    driven : (drive b (clocks ++ later) (drive_start b maps frames)).trace.came ≡ packets
    driven =
        ap (λ (xs : List Beside). (drive b xs (drive_start b maps frames)).trace.came) all ∙ ap (λ (d : Driven). (drive b (besides b (limit + more) (begin b maps) (all_offers packets)) d).trace.came) starts
        ∙ ap (λ (d : Driven). d.trace.came) (same_drive laws.reads b (limit + more) (begin b maps) (all_offers packets)) ∙ came

    runs_of : (us : List Touched) → AllRun b.program maps (drive b (clocks ++ later) (drive_start b maps frames)).trace.came us → AllRun b.program maps packets us
    runs_of us run = subst (λ (cs : List Arrival). AllRun b.program maps cs us) driven run

    touch : (us : List Touched) → AllRun b.program maps (drive b (clocks ++ later) (drive_start b maps frames)).trace.came us → us ≡ ts
    touch us run = apart.touch are us (runs_of us run)

    all_come : clocks_of b frames ≤ length (clocks ++ later) + 1
    all_come =
        let many : clock_bound (length frames) b.plan.last (most_beats frames) (record_count b.program.sites) ≡ more = ap (λ n. clock_bound n b.plan.last (most_beats frames) (record_count b.program.sites)) (as_many_frames packets) in
        omega (arith, bound_enough b frames, many, ap length all, length_besides b (limit + more) (begin b maps) (all_offers packets))

    without_conflicts : (us : List Touched) → AllRun b.program maps (drive b (clocks ++ later) (drive_start b maps frames)).trace.came us → ConflictFree (b.plan.last + 3) us
    without_conflicts us run = subst (ConflictFree (b.plan.last + 3)) (sym (touch us run)) (conflict_free (b.plan.last + 3) ts apart.apart)

    given_all : length (drive b clocks (drive_start b maps frames)).trace.gave ≡ length frames → Gives (begin b maps) (all_offers packets) limit
    given_all e = given_by (begin b maps) (all_offers packets) limit (ap (λ (d : Driven). length (drive b clocks d).trace.gave) (sym starts) ∙ e)

    pub gives_apart : clock_bound_apart b.plan.last frames ts ≤ limit → Gives (begin b maps) (all_offers packets) limit
    gives_apart long =
        given_all (laws.apart b maps pipelinable sound slots frames (frames_of_packets packets are) clocks later all_come without_conflicts (written frames ts)
        (λ us run. subst (λ vs. all_writing us ≤ written frames vs) (touch us run) (all_written b.program maps packets us frames (runs_of us run) (as_many_frames packets)))
        (omega (arith, apart_enough frames ts, long, length_besides b limit (begin b maps) (all_offers packets))))

    -- at line rate
    pub gives_at_line_rate : (late : ℕ) → FollowWithin b.plan.last frames late → line_clocks b.plan.last frames late + all_writing ts ≤ limit → Gives (begin b maps) (all_offers packets) limit
    gives_at_line_rate late follow long =
        given_all (laws.line b maps pipelinable sound slots frames (frames_of_packets packets are) clocks later all_come without_conflicts (all_writing ts)
        (λ us run. subst (λ vs. all_writing us ≤ all_writing vs) (touch us run) (omega arith))
        late follow (omega (arith, long, length_besides b limit (begin b maps) (all_offers packets))))

    pub gives_of_equal : (beats : ℕ) → AllByRecursion (λ f. beat_count (length f) ≡ beats) frames → length packets * beats + all_writing ts + beats + b.plan.last + 2 ≤ limit → Gives (begin b maps) (all_offers packets) limit
    gives_of_equal beats equal long =
        let count = as_many_frames packets in
        let all_beats : beats_before (length frames) frames ≡ length packets * beats = equal_before beats frames equal (length frames) (omega arith) ∙ ap (λ n. n * beats) count in
        gives_at_line_rate 0 (equal_follow b.plan.last beats frames (frames_of_packets packets are) equal) (omega (arith, long, all_beats, equal_most beats frames equal))
