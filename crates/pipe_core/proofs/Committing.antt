-- How many operations are committed in a full drive: those that the runs of its frames write.
use Rattle.std.proofs.Common.{◌≡◌, ℕ, zero, suc, ◌+◌, ◌<◌, ◌≤◌, ◌⊎◌, inl, inr, true, List, [], ◌∷◌, ◌++◌, Option, Some, None, length, get_or, drop, refl, sym, ap, ◌∙◌, subst, arith, length-append, length-drop}
use Rattle.std.specs.Prelude.{◌&&◌}
use Rattle.std.specs.List.{flat_map}
use Rattle.std.proofs.lemmas.Bool.{cases_lt}
use Rattle.std.proofs.lemmas.List.Sums.{passes_at_first}
use Rattle.realization.specs.beat_core.declared.beat.Beat.{Beat}
use Rattle.realization.specs.beat_core.Beats.{beats_of}
use Rattle.realization.specs.beat_core.Ports.{Arrival}
use Rattle.realization.specs.Bounds.{all_writing}
use Rattle.hazard_core.specs.xdp_maps.declared.decl.MapDecl.{MapDecl}
use Rattle.hazard_core.specs.xdp_maps.State.{MapState}
use Rattle.hazard_core.specs.xdp_machine.Touched.{Touched}
use Rattle.hazard_core.specs.cell_core.Cells.{cell_at, no_cell, site_in, bit, on}
use Rattle.hazard_core.specs.cell_core.Sites.{site_at}
use Rattle.hazard_core.specs.Tables.{TableState, decl_of}
use Rattle.hazard_core.specs.Tabled.{LoadsTables}
use Rattle.hazard_core.specs.Standing.{TablesStand}
use Rattle.hazard_core.specs.StageValues.{StageValues, stage_value, guard_on, is_answer_of, answer_cell, writes_as, writes}
use Rattle.hazard_core.specs.Rows.{with_row}
use Rattle.hazard_core.specs.Commits.{change_by}
use Rattle.hazard_core.proofs.HeldLaws.{answer_is}
use Rattle.pipe_core.specs.Machine.{Packet, State, Input, Build, Action, Commits, Writes, Moves, no_frame, place_at, inside, some_send, marked_below, moved, newcomer, entered, packet_of, worked, work, is_ready, clock}
use Rattle.pipe_core.specs.History.{Trace, left_as, left_in, next, run, begin}
use Rattle.pipe_core.specs.Computed.{IsAlwaysComputed}
use Rattle.pipe_core.specs.Drive.{Driven, driving, drive_clock, Beside, drive, EndsInTime, EndsLate}
use Rattle.pipe_core.specs.Forward.{commit_count, commits_in, EndsForward}
use Rattle.pipe_core.specs.Pipeable.{IsPipelinable}
use Rattle.pipe_core.specs.Right.{IsAlwaysRight}
use Rattle.pipe_core.specs.SequentialOrder.{IsSequential, KeepsSequential, left_maps}
use Rattle.pipe_core.specs.SeenChanges.{SeenChanges, rest_of, action_in, observed, watch, watch_start}
use Rattle.pipe_core.specs.Apart.{AllRun, CommitsAreWrites, LateCommitsAreWrites, EndsUnsent}
use Rattle.pipe_core.proofs.Order.{last_or, beats_keep}
use Rattle.pipe_core.proofs.Agreeing.{keeps_other}
use Rattle.pipe_core.proofs.Acting.{ActionIs, action_is}
use Rattle.pipe_core.proofs.Righting.{not_marked_by, keeps_place}
use Rattle.pipe_core.proofs.Passing.{drop_moved, drop_marked_by, drop_flushed}
use Rattle.pipe_core.proofs.Sequencing.{last_dropped}
use Rattle.pipe_core.proofs.Overlapping.{watch_runs, begins_sequential, sequential}
use Rattle.pipe_core.proofs.Draining.{Driving, begins_driving}
use Rattle.pipe_core.proofs.Offering.{Offered, offered_on}
use Rattle.pipe_core.proofs.Timing.{ahead_is, left_after, reaches}
use Rattle.pipe_core.proofs.Tallying.{made, made_more, made_one, left_made, left_append, Runs, all_run}
use Rattle.pipe_core.proofs.FlushLaws.{flushed_at, flushed_length}
use Rattle.pipe_core.proofs.HistoryLaws.{answers_length}
use Rattle.pipe_core.proofs.ClockLaws.{clock_aside}

-- ---- what packets in places have committed

-- all that those past the commit place write
passed_made : Build → List MapDecl → List (Option Packet) → ℕ
passed_made b decls [] = 0
passed_made b decls (None ∷ xs) = passed_made b decls xs
passed_made b decls (Some x ∷ xs) = made b.program decls x.held (length b.program.sites) + passed_made b decls xs

-- of the one at the commit place what is through
begun_made : Build → List MapDecl → Option Packet → ℕ → ℕ
begun_made b decls None done = 0
begun_made b decls (Some x) done = made b.program decls x.held done

whole_made : Build → List MapDecl → Option Packet → ℕ
whole_made b decls o = begun_made b decls o (length b.program.sites)

tally : Build → List MapDecl → List StageValues → List (Option Packet) → ℕ → ℕ
tally b decls left places done = left_made b.program decls left + passed_made b decls (drop (suc b.plan.commit) places) + begun_made b decls (place_at places b.plan.commit) done

none_begun : (b : Build) (decls : List MapDecl) (o : Option Packet) → begun_made b decls o 0 ≡ 0
unfolding begun_made
none_begun b decls None = refl
none_begun b decls (Some x) = refl

gone_made : (b : Build) (decls : List MapDecl) (o : Option Packet) → left_made b.program decls (left_as Moves o) ≡ whole_made b decls o
unfolding whole_made begun_made
gone_made b decls None = refl
gone_made b decls (Some x) = omega arith

-- a packet that enters a place past the commit place writes the same
module _ (b : Build) (decls : List MapDecl) (fit : IsPipelinable decls b) (t : TableState) (k : ℕ) (c : Arrival) (x : Packet) (past : b.plan.commit < k) where
  entered_value : (i : ℕ) → (b.plan.row i ≤ b.plan.commit) ⊎ (length b.program.cells ≤ i) → stage_value (entered b t k c x).held i ≡ stage_value x.held i
  unfolding entered with_row
  entered_value i why = sym (keeps_other b k t (packet_of c) 0 b.program.cells x.held (omega arith) i (elim why [
    | inl low ↦ inl (λ e. omega (arith, e, low, past))
    | inr over ↦ inr over
  ])).value

  entered_writes : (j : ℕ) → j < length b.program.sites → writes b.program decls (entered b t k c x).held j ≡ writes b.program decls x.held j
  entered_writes j l =
      let s = site_at b.program.sites j in
      let kind = (decl_of decls s.map).kind in
      let a = answer_cell b.program.cells j in
      let guard = entered_value s.guard (inl (fit.rows.site_rows j l).0) in
      let answer = entered_value a (elim (cases_lt a (length b.program.cells)) [
        | inl inside ↦ inl (fit.rows.read_rows a j inside (ap site_in (answer_is j (cell_at b.program.cells a).op (passes_at_first (λ d. is_answer_of j d.op) b.program.cells no_cell inside))))
        | inr over ↦ inr over
      ]) in
      ap (λ g. on g && writes_as s.act kind (stage_value (entered b t k c x).held a)) guard ∙ ap (λ n. guard_on x.held s && writes_as s.act kind n) answer

  entered_made : (d : ℕ) → d ≤ length b.program.sites → made b.program decls (entered b t k c x).held d ≡ made b.program decls x.held d
  entered_made zero l = refl
  entered_made (suc d) l = let e : bit (writes b.program decls (entered b t k c x).held d) ≡ bit (writes b.program decls x.held d) = ap bit (entered_writes d (omega (arith, l))) in omega (arith, e, entered_made d (omega (arith, l)))

passed_moved : (b : Build) (decls : List MapDecl) → IsPipelinable decls b → (t : TableState) (fs : List Arrival) (k : ℕ) (x : Option Packet) (ys : List (Option Packet)) → b.plan.commit < k →
    passed_made b decls (moved b t fs k x ys) + whole_made b decls (last_or x ys) ≡ whole_made b decls x + passed_made b decls ys
unfolding passed_made whole_made begun_made
passed_moved b decls fit t fs k None [] past = refl
passed_moved b decls fit t fs k (Some x) [] past = omega arith
passed_moved b decls fit t fs k None (None ∷ ys) past = omega (arith, passed_moved b decls fit t fs (suc k) None ys (omega (arith, past)))
passed_moved b decls fit t fs k None (Some y ∷ ys) past = omega (arith, passed_moved b decls fit t fs (suc k) (Some y) ys (omega (arith, past)))
passed_moved b decls fit t fs k (Some x) (None ∷ ys) past =
    omega (arith, passed_moved b decls fit t fs (suc k) None ys (omega (arith, past)), entered_made b decls fit t k (get_or fs (inside (None ∷ ys)) no_frame) x past (length b.program.sites) (omega arith))
passed_moved b decls fit t fs k (Some x) (Some y ∷ ys) past =
    omega (arith, passed_moved b decls fit t fs (suc k) (Some y) ys (omega (arith, past)), entered_made b decls fit t k (get_or fs (inside (Some y ∷ ys)) no_frame) x past (length b.program.sites) (omega arith))

-- ---- an action

module _ (b : Build) (maps : MapState) (fit : IsPipelinable maps.decls b) (w : SeenChanges) (h : IsSequential b maps w) (long : length w.trace.state.places ≡ suc b.plan.last) where
  abbrev s : State
  s = w.trace.state

  abbrev rest : List (Option Packet)
  rest = rest_of b w.trace.state

  rest_long : length (rest_of b w.trace.state) ≡ suc b.plan.last
  rest_long = flushed_length b 0 s.places ∙ long

  past_rest : drop (suc b.plan.commit) (rest_of b w.trace.state) ≡ drop (suc b.plan.commit) w.trace.state.places
  past_rest = drop_flushed b 0 (suc b.plan.commit) s.places (omega arith)

  -- what the packet at the commit place has committed is at most what it writes
  begun_whole : (o : Option Packet) → place_at (rest_of b w.trace.state) b.plan.commit ≡ o → begun_made b maps.decls (place_at w.trace.state.places b.plan.commit) w.trace.state.done ≤ whole_made b maps.decls o
  unfolding begun_made whole_made
  begun_whole (Some x) e =
      let there = flushed_at b 0 s.places b.plan.commit x e in
      let l = (h.right.at.replays x there).through in
      subst (λ o. begun_made b maps.decls o s.done ≤ whole_made b maps.decls (Some x)) (sym there) (made_more b.program maps.decls x.held s.done (length b.program.sites) l)
  begun_whole None e = elim (cases_lt 0 s.done) [
    | inl l ↦
        let u = h.right.at.amid l in
        let c = fit.rows.commit in
        absurd (no (sym e ∙ keeps_place b s.places (omega (arith, c, long)) u ∙ u.here))
    | inr l ↦
        let z : s.done ≡ 0 = omega (arith, l) in
        subst (λ d. begun_made b maps.decls (place_at s.places b.plan.commit) d ≤ 0) (sym z) (let n = none_begun b maps.decls (place_at s.places b.plan.commit) in omega (arith, n))
  ]
    where
      no : {x : Packet} → None ≡ Some x → ⊥
      no e = cc

  acted : (u : Action) → ActionIs b w.trace.state (rest_of b w.trace.state) u →
      (let v = worked b w.trace.state (some_send b 0 w.trace.state.places) (rest_of b w.trace.state) u in
      passed_made b maps.decls (drop (suc b.plan.commit) w.trace.state.places) + begun_made b maps.decls (place_at w.trace.state.places b.plan.commit) w.trace.state.done + commit_count u
      ≤ left_made b.program maps.decls (left_as u (place_at (rest_of b w.trace.state) b.plan.last)) + passed_made b maps.decls (drop (suc b.plan.commit) v.places) + begun_made b maps.decls (place_at v.places b.plan.commit) v.done)
  unfolding begun_made
  acted (Commits j x) is =
      let e = change_by b.program s.tables s.taken x.held j in
      let after = marked_below b.plan.commit b s.tables e 0 rest in
      let past : drop (suc b.plan.commit) after ≡ drop (suc b.plan.commit) s.places = drop_marked_by b.plan.commit b s.tables e 0 (suc b.plan.commit) rest (omega arith) ∙ past_rest in
      let there : place_at s.places b.plan.commit ≡ Some x = flushed_at b 0 s.places b.plan.commit x is.here in
      let now : place_at after b.plan.commit ≡ Some x = not_marked_by b.plan.commit b s.tables e 0 rest b.plan.commit (omega arith) ∙ is.here in
      let wrote : writes b.program maps.decls x.held j ≡ true = ap (λ ds. writes b.program ds x.held j) (sym h.right.at.decls_are) ∙ is.writes_there in
      let one = made_one b.program maps.decls x.held s.done j is.from_on wrote in
      let a : passed_made b maps.decls (drop (suc b.plan.commit) after) ≡ passed_made b maps.decls (drop (suc b.plan.commit) s.places) = ap (passed_made b maps.decls) past in
      let c : begun_made b maps.decls (place_at s.places b.plan.commit) s.done ≡ made b.program maps.decls x.held s.done = ap (λ o. begun_made b maps.decls o s.done) there in
      let d : begun_made b maps.decls (place_at after b.plan.commit) (suc j) ≡ made b.program maps.decls x.held (suc j) = ap (λ o. begun_made b maps.decls o (suc j)) now in
      omega (arith, one, a, c, d)
  acted (Writes a n) is = absurd is
  acted Moves is =
      let c = fit.rows.commit in
      let new = newcomer b (some_send b 0 s.places) s.frames rest in
      let after = moved b s.tables s.frames 0 new rest in
      let at = place_at rest b.plan.commit in
      let older = drop (suc b.plan.commit) rest in
      let past : passed_made b maps.decls (drop (suc b.plan.commit) after) ≡ passed_made b maps.decls (moved b s.tables s.frames (suc b.plan.commit) at older) =
      ap (passed_made b maps.decls) (drop_moved b s.tables s.frames 0 b.plan.commit new rest (omega (arith, c, rest_long)) ∙ ap (λ n. moved b s.tables s.frames (suc n) at older) (omega arith)) in
      let go = passed_moved b maps.decls fit s.tables s.frames (suc b.plan.commit) at older (omega arith) in
      let out : left_made b.program maps.decls (left_as Moves (place_at rest b.plan.last)) ≡ whole_made b maps.decls (last_or at older) =
      gone_made b maps.decls (place_at rest b.plan.last) ∙ ap (whole_made b maps.decls) (last_dropped rest b.plan.commit b.plan.last (omega (arith, c, rest_long)) (sym rest_long)) in
      let same : passed_made b maps.decls older ≡ passed_made b maps.decls (drop (suc b.plan.commit) s.places) = ap (passed_made b maps.decls) past_rest in
      omega (arith, past, go, out, same, begun_whole at refl)

-- ---- a clock of the drive

record Tallied (b : Build) (maps : MapState) (n commits : ℕ) (left : List Beat) (w : SeenChanges) : Type 0 where
  driving : Driving n b (record { left = left; trace = w.trace })
  sequential : IsSequential b maps w
  enough : commits ≤ tally b maps.decls w.trace.left w.trace.state.places w.trace.state.done

module _ (keeps : KeepsSequential) (b : Build) (maps : MapState) (fit : IsPipelinable maps.decls b) (n : ℕ) where
  tallied_on : (commits ifindex time : ℕ) (left : List Beat) (w : SeenChanges) → Tallied b maps n commits left w →
      Tallied b maps n (commits + commit_count (action_in b (driving ifindex time left) w.trace.state)) (left_after b w.trace.state left) (observed b (driving ifindex time left) w)
  unfolding observed next work tally
  tallied_on commits ifindex time left w v = record {
    driving = o.driving;
    sequential = keeps b maps fit i refl w v.driving.order v.sequential;
    enough =
        let t = acted b maps fit w v.sequential v.driving.order.places (action_in b i s) (action_is b i refl s (rest_of b s)) in
        let done : (clock b i s).done ≡ (work b i s).done = (clock_aside b i s).done in
        let places : (clock b i s).places ≡ (work b i s).places = (beats_keep b i w.trace v.driving.order).places in
        let p : passed_made b maps.decls (drop (suc b.plan.commit) (clock b i s).places) ≡ passed_made b maps.decls (drop (suc b.plan.commit) (work b i s).places) = ap (λ xs. passed_made b maps.decls (drop (suc b.plan.commit) xs)) places in
        let g : begun_made b maps.decls (place_at (clock b i s).places b.plan.commit) (clock b i s).done ≡ begun_made b maps.decls (place_at (work b i s).places b.plan.commit) (work b i s).done =
        ap (λ xs. begun_made b maps.decls (place_at xs b.plan.commit) (clock b i s).done) places ∙ ap (begun_made b maps.decls (place_at (work b i s).places b.plan.commit)) done in
        omega (arith, t, p, g, v.enough, left_append b.program maps.decls w.trace.left (left_in b i s));
  }
    where
      s : State
      s = w.trace.state

      i : Input
      i = driving ifindex time left

      o : Offered n b i w.trace (left_after b s left)
      o = offered_on n b i w.trace (left_after b s left) (subst (λ l. Driving n b (record { left = l; trace = w.trace })) (ahead_is (is_ready b s) left) v.driving)

  record Reached (commits : ℕ) (clocks : List Beside) (left : List Beat) (w : SeenChanges) : Type 0 where
    left_over : List Beat
    seen_changes : SeenChanges
    is : drive b clocks (record { left = left; trace = w.trace }) ≡ record { left = left_over; trace = seen_changes.trace }
    tallied : Tallied b maps n (commits + commits_in b clocks (record { left = left; trace = w.trace })) left_over seen_changes

  reach : (clocks : List Beside) (commits : ℕ) (left : List Beat) (w : SeenChanges) → Tallied b maps n commits left w → Reached commits clocks left w
  unfolding drive_clock observed
  reach [] commits left w v = record { left_over = left; seen_changes = w; is = refl; tallied = subst (λ c. Tallied b maps n c left w) (omega arith) v }
  reach (x ∷ xs) commits left w v =
      let i = driving x.ifindex x.time left in
      let c = commit_count (action_in b i w.trace.state) in
      let r = reach xs (commits + c) (left_after b w.trace.state left) (observed b i w) (tallied_on commits x.ifindex x.time left w v) in
      record {
        left_over = r.left_over;
        seen_changes = r.seen_changes;
        is = r.is;
        tallied = subst (λ m. Tallied b maps n m r.left_over r.seen_changes) (omega arith) r.tallied;
      }

-- ---- the whole drive

more_commits : (b : Build) (clocks more : List Beside) (d : Driven) → commits_in b clocks d ≤ commits_in b (clocks ++ more) d
more_commits b [] more d = omega arith
more_commits b (x ∷ xs) more d = omega (arith, more_commits b xs more (drive_clock b x.ifindex x.time d))

nobody : (b : Build) (decls : List MapDecl) (n : ℕ) (xs : List (Option Packet)) → inside xs ≡ 0 → passed_made b decls (drop n xs) ≡ 0
unfolding passed_made
nobody b decls zero [] e = refl
nobody b decls (suc n) [] e = refl
nobody b decls n (Some x ∷ xs) e = absurd (omega (arith, e))
nobody b decls zero (None ∷ xs) e = nobody b decls zero xs e
nobody b decls (suc n) (None ∷ xs) e = nobody b decls n xs e

nobody_begun : (b : Build) (decls : List MapDecl) (n done : ℕ) (xs : List (Option Packet)) → inside xs ≡ 0 → begun_made b decls (place_at xs n) done ≡ 0
unfolding begun_made
nobody_begun b decls n done [] e = refl
nobody_begun b decls n done (Some x ∷ xs) e = absurd (omega (arith, e))
nobody_begun b decls zero done (None ∷ xs) e = refl
nobody_begun b decls (suc n) done (None ∷ xs) e = nobody_begun b decls n done xs e

-- so it is from any reached state on
module _ (keeps : KeepsSequential) (b : Build) (maps : MapState) (fit : IsPipelinable maps.decls b) (n : ℕ) (clocks more : List Beside) (left : List Beat) (from : SeenChanges) (starts : Tallied b maps n 0 left from)
    (all_gave : length (drive b (clocks ++ more) (record { left = left; trace = from.trace })).trace.gave ≡ n)
    (q : ℕ) (bound : (ts : List Touched) → AllRun b.program maps (drive b (clocks ++ more) (record { left = left; trace = from.trace })).trace.came ts → all_writing ts ≤ q) where
  r : Reached keeps b maps fit n 0 (clocks ++ more) left from
  r = reach keeps b maps fit n (clocks ++ more) 0 left from starts

  abbrev w : SeenChanges
  w = r.seen_changes

  gave : length w.trace.gave ≡ n
  gave = sym (ap (λ (e : Driven). length e.trace.gave) r.is) ∙ all_gave

  given : length w.trace.gave ≤ length w.trace.left
  given =
      let o = r.tallied.driving.order in
      omega (arith, ap length o.answers, length-append w.trace.gave w.trace.state.answers, answers_length b.program w.trace.left w.trace.came o.begun)

  all_left : length w.trace.left ≡ length w.trace.came
  all_left = let v = r.tallied.driving in omega (arith, gave, given, v.order.begun, v.count)

  empty : inside w.trace.state.places ≡ 0
  empty = let o = r.tallied.driving.order in omega (arith, o.packets, ap length o.frames, length-drop (length w.trace.left) w.trace.came, all_left)

  runs : Runs b maps.decls maps w.trace.left w.trace.came
  runs = all_run b maps fit maps (left_maps b.program maps w.trace.left) refl w.trace.left w.trace.came all_left r.tallied.sequential.runs

  at_end : commits_in b (clocks ++ more) (record { left = left; trace = from.trace }) ≤ q
  unfolding tally
  at_end =
      let t = r.tallied.enough in
      let p = nobody b maps.decls (suc b.plan.commit) w.trace.state.places empty in
      let g = nobody_begun b maps.decls b.plan.commit w.trace.state.done w.trace.state.places empty in
      omega (arith, t, p, g, runs.enough, bound runs.ts (subst (λ (e : Driven). AllRun b.program maps e.trace.came runs.ts) (sym r.is) runs.run))

  commits_written : commits_in b clocks (record { left = left; trace = from.trace }) ≤ q
  commits_written = omega (arith, more_commits b clocks more (record { left = left; trace = from.trace }), at_end)

module _ (keeps : KeepsSequential) (right : IsAlwaysRight) (computed : IsAlwaysComputed) (loads : LoadsTables) (stand : TablesStand) where
  pub commits_are_writes : EndsInTime → CommitsAreWrites
  unfolding tally
  commits_are_writes in_time b maps fit sound slots frames whole clocks more long q bound =
      commits_written keeps b maps fit (length frames) clocks more (flat_map beats_of frames) (watch_start b maps) (record {
        driving = begins_driving b maps frames whole;
        sequential = begins_sequential right computed loads stand b maps fit sound;
        enough = omega arith;
      }) (in_time b maps fit sound slots frames whole (clocks ++ more) long) q bound

  pub late_commits_are_writes : EndsLate → LateCommitsAreWrites
  unfolding tally
  late_commits_are_writes ends b maps fit sound slots is silent frames whole left over clocks more long q bound =
      let n = length frames in
      let from = watch b is (watch_start b maps) in
      let runs : run b is (begin b maps) ≡ from.trace = sym (watch_runs b is (watch_start b maps)) in
      let reached = (reaches n b is (begin b maps) left (subst (λ l. Driving n b (record { left = l; trace = begin b maps })) (sym over) (begins_driving b maps frames whole))).0 in
      let gives = ends b maps fit sound slots is silent frames whole left over (clocks ++ more) long in
      subst (λ (t : Trace). commits_in b clocks (record { left = left; trace = t }) ≤ q) (sym runs)
      (commits_written keeps b maps fit n clocks more left from (record {
        driving = subst (λ (t : Trace). Driving n b (record { left = left; trace = t })) runs reached;
        sequential = sequential keeps right computed loads stand b maps fit sound is silent;
        enough = omega arith;
      }) (subst (λ (t : Trace). length (drive b (clocks ++ more) (record { left = left; trace = t })).trace.gave ≡ n) runs gives) q
      (subst (λ (t : Trace). (ts : List Touched) → AllRun b.program maps (drive b (clocks ++ more) (record { left = left; trace = t })).trace.came ts → all_writing ts ≤ q) runs bound))

  pub ends_unsent : EndsInTime → EndsForward → EndsUnsent
  ends_unsent in_time forward b maps fit sound slots frames whole clocks more long unsent q bound enough =
      let c = commits_are_writes in_time b maps fit sound slots frames whole clocks more long q bound in
      forward b slots maps frames whole clocks unsent (omega (arith, c, enough))
