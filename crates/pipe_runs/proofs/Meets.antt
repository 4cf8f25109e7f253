-- A design that follows the machine of a pipeline with maps meets what is wanted of one.
use Rattle.std.specs.Prelude.{◌≡◌, ℕ, ◌+◌, ◌*◌, ◌-◌, ◌≤◌, ◌⊎◌, is_some, false, None, List, [], ◌∷◌, ◌++◌, length, map}
use Rattle.std.specs.List.{flat_map, AllByRecursion}
use Rattle.std.proofs.Common.{refl, sym, ap, ◌∙◌, subst, arith, inl, inr, append_assoc}
use Rattle.std.proofs.Math.Nat.{mul-le-mul_left}
use Rattle.cell_core.specs.beat_core.declared.answer.Answer.{Answer}
use Rattle.cell_core.specs.beat_core.Beats.{beat_count, beats_of, IsFilledUp}
use Rattle.cell_core.specs.beat_core.Clocks.{AreOffers}
use Rattle.cell_core.specs.beat_core.Filling.{filled_up}
use Rattle.cell_core.specs.beat_core.Ports.{Arrival, Offered, arrivals_among}
use Rattle.cell_core.proofs.beat_core_laws.FillingLaws.{AreOffers-filled_up}
use Rattle.cell_core.proofs.beat_core_laws.OrderLaws.{offers-frames}
use Rattle.cell_core.specs.xdp_maps.declared.decl.MapDecl.{MapDecl}
use Rattle.cell_core.specs.xdp_maps.State.{MapState}
use Rattle.cell_core.specs.xdp_machine.Touched.{Touched}
use Rattle.pipe_core.specs.net_core.declared.ports.Inputs.{Inputs}
use Rattle.pipe_core.specs.net_core.Nets.{Netlist}
use Rattle.pipe_core.specs.net_core.Clock.{Stored}
use Rattle.pipe_core.specs.net_core.Trace.{Cycle, trace, stored_after}
use Rattle.pipe_core.specs.realization.History.{beats_in, offers_in, arrivals, answers_given, reload_clocks, Drive, Stopped, drive}
use Rattle.pipe_core.specs.realization.HostHistory.Host.{dump, ShowsMaps}
use Rattle.pipe_net.specs.frame_net.Frames.{position_of}
use Rattle.cell_core.specs.Rows.{record_count}
use Rattle.pipe_core.specs.Machine.{Build}
use Rattle.pipe_core.specs.History.{Trace, next, run, begin, IsInOrder, IsAlwaysInOrder}
use Rattle.pipe_core.specs.SequentialOrder.{left_maps}
use Rattle.pipe_core.specs.Pipeable.{IsPipelinable}
use Rattle.pipe_core.specs.HostRuns.Inputs.{input_of}
use Rattle.pipe_core.specs.HostRuns.Fits.{LoadsFit, IsHostClock}
use Rattle.pipe_net.specs.Layout.{Layout, last_of}
use Rattle.pipe_runs.specs.PipeAnswers.Coming.{AllMayCome, HostMayCome}
use Rattle.pipe_runs.specs.PipeAnswers.Following.{FollowsAlways}
use Rattle.pipe_runs.specs.PipeAnswers.Runs.{ReadsRunInTurn}
use Rattle.pipe_runs.specs.PipeAnswers.Dumps.{RunsGoOn, DumpsAreShown}
use Rattle.pipe_core.specs.realization.Bounds.{most_beats, clock_bound, clock_bound_apart, beats_before, FollowWithin, line_clocks, wait_clocks, all_writing}
use Rattle.pipe_core.specs.realization.Realizes.{IsPattern, IsPacket, IsBeside, IsWhole, IsAmid, Meets, drive_on, frames_in, all_offers, beats_offered, inputs_in}
use Rattle.pipe_runs.specs.PipePorts.Answered.{AreAnswered}
use Rattle.pipe_runs.specs.PipePorts.Followed.{WriteNothing, IsFollowed, ran}
use Rattle.pipe_runs.specs.PipePorts.Ports.{PortsShowClocks, PortsShowHistories, ShowsHistory}
use Rattle.pipe_runs.specs.PipePorts.Patterns.{PatternsMayCome, IsInPattern}
use Rattle.pipe_runs.specs.PipePorts.Answering.{RunsAreAnswers, PatternsAnswerInTurn}
use Rattle.pipe_runs.specs.Apart.{Touch, DoNotConflict}
use Rattle.pipe_runs.specs.Meeting.{FollowersMeet}
use Rattle.pipe_runs.proofs.Histories.{trace_append, stored_append, offers_append, beats_of_offers, offered_append, same_arrive, arrive_few, packets_arrive, beats_of_all, frames_of_packets, is_open, open_append, open_filled, open_frames, all_closed}
use Rattle.pipe_runs.proofs.Reading.{silent_append, dumps_write_nothing}
use Rattle.pipe_runs.proofs.Filled.{quiet}
use Rattle.pipe_runs.proofs.Drives.{Fits, driven, left_behind, behind, reloads_by, drives_silent}
use Rattle.pipe_runs.proofs.Coming.{drives_come, part_open}
use Rattle.pipe_runs.proofs.Clocks.{ClockLaws, gives_in_time, gives_late, gives_sent, gives_some, gives_apart, gives_at_line_rate, gives_of_equal}
use Rattle.pipe_runs.proofs.Driving.{DrivesTo, drives, drives_over, never_stops, gave_on, sends, RunsOn, runs_on, inputs_of_trace}
use Rattle.pipe_runs.proofs.Ending.{given_few, IsEnded, ended}
use Rattle.pipe_runs.proofs.Bounds.{all_filled, all_behind, all_fit, all_beside}

pub record AllLaws : Type 0 where
  pub clocks : ClockLaws
  pub order : IsAlwaysInOrder
  pub fit : LoadsFit
  pub host : HostMayCome
  pub in_turn : ReadsRunInTurn
  pub go_on : RunsGoOn
  pub dumps : DumpsAreShown
  pub shows : PortsShowClocks
  pub histories : PortsShowHistories
  pub patterns : PatternsMayCome
  pub answers : RunsAreAnswers
  pub safe : PatternsAnswerInTurn

-- ---- clocks one after the other
run_append : (b : Build) (xs ys : List Inputs) (t : Trace) → run b (map input_of (xs ++ ys)) t ≡ run b (map input_of ys) (run b (map input_of xs) t)
run_append b [] ys t = refl
run_append b (x ∷ xs) ys t = run_append b xs ys (next b (input_of x) t)

come_append : (b : Build) (xs ys : List Inputs) (t : Trace) → AllMayCome b xs t → AllMayCome b ys (run b (map input_of xs) t) → AllMayCome b (xs ++ ys) t
come_append b [] ys t h k = k
come_append b (x ∷ xs) ys t h k = (h.0, come_append b xs ys (next b (input_of x) t) h.1 k)

follow_behind : (b : Build) (n : Netlist) (xs ys : List Inputs) (t : Trace) (st : Stored) → FollowsAlways b n (xs ++ ys) t st → FollowsAlways b n ys (run b (map input_of xs) t) (stored_after n st xs)
follow_behind b n [] ys t st h = h
follow_behind b n (x ∷ xs) ys t st h = follow_behind b n xs ys (next b (input_of x) t) _ h.2

host_comes : HostMayCome → (b : Build) (is : List Inputs) → AllByRecursion IsHostClock is → (t : Trace) → AllMayCome b is t
host_comes host b [] h t = tt
host_comes host b (i ∷ is) h t = (host b t.state i h.0.offers h.0.fits, host_comes host b is h.1 (next b (input_of i) t))

module _ (laws : AllLaws) (l : Layout) (maps : MapState) (n : Netlist) (st : Stored) (followed : IsFollowed l.build maps n st) (declared : maps.decls ≡ l.decls) (few : length maps.decls ≤ 16) (slots : l.build.slots ≡ last_of l + 4) where
  abbrev b : Build
  b = l.build

  abbrev wanted : List Arrival → List Answer → MapState → Type 0
  wanted = AreAnswered b.program maps

  order_of : (is : List Inputs) → IsInOrder b (ran b maps is)
  order_of is = laws.order b maps (map input_of is)

  -- ---- after the last answer
  all_answered : (is : List Inputs) → WriteNothing is → IsEnded b (ran b maps is) → wanted (ran b maps is).came (ran b maps is).gave (left_maps b.program maps (ran b maps is).left)
  all_answered is quiet end =
      let t = ran b maps is in
      let last = left_maps b.program maps t.left in
      subst (λ (rs : List Answer). wanted t.came rs last) (sym end.gave) (laws.answers b.program maps t.left t.came last (laws.in_turn b maps followed.pipelinable followed.sound is quiet).runs end.left)

  shows_maps : (is : List Inputs) → WriteNothing is → AllMayCome b is (begin b maps) → IsEnded b (ran b maps is) → ShowsMaps n (stored_after n st is) (left_maps b.program maps (ran b maps is).left)
  shows_maps is quiet come end =
      let t = ran b maps is in
      let reads = dump maps.decls in
      let going = laws.go_on l (subst (λ (ds : List MapDecl). IsPipelinable ds b) declared followed.pipelinable) maps declared followed.sound is quiet in
      let same : t.state.tables.decls ≡ maps.decls = going.right.at.decls_are ∙ sym declared in
      let both = followed.follows.clocks (is ++ reads) (silent_append is reads quiet (dumps_write_nothing maps.decls)) (come_append b is reads (begin b maps) come (host_comes laws.host b reads (laws.fit maps followed.sound few).dump t)) in
      let follow : FollowsAlways b n reads t (stored_after n st is) = follow_behind b n is reads (begin b maps) st both in
      subst (ShowsMaps n (stored_after n st is)) ((laws.in_turn b maps followed.pipelinable followed.sound is quiet).last end.none)
      (laws.dumps l t going end.idle n (stored_after n st is) (subst (λ (ds : List MapDecl). FollowsAlways b n (dump ds) t (stored_after n st is)) (sym same) follow))

  -- ---- a drive after some clocks
  module _ (is : List Inputs) (pattern : IsInPattern b maps n st is) (packets : List Arrival) (are : AllByRecursion IsPacket packets) (left : List Offered) (beside : AllByRecursion IsBeside left)
      (over : map filled_up (beats_in (trace n st is)) ++ beats_offered left ≡ flat_map beats_of (frames_in packets)) (come : arrivals_among None (offers_in (trace n st is) ++ left) ≡ packets) where
    abbrev frames : List (List ℕ)
    frames = frames_in packets

    abbrev before : List Cycle
    before = trace n st is

    abbrev t : Trace
    t = ran b maps is

    abbrev reached : Stored
    reached = stored_after n st is

    all_offer : AreOffers 0 (beats_in before ++ beats_offered left)
    all_offer = AreOffers-filled_up 0 (beats_in before) (beats_offered left) (subst (AreOffers 0) (sym over) (offers-frames frames (frames_of_packets packets are)))

    left_offer : AreOffers (position_of t.state.part) (beats_offered left)
    left_offer = pattern.history.rest (beats_offered left) all_offer

    left_fit : AllByRecursion Fits left
    left_fit =
        all_fit (position_of t.state.part) left (all_behind IsFilledUp (map filled_up (beats_in before)) (beats_offered left) (subst (AllByRecursion IsFilledUp) (sym over) (all_filled frames (frames_of_packets packets are)))) left_offer beside

    -- so many clocks of the machine's drive, and those before
    module _ (k : ℕ) where
      abbrev clocks : List Inputs
      clocks = driven b k t left

      abbrev both : List Inputs
      both = is ++ clocks

      abbrev rest : List Offered
      rest = left_behind b k t left

      abbrev end : Trace
      end = ran b maps both

      end_is : end ≡ behind b k t left
      end_is = run_append b is clocks (begin b maps)

      both_silent : WriteNothing both
      both_silent = silent_append is clocks pattern.silent (drives_silent b k t left)

      both_come : AllMayCome b both (begin b maps)
      both_come = come_append b is clocks (begin b maps) pattern.comes (drives_come b k t left left_fit left_offer)

      follow : FollowsAlways b n clocks t reached
      follow = follow_behind b n is clocks (begin b maps) st (followed.follows.clocks both both_silent both_come)

      history : ShowsHistory b maps n st both
      history = laws.histories b maps n st followed both both_silent both_come

      abbrev went : List Offered
      went = offers_in before ++ offers_in (trace n reached clocks)

      whole_trace : trace n st both ≡ before ++ trace n reached clocks
      whole_trace = trace_append n st is clocks

      went_over : went ++ rest ≡ offers_in before ++ left
      went_over = append_assoc (offers_in before) (offers_in (trace n reached clocks)) rest ∙ ap (λ os. offers_in before ++ os) (drives_over laws.shows b n k t reached left follow)

      came_is : end.came ≡ arrivals_among None went
      came_is = history.came ∙ ap (arrivals None) whole_trace ∙ ap (arrivals_among None) (offers_append before (trace n reached clocks))

      all_come : arrivals_among None (went ++ rest) ≡ packets
      all_come = ap (arrivals_among None) went_over ∙ come

      came_all : length end.gave ≡ length packets → end.came ≡ packets
      came_all gave = came_is ∙ same_arrive went rest packets all_come (omega (arith, gave, given_few b end (order_of both), ap length came_is))

      -- the beats that went over, and those that are left
      all_beats : beats_in (trace n st both) ++ beats_offered rest ≡ beats_in before ++ beats_offered left
      all_beats =
          ap (λ bs. bs ++ beats_offered rest) (ap beats_in whole_trace ∙ sym (beats_of_offers (before ++ trace n reached clocks)) ∙ ap beats_offered (offers_append before (trace n reached clocks)))
          ∙ sym (offered_append went rest) ∙ ap beats_offered went_over ∙ offered_append (offers_in before) left ∙ ap (λ bs. bs ++ beats_offered left) (beats_of_offers before)

      part_is : is_some end.state.part ≡ is_open false (beats_in (trace n st both))
      part_is =
          ap (λ (u : Trace). is_some u.state.part) (laws.clocks.silence b both both_silent (begin b maps)) ∙ part_open b (quiet both) (begin b maps) ∙ ap (is_open false) (sym history.beats)

      closed : end.came ≡ packets → is_some end.state.part ≡ false
      closed came =
          part_is
          ∙ all_closed went rest packets (is_open false (beats_in (trace n st both))) all_come (sym came_is ∙ came)
          (sym (open_append false (beats_in (trace n st both)) (beats_offered rest)) ∙ ap (is_open false) all_beats ∙ sym (open_filled false (beats_in before) (beats_offered left)) ∙ ap (is_open false) over
          ∙ open_frames frames (frames_of_packets packets are))

      is_ended : length end.gave ≡ length packets → IsEnded b end
      is_ended gave = let came = came_all gave in ended b end (order_of both) (gave ∙ sym (ap length came)) (closed came)

    abbrev owed : ℕ
    owed = length packets - length (answers_given [] before)

    owes : owed + length t.gave ≡ length packets
    owes =
        let gave = ap length pattern.history.gave in
        let came = ap length pattern.history.came in
        omega (arith, gave, came, given_few b t (order_of is), arrive_few (offers_in before) left packets come)

    module _ (limit : ℕ) (gives : length (behind b limit t left).gave ≡ length packets) where
      abbrev made : Drive
      made = drive n reached left owed limit

      goes : DrivesTo laws.shows b n t reached left (length packets) made
      goes = drives laws.shows b n limit t reached left owed (length packets) (follow limit) owes gives

      abbrev all : List Inputs
      all = both goes.clocks

      gave_all : length (end goes.clocks).gave ≡ length packets
      gave_all = ap (λ (u : Trace). length u.gave) (end_is goes.clocks) ∙ goes.gave

      same_trace : trace n st all ≡ before ++ made.trace
      same_trace = whole_trace goes.clocks ∙ ap (λ ms. before ++ ms) (sym goes.same)

      same_stored : stored_after n st all ≡ stored_after n reached (inputs_in made.trace)
      same_stored = stored_append n st is (clocks goes.clocks) ∙ ap (stored_after n reached) (sym (ap inputs_in goes.same ∙ inputs_of_trace n reached (clocks goes.clocks)))

      whole_of : IsWhole n st is made packets wanted
      whole_of =
          let k = goes.clocks in
          let over' = is_ended k gave_all in
          let last = left_maps b.program maps (end k).left in
          record {
            ended = goes.ended;
            maps = last;
            all = subst (λ cs. wanted cs (answers_given [] (before ++ made.trace)) last) (came_all k gave_all) (subst (λ rs. wanted (end k).came rs last) ((history k).gave ∙ ap (answers_given []) same_trace) (all_answered all (both_silent k) over'));
            shown = subst (λ s. ShowsMaps n s last) same_stored (shows_maps all (both_silent k) (both_come k) over');
          }

  -- ---- from the first clock on
  first : IsInPattern b maps n st []
  first = laws.patterns b maps n st followed [] (record { inputs = tt; silent = tt; offers = tt })

  full_from : (packets : List Arrival) (are : AllByRecursion IsPacket packets) (limit : ℕ) → length (behind b limit (begin b maps) (all_offers packets)).gave ≡ length packets →
      IsWhole n st [] (drive n st (all_offers packets) (length packets) limit) packets wanted
  full_from packets are limit gives =
      subst (λ owed. IsWhole n st [] (drive n st (all_offers packets) owed limit) packets wanted) (less (length packets))
      (whole_of [] first packets are (all_offers packets) (all_beside packets are) (beats_of_all packets) (packets_arrive packets are) limit gives)
    where
      less : (k : ℕ) → k - 0 ≡ k
      less k = omega arith

  in_time : (packets : List Arrival) → AllByRecursion IsPacket packets → (limit : ℕ) → clock_bound (length packets) (last_of l) (most_beats (frames_in packets)) (record_count b.program.sites) ≤ limit →
      length (behind b limit (begin b maps) (all_offers packets)).gave ≡ length packets
  in_time packets are limit long = gives_in_time laws.clocks b maps followed.pipelinable followed.sound slots packets are limit long

  -- in as many clocks all packets have come
  come_in : (packets : List Arrival) (are : AllByRecursion IsPacket packets) (limit : ℕ) → clock_bound (length packets) (last_of l) (most_beats (frames_in packets)) (record_count b.program.sites) ≤ limit →
      (behind b limit (begin b maps) (all_offers packets)).came ≡ packets
  come_in packets are limit long = came_all [] first packets are (all_offers packets) (all_beside packets are) (beats_of_all packets) (packets_arrive packets are) limit (in_time packets are limit long)

  module _ (packets : List Arrival) (are : AllByRecursion IsPacket packets) (limit : ℕ) (ts : List Touched) (apart : DoNotConflict b maps packets ts) where
    packets_come : (behind b (limit + clock_bound (length packets) (last_of l) (most_beats (frames_in packets)) (record_count b.program.sites)) (begin b maps) (all_offers packets)).came ≡ packets
    packets_come = come_in packets are (limit + clock_bound (length packets) (last_of l) (most_beats (frames_in packets)) (record_count b.program.sites)) (omega arith)

    whole_apart : clock_bound_apart (last_of l) (frames_in packets) ts ≤ limit → IsWhole n st [] (drive n st (all_offers packets) (length packets) limit) packets wanted
    whole_apart long = full_from packets are limit (gives_apart laws.clocks b maps followed.pipelinable followed.sound slots packets are limit ts apart packets_come long)

    whole_at_line_rate : (late : ℕ) → FollowWithin (last_of l) (frames_in packets) late → line_clocks (last_of l) (frames_in packets) late + all_writing ts ≤ limit → IsWhole n st [] (drive n st (all_offers packets) (length packets) limit) packets wanted
    whole_at_line_rate late follow long = full_from packets are limit (gives_at_line_rate laws.clocks b maps followed.pipelinable followed.sound slots packets are limit ts apart packets_come late follow long)

    whole_of_equal : (beats : ℕ) → AllByRecursion (λ f. beat_count (length f) ≡ beats) (frames_in packets) → length packets * beats + all_writing ts + beats + last_of l + 2 ≤ limit → IsWhole n st [] (drive n st (all_offers packets) (length packets) limit) packets wanted
    whole_of_equal beats equal long = full_from packets are limit (gives_of_equal laws.clocks b maps followed.pipelinable followed.sound slots packets are limit ts apart packets_come beats equal long)

  late_from : (is : List Inputs) (packets : List Arrival) (left : List Offered) (limit : ℕ) → IsPattern n st is → AllByRecursion IsPacket packets → AllByRecursion IsBeside left →
      map filled_up (beats_in (trace n st is)) ++ beats_offered left ≡ flat_map beats_of (frames_in packets) → arrivals_among None (offers_in (trace n st is) ++ left) ≡ packets →
      clock_bound (length packets + 1) (last_of l) (most_beats (frames_in packets)) (record_count b.program.sites) ≤ limit →
      IsWhole n st is (drive n (stored_after n st is) left (length packets - length (answers_given [] (trace n st is))) limit) packets wanted
  late_from is packets left limit p are beside over come long =
      let pattern = laws.patterns b maps n st followed is p in
      whole_of is pattern packets are left beside over come limit
      (gives_late laws.clocks b maps followed.pipelinable followed.sound slots packets are is pattern.silent left (ap (λ bs. map filled_up bs ++ beats_offered left) (sym pattern.history.beats) ∙ over) limit long)

  -- ---- at line rate, whatever is sent back
  module _ (is : List Inputs) (packets : List Arrival) (left : List Offered) (limit : ℕ) (amid : IsAmid n st is packets left) where
    abbrev more : ℕ
    more = clock_bound (length packets + 1) (last_of l) (most_beats (frames_in packets)) (record_count b.program.sites)

    in_pattern : IsInPattern b maps n st is
    in_pattern = laws.patterns b maps n st followed is amid.pattern

    -- in as many clocks more all is given, and has come
    gives_all : length (behind b (limit + more) (ran b maps is) left).gave ≡ length packets
    gives_all =
        gives_late laws.clocks b maps followed.pipelinable followed.sound slots packets amid.are is in_pattern.silent left (ap (λ bs. map filled_up bs ++ beats_offered left) (sym in_pattern.history.beats) ∙ amid.beats) (limit + more) (omega arith)

    packets_there : (behind b (limit + more) (ran b maps is) left).came ≡ packets
    packets_there =
        let same = end_is is in_pattern packets amid.are left amid.beside amid.beats amid.frames (limit + more) in
        ap (λ (t : Trace). t.came) (sym same) ∙ came_all is in_pattern packets amid.are left amid.beside amid.beats amid.frames (limit + more) (ap (λ (t : Trace). length t.gave) same ∙ gives_all)

    follows_on : FollowsAlways b n (driven b limit (ran b maps is) left) (ran b maps is) (stored_after n st is)
    follows_on = follow is in_pattern packets amid.are left amid.beside amid.beats amid.frames limit

    owes_on : length packets - length (answers_given [] (trace n st is)) + length (ran b maps is).gave ≡ length packets
    owes_on = owes is in_pattern packets amid.are left amid.beside amid.beats amid.frames

    goes_on : (w : ℕ) → (drive_on n st is packets left limit).ended ≡ Stopped w → ⊥
    goes_on w e = never_stops laws.shows b n limit (ran b maps is) (stored_after n st is) left (length packets - length (answers_given [] (trace n st is))) w follows_on e

    whole_sent : (late : ℕ) (ts : List Touched) → Touch b maps packets ts → FollowWithin (last_of l) (frames_in packets) late
        → line_clocks (last_of l) (frames_in packets) late + all_writing ts + reload_clocks (drive_on n st is packets left limit).trace * (b.plan.commit + 2) ≤ limit → IsWhole n st is (drive_on n st is packets left limit) packets wanted
    whole_sent late ts touch follow long = whole_of is in_pattern packets amid.are left amid.beside amid.beats amid.frames limit (elim sent [
      | inl given ↦ omega (arith, given, gave_on laws.shows b n limit more (ran b maps is) left, gives_all)
      | inr few ↦
          let paid = mul-le-mul_left (b.plan.commit + 2) few in
          gives_sent laws.clocks b maps followed.pipelinable followed.sound slots packets amid.are is in_pattern.silent left (ap (λ bs. map filled_up bs ++ beats_offered left) (sym in_pattern.history.beats) ∙ amid.beats)
          limit late ts touch follow packets_there (omega (arith, long, paid))
    ])
      where
        sent : (length packets ≤ length (behind b limit (ran b maps is) left).gave) ⊎ (reloads_by b limit (ran b maps is) left ≤ reload_clocks (drive_on n st is packets left limit).trace)
        sent = sends laws.shows b n limit (ran b maps is) (stored_after n st is) left (length packets - length (answers_given [] (trace n st is))) (length packets) follows_on owes_on

    -- the first k answers: all are given, or the drive has shown what packets that were sent back cost
    module _ (late k : ℕ) (ts : List Touched) (touch : Touch b maps packets ts) (follow : FollowWithin (last_of l) (frames_in packets) late) (within : k ≤ length packets)
        (long : wait_clocks (last_of l) (frames_in packets) late k + all_writing ts + reload_clocks (drive_on n st is packets left limit).trace * (b.plan.commit + 2) ≤ limit + beats_before (length (answers_given [] (trace n st is))) (frames_in packets)) where
      ran_on : RunsOn laws.shows b n (ran b maps is) (stored_after n st is) left limit (length packets) (drive_on n st is packets left limit)
      ran_on = runs_on laws.shows b n limit (ran b maps is) (stored_after n st is) left (length packets - length (answers_given [] (trace n st is))) (length packets) follows_on owes_on

      given_there : (m : ℕ) → (drive_on n st is packets left limit).trace ≡ trace n (stored_after n st is) (driven b m (ran b maps is) left)
          → length (answers_given [] (trace n st is ++ (drive_on n st is packets left limit).trace)) ≡ length (behind b m (ran b maps is) left).gave
      given_there m traced =
          let same = end_is is in_pattern packets amid.are left amid.beside amid.beats amid.frames m in
          let whole = whole_trace is in_pattern packets amid.are left amid.beside amid.beats amid.frames m in
          let told = (history is in_pattern packets amid.are left amid.beside amid.beats amid.frames m).gave in
          ap length (ap (λ ms. answers_given [] (trace n st is ++ ms)) traced ∙ sym (told ∙ ap (answers_given []) whole)) ∙ ap (λ (t : Trace). length t.gave) same

      all_clocks : k ≤ length (behind b limit (ran b maps is) left).gave
      all_clocks = elim (sends laws.shows b n limit (ran b maps is) (stored_after n st is) left (length packets - length (answers_given [] (trace n st is))) (length packets) follows_on owes_on) [
        | inl all ↦ omega (arith, all, within)
        | inr shown ↦
            let paid = mul-le-mul_left (b.plan.commit + 2) shown in
            let before = ap (λ gave. beats_before (length gave) (frames_in packets)) in_pattern.history.gave in
            gives_some laws.clocks b maps followed.pipelinable followed.sound slots packets amid.are is in_pattern.silent left (ap (λ bs. map filled_up bs ++ beats_offered left) (sym in_pattern.history.beats) ∙ amid.beats)
            limit late ts touch follow packets_there k within (omega (arith, long, paid, before))
      ]

      some_given : k ≤ length (answers_given [] (trace n st is ++ (drive_on n st is packets left limit).trace))
      some_given = elim ran_on.all [
        | inl whole ↦ omega (arith, given_there ran_on.clocks ran_on.same, ap (λ m. length (behind b m (ran b maps is) left).gave) whole, all_clocks)
        | inr all ↦ omega (arith, given_there ran_on.clocks ran_on.same, all, within)
      ]

  pub meets : Meets n st wanted (Touch b maps) (DoNotConflict b maps) (last_of l) (record_count b.program.sites)
  meets = record {
    safe = λ is p. laws.safe b maps n st followed is p;
    complete = λ packets limit are long. full_from packets are limit (in_time packets are limit long);
    complete_apart = λ packets limit ts are apart long. whole_apart packets are limit ts apart long;
    at_line_rate = record {
      last = last_of l;
      within = omega arith;
      commit = b.plan.commit;
      before = followed.pipelinable.rows.commit;
      goes_on = λ is packets left limit w amid stopped. goes_on is packets left limit amid w stopped;
      drives = λ is packets left limit late ts amid touched follow long. whole_sent is packets left limit amid late ts touched follow long;
      waits = λ is packets left limit late k ts amid touched follow few long. some_given is packets left limit amid late k ts touched follow few long;
      follow = λ packets limit late ts are apart follow long. whole_at_line_rate packets are limit ts apart late follow long;
      equal = λ packets limit beats ts are apart equal long. whole_of_equal packets are limit ts apart beats equal long;
    };
    late = late_from;
  }

pub followers_meet : AllLaws → FollowersMeet
followers_meet laws l maps n st followed declared few slots = meets laws l maps n st followed declared few slots
