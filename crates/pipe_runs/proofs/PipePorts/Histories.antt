-- Clock after clock a design that follows the machine takes and gives what it does.
use Rattle.std.specs.Prelude.{◌≡◌, ℕ, false, if◌then◌else◌, Some, None, List, [], ◌∷◌, ◌++◌, map as map_list}
use Rattle.std.proofs.Common.{refl, sym, ap, ◌∙◌, subst, append-nil, append_assoc}
use Rattle.cell_core.specs.beat_core.declared.beat.Beat.{Beat}
use Rattle.cell_core.specs.beat_core.Beats.{frame_of}
use Rattle.cell_core.specs.beat_core.Clocks.{AreOffers}
use Rattle.cell_core.specs.beat_core.Ports.{arrivals_among, answers_among}
use Rattle.cell_core.specs.xdp_maps.State.{MapState, IsSound}
use Rattle.pipe_core.specs.net_core.declared.tree.Word.{Word}
use Rattle.pipe_core.specs.net_core.declared.ports.Inputs.{Inputs}
use Rattle.pipe_core.specs.net_core.Nets.{Netlist}
use Rattle.pipe_core.specs.net_core.Ports.{words_of}
use Rattle.pipe_core.specs.net_core.Clock.{Stored, after, shown}
use Rattle.pipe_core.specs.net_core.Trace.{Cycle, trace}
use Rattle.pipe_core.specs.realization.History.{beats_in, offers_in, given_out, arrivals, answers_given, open_beats}
use Rattle.cell_core.specs.CellLaws.{ValuesFit}
use Rattle.pipe_net.specs.frame_net.Frames.{position_of}
use Rattle.pipe_core.specs.Machine.{Build, beat_over, taken_beat, clock, output}
use Rattle.pipe_core.specs.History.{Trace, came_in, gave_in, next, run, begin}
use Rattle.pipe_core.specs.Drive.{ahead, beats_in as machine_beats}
use Rattle.pipe_core.specs.Pipeable.{IsPipelinable}
use Rattle.pipe_core.specs.HostRuns.Inputs.{access_in, input_of}
use Rattle.pipe_core.specs.HostRuns.Silent.{silent, ReadsAreSilent}
use Rattle.pipe_core.proofs.HistoryLaws.{ahead_append}
use Rattle.pipe_net.specs.Machine.{Shows}
use Rattle.pipe_net.specs.Layout.{HasAnswer}
use Rattle.pipe_runs.specs.PipeAnswers.Coming.{AllMayCome}
use Rattle.pipe_runs.specs.PipeAnswers.Following.{FollowsAlways}
use Rattle.pipe_runs.specs.PipeAnswers.Runs.{ReadsRunInTurn}
use Rattle.pipe_runs.specs.PipePorts.Followed.{WriteNothing}
use Rattle.pipe_runs.specs.PipePorts.Ports.{cycle, begun, PortsShowHistories}
use Rattle.pipe_runs.proofs.PipePorts.Ports.{arrivals_now, gives_now, open_now, answers_now, offers_then, ports_show_clocks}
use Rattle.pipe_runs.proofs.PipePorts.Clock.{Ticks, whole_then}
use Rattle.pipe_runs.proofs.PipePorts.Standing.{Stands, begins, ticks_at, first_at, stands_then}

pub record HistoryLaws : Type 0 where
  pub fit : ValuesFit
  pub action : ReadsRunInTurn
  pub reads : ReadsAreSilent

module _ (laws : HistoryLaws) (b : Build) (maps : MapState) (pipelinable : IsPipelinable maps.decls b) (has : HasAnswer b) (sound : IsSound maps) where
  abbrev Here : Trace → Type 0
  Here t = Stands laws.fit laws.action b maps pipelinable has sound t

  abbrev ticking : (t : Trace) → Here t → (i : Inputs) → Ticks b t.state i
  ticking = ticks_at laws.fit laws.action b maps pipelinable has sound

  -- ---- a clock before others
  module _ (t : Trace) (h : Here t) (i : Inputs) (at : ℕ → Word) (shows : Shows (output b (input_of i) t.state) at) (ms : List Cycle) where
    came_then : t.came ++ arrivals t.state.part (cycle i at ∷ ms) ≡ (next b (input_of i) t).came ++ arrivals (next b (input_of i) t).state.part ms
    unfolding next
    came_then =
        let over = beat_over b t.state (input_of i) in
        ap (λ xs. t.came ++ xs)
        (ap (arrivals_among t.state.part) ((ports_show_clocks b t.state i at shows).offers ms) ∙ arrivals_now t.state i over (offers_in ms)
        ∙ ap (λ p. came_in t.state (input_of i) over ++ arrivals_among p (offers_in ms)) (sym (ticking t h i).part))
        ∙ sym (append_assoc t.came (came_in t.state (input_of i) over) (arrivals_among (clock b (input_of i) t.state).part (offers_in ms)))

    gave_then : t.gave ++ answers_given (frame_of (begun t.state)) (cycle i at ∷ ms) ≡ (next b (input_of i) t).gave ++ answers_given (frame_of (begun (next b (input_of i) t).state)) ms
    unfolding next output
    gave_then =
        let e = taken_beat t.state (input_of i) in
        ap (λ xs. t.gave ++ xs)
        (ap (answers_among (frame_of (begun t.state))) (gives_now b t.state i at shows ms)
        ∙ answers_now t.state (output b (input_of i) t.state) (begun t.state) e (given_out ms) refl refl
        (whole_then t.state.pos t.state.answers i.out_ready h.position (first_at laws.fit laws.action b maps pipelinable has sound t h))
        ∙ ap (λ bs. gave_in t.state.answers e ++ answers_among (frame_of bs) (given_out ms)) (sym (ticking t h i).begun))
        ∙ sym (append_assoc t.gave (gave_in t.state.answers e) (answers_among (frame_of (begun (clock b (input_of i) t.state))) (given_out ms)))

    open_then : open_beats (begun t.state) (cycle i at ∷ ms) ≡ open_beats (begun (next b (input_of i) t).state) ms
    unfolding next
    open_then = open_now b t.state i at shows (begun t.state) ms ∙ ap (λ bs. open_beats bs ms) (sym (ticking t h i).begun)

  rest_offers : (t : Trace) → Here t → (i : Inputs) (bs : List Beat) → AreOffers (position_of t.state.part) (ahead (beat_over b t.state (input_of i)) bs) → AreOffers (position_of (next b (input_of i) t).state.part) bs
  unfolding next
  rest_offers t h i bs offers = subst (λ p. AreOffers (position_of p) bs) (sym (ticking t h i).part) (offers_then t.state.part i (beat_over b t.state (input_of i)) bs offers)

  -- ---- all clocks
  pub record Runs (n : Netlist) (t : Trace) (st : Stored) (is : List Inputs) : Type 0 where
    pub stands : Here (run b (map_list input_of is) t)
    pub came : (run b (map_list input_of is) t).came ≡ t.came ++ arrivals t.state.part (trace n st is)
    pub gave : (run b (map_list input_of is) t).gave ≡ t.gave ++ answers_given (frame_of (begun t.state)) (trace n st is)
    pub opens : open_beats (begun t.state) (trace n st is) ≡ begun (run b (map_list input_of is) t).state
    pub beats : beats_in (trace n st is) ≡ machine_beats b (map_list (λ i. silent (input_of i)) is) t.state
    pub rest : (bs : List Beat) → AreOffers (position_of t.state.part) (beats_in (trace n st is) ++ bs) → AreOffers (position_of (run b (map_list input_of is) t).state.part) bs

  silent_beats : (t : Trace) (i : Inputs) → i.host_write ≡ false → (is : List Inputs) →
      machine_beats b (map_list (λ i. silent (input_of i)) is) (next b (input_of i) t).state ≡ machine_beats b (map_list (λ i. silent (input_of i)) is) (clock b (silent (input_of i)) t.state)
  unfolding next
  silent_beats t i quiet is = ap (machine_beats b (map_list (λ i. silent (input_of i)) is)) ((laws.reads b (input_of i) (access_in i) refl (ap (λ c. if c then Some i.host_data else None) quiet)).state t.state)

  pub runs : (n : Netlist) (is : List Inputs) (t : Trace) (st : Stored) → Here t → WriteNothing is → AllMayCome b is t → FollowsAlways b n is t st → Runs n t st is
  runs n [] t st h quiet come follows = record { stands = h; came = sym (append-nil t.came); gave = sym (append-nil t.gave); opens = refl; beats = refl; rest = λ bs more. more }
  runs n (i ∷ is) t st h quiet come follows =
      let at = shown n (words_of i) st in
      let st' = after n (words_of i) st in
      let ms = trace n st' is in
      let over = beat_over b t.state (input_of i) in
      let shows = follows.1 in
      let beats = (ports_show_clocks b t.state i at shows).beats ms in
      let standing = stands_then laws.fit laws.action b maps pipelinable has sound t i quiet.0 come.0 h in
      let r = runs n is (next b (input_of i) t) st' standing quiet.1 come.1 follows.2 in
      record {
        stands = r.stands;
        came = r.came ∙ sym (came_then t h i at shows ms);
        gave = r.gave ∙ sym (gave_then t h i at shows ms);
        opens = open_then t h i at shows ms ∙ r.opens;
        beats = beats ∙ ap (ahead over) (r.beats ∙ silent_beats t i quiet.0 is);
        rest = λ bs more. r.rest bs (rest_offers t h i (beats_in ms ++ bs) (subst (AreOffers (position_of t.state.part)) (ap (λ xs. xs ++ bs) beats ∙ ahead_append over (beats_in ms) bs) more));
      }

pub ports_show_histories : HistoryLaws → PortsShowHistories
ports_show_histories laws b maps n st h is quiet come =
    let r = runs laws b maps h.pipelinable h.answer h.sound n is (begin b maps) st (begins laws.fit laws.action b maps h.pipelinable h.answer h.sound) quiet come (h.follows.clocks is quiet come) in
    record { came = r.came; gave = r.gave; opens = r.opens; beats = r.beats; position = r.stands.position; rest = r.rest }
