-- The full drive of a design that follows the machine: it ends with its last answer, and its clocks are those of the machine's drive.
use Rattle.std.specs.Prelude.{◌≡◌, ℕ, zero, suc, ◌+◌, ◌≤◌, ◌⊎◌, ◌==◌, if◌then◌else◌, Bool, true, false, ◌&&◌, Option, Some, None, List, [], ◌∷◌, ◌++◌, length}
use Rattle.std.proofs.Common.{refl, sym, ap, ◌∙◌, subst, arith, inl, inr, append_assoc, length-append}
use Rattle.cell_core.specs.beat_core.Ports.{Offered}
use Rattle.cell_core.specs.Cells.{bit}
use Rattle.pipe_core.specs.net_core.declared.tree.Word.{Word}
use Rattle.pipe_core.specs.net_core.declared.ports.Inputs.{Inputs}
use Rattle.pipe_core.specs.net_core.declared.ports.TheConstants.{IN_READY}
use Rattle.pipe_core.specs.net_core.Nets.{Netlist}
use Rattle.pipe_core.specs.net_core.Clock.{Stored, after, shown, stopping}
use Rattle.pipe_core.specs.net_core.Ports.{words_of}
use Rattle.pipe_core.specs.net_core.Trace.{Cycle, cycle_of, trace}
use Rattle.pipe_core.specs.Machine.{Input, Build, some_send, is_ready, beat_over, taken_beat}
use Rattle.pipe_core.specs.History.{Trace, gave_in, next}
use Rattle.pipe_core.specs.HostRuns.Inputs.{input_of}
use Rattle.pipe_core.specs.realization.History.{offers_in, reload_clocks, drive_inputs, Drive, Answered, Stopped, OutOfClocks, and_then, left_after, owed_after, drive}
use Rattle.pipe_core.specs.realization.Realizes.{inputs_in}
use Rattle.pipe_runs.specs.PipeAnswers.Following.{FollowsAlways}
use Rattle.pipe_runs.specs.PipePorts.Ports.{cycle, offers_by, ShowsClock, PortsShowClocks}
use Rattle.pipe_runs.proofs.Drives.{left_by, driven, left_behind, behind, reloads_by, behind_more}

left_is : (ready : Bool) (left : List Offered) (at : ℕ → Word) → ((at IN_READY).value == 1) ≡ ready → left_after (cycle (drive_inputs left) at) left ≡ left_by ready left
left_is ready [] at e = refl
left_is ready (o ∷ os) at e = ap (λ r. if r && true then os else o ∷ os) e ∙ by ready
  where
    by : (r : Bool) → (if r && true then os else o ∷ os) ≡ (if r then os else o ∷ os)
    by true = refl
    by false = refl

over_offers : (ready : Bool) (left : List Offered) → offers_by (drive_inputs left) (if ready then (input_of (drive_inputs left)).beat else None) ++ left_by ready left ≡ left
over_offers true [] = refl
over_offers false [] = refl
over_offers true (o ∷ os) = refl
over_offers false (o ∷ os) = refl

-- what stood at the inputs of these clocks
pub inputs_of_trace : (d : Netlist) (s : Stored) (is : List Inputs) → inputs_in (trace d s is) ≡ is
inputs_of_trace d s [] = refl
inputs_of_trace d s (i ∷ is) = ap (λ js. i ∷ js) (inputs_of_trace d (after d (words_of i) s) is)

drive_none : (d : Netlist) (s : Stored) (left : List Offered) (limit : ℕ) → drive d s left zero limit ≡ record { trace = []; ended = Answered }
unfolding drive
drive_none d s left limit = refl

drive_out : (d : Netlist) (s : Stored) (left : List Offered) (owed : ℕ) → drive d s left (suc owed) zero ≡ record { trace = []; ended = OutOfClocks }
unfolding drive
drive_out d s left owed = refl

drive_step : (d : Netlist) (s : Stored) (left : List Offered) (owed limit : ℕ) → stopping d (words_of (drive_inputs left)) s ≡ None →
    (let i : Inputs = drive_inputs left in let m : Cycle = cycle_of d s i in
    drive d s left (suc owed) (suc limit) ≡ and_then m (drive d (after d (words_of i) s) (left_after m left) (owed_after m (suc owed)) limit))
unfolding drive
drive_step d s left owed limit e =
    let i : Inputs = drive_inputs left in
    let m : Cycle = cycle_of d s i in
    ap (λ (o : Option ℕ). elim o as (λ q. Drive) [
      | None ↦ and_then m (drive d (after d (words_of i) s) (left_after m left) (owed_after m (suc owed)) limit)
      | Some w ↦ record { trace = []; ended = Stopped w }
    ]) e

module _ (shows : PortsShowClocks) (b : Build) (d : Netlist) where
  -- The drive ends with its last answer, and its clocks are the first ones of the machine's drive, in which so many answers are given.
  pub record DrivesTo (t : Trace) (s : Stored) (left : List Offered) (n : ℕ) (r : Drive) : Type 0 where
    pub ended : r.ended ≡ Answered
    pub clocks : ℕ
    pub same : r.trace ≡ trace d s (driven b clocks t left)
    pub gave : length (behind b clocks t left).gave ≡ n

  gave_length : (t : Trace) (i : Input) → length (next b i t).gave ≡ length t.gave + length (gave_in t.state.answers (taken_beat t.state i))
  unfolding next
  gave_length t i = length-append t.gave (gave_in t.state.answers (taken_beat t.state i))

  pub drives : (limit : ℕ) (t : Trace) (s : Stored) (left : List Offered) (owed n : ℕ) → FollowsAlways b d (driven b limit t left) t s → owed + length t.gave ≡ n → length (behind b limit t left).gave ≡ n →
      DrivesTo t s left n (drive d s left owed limit)
  drives limit t s left zero n h owes gives = subst (DrivesTo t s left n) (sym (drive_none d s left limit)) (record { ended = refl; clocks = 0; same = refl; gave = omega (arith, owes) })
  drives zero t s left (suc owed) n h owes gives = absurd (omega (arith, owes, gives))
  drives (suc limit) t s left (suc owed) n h owes gives =
      let i : Inputs = drive_inputs left in
      let at = shown d (words_of i) s in
      let m : Cycle = cycle i at in
      let sh : ShowsClock b t.state i at = shows b t.state i at h.1 in
      let left_then : left_after m left ≡ left_by (is_ready b t.state) left = left_is (is_ready b t.state) left at sh.ready in
      let t' = next b (input_of i) t in
      let s' = after d (words_of i) s in
      let r = drives limit t' s' (left_by (is_ready b t.state) left) (owed_after m (suc owed)) n h.2 (omega (arith, gave_length t (input_of i), sh.owes owed, owes)) gives in
      let q = subst (λ (os : List Offered). DrivesTo t' s' (left_by (is_ready b t.state) left) n (drive d s' os (owed_after m (suc owed)) limit)) (sym left_then) r in
      subst (DrivesTo t s left n) (sym (drive_step d s left owed limit h.0)) (record { ended = q.ended; clocks = suc q.clocks; same = ap (λ ms. m ∷ ms) q.same; gave = q.gave })

  -- what goes over in so many clocks, and what is left
  pub drives_over : (k : ℕ) (t : Trace) (s : Stored) (left : List Offered) → FollowsAlways b d (driven b k t left) t s → offers_in (trace d s (driven b k t left)) ++ left_behind b k t left ≡ left
  drives_over zero t s left h = refl
  drives_over (suc k) t s left h =
      let i : Inputs = drive_inputs left in
      let ready = is_ready b t.state in
      let over = beat_over b t.state (input_of i) in
      let t' = next b (input_of i) t in
      let s' = after d (words_of i) s in
      let more = driven b k t' (left_by ready left) in
      let rest = left_behind b k t' (left_by ready left) in
      let sh : ShowsClock b t.state i (shown d (words_of i) s) = shows b t.state i (shown d (words_of i) s) h.1 in
      ap (λ os. os ++ rest) (sh.offers (trace d s' more)) ∙ append_assoc (offers_by i over) (offers_in (trace d s' more)) rest ∙ ap (λ os. offers_by i over ++ os) (drives_over k t' s' (left_by ready left) h.2) ∙ over_offers ready left

  -- no divisor is zero in any clock, so no drive stops at one
  pub never_stops : (limit : ℕ) (t : Trace) (s : Stored) (left : List Offered) (owed w : ℕ) → FollowsAlways b d (driven b limit t left) t s → (drive d s left owed limit).ended ≡ Stopped w → ⊥
  never_stops limit t s left zero w h e = let f : Answered ≡ Stopped w = sym (ap (λ (r : Drive). r.ended) (drive_none d s left limit)) ∙ e in cc
  never_stops zero t s left (suc owed) w h e = let f : OutOfClocks ≡ Stopped w = sym (ap (λ (r : Drive). r.ended) (drive_out d s left owed)) ∙ e in cc
  never_stops (suc limit) t s left (suc owed) w h e =
      let i : Inputs = drive_inputs left in
      let m : Cycle = cycle i (shown d (words_of i) s) in
      let sh : ShowsClock b t.state i (shown d (words_of i) s) = shows b t.state i (shown d (words_of i) s) h.1 in
      let left_then : left_after m left ≡ left_by (is_ready b t.state) left = left_is (is_ready b t.state) left (shown d (words_of i) s) sh.ready in
      let s' = after d (words_of i) s in
      never_stops limit (next b (input_of i) t) s' (left_by (is_ready b t.state) left) (owed_after m (suc owed)) w h.2
      (ap (λ (os : List Offered). (drive d s' os (owed_after m (suc owed)) limit).ended) (sym left_then) ∙ sym (ap (λ (r : Drive). r.ended) (drive_step d s left owed limit h.0)) ∙ e)

  gave_more : (k : ℕ) (t : Trace) (left : List Offered) → length t.gave ≤ length (behind b k t left).gave
  gave_more zero t left = omega arith
  gave_more (suc k) t left =
      let i : Inputs = drive_inputs left in
      omega (arith, gave_length t (input_of i), gave_more k (next b (input_of i) t) (left_by (is_ready b t.state) left))

  pub gave_on : (limit more : ℕ) (t : Trace) (left : List Offered) → length (behind b limit t left).gave ≤ length (behind b (limit + more) t left).gave
  gave_on limit more t left = omega (arith, gave_more more (behind b limit t left) (left_behind b limit t left), ap (λ (u : Trace). length u.gave) (behind_more b limit more (limit + more) refl t left))

  -- So many answers are given, or the drive's clocks are all of these, and show each time that packets are sent back.
  pub sends : (limit : ℕ) (t : Trace) (s : Stored) (left : List Offered) (owed n : ℕ) → FollowsAlways b d (driven b limit t left) t s → owed + length t.gave ≡ n →
      (n ≤ length (behind b limit t left).gave) ⊎ (reloads_by b limit t left ≤ reload_clocks (drive d s left owed limit).trace)
  sends limit t s left zero n h owes = inl (omega (arith, owes, gave_more limit t left))
  sends zero t s left (suc owed) n h owes = inr (omega arith)
  sends (suc limit) t s left (suc owed) n h owes =
      let i : Inputs = drive_inputs left in
      let at = shown d (words_of i) s in
      let m : Cycle = cycle i at in
      let sh : ShowsClock b t.state i at = shows b t.state i at h.1 in
      let left_then : left_after m left ≡ left_by (is_ready b t.state) left = left_is (is_ready b t.state) left at sh.ready in
      let t' = next b (input_of i) t in
      let s' = after d (words_of i) s in
      let own = reload_clocks (drive d s' (left_by (is_ready b t.state) left) (owed_after m (suc owed)) limit).trace in
      let r = sends limit t' s' (left_by (is_ready b t.state) left) (owed_after m (suc owed)) n h.2 (omega (arith, gave_length t (input_of i), sh.owes owed, owes)) in
      let traced : reload_clocks (drive d s left (suc owed) (suc limit)).trace ≡ (if m.shown.out_reload then 1 else 0) + own =
      ap (λ (q : Drive). reload_clocks q.trace) (drive_step d s left owed limit h.0)
      ∙ ap (λ (os : List Offered). (if m.shown.out_reload then 1 else 0) + reload_clocks (drive d s' os (owed_after m (suc owed)) limit).trace) left_then in
      let now : (if m.shown.out_reload then 1 else 0) ≡ bit (some_send b 0 t.state.places) = ap (λ c. if c then 1 else 0) sh.sent ∙ by_bit (some_send b 0 t.state.places) in
      elim r [
        | inl given ↦ inl given
        | inr few ↦ inr (omega (arith, few, traced, now))
      ]
    where
      by_bit : (c : Bool) → (if c then 1 else 0) ≡ bit c
      by_bit true = refl
      by_bit false = refl

  -- The drive's clocks are the first ones of the machine's drive: all of them, or as many as give so many answers.
  pub record RunsOn (t : Trace) (s : Stored) (left : List Offered) (limit n : ℕ) (r : Drive) : Type 0 where
    pub clocks : ℕ
    pub same : r.trace ≡ trace d s (driven b clocks t left)
    pub all : (clocks ≡ limit) ⊎ (n ≤ length (behind b clocks t left).gave)

  pub runs_on : (limit : ℕ) (t : Trace) (s : Stored) (left : List Offered) (owed n : ℕ) → FollowsAlways b d (driven b limit t left) t s → owed + length t.gave ≡ n → RunsOn t s left limit n (drive d s left owed limit)
  runs_on limit t s left zero n h owes = subst (RunsOn t s left limit n) (sym (drive_none d s left limit)) (record { clocks = 0; same = refl; all = inr (omega (arith, owes)) })
  runs_on zero t s left (suc owed) n h owes = subst (RunsOn t s left 0 n) (sym (drive_out d s left owed)) (record { clocks = 0; same = refl; all = inl refl })
  runs_on (suc limit) t s left (suc owed) n h owes =
      let i : Inputs = drive_inputs left in
      let at = shown d (words_of i) s in
      let m : Cycle = cycle i at in
      let sh : ShowsClock b t.state i at = shows b t.state i at h.1 in
      let left_then : left_after m left ≡ left_by (is_ready b t.state) left = left_is (is_ready b t.state) left at sh.ready in
      let t' = next b (input_of i) t in
      let s' = after d (words_of i) s in
      let r = runs_on limit t' s' (left_by (is_ready b t.state) left) (owed_after m (suc owed)) n h.2 (omega (arith, gave_length t (input_of i), sh.owes owed, owes)) in
      let q = subst (λ (os : List Offered). RunsOn t' s' (left_by (is_ready b t.state) left) limit n (drive d s' os (owed_after m (suc owed)) limit)) (sym left_then) r in
      subst (RunsOn t s left (suc limit) n) (sym (drive_step d s left owed limit h.0)) (record {
        clocks = suc q.clocks;
        same = ap (λ ms. m ∷ ms) q.same;
        all = elim q.all [
          | inl e ↦ inl (ap suc e)
          | inr g ↦ inr g
        ];
      })
