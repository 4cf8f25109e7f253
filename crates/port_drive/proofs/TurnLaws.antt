-- The clocks of a turn.
use Rattle.std.proofs.Common.{◌≡◌, ℕ, ◌+◌, ◌<◌, ◌≤◌, Bool, true, false, Some, None, Ok, Err, List, [], ◌∷◌, ◌++◌, refl, sym, ap, ◌∙◌, subst, arith, ◌&&◌, inl, inr}
use Rattle.std.specs.Prelude.{◌==◌, if◌then◌else◌, option_to_list}
use Rattle.std.proofs.lemmas.Bool.{cases_lt, eq-eqb}
use Rattle.std.proofs.lemmas.List.{append-nil}
use Rattle.beat_core.specs.Beats.{bytes_of_beat}
use Rattle.beat_core.specs.declared.answer.Answer.{Answer}
use Rattle.beat_core.specs.Ports.{Offered}
use Rattle.std.specs.Int.{from_bool}
use Rattle.net_core.specs.declared.ports.Outputs.{Outputs}
use Rattle.net_core.specs.Value.{number_of}
use Rattle.net_core.specs.Ports.{outputs_of}
use Rattle.net_core.specs.Nets.{Netlist}
use Rattle.net_core.specs.Clock.{Stored}
use Rattle.net_core.specs.Trace.{Cycle}
use Rattle.realization.specs.History.{answers_given, shown_beat, drive_inputs, left_after}
use Rattle.port_drive.specs.declared.report.DriveError.{DriveError}
use Rattle.port_drive.specs.declared.report.DriveError.TheVariants.{X, Late, NoMemory}
use Rattle.port_drive.specs.declared.turn.Turn.{Turn}
use Rattle.port_drive.specs.declared.turn.Turn.TheVariants.{Need, Done, Over}
use Rattle.port_drive.specs.Driving.{Taking, taken_in, ends_answer, ended_by, begun_next, begun_after, Driving, clocked, FitsOn, IsGoing, IsDue, IsSameDrive, TurnOf, Turns, RunsOn, next_cycle, ClocksOn}
use Rattle.port_drive.proofs.BeatLemmas.{takes_out}
use Rattle.port_drive.proofs.DrivingLaws.{answers_step, answers_append, begun_append, fits_same, fits_on}

-- ---- a clock
-- 1 for true, as a cast has it
pub number_is : (k : ℕ) (b : Bool) → k ≡ from_bool b → k ≡ number_of b
number_is k true e = e
number_is k false e = e

-- what a clock makes of the counts, the beats and the answer
pub clocked_is : (v : Driving) (d : Netlist) (s : Stored) (shown : Outputs) (left' : List Offered) (t : Taking) (ended : Bool) (k j : ℕ) → k ≡ number_of ended → j ≡ number_of shown.out_reload
    → shown ≡ outputs_of d (drive_inputs v.left) s → left' ≡ left_after (next_cycle v d s) v.left → t ≡ taken_in v.begun (record { given = drive_inputs v.left; shown = shown }) → ended ≡ (shown.out_valid && shown.out_last)
    → (record v { answers = v.answers + k; clocks = v.clocks + 1; reloads = v.reloads + j; left = left'; begun = t.begun; last = t.last } ≡ clocked v (next_cycle v d s)) × (ended ≡ ends_answer (next_cycle v d s))
clocked_is v d s shown left' t ended k j one back show gone taken e =
    let i = drive_inputs v.left in
    let m : Cycle = record { given = i; shown = shown } in
    let same : m ≡ next_cycle v d s = ap (λ (o : Outputs). record { given = i; shown = o }) show in
    let ends : ended ≡ ends_answer m = e ∙ ready_and shown.out_valid i.out_ready shown.out_last (takes_out v.left) in (
      ap (λ (n : ℕ). record v { answers = v.answers + n; clocks = v.clocks + 1; reloads = v.reloads + j; left = left'; begun = t.begun; last = t.last }) one
          ∙ ap (λ (n : ℕ). record v { answers = v.answers + number_of ended; clocks = v.clocks + 1; reloads = v.reloads + n; left = left'; begun = t.begun; last = t.last }) back
          ∙ ap (λ (b : Bool). record v { answers = v.answers + number_of b; clocks = v.clocks + 1; reloads = v.reloads + number_of shown.out_reload; left = left'; begun = t.begun; last = t.last }) ends
          ∙ ap (λ (u : Taking). record v { answers = v.answers + number_of (ends_answer m); clocks = v.clocks + 1; reloads = v.reloads + number_of shown.out_reload; left = left'; begun = u.begun; last = u.last }) taken
          ∙ ap (λ (c : Cycle). record v { answers = v.answers + number_of (ends_answer c); clocks = v.clocks + 1; reloads = v.reloads + number_of c.shown.out_reload; left = left'; begun = begun_next v.begun c; last = ended_by v.begun c }) same
          ∙ ap (λ (l : List Offered). record v { answers = v.answers + number_of (ends_answer (next_cycle v d s)); clocks = v.clocks + 1; reloads = v.reloads + number_of (next_cycle v d s).shown.out_reload; left = l; begun = begun_next v.begun (next_cycle v d s); last = ended_by v.begun (next_cycle v d s) }) gone,
      ends ∙ ap (λ (c : Cycle). ends_answer c) same,
    )
  where
    ready_and : (a r l : Bool) → r ≡ true → (a && l) ≡ ((a && r) && l)
    ready_and true r l e = sym (ap (λ b. b && l) e)
    ready_and false r l e = refl

-- ---- what holds between two clocks of a turn: they have ended no answer
pub record Turning (old v : Driving) (d : Netlist) (s0 s : Stored) : Type 0 where
  pub clocks : List Cycle
  pub fits : FitsOn old v d s0 s clocks
  pub none : answers_given old.begun clocks ≡ []
  pub begun : v.begun ≡ begun_after old.begun clocks

pub turning_from : (v : Driving) (d : Netlist) (s : Stored) → Turning v v d s s
turning_from v d s = record { clocks = []; fits = fits_same v d s; none = refl; begun = refl }

module _ (old v : Driving) (d : Netlist) (s0 s : Stored) (t : Turning old v d s0 s) where
  -- the answers of these clocks and the next
  answers_with : answers_given old.begun (t.clocks ++ next_cycle v d s ∷ []) ≡ option_to_list (ended_by v.begun (next_cycle v d s))
  answers_with =
      answers_append old.begun t.clocks (next_cycle v d s ∷ [])
      ∙ ap (λ l. l ++ answers_given (begun_after old.begun t.clocks) (next_cycle v d s ∷ [])) t.none
      ∙ ap (λ b. answers_given b (next_cycle v d s ∷ [])) (sym t.begun)
      ∙ answers_step v.begun (next_cycle v d s) []
      ∙ append-nil (option_to_list (ended_by v.begun (next_cycle v d s)))

  pub turning_on : (s' : Stored) → IsGoing v → RunsOn v d s s' → ends_answer (next_cycle v d s) ≡ false → Turning old (clocked v (next_cycle v d s)) d s0 s'
  turning_on s' going r e = record {
    clocks = t.clocks ++ next_cycle v d s ∷ [];
    fits = fits_on old v d s0 s s' t.clocks t.fits going r;
    none = answers_with ∙ none_ended (ends_answer (next_cycle v d s)) _ e;
    begun = ap (λ b. begun_next b (next_cycle v d s)) t.begun ∙ sym (begun_append old.begun t.clocks (next_cycle v d s ∷ []));
  }
    where
      none_ended : (b : Bool) (a : Answer) → b ≡ false → option_to_list (if b then Some a else None) ≡ []
      none_ended true a e = absurd cc
      none_ended false a e = refl

  pub turn_done : (s' : Stored) → IsGoing v → RunsOn v d s s' → ends_answer (next_cycle v d s) ≡ true → Turns old (clocked v (next_cycle v d s)) d s0 s' (Ok Done)
  turn_done s' going r e =
      let m = next_cycle v d s in
      let answer : Answer = record { verdict = m.shown.out_verdict; target = m.shown.out_target; frame = v.begun ++ bytes_of_beat (shown_beat m) } in
      record {
        clocks = t.clocks ++ next_cycle v d s ∷ [];
        fits = fits_on old v d s0 s s' t.clocks t.fits going r;
        ends = (answer, some_ended (ends_answer m) answer e, answers_with ∙ ap (λ o. option_to_list o) (some_ended (ends_answer m) answer e));
      }
    where
      some_ended : (b : Bool) (a : Answer) → b ≡ true → (if b then Some a else None) ≡ Some a
      some_ended true a e = refl
      some_ended false a e = absurd cc

  pub turn_due : (turn : Turn) → IsDue (Some turn) v → Turns old v d s0 s (Ok turn)
  turn_due Need due = record { clocks = t.clocks; fits = t.fits; ends = (t.none, due) }
  turn_due Over due = record { clocks = t.clocks; fits = t.fits; ends = (t.none, due) }
  turn_due Done due = absurd due

  pub turn_late : IsGoing v → v.clocks ≡ v.limit → Turns old v d s0 s (Err (Late v.answers v.given v.limit))
  turn_late going out = record { clocks = t.clocks; fits = t.fits; ends = (t.none, going, out, refl, refl, refl) }

  -- a clock that failed
  pub turn_failed : (new : Driving) (s' : Stored) (e : DriveError) → IsSameDrive old v → IsGoing v → v.clocks < v.limit → ClocksOn v new d s s' (Err e) → Turns old new d s0 s' (Err e)
  turn_failed new s' (X x) same going more h =
      let here : TurnOf old v d s0 s (Err (X x)) = record { clocks = t.clocks; fits = t.fits; ends = (t.none, going, more, h.2) } in
      subst (λ w. Turns old w d s0 s' (Err (X x))) (sym h.0) (subst (λ u. Turns old v d s0 u (Err (X x))) (sym h.1) here)
  turn_failed new s' NoMemory same going more h = record {
    clocks = t.clocks ++ next_cycle v d s ∷ [];
    new = clocked v (next_cycle v d s);
    fits = fits_on old v d s0 s s' t.clocks t.fits going h.0;
    same = record { ifindex = same.ifindex; limit = same.limit; given = same.given; ended = same.ended };
    within = omega arith;
    gave = answers_with;
    longer = h.1;
  }
  turn_failed new s' (Late answers packets clocks) same going more h = absurd h

  -- a clock that was run, by what it said
  pub turn_ended : (new : Driving) (s' : Stored) (b : Bool) → b ≡ true → IsGoing v → ClocksOn v new d s s' (Ok b) → TurnOf old new d s0 s' (Ok Done)
  turn_ended new s' b e going h =
      subst (λ w. TurnOf old w d s0 s' (Ok Done)) (sym h.1) (turn_done s' going h.0 (sym h.2 ∙ e))

  pub turning_clocked : (new : Driving) (s' : Stored) (b : Bool) → b ≡ false → IsGoing v → ClocksOn v new d s s' (Ok b) → Turning old new d s0 s'
  turning_clocked new s' b e going h =
      subst (λ w. Turning old w d s0 s') (sym h.1) (turning_on s' going h.0 (sym h.2 ∙ e))

-- clocks are left
pub less_than_limit : (a b : ℕ) (late : Bool) → late ≡ (a == b) → late ≡ false → a ≤ b → a < b
less_than_limit a b late is early le = elim (cases_lt a b) [
  | inl lt ↦ lt
  | inr ge ↦ absurd (true_false (sym (eq-eqb a b (omega arith)) ∙ sym is ∙ early))
]
  where
    true_false : true ≡ false → ⊥
    true_false e = cc
