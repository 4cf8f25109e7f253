-- The clocks of a drive, one by one: what they take of answers, and what fits them.
use Rattle.std.proofs.Common.{◌≡◌, ◌≢◌, ℕ, zero, suc, ◌+◌, ◌-◌, ◌<◌, ◌≤◌, Bool, true, false, Some, None, List, [], ◌∷◌, ◌++◌, length, refl, sym, ap, ◌∙◌, subst, arith, append_assoc, ◌⊎◌, inl, inr}
use Rattle.std.specs.Prelude.{if◌then◌else◌, option_to_list, is_some}
use Rattle.std.specs.List.{flat_map}
use Rattle.std.proofs.lemmas.List.{append-nil, length-append}
use Rattle.std.proofs.lemmas.Bool.{cases_lt}
use Rattle.beat_core.specs.declared.frame.Timed.{Timed}
use Rattle.beat_core.specs.declared.answer.Answer.{Answer}
use Rattle.beat_core.specs.Ports.{Offered, offers_of}
use Rattle.net_core.specs.declared.ports.Inputs.{Inputs}
use Rattle.net_core.specs.Nets.{Netlist}
use Rattle.net_core.specs.Value.{number_of}
use Rattle.net_core.specs.Clock.{Stored, after, stopping}
use Rattle.net_core.specs.Ports.{words_of}
use Rattle.net_core.specs.Trace.{Cycle, cycle_of, stored_after}
use Rattle.realization.specs.History.{goes_in, answers_given, drive_inputs, left_after, owed_after}
use Rattle.port_drive.specs.Reports.{reloads_in, given_in}
use Rattle.port_drive.specs.Driving.{ends_answer, ended_by, begun_next, begun_after, Drives, AreOwed, Driving, undriven, with_packet, clocked, owed_in_all, Fits, FitsOn, IsGoing, RunsOn, next_cycle}

-- ---- answers, clock by clock
pub answers_step : (begun : List ℕ) (m : Cycle) (ms : List Cycle) → answers_given begun (m ∷ ms) ≡ option_to_list (ended_by begun m) ++ answers_given (begun_next begun m) ms
answers_step begun m ms = by_tests m.shown.out_valid m.given.out_ready m.shown.out_last refl refl refl
  where
    by_tests : (v r l : Bool) → m.shown.out_valid ≡ v → m.given.out_ready ≡ r → m.shown.out_last ≡ l → answers_given begun (m ∷ ms) ≡ option_to_list (ended_by begun m) ++ answers_given (begun_next begun m) ms
    by_tests true true true ev er el = rw (ev, er, el) refl
    by_tests true true false ev er el = rw (ev, er, el) refl
    by_tests true false l ev er el = rw (ev, er) refl
    by_tests false r l ev er el = rw ev refl

pub answers_append : (begun : List ℕ) (before later : List Cycle) → answers_given begun (before ++ later) ≡ answers_given begun before ++ answers_given (begun_after begun before) later
answers_append begun [] later = refl
answers_append begun (m ∷ before) later =
    let next = begun_next begun m in
    answers_step begun m (before ++ later)
    ∙ ap (λ l. option_to_list (ended_by begun m) ++ l) (answers_append next before later)
    ∙ sym (append_assoc (option_to_list (ended_by begun m)) (answers_given next before) (answers_given (begun_after next before) later))
    ∙ ap (λ l. l ++ answers_given (begun_after next before) later) (sym (answers_step begun m before))

pub begun_append : (begun : List ℕ) (before later : List Cycle) → begun_after begun (before ++ later) ≡ begun_after (begun_after begun before) later
begun_append begun [] later = refl
begun_append begun (m ∷ before) later = begun_append (begun_next begun m) before later

one_ended : (t : Bool) (a : Answer) → length (option_to_list (if t then Some a else None)) ≡ number_of t
one_ended true a = refl
one_ended false a = refl

pub count_step : (begun : List ℕ) (m : Cycle) (ms : List Cycle) → length (answers_given begun (m ∷ ms)) ≡ number_of (ends_answer m) + length (answers_given (begun_next begun m) ms)
count_step begun m ms =
    ap length (answers_step begun m ms) ∙ length-append (option_to_list (ended_by begun m)) (answers_given (begun_next begun m) ms)
    ∙ ap (λ k. k + length (answers_given (begun_next begun m) ms)) (one_ended (ends_answer m) _)

reloads_snoc : (ms : List Cycle) (m : Cycle) → reloads_in (ms ++ m ∷ []) ≡ reloads_in ms + number_of m.shown.out_reload
reloads_snoc [] m = by_test m.shown.out_reload
  where
    by_test : (b : Bool) → (if b then 1 + 0 else 0) ≡ 0 + number_of b
    by_test true = refl
    by_test false = refl
reloads_snoc (x ∷ ms) m = by_test x.shown.out_reload (reloads_in (ms ++ m ∷ [])) (reloads_in ms) (number_of m.shown.out_reload) (reloads_snoc ms m)
  where
    by_test : (b : Bool) (more some k : ℕ) → more ≡ some + k → (if b then 1 + more else more) ≡ (if b then 1 + some else some) + k
    by_test true more some k e = omega arith
    by_test false more some k e = e

-- ---- answers that are owed
pub owed_after_is : (m : Cycle) (owed : ℕ) → 0 < owed → owed_after m owed + number_of (ends_answer m) ≡ owed
owed_after_is m zero some = absurd (omega arith)
owed_after_is m (suc owed) some = by_test (ends_answer m)
  where
    by_test : (t : Bool) → (if t then owed else suc owed) + number_of t ≡ suc owed
    by_test true = omega arith
    by_test false = omega arith

pub owed_more : (owed most : ℕ) (ms : List Cycle) → owed ≤ most → AreOwed owed ms → AreOwed most ms
owed_more owed most [] le h = tt
owed_more owed most (m ∷ ms) le h =
    let few = owed_after_is m owed h.0 in
    let some : 0 < most = omega (arith, h.0) in
    let many = owed_after_is m most some in
    (some, owed_more (owed_after m owed) (owed_after m most) ms (omega (arith, few, many)) h.1)

owed_snoc : (owed : ℕ) (begun : List ℕ) (ms : List Cycle) (m : Cycle) → AreOwed owed ms → length (answers_given begun ms) < owed → AreOwed owed (ms ++ m ∷ [])
owed_snoc owed begun [] m h lt = (lt, tt)
owed_snoc owed begun (x ∷ ms) m h lt =
    (h.0, owed_snoc (owed_after x owed) (begun_next begun x) ms m h.1 (omega (arith, lt, count_step begun x ms, owed_after_is x owed h.0)))

owed_most : (owed : ℕ) (begun : List ℕ) (ms : List Cycle) → AreOwed owed ms → length (answers_given begun ms) ≤ owed
owed_most owed begun [] h = let none : 0 ≤ owed = omega arith in none
owed_most owed begun (x ∷ ms) h =
    omega (arith, count_step begun x ms, owed_after_is x owed h.0, owed_most (owed_after x owed) (begun_next begun x) ms h.1)

-- ---- clocks of a full drive
drives_snoc : (d : Netlist) (s : Stored) (left : List Offered) (ms : List Cycle) (mid : Stored) (at : List Offered) (i : Inputs) (left' : List Offered) → i ≡ drive_inputs at → Drives d s left ms mid at
    → stopping d (words_of i) mid ≡ None → left' ≡ left_after (cycle_of d mid i) at → Drives d s left (ms ++ cycle_of d mid i ∷ []) (after d (words_of i) mid) left'
drives_snoc d s left [] mid at i left' is h stop gone =
    let i_is : i ≡ drive_inputs left = is ∙ ap (λ l. drive_inputs l) h.1 in (
      ap (λ j. stopping d (words_of j) s) (sym i_is) ∙ ap (λ t. stopping d (words_of i) t) (sym h.0) ∙ stop,
      ap (λ t. cycle_of d t i) h.0 ∙ ap (λ j. cycle_of d s j) i_is,
      (ap (λ t. after d (words_of i) t) h.0 ∙ ap (λ j. after d (words_of j) s) i_is, gone ∙ ap (λ l. left_after (cycle_of d mid i) l) h.1),
    )
drives_snoc d s left (x ∷ ms) mid at i left' is h stop gone =
    (h.0, h.1, drives_snoc d (after d (words_of (drive_inputs left)) s) (left_after x left) ms mid at i left' is h.2 stop gone)

pub drives_stored : (d : Netlist) (s : Stored) (left : List Offered) (ms : List Cycle) (s' : Stored) (left' : List Offered) → Drives d s left ms s' left' → s' ≡ stored_after d s (given_in ms)
drives_stored d s left [] s' left' h = h.0
drives_stored d s left (m ∷ ms) s' left' h =
    drives_stored d (after d (words_of (drive_inputs left)) s) (left_after m left) ms s' left' h.2
    ∙ ap (λ j. stored_after d (after d (words_of j) s) (given_in ms)) (sym (ap (λ (c : Cycle). c.given) h.1))

-- what may follow is not offered before all that is left
pub inputs_keep : (left more : List Offered) → (left ≡ [] → more ≡ []) → drive_inputs left ≡ drive_inputs (left ++ more)
inputs_keep [] more none = sym (ap (λ l. drive_inputs l) (none refl))
inputs_keep (o ∷ os) more none = refl

left_keeps : (m : Cycle) (left more : List Offered) → (left ≡ [] → more ≡ []) → left_after m left ++ more ≡ left_after m (left ++ more)
left_keeps m [] more none = none refl ∙ sym (ap (λ l. left_after m l) (none refl))
left_keeps m (o ∷ os) more none = by_test (goes_in m)
  where
    by_test : (t : Bool) → (if t then os else o ∷ os) ++ more ≡ (if t then os ++ more else o ∷ (os ++ more))
    by_test true = refl
    by_test false = refl

-- ---- how many are owed in all
all_given : (v : Driving) → v.ended ≡ true → owed_in_all v ≡ v.given
all_given v e = ap (λ b. if b then v.given else (if is_some v.last then v.answers else v.answers + 1)) e

some_given : (v : Driving) → v.ended ≡ false → owed_in_all v ≡ (if is_some v.last then v.answers else v.answers + 1)
some_given v e = ap (λ b. if b then v.given else (if is_some v.last then v.answers else v.answers + 1)) e

one_more : (b : Bool) (k : ℕ) → (if b then k else k + 1) ≤ k + 1
one_more true k = omega arith
one_more false k = omega arith

bound_less : (a b k n : ℕ) → a ≡ b → b ≤ k + 1 → k < n → a ≤ n
bound_less a b k n e le lt = omega arith

bound_same : (a k n : ℕ) → a ≡ k → k ≡ n → a ≤ n
bound_same a k n e f = omega arith

bound_one : (a b k : ℕ) → a ≡ b → b ≤ k + 1 → a ≤ k + 1
bound_one a b k e le = omega arith

zero_suc : (n : ℕ) → 0 ≡ suc n → ⊥
zero_suc n e = omega arith

-- ---- what fits
pub fits_none : (ifindex limit : ℕ) (d : Netlist) (s : Stored) → Fits (undriven ifindex limit) d s s [] []
fits_none ifindex limit d s = record {
  drives = λ more none. (refl, refl);
  owed = tt;
  given = refl;
  answers = refl;
  begun = refl;
  clocks = refl;
  reloads = refl;
}

-- a packet more
pub fits_given : (v : Driving) (p : Timed) (d : Netlist) (first s : Stored) (packets : List Timed) (ms : List Cycle) → v.left ≡ [] → v.ended ≡ false → Fits v d first s packets ms → Fits (with_packet v p) d first s (packets ++ p ∷ []) ms
fits_given v p d first s packets ms over goes h = record {
  drives = λ more none.
      let offers : List Timed → List Offered = flat_map (offers_of v.ifindex) in
      let all : packets ++ p ∷ more ≡ (packets ++ p ∷ []) ++ more = sym (append_assoc packets (p ∷ []) more) in
      let before = h.drives (p ∷ more) (λ e. absurd (true_false (sym e ∙ goes))) in
      subst (λ l. Drives d first (offers l) ms s (offers_of v.ifindex p ++ offers more)) all (subst (λ l. Drives d first (offers (packets ++ p ∷ more)) ms s (l ++ (offers_of v.ifindex p ++ offers more))) over before);
  owed = subst (λ k. AreOwed k ms) (some_given v goes ∙ sym (some_given (with_packet v p) goes)) h.owed;
  given = ap (λ k. k + 1) h.given ∙ sym (length-append packets (p ∷ []));
  answers = h.answers;
  begun = h.begun;
  clocks = h.clocks;
  reloads = h.reloads;
}
  where
    true_false : true ≡ false → ⊥
    true_false e = cc

-- no more packets
pub fits_ended : (v : Driving) (d : Netlist) (first s : Stored) (packets : List Timed) (ms : List Cycle) → v.answers ≤ v.given → (v.answers ≡ v.given → (is_some v.last ≡ true) ⊎ (v.clocks ≡ 0)) → Fits v d first s packets ms → Fits (record v { ended = true }) d first s packets ms
fits_ended v d first s packets ms few last h = record {
  drives = λ more none. h.drives more (λ e. none refl);
  owed = by_end v.ended refl;
  given = h.given;
  answers = h.answers;
  begun = h.begun;
  clocks = h.clocks;
  reloads = h.reloads;
}
  where
    by_clocks : (l : List Cycle) → 0 ≡ length l → AreOwed v.given l
    by_clocks [] e = tt
    by_clocks (m ∷ l) e = absurd (zero_suc (length l) e)

    by_last : v.ended ≡ false → (v.answers < v.given) ⊎ (v.answers ≡ v.given) → AreOwed v.given ms
    by_last e (inl less) = owed_more (owed_in_all v) v.given ms (bound_less _ _ v.answers v.given (some_given v e) (one_more (is_some v.last) v.answers) less) h.owed
    by_last e (inr same) = elim (last same) [
      | inl taken ↦ owed_more (owed_in_all v) v.given ms (bound_same _ v.answers v.given (some_given v e ∙ ap (λ b. if b then v.answers else v.answers + 1) taken) same) h.owed
      | inr none ↦ by_clocks ms (sym none ∙ h.clocks)
    ]

    by_end : (t : Bool) → v.ended ≡ t → AreOwed v.given ms
    by_end true e = subst (λ k. AreOwed k ms) (all_given v e) h.owed
    by_end false e = by_last e (less_or_same v.answers v.given few)
      where
        less_or_same : (a b : ℕ) → a ≤ b → (a < b) ⊎ (a ≡ b)
        less_or_same a b le = elim (cases_lt a b) [
          | inl lt ↦ inl lt
          | inr ge ↦ inr (omega arith)
        ]

-- a clock more
module _ (v : Driving) (d : Netlist) (first s : Stored) (packets : List Timed) (ms : List Cycle) (h : Fits v d first s packets ms) (going : IsGoing v) (runs : stopping d (words_of (drive_inputs v.left)) s ≡ None) where
  owed_on : AreOwed (owed_in_all (clocked v (next_cycle v d s))) (ms ++ next_cycle v d s ∷ [])
  owed_on = by_end v.ended refl
    where
      number : (t : Bool) (a : Answer) (k : ℕ) → (if is_some (if t then Some a else None) then k + number_of t else k + number_of t + 1) ≡ k + 1
      number true a k = refl
      number false a k = omega arith

      by_end : (t : Bool) → v.ended ≡ t → AreOwed (owed_in_all (clocked v (next_cycle v d s))) (ms ++ next_cycle v d s ∷ [])
      by_end true e =
          let owed : AreOwed v.given ms = subst (λ k. AreOwed k ms) (all_given v e) h.owed in
          let most = owed_most v.given [] ms owed in
          let less : length (answers_given [] ms) < v.given = less_from _ _ most (λ same. going.owes e (h.answers ∙ same)) in
          subst (λ k. AreOwed k (ms ++ next_cycle v d s ∷ [])) (sym (all_given (clocked v (next_cycle v d s)) e)) (owed_snoc v.given [] ms (next_cycle v d s) owed less)
        where
          less_from : (a b : ℕ) → a ≤ b → a ≢ b → a < b
          less_from a b le ne = elim (cases_lt a b) [
            | inl lt ↦ lt
            | inr ge ↦ absurd (ne (omega arith))
          ]
      by_end false e =
          let is : owed_in_all (clocked v (next_cycle v d s)) ≡ v.answers + 1 = some_given (clocked v (next_cycle v d s)) e ∙ number (ends_answer (next_cycle v d s)) _ v.answers in
          let owed : AreOwed (v.answers + 1) ms = owed_more (owed_in_all v) (v.answers + 1) ms (bound_one _ _ v.answers (some_given v e) (one_more (is_some v.last) v.answers)) h.owed in
          subst (λ k. AreOwed k (ms ++ next_cycle v d s ∷ [])) (sym is) (owed_snoc (v.answers + 1) [] ms (next_cycle v d s) owed (omega (arith, h.answers)))

  pub fits_clocked : Fits (clocked v (next_cycle v d s)) d first (after d (words_of (drive_inputs v.left)) s) packets (ms ++ next_cycle v d s ∷ [])
  fits_clocked = record {
    drives = λ more none.
        let offers = flat_map (offers_of v.ifindex) more in
        let last : v.left ≡ [] → offers ≡ [] = λ over. ap (λ l. flat_map (offers_of v.ifindex) l) (none (going.offers over)) in
        drives_snoc d first (flat_map (offers_of v.ifindex) (packets ++ more)) ms s (v.left ++ offers) (drive_inputs v.left) (left_after (next_cycle v d s) v.left ++ offers) (inputs_keep v.left offers last) (h.drives more none) runs (left_keeps (next_cycle v d s) v.left offers last);
    owed = owed_on;
    given = h.given;
    answers =
        let m = next_cycle v d s in
        let count : length (answers_given [] (ms ++ m ∷ [])) ≡ length (answers_given [] ms) + (number_of (ends_answer m) + 0) =
        ap length (answers_append [] ms (m ∷ [])) ∙ length-append (answers_given [] ms) (answers_given (begun_after [] ms) (m ∷ [])) ∙ ap (λ k. length (answers_given [] ms) + k) (count_step (begun_after [] ms) m []) in
        omega (arith, h.answers, count);
    begun = ap (λ b. begun_next b (next_cycle v d s)) h.begun ∙ sym (begun_append [] ms (next_cycle v d s ∷ []));
    clocks = ap (λ k. k + 1) h.clocks ∙ sym (length-append ms (next_cycle v d s ∷ []));
    reloads = ap (λ k. k + number_of (next_cycle v d s).shown.out_reload) h.reloads ∙ sym (reloads_snoc ms (next_cycle v d s));
  }

-- ---- what goes on fitting
pub fits_same : (v : Driving) (d : Netlist) (s : Stored) → FitsOn v v d s s []
fits_same v d s = λ first packets before fit.
    subst (λ l. Fits v d first s packets l) (sym (append-nil before)) fit

pub fits_on : (old v : Driving) (d : Netlist) (s0 s s' : Stored) (ms : List Cycle) → FitsOn old v d s0 s ms → IsGoing v → RunsOn v d s s' → FitsOn old (clocked v (next_cycle v d s)) d s0 s' (ms ++ next_cycle v d s ∷ [])
fits_on old v d s0 s s' ms fits going r = λ first packets before fit.
    let new = fits_clocked v d first s packets (before ++ ms) (fits first packets before fit) going r.runs in
    subst (λ l. Fits (clocked v (next_cycle v d s)) d first s' packets l) (append_assoc before ms (next_cycle v d s ∷ [])) (subst (λ t. Fits (clocked v (next_cycle v d s)) d first t packets ((before ++ ms) ++ next_cycle v d s ∷ [])) (sym r.stored) new)
