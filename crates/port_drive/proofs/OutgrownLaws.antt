-- An answer that outgrows a frame is one of the full drive's, or the first part of one.
use Rattle.std.specs.Prelude.{if◌then◌else◌, option_to_list}
use Rattle.std.proofs.Common.{◌≡◌, ℕ, zero, suc, ◌+◌, ◌-◌, ◌<◌, ◌≤◌, Bool, true, false, Option, Some, None, List, [], ◌∷◌, ◌++◌, length, take, drop, refl, sym, ap, ◌∙◌, subst, arith, ◌&&◌}
use Rattle.std.specs.List.{Contains, flat_map}
use Rattle.std.proofs.lemmas.List.{length-append}
use Rattle.std.proofs.lemmas.List.Elements.{Contains-append_left, Contains-append_right}
use Rattle.beat_core.specs.declared.frame.Timed.{Timed}
use Rattle.beat_core.specs.declared.frame.TheConstants.{FRAME_LIMIT}
use Rattle.beat_core.specs.declared.answer.Answer.{Answer}
use Rattle.beat_core.specs.Beats.{bytes_of_beat}
use Rattle.beat_core.specs.Ports.{Offered, offers_of}
use Rattle.net_core.specs.Nets.{Netlist}
use Rattle.net_core.specs.Clock.{Stored, after, stopping}
use Rattle.net_core.specs.Ports.{words_of}
use Rattle.net_core.specs.Trace.{Cycle, cycle_of}
use Rattle.realization.specs.History.{answers_given, goes_out, shown_beat, drive_inputs, left_after, owed_after, Drive, drive, Answered, Stopped, OutOfClocks}
use Rattle.realization.proofs.DriveLaws.{stopped_drive}
use Rattle.port_drive.specs.Reports.{full_drive, GivesFirst}
use Rattle.port_drive.specs.Driving.{ends_answer, ended_by, begun_next, begun_after, held_bytes, Driving, Fits, OutgrowsFrame}
use Rattle.port_drive.proofs.DrivingLaws.{answers_append, answers_step}
use Rattle.port_drive.proofs.DriveLaws.{late_drive, next_drive, after_clocks, Driven, driven_on, driven_answer, driven_prefix, whole_is}

-- an answer of these that is as long or longer
pub record AsLong (n : ℕ) (answers : List Answer) : Type 0 where
  pub answer : Answer
  pub one : Contains answers answer
  pub long : n ≤ length answer.frame

long_more : (n m : ℕ) (before answers : List Answer) → n ≤ m → AsLong m answers → AsLong n (before ++ answers)
long_more n m before answers le l = record { answer = l.answer; one = Contains-append_right before answers l.answer l.one; long = omega (arith, l.long) }

-- a clock ends the answer that has begun, or makes it no shorter
step_long : (begun : List ℕ) (m : Cycle) → ends_answer m ≡ true → AsLong (length begun) (option_to_list (ended_by begun m))
step_long begun m e =
    let answer : Answer = record { verdict = m.shown.out_verdict; target = m.shown.out_target; frame = begun ++ bytes_of_beat (shown_beat m) } in
    let is : option_to_list (ended_by begun m) ≡ answer ∷ [] = ap (λ b. option_to_list (if b then Some answer else None)) e in
    subst (λ l. AsLong (length begun) l) (sym is) (record { answer = answer; one = (0, omega arith, refl); long = omega (arith, length-append begun (bytes_of_beat (shown_beat m))) })

step_begun : (begun : List ℕ) (m : Cycle) → ends_answer m ≡ false → length begun ≤ length (begun_next begun m)
step_begun begun m e = by_tests (goes_out m) m.shown.out_last e
  where
    by_tests : (g l : Bool) → (g && l) ≡ false → length begun ≤ length (if g then (if l then [] else begun ++ bytes_of_beat (shown_beat m)) else begun)
    by_tests true true f = absurd cc
    by_tests true false f = omega (arith, length-append begun (bytes_of_beat (shown_beat m)))
    by_tests false l f = omega arith

-- Where a drive ends with its last answer, the answer that has begun before it is the first part of one of its answers.
pub begun_ends : (d : Netlist) (s : Stored) (left : List Offered) (begun : List ℕ) (owed limit : ℕ) → 0 < owed → (drive d s left owed limit).ended ≡ Answered → AsLong (length begun) (answers_given begun (drive d s left owed limit).trace)
begun_ends d s left begun zero limit some e = absurd (omega arith)
begun_ends d s left begun (suc owed) zero some e = absurd (out_answered (sym (ap (λ (r : Drive). r.ended) (late_drive d s left owed)) ∙ e))
  where
    out_answered : OutOfClocks ≡ Answered → ⊥
    out_answered f = cc
begun_ends d s left begun (suc owed) (suc limit) some e =
    by_stop (stopping d (words_of (drive_inputs left)) s) refl (λ k pos. begun_ends d (after d (words_of (drive_inputs left)) s) (left_after (cycle_of d s (drive_inputs left)) left) (begun_next begun (cycle_of d s (drive_inputs left))) k limit pos)
  where
    stopped_answered : (w : ℕ) → Stopped w ≡ Answered → ⊥
    stopped_answered w f = cc

    m : Cycle
    m = cycle_of d s (drive_inputs left)

    s1 : Stored
    s1 = after d (words_of (drive_inputs left)) s

    -- of the clocks after the next one
    Later : ℕ → Type 0
    Later k = (drive d s1 (left_after m left) k limit).ended ≡ Answered → AsLong (length (begun_next begun m)) (answers_given (begun_next begun m) (drive d s1 (left_after m left) k limit).trace)

    by_end : (t : Bool) → ends_answer m ≡ t → (rest : Drive) → rest ≡ drive d s1 (left_after m left) (owed_after m (suc owed)) limit → rest.ended ≡ Answered → ((k : ℕ) → 0 < k → Later k) → AsLong (length begun) (answers_given begun (m ∷ rest.trace))
    by_end true f rest is ends later =
        let l = step_long begun m f in
        subst (λ l. AsLong (length begun) l) (sym (answers_step begun m rest.trace)) (record { answer = l.answer; one = Contains-append_left (option_to_list (ended_by begun m)) (answers_given (begun_next begun m) rest.trace) l.answer l.one; long = l.long })
    by_end false f rest is ends later =
        let k : owed_after m (suc owed) ≡ suc owed = ap (λ b. if b then owed else suc owed) f in
        let same : rest ≡ drive d s1 (left_after m left) (suc owed) limit = is ∙ ap (λ j. drive d s1 (left_after m left) j limit) k in
        let l = later (suc owed) (omega arith) (sym (ap (λ (r : Drive). r.ended) same) ∙ ends) in
        let m_long : AsLong (length (begun_next begun m)) (answers_given (begun_next begun m) rest.trace) = subst (λ (r : Drive). AsLong (length (begun_next begun m)) (answers_given (begun_next begun m) r.trace)) (sym same) l in
        subst (λ l. AsLong (length begun) l) (sym (answers_step begun m rest.trace))
        (long_more (length begun) (length (begun_next begun m)) (option_to_list (ended_by begun m)) (answers_given (begun_next begun m) rest.trace) (step_begun begun m f) m_long)

    by_stop : (o : Option ℕ) → stopping d (words_of (drive_inputs left)) s ≡ o → ((k : ℕ) → 0 < k → Later k) → AsLong (length begun) (answers_given begun (drive d s left (suc owed) (suc limit)).trace)
    by_stop (Some w) f later = absurd (stopped_answered w (sym (ap (λ (r : Drive). r.ended) (stopped_drive d s left owed limit w f)) ∙ e))
    by_stop None f later =
        let rest = drive d s1 (left_after m left) (owed_after m (suc owed)) limit in
        let is = next_drive d s left owed limit f in
        let ends : rest.ended ≡ Answered = sym (ap (λ (r : Drive). r.ended) is) ∙ e in
        subst (λ (r : Drive). AsLong (length begun) (answers_given begun r.trace)) (sym is) (by_end (ends_answer m) refl rest refl ends later)

-- ---- in a drive of packets
-- an answer of the drive, longer than a frame
pub record HasOutgrown (answers : List Answer) : Type 0 where
  pub answer : Answer
  pub one : Contains answers answer
  pub longer : FRAME_LIMIT < length answer.frame

pub outgrown_one : (some all : List Answer) (answer : Answer) → GivesFirst [] (some ++ answer ∷ []) all → FRAME_LIMIT < length answer.frame → HasOutgrown all
outgrown_one some all answer g longer =
    let at : Contains (some ++ answer ∷ []) answer = Contains-append_right some (answer ∷ []) answer (0, omega arith, refl) in
    let first : Contains (g.some ++ g.rest) answer = Contains-append_left g.some g.rest answer (subst (λ l. Contains l answer) g.given at) in
    record { answer = answer; one = subst (λ l. Contains l answer) g.first first; longer = longer }

module _ (d : Netlist) (first s : Stored) (packets : List Timed) (answers : List Answer) (ifindex limit : ℕ) (v : Driving) (h : Driven d first s packets [] answers ifindex limit v) (less : v.answers < length packets) where
  pub outgrown : (s' : Stored) → OutgrowsFrame v d s s' → (full_drive d ifindex first packets limit).ended ≡ Answered → HasOutgrown (answers_given [] (full_drive d ifindex first packets limit).trace)
  outgrown s' o e = by_last o.new.last refl
    where
      w : Driving
      w = o.new

      fits : Fits w d first s' (take v.given packets) (h.clocks ++ o.clocks)
      fits = o.fits first (take v.given packets) h.clocks h.fits

      within : w.limit ≡ limit → w.clocks ≤ limit
      within is = omega (arith, o.within)

      by_last : (last : Option Answer) → w.last ≡ last → HasOutgrown (answers_given [] (full_drive d ifindex first packets limit).trace)
      by_last (Some answer) is =
          let k = driven_answer d first s packets [] answers ifindex limit v h w s' o.clocks answer fits (o.gave ∙ ap (λ l. option_to_list l) is) is o.same.ifindex o.same.limit o.same.given o.same.ended less in
          let longer : FRAME_LIMIT < length answer.frame = subst (λ l. FRAME_LIMIT < length (held_bytes w.begun l)) is o.longer in
          outgrown_one answers (answers_given [] (full_drive d ifindex first packets limit).trace) answer (driven_prefix d first s' packets [] (answers ++ answer ∷ []) ifindex limit w k (within k.limit_is)) longer
      by_last None is =
          let k = driven_on d first s packets [] answers ifindex limit v h w s' o.clocks fits (o.gave ∙ ap (λ l. option_to_list l) is) o.same.ifindex o.same.limit o.same.given o.same.ended less in
          let left = w.left ++ flat_map (offers_of w.ifindex) (drop w.given packets) in
          let owed = length packets - w.answers in
          let rest = drive d s' left owed (limit - w.clocks) in
          let all : full_drive d ifindex first packets limit ≡ after_clocks k.clocks rest = whole_is d first s' packets [] answers ifindex limit w k (within k.limit_is) in
          let same : w.answers ≡ v.answers = omega (arith, h.fits.answers, k.fits.answers, ap length h.told, ap length k.told) in
          let ended : rest.ended ≡ Answered = sym (ap (λ (r : Drive). r.ended) all) ∙ e in
          let l = begun_ends d s' left w.begun owed (limit - w.clocks) (omega (arith, same, less)) ended in
          let longer : FRAME_LIMIT < length w.begun = subst (λ a. FRAME_LIMIT < length (held_bytes w.begun a)) is o.longer in
          let there : Contains (answers_given [] k.clocks ++ answers_given (begun_after [] k.clocks) rest.trace) l.answer =
          Contains-append_right (answers_given [] k.clocks) (answers_given (begun_after [] k.clocks) rest.trace) l.answer (subst (λ b. Contains (answers_given b rest.trace) l.answer) k.fits.begun l.one) in
          record {
            answer = l.answer;
            one = subst (λ (r : Drive). Contains (answers_given [] r.trace) l.answer) (sym all) (subst (λ some. Contains some l.answer) (sym (answers_append [] k.clocks rest.trace)) there);
            longer = omega (arith, l.long, longer);
          }
