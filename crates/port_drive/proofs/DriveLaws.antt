-- A drive of packets that are given one at a time is the full drive of them all.
use Rattle.std.specs.Prelude.{if◌then◌else◌, option_map, is_some}
use Rattle.std.proofs.Common.{◌≡◌, ℕ, zero, suc, ◌+◌, ◌-◌, ◌<◌, ◌≤◌, Bool, true, false, Option, Some, None, List, [], ◌∷◌, ◌++◌, length, take, drop, get_or, refl, sym, ap, ◌∙◌, subst, arith, append_assoc}
use Rattle.std.proofs.lemmas.List.{append-nil, length-append, take-append-drop, drop_all}
use Rattle.std.specs.List.{flat_map}
use Rattle.beat_core.specs.declared.frame.Timed.{Timed}
use Rattle.beat_core.specs.declared.answer.Answer.{Answer}
use Rattle.beat_core.specs.Ports.{Offered, offers_of}
use Rattle.net_core.specs.declared.tree.Net.{Net}
use Rattle.net_core.specs.declared.tree.Net.TheVariants.{Wire}
use Rattle.net_core.specs.Nets.{Netlist}
use Rattle.net_core.specs.Clock.{Stored, after, stopping}
use Rattle.net_core.specs.Ports.{words_of}
use Rattle.net_core.specs.Trace.{Cycle, cycle_of, stored_after}
use Rattle.realization.proofs.DriveLaws.{stopped_drive}
use Rattle.realization.specs.History.{answers_given, drive_inputs, left_after, owed_after, Drive, drive, and_then, Ended, Answered, Stopped, OutOfClocks}
use Rattle.clock_sim.specs.Running.{stopped_net}
use Rattle.port_drive.specs.Reports.{full_drive, reloads_in, given_in, GivesFirst}
use Rattle.port_drive.specs.Driving.{begun_next, begun_after, Drives, AreOwed, Driving, undriven, owed_in_all, Fits, IsGoing}
use Rattle.port_drive.proofs.DrivingLaws.{answers_append, count_step, owed_after_is, owed_more, drives_stored, inputs_keep, fits_none}

pub done_drive : (d : Netlist) (s : Stored) (left : List Offered) (limit : ℕ) → drive d s left 0 limit ≡ record { trace = []; ended = Answered }
unfolding drive
done_drive d s left limit = refl

pub late_drive : (d : Netlist) (s : Stored) (left : List Offered) (owed : ℕ) → drive d s left (suc owed) 0 ≡ record { trace = []; ended = OutOfClocks }
unfolding drive
late_drive d s left owed = refl

pub next_drive : (d : Netlist) (s : Stored) (left : List Offered) (owed limit : ℕ) → stopping d (words_of (drive_inputs left)) s ≡ None
    → drive d s left (suc owed) (suc limit) ≡ and_then (cycle_of d s (drive_inputs left)) (drive d (after d (words_of (drive_inputs left)) s) (left_after (cycle_of d s (drive_inputs left)) left) (owed_after (cycle_of d s (drive_inputs left)) (suc owed)) limit)
unfolding drive
next_drive d s left owed limit e =
    ap (λ (o : Option ℕ). elim o as (λ _. Drive) [ None ↦ and_then (cycle_of d s (drive_inputs left)) (drive d (after d (words_of (drive_inputs left)) s) (left_after (cycle_of d s (drive_inputs left)) left) (owed_after (cycle_of d s (drive_inputs left)) (suc owed)) limit) | Some v ↦ record { trace = []; ended = Stopped v } ]) e

-- ---- clocks, and the rest of a drive
abbrev pub after_clocks : List Cycle → Drive → Drive
after_clocks ms rest = record { trace = ms ++ rest.trace; ended = rest.ended }

pub drive_after : (d : Netlist) (s : Stored) (left : List Offered) (begun : List ℕ) (ms : List Cycle) (s' : Stored) (left' : List Offered) (owed limit rest : ℕ) → Drives d s left ms s' left' → AreOwed owed ms → limit ≡ length ms + rest
    → drive d s left owed limit ≡ after_clocks ms (drive d s' left' (owed - length (answers_given begun ms)) rest)
drive_after d s left begun [] s' left' owed limit rest h o lim =
    let none : limit ≡ 0 + rest = lim in
    let same : limit ≡ rest = omega (arith, none) in
    let all : owed ≡ owed - 0 = omega arith in
    ap (λ k. drive d s left owed k) same ∙ ap (λ t. drive d t left owed rest) (sym h.0) ∙ ap (λ l. drive d s' l owed rest) (sym h.1) ∙ ap (λ k. drive d s' left' k rest) all
drive_after d s left begun (m ∷ ms) s' left' zero limit rest h o lim = absurd (omega (arith, o.0))
drive_after d s left begun (m ∷ ms) s' left' (suc owed) limit rest h o lim =
    let i = drive_inputs left in
    let later = length ms + rest in
    let more : limit ≡ suc (length ms) + rest = lim in
    let one : limit ≡ suc later = omega (arith, more) in
    let s1 = after d (words_of i) s in
    let k = owed_after m (suc owed) in
    let number : k - length (answers_given (begun_next begun m) ms) ≡ suc owed - length (answers_given begun (m ∷ ms)) = omega (arith, count_step begun m ms, owed_after_is m (suc owed) o.0) in
    ap (λ j. drive d s left (suc owed) j) one
    ∙ next_drive d s left owed later h.0
    ∙ ap (λ (c : Cycle). and_then c (drive d s1 (left_after c left) (owed_after c (suc owed)) later)) (sym h.1)
    ∙ ap (λ r. and_then m r) (drive_after d s1 (left_after m left) (begun_next begun m) ms s' left' k later rest h.2 o.1 refl)
    ∙ ap (λ j. and_then m (after_clocks ms (drive d s' left' j rest))) number

-- ---- what holds between two turns of a drive of packets
pub record Driven (d : Netlist) (first s : Stored) (packets : List Timed) (before answers : List Answer) (ifindex limit : ℕ) (v : Driving) : Type 0 where
  pub clocks : List Cycle
  pub fits : Fits v d first s (take v.given packets) clocks
  pub owed : AreOwed (length packets) clocks
  pub given : v.given ≤ length packets
  pub all : v.ended ≡ true → v.given ≡ length packets
  pub few : v.answers ≤ length packets
  pub told : answers ≡ before ++ answers_given [] clocks
  pub ifindex_is : v.ifindex ≡ ifindex
  pub limit_is : v.limit ≡ limit

pub driven_from : (d : Netlist) (s : Stored) (packets : List Timed) (before : List Answer) (ifindex limit : ℕ) (v : Driving) → v ≡ undriven ifindex limit → Driven d s s packets before before ifindex limit v
driven_from d s packets before ifindex limit v e = subst (λ w. Driven d s s packets before before ifindex limit w) (sym e) (record {
  clocks = [];
  fits = fits_none ifindex limit d s;
  owed = tt;
  given = omega arith;
  all = λ t. absurd (false_true t);
  few = omega arith;
  told = sym (append-nil before);
  ifindex_is = refl;
  limit_is = refl;
})
  where
    false_true : false ≡ true → ⊥
    false_true t = cc

-- the end of a drive
pub record Finished (whole : Drive) (d : Netlist) (first s : Stored) (before answers : List Answer) (v : Driving) (e : Ended) : Type 0 where
  pub ended : whole.ended ≡ e
  pub given : answers ≡ before ++ answers_given [] whole.trace
  pub number : v.answers ≡ length (answers_given [] whole.trace)
  pub count : v.clocks ≡ length whole.trace
  pub back : v.reloads ≡ reloads_in whole.trace
  pub stored : s ≡ stored_after d first (given_in whole.trace)

pub record StopsAs (whole : Drive) (d : Netlist) (first s : Stored) (before answers : List Answer) (v : Driving) (net : Net) : Type 0 where
  pub wire : ℕ
  pub ends : Finished whole d first s before answers v (Stopped wire)
  pub is : net ≡ Wire wire

module _ (d : Netlist) (first s : Stored) (packets : List Timed) (before answers : List Answer) (ifindex limit : ℕ) (v : Driving) (h : Driven d first s packets before answers ifindex limit v) where
  -- the beats that are still to offer, those of packets to come too
  drives_all : Drives d first (flat_map (offers_of v.ifindex) packets) h.clocks s (v.left ++ flat_map (offers_of v.ifindex) (drop v.given packets))
  drives_all =
      subst (λ l. Drives d first (flat_map (offers_of v.ifindex) l) h.clocks s (v.left ++ flat_map (offers_of v.ifindex) (drop v.given packets))) (take-append-drop v.given packets)
      (h.fits.drives (drop v.given packets) (λ e. drop_all v.given packets (omega (arith, h.all e))))

  pub whole_is : v.clocks ≤ limit
      → full_drive d ifindex first packets limit ≡ after_clocks h.clocks (drive d s (v.left ++ flat_map (offers_of v.ifindex) (drop v.given packets)) (length packets - v.answers) (limit - v.clocks))
  whole_is within =
      let left' = v.left ++ flat_map (offers_of v.ifindex) (drop v.given packets) in
      let rest = limit - v.clocks in
      let lim : limit ≡ length h.clocks + rest = omega (arith, h.fits.clocks) in
      ap (λ i. full_drive d i first packets limit) (sym h.ifindex_is)
      ∙ drive_after d first (flat_map (offers_of v.ifindex) packets) [] h.clocks s left' (length packets) limit rest drives_all h.owed lim
      ∙ ap (λ k. after_clocks h.clocks (drive d s left' (length packets - k) rest)) (sym h.fits.answers)

  finished : (e : Ended) → full_drive d ifindex first packets limit ≡ after_clocks h.clocks (record { trace = []; ended = e }) → Finished (full_drive d ifindex first packets limit) d first s before answers v e
  finished e is =
      let trace : (full_drive d ifindex first packets limit).trace ≡ h.clocks = ap (λ (r : Drive). r.trace) is ∙ append-nil h.clocks in
      record {
        ended = ap (λ (r : Drive). r.ended) is;
        given = h.told ∙ ap (λ ms. before ++ answers_given [] ms) (sym trace);
        number = h.fits.answers ∙ ap (λ ms. length (answers_given [] ms)) (sym trace);
        count = h.fits.clocks ∙ ap (λ (ms : List Cycle). length ms) (sym trace);
        back = h.fits.reloads ∙ ap (λ ms. reloads_in ms) (sym trace);
        stored = drives_stored d first _ h.clocks s _ drives_all ∙ ap (λ ms. stored_after d first (given_in ms)) (sym trace);
      }

  pub driven_done : v.clocks ≤ limit → v.answers ≡ length packets → Finished (full_drive d ifindex first packets limit) d first s before answers v Answered
  driven_done within all =
      let none : length packets - v.answers ≡ 0 = omega arith in
      let left' = v.left ++ flat_map (offers_of v.ifindex) (drop v.given packets) in
      finished Answered (whole_is within ∙ ap (λ r. after_clocks h.clocks r) (ap (λ k. drive d s left' k (limit - v.clocks)) none ∙ done_drive d s left' (limit - v.clocks)))

  pub driven_late : v.clocks ≡ limit → v.answers < length packets → Finished (full_drive d ifindex first packets limit) d first s before answers v OutOfClocks
  driven_late out less =
      let left' = v.left ++ flat_map (offers_of v.ifindex) (drop v.given packets) in
      let none : limit - v.clocks ≡ 0 = omega arith in
      let some : length packets - v.answers ≡ suc (length packets - v.answers - 1) = omega arith in
      finished OutOfClocks (whole_is (omega arith) ∙ ap (λ r. after_clocks h.clocks r) (ap (λ j. drive d s left' (length packets - v.answers) j) none ∙ ap (λ k. drive d s left' k 0) some ∙ late_drive d s left' (length packets - v.answers - 1)))

  pub driven_stopped : v.clocks < limit → v.answers < length packets → IsGoing v → (net : Net) → stopped_net d (words_of (drive_inputs v.left)) s ≡ Some net → StopsAs (full_drive d ifindex first packets limit) d first s before answers v net
  driven_stopped more less going net stop = by_stop (stopping d (words_of (drive_inputs v.left)) s) refl stop
    where
      none_some : (y : Net) → None ≡ Some y → ⊥
      none_some y e = cc

      some_inj : (a b : Net) → Some a ≡ Some b → b ≡ a
      some_inj a b e = cc

      no_more : v.left ≡ [] → flat_map (offers_of v.ifindex) (drop v.given packets) ≡ []
      no_more over = ap (λ l. flat_map (offers_of v.ifindex) l) (drop_all v.given packets (omega (arith, h.all (going.offers over))))

      by_stop : (o : Option ℕ) → stopping d (words_of (drive_inputs v.left)) s ≡ o → option_map Wire o ≡ Some net → StopsAs (full_drive d ifindex first packets limit) d first s before answers v net
      by_stop None e f = absurd (none_some net f)
      by_stop (Some w) e f =
          let left' = v.left ++ flat_map (offers_of v.ifindex) (drop v.given packets) in
          let stops : stopping d (words_of (drive_inputs left')) s ≡ Some w = ap (λ i. stopping d (words_of i) s) (sym (inputs_keep v.left _ no_more)) ∙ e in
          let k : length packets - v.answers ≡ suc (length packets - v.answers - 1) = omega arith in
          let j : limit - v.clocks ≡ suc (limit - v.clocks - 1) = omega arith in
          record {
            wire = w;
            ends = finished (Stopped w) (whole_is (omega arith) ∙ ap (λ r. after_clocks h.clocks r) (ap (λ i. drive d s left' i (limit - v.clocks)) k ∙ ap (λ i. drive d s left' (suc (length packets - v.answers - 1)) i) j ∙ stopped_drive d s left' (length packets - v.answers - 1) (limit - v.clocks - 1) w stops));
            is = some_inj (Wire w) net f;
          }

  pub driven_prefix : v.clocks ≤ limit → GivesFirst before answers (answers_given [] (full_drive d ifindex first packets limit).trace)
  driven_prefix within =
      let rest = (drive d s (v.left ++ flat_map (offers_of v.ifindex) (drop v.given packets)) (length packets - v.answers) (limit - v.clocks)).trace in
      record {
        some = answers_given [] h.clocks;
        rest = answers_given (begun_after [] h.clocks) rest;
        given = h.told;
        first = sym (answers_append [] h.clocks rest) ∙ ap (λ (r : Drive). answers_given [] r.trace) (sym (whole_is within));
      }

  -- packets given, or said to be at an end, with no clock
  pub driven_more : (w : Driving) → Fits w d first s (take w.given packets) h.clocks → w.given ≤ length packets → (w.ended ≡ true → w.given ≡ length packets) → w.answers ≡ v.answers → w.ifindex ≡ v.ifindex → w.limit ≡ v.limit → Driven d first s packets before answers ifindex limit w
  driven_more w fits given all same if_same lim_same = record {
    clocks = h.clocks;
    fits = fits;
    owed = h.owed;
    given = given;
    all = all;
    few = omega (arith, h.few);
    told = h.told;
    ifindex_is = if_same ∙ h.ifindex_is;
    limit_is = lim_same ∙ h.limit_is;
  }

  -- the clocks of a turn
  pub driven_turn : (w : Driving) (s' : Stored) (ms : List Cycle) (added : List Answer) → Fits w d first s' (take v.given packets) (h.clocks ++ ms) → answers_given v.begun ms ≡ added → w.ifindex ≡ v.ifindex → w.limit ≡ v.limit → w.given ≡ v.given → w.ended ≡ v.ended
      → v.answers + length added ≤ length packets → owed_in_all w ≤ length packets → Driven d first s' packets before (answers ++ added) ifindex limit w
  driven_turn w s' ms added fits gave if_same lim_same given_same end_same few owed =
      let given_all : answers_given [] (h.clocks ++ ms) ≡ answers_given [] h.clocks ++ added = answers_append [] h.clocks ms ∙ ap (λ b. answers_given [] h.clocks ++ answers_given b ms) (sym h.fits.begun) ∙ ap (λ l. answers_given [] h.clocks ++ l) gave in
      record {
        clocks = h.clocks ++ ms;
        fits = subst (λ n. Fits w d first s' (take n packets) (h.clocks ++ ms)) (sym given_same) fits;
        owed = owed_more (owed_in_all w) (length packets) (h.clocks ++ ms) owed fits.owed;
        given = omega (arith, h.given);
        all = λ e. given_same ∙ h.all (sym end_same ∙ e);
        few = omega (arith, fits.answers, ap length given_all, length-append (answers_given [] h.clocks) added, h.fits.answers);
        told = ap (λ l. l ++ added) h.told ∙ append_assoc before (answers_given [] h.clocks) added ∙ ap (λ l. before ++ l) (sym given_all);
        ifindex_is = if_same ∙ h.ifindex_is;
        limit_is = lim_same ∙ h.limit_is;
      }

  count_with : (w : Driving) (s' : Stored) (ms : List Cycle) (added : List Answer) → Fits w d first s' (take v.given packets) (h.clocks ++ ms) → answers_given v.begun ms ≡ added → w.answers ≡ v.answers + length added
  count_with w s' ms added fits gave =
      omega (arith, fits.answers, ap length (answers_append [] h.clocks ms ∙ ap (λ b. answers_given [] h.clocks ++ answers_given b ms) (sym h.fits.begun) ∙ ap (λ l. answers_given [] h.clocks ++ l) gave), length-append (answers_given [] h.clocks) added, h.fits.answers)

  owed_within : (w : Driving) (most : ℕ) → w.given ≤ most → w.answers ≤ most → (is_some w.last ≡ false → w.answers < most) → owed_in_all w ≤ most
  owed_within w most given few less = by_tests w.ended (is_some w.last) refl
    where
      by_tests : (t b : Bool) → is_some w.last ≡ b → (if t then w.given else (if b then w.answers else w.answers + 1)) ≤ most
      by_tests true b e = given
      by_tests false true e = few
      by_tests false false e = omega (arith, less e)

  -- a turn that gave no answer
  pub driven_on : (w : Driving) (s' : Stored) (ms : List Cycle) → Fits w d first s' (take v.given packets) (h.clocks ++ ms) → answers_given v.begun ms ≡ [] → w.ifindex ≡ v.ifindex → w.limit ≡ v.limit → w.given ≡ v.given → w.ended ≡ v.ended → v.answers < length packets
      → Driven d first s' packets before answers ifindex limit w
  driven_on w s' ms fits gave if_same lim_same given_same end_same less =
      let count : w.answers ≡ v.answers + 0 = count_with w s' ms [] fits gave in
      let some : v.answers + 0 ≤ length packets = omega arith in
      subst (λ l. Driven d first s' packets before l ifindex limit w) (append-nil answers)
      (driven_turn w s' ms [] fits gave if_same lim_same given_same end_same some (owed_within w (length packets) (omega (arith, h.given)) (omega (arith, count)) (λ e. omega (arith, count))))

  -- a turn that gave one
  pub driven_answer : (w : Driving) (s' : Stored) (ms : List Cycle) (answer : Answer) → Fits w d first s' (take v.given packets) (h.clocks ++ ms) → answers_given v.begun ms ≡ answer ∷ [] → w.last ≡ Some answer → w.ifindex ≡ v.ifindex → w.limit ≡ v.limit → w.given ≡ v.given → w.ended ≡ v.ended → v.answers < length packets
      → Driven d first s' packets before (answers ++ answer ∷ []) ifindex limit w
  driven_answer w s' ms answer fits gave last if_same lim_same given_same end_same less =
      let count : w.answers ≡ v.answers + 1 = count_with w s' ms (answer ∷ []) fits gave in
      let some : v.answers + 1 ≤ length packets = omega arith in
      driven_turn w s' ms (answer ∷ []) fits gave if_same lim_same given_same end_same some (owed_within w (length packets) (omega (arith, h.given)) (omega (arith, count)) (λ e. absurd (some_none (ap (λ o. is_some o) (sym last) ∙ e))))
    where
      some_none : true ≡ false → ⊥
      some_none e = cc

-- ---- the packet that comes next
pub take_next : (packets : List Timed) (i : ℕ) (p : Timed) → i < length packets → p ≡ get_or packets i p → take (i + 1) packets ≡ take i packets ++ p ∷ []
take_next [] i p lt e = absurd (omega arith)
take_next (q ∷ packets) zero p lt e = ap (λ x. x ∷ []) (sym e)
take_next (q ∷ packets) (suc i) p lt e =
    let one : suc i + 1 ≡ suc (i + 1) = omega arith in
    ap (λ n. take n (q ∷ packets)) one ∙ ap (λ l. q ∷ l) (take_next packets i p (omega arith) e)
