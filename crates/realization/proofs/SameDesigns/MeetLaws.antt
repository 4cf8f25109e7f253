-- A design that shows the same as another one meets what that one meets.
use Rattle.std.specs.Prelude.{◌≡◌, ℕ, ◌+◌, ◌-◌, ◌*◌, ◌≤◌, List, [], ◌++◌, length}
use Rattle.std.proofs.Common.{sym, ap, ◌∙◌, subst}
use Rattle.beat_core.specs.declared.answer.Answer.{Answer}
use Rattle.beat_core.specs.Clocks.{AreOffers}
use Rattle.beat_core.specs.Ports.{Offered}
use Rattle.xdp_machine.specs.xdp_maps.State.{MapState}
use Rattle.net_core.specs.declared.ports.Inputs.{Inputs}
use Rattle.net_core.specs.Nets.{Netlist}
use Rattle.net_core.specs.Clock.{Stored}
use Rattle.net_core.specs.Trace.{Cycle, stored_after, trace}
use Rattle.realization.specs.History.{Arrival, Drive, drive, answers_given, beats_in, reload_clocks}
use Rattle.realization.specs.Bounds.{beats_before, line_clocks, wait_clocks, all_writing}
use Rattle.realization.specs.HostHistory.Host.{ShowsMaps, dump}
use Rattle.net_core.specs.SameClocks.Same.{reached, ShowTheSame}
use Rattle.net_core.proofs.SameClocks.SameLaws.{never_from}
use Rattle.realization.specs.Realizes.{IsPattern, IsPrefix, IsWhole, IsAmid, inputs_in, frames_in, all_offers, drive_on}
use Rattle.realization.specs.SameDesigns.Laws.{SameDesignsShowMaps, SameDesignsMeet}
use Rattle.realization.proofs.SameDesigns.HistoryLaws.{same_designs_go_on, behind}
use Rattle.realization.proofs.SameDesigns.DriveLaws.{NeverStopped, answers_never_stop, same_drive}

pub same_designs_show_maps : SameDesignsShowMaps
same_designs_show_maps a b same before maps w = record {
  never = never_from a b same before (dump maps.decls) w.never;
  shown = rw (same_designs_go_on a b same before (dump maps.decls)) w.shown;
}

module _ (a b : Netlist) (same : ShowTheSame a b) (before : List Inputs) where
  same_trace : (is : List Inputs) → trace b (reached b before) is ≡ trace a (reached a before) is
  same_trace is = same_designs_go_on a b same before is

  same_pattern : (is : List Inputs) → IsPattern b (reached b before) is → IsPattern a (reached a before) is
  same_pattern is p = record { inputs = p.inputs; silent = p.silent; offers = subst (λ (ms : List Cycle). AreOffers 0 (beats_in ms)) (same_trace is) p.offers }

  -- after more clocks, and more
  same_maps : (is js : List Inputs) (maps : MapState) → ShowsMaps a (stored_after a (stored_after a (reached a before) is) js) maps → ShowsMaps b (stored_after b (stored_after b (reached b before) is) js) maps
  same_maps is js maps w =
      rw (behind b before is, behind b (before ++ is) js)
      (same_designs_show_maps a b same ((before ++ is) ++ js) maps (rw (behind a before is, behind a (before ++ is) js) at w))

  own_drive : (is : List Inputs) (left : List Offered) (owed limit : ℕ) → NeverStopped (drive a (stored_after a (reached a before) is) left owed limit)
      → drive b (stored_after b (reached b before) is) left owed limit ≡ drive a (stored_after a (reached a before) is) left owed limit
  own_drive is left owed limit going =
      rw (behind b before is, behind a before is) (same_drive a b same (before ++ is) left owed limit (rw (behind a before is) at going))

  same_amid : (is : List Inputs) (packets : List Arrival) (left : List Offered) → IsAmid b (reached b before) is packets left → IsAmid a (reached a before) is packets left
  same_amid is packets left h = record {
    pattern = same_pattern is h.pattern;
    are = h.are;
    beside = h.beside;
    beats = rw (same_trace is) at h.beats;
    frames = rw (same_trace is) at h.frames;
  }

  -- the drive of what is left
  driven_on : (is : List Inputs) (packets : List Arrival) (left : List Offered) (limit : ℕ) → NeverStopped (drive_on a (reached a before) is packets left limit)
      → drive_on b (reached b before) is packets left limit ≡ drive_on a (reached a before) is packets left limit
  driven_on is packets left limit going =
      ap (λ (ms : List Cycle). drive b (stored_after b (reached b before) is) left (length packets - length (answers_given [] ms)) limit) (same_trace is)
      ∙ own_drive is left (length packets - length (answers_given [] (trace a (reached a before) is))) limit going

  module _ (wanted : List Arrival → List Answer → MapState → Type 0) where
    same_prefix : (is : List Inputs) → IsPrefix a (reached a before) is wanted → IsPrefix b (reached b before) is wanted
    same_prefix is p = record {
      never = never_from a b same before is p.never;
      later = p.later;
      maps = p.maps;
      prefix = rw (same_trace is) p.prefix;
      next = rw (same_trace is) p.next;
    }

    same_whole : (is : List Inputs) (r : Drive) (packets : List Arrival) → IsWhole a (reached a before) is r packets wanted → IsWhole b (reached b before) is r packets wanted
    same_whole is r packets w = record {
      ended = w.ended;
      maps = w.maps;
      all = rw (same_trace is) w.all;
      shown = same_maps is (inputs_in r.trace) w.maps w.shown;
    }

    -- after a drive of its own, that begins after these clocks
    same_driven : (is : List Inputs) (left : List Offered) (owed limit : ℕ) (packets : List Arrival)
        → IsWhole a (reached a before) is (drive a (stored_after a (reached a before) is) left owed limit) packets wanted
        → IsWhole b (reached b before) is (drive b (stored_after b (reached b before) is) left owed limit) packets wanted
    same_driven is left owed limit packets w =
        let r : Drive = drive a (stored_after a (reached a before) is) left owed limit in
        let own = own_drive is left owed limit (answers_never_stop r w.ended) in
        subst (λ (q : Drive). IsWhole b (reached b before) is q packets wanted) (sym own) (same_whole is r packets w)

pub same_designs_meet : SameDesignsMeet
same_designs_meet a b same before wanted touch apart stages records m = record {
  safe = λ is pattern. same_prefix a b same before wanted is (m.safe is (same_pattern a b same before is pattern));
  complete = λ packets limit are enough. same_driven a b same before wanted [] (all_offers packets) (length packets) limit packets (m.complete packets limit are enough);
  complete_apart = λ packets limit ts are close enough.
      same_driven a b same before wanted [] (all_offers packets) (length packets) limit packets (m.complete_apart packets limit ts are close enough);
  at_line_rate = record {
    last = m.at_line_rate.last;
    within = m.at_line_rate.within;
    commit = m.at_line_rate.commit;
    before = m.at_line_rate.before;
    goes_on = λ is packets left limit w amid stopped.
        let going = m.at_line_rate.goes_on is packets left limit in
        let mine = same_amid a b same before is packets left amid in
        going w mine (ap (λ (r : Drive). r.ended) (sym (driven_on a b same before is packets left limit (λ v. going v mine))) ∙ stopped);
    drives = λ is packets left limit late ts amid touched follow enough.
        let mine = same_amid a b same before is packets left amid in
        let own = driven_on a b same before is packets left limit (λ v. m.at_line_rate.goes_on is packets left limit v mine) in
        let clocks = subst (λ (r : Drive). line_clocks m.at_line_rate.last (frames_in packets) late + all_writing ts + reload_clocks r.trace * (m.at_line_rate.commit + 2) ≤ limit) own enough in
        subst (λ (r : Drive). IsWhole b (reached b before) is r packets wanted) (sym own)
        (same_whole a b same before wanted is (drive_on a (reached a before) is packets left limit) packets (m.at_line_rate.drives is packets left limit late ts mine touched follow clocks));
    waits = λ is packets left limit late k ts amid touched follow few enough.
        let mine = same_amid a b same before is packets left amid in
        let e = same_trace a b same before is in
        let own = driven_on a b same before is packets left limit (λ v. m.at_line_rate.goes_on is packets left limit v mine) in
        let clocks = subst (λ (r : Drive). wait_clocks m.at_line_rate.last (frames_in packets) late k + all_writing ts + reload_clocks r.trace * (m.at_line_rate.commit + 2) ≤ limit + beats_before (length (answers_given [] (trace a (reached a before) is))) (frames_in packets)) own
        (subst (λ (ms : List Cycle). wait_clocks m.at_line_rate.last (frames_in packets) late k + all_writing ts + reload_clocks (drive_on b (reached b before) is packets left limit).trace * (m.at_line_rate.commit + 2) ≤ limit + beats_before (length (answers_given [] ms)) (frames_in packets)) e enough) in
        subst (λ (ms : List Cycle). k ≤ length (answers_given [] (ms ++ (drive_on b (reached b before) is packets left limit).trace))) (sym e)
        (subst (λ (r : Drive). k ≤ length (answers_given [] (trace a (reached a before) is ++ r.trace))) (sym own) (m.at_line_rate.waits is packets left limit late k ts mine touched follow few clocks));
    follow = λ packets limit late ts are close follow enough.
        same_driven a b same before wanted [] (all_offers packets) (length packets) limit packets (m.at_line_rate.follow packets limit late ts are close follow enough);
    equal = λ packets limit beats ts are close alike enough.
        same_driven a b same before wanted [] (all_offers packets) (length packets) limit packets (m.at_line_rate.equal packets limit beats ts are close alike enough);
  };
  late = λ is packets left limit pattern are beside beats frames enough. let e : trace b (reached b before) is ≡ trace a (reached a before) is = same_trace a b same before is in
      rw e
      (same_driven a b same before wanted is left (length packets - length (answers_given [] (trace a (reached a before) is))) limit packets
      (m.late is packets left limit (same_pattern a b same before is pattern) are beside (rw e at beats) (rw e at frames) enough));
}
