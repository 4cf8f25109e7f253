-- A design driven by the packets of a capture, where the shelf tells what it holds.
use Rattle.std.proofs.Common.{◌≡◌, ℕ, ◌+◌, ◌-◌, ◌<◌, ◌≤◌, true, false, Option, Some, None, Result, Ok, Err, List, [], ◌∷◌, ◌++◌, length, drop, get_or, refl, sym, ap, ◌∙◌, subst, arith, append_assoc}
use Rattle.std.specs.Prelude.{IfSome, IsErrAnd}
use Rattle.std.proofs.lemmas.List.{length-map, drop_more, get_or-map}
use Rattle.beat_core.specs.declared.frame.Timed.{Timed}
use Rattle.beat_core.specs.declared.frame.TheConstants.{FRAME_LIMIT}
use Rattle.beat_core.specs.declared.answer.Answer.{Answer}
use Rattle.net_core.specs.Nets.{Netlist}
use Rattle.net_core.specs.Clock.{Stored}
use Rattle.net_core.specs.Trace.{Cycle}
use Rattle.realization.specs.History.{answers_given, Drive}
use Rattle.pcap_core.specs.Format.{Packet}
use Rattle.pcap_core.specs.Streaming.{Opened}
use Rattle.pcap_core.specs.Time.{timed_of}
use Rattle.command_line.specs.Request.{Names}
use Rattle.port_drive.specs.declared.report.DriveError.{DriveError}
use Rattle.port_drive.specs.declared.report.DriveError.TheVariants as drive_error
use Rattle.port_drive.specs.declared.turn.Turn.TheVariants.{Need, Done}
use Rattle.port_drive.specs.Reports.{full_drive, GivesFirst}
use Rattle.port_drive.specs.Driving.{Driving, undriven, with_packet, Fits, TurnOf, Turns}
use Rattle.port_drive.proofs.DriveLaws.{Driven, driven_from, driven_done, driven_prefix}
use Rattle.port_drive.proofs.DriveTurnLaws.{on_need, on_given, on_done, on_late, on_stop}
use Rattle.port_drive.proofs.GivingLaws.{FitsWith, given_on, ended_on}
use Rattle.port_drive.proofs.OutgrownLaws.{outgrown_one}
use Rattle.capture_run.specs.States.{ShelfState, Changes}
use Rattle.capture_run.specs.Writes.{AreDone, OneFailed}
use Rattle.capture_run.specs.Captures.{Reading, StandsBefore, GivesPacket, packet_with}
use Rattle.capture_run.specs.Results.{no_packet, timed_packets, answer_writes, packet_writes}
use Rattle.capture_run.specs.Runs.{IsApart, result_names, DrivesOut, DrivenOut}
use Rattle.capture_run.specs.Driving.{GivesNext, WritesAnswer, run_error}
use Rattle.capture_run.specs.declared.records.CaptureError.{CaptureError}
use Rattle.capture_run.specs.declared.records.CaptureError.TheVariants.{Failed, TooLong, Fault}
use Rattle.capture_run.specs.declared.records.Stamp.{Stamp}
use Rattle.capture_run.specs.declared.error.RunError.{RunError}
use Rattle.capture_run.specs.declared.error.RunError.TheVariants.{Capture, Unwritten, X, Late, NoMemory}
use Rattle.capture_run.proofs.StateLaws.{changes_none}
use Rattle.capture_run.proofs.RunOverLaws.{Puts, put_writes}
use Rattle.capture_run.proofs.PacketWriteLaws.{done_still, some_done, next_done, next_failed}
use Rattle.capture_run.proofs.DrivenLaws.{turn_ends}

-- ---- the packet that comes next
pub stands_as : (opened : Opened) (held held' : Option (List ℕ)) (r : Reading) (packets : List Packet) → held ≡ held' → StandsBefore opened held r packets → StandsBefore opened held' r packets
stands_as opened held held' r packets e s = let P : Option (List ℕ) → Type 0 = λ h. StandsBefore opened h r packets in subst P e s

next_is : (packets : List Packet) (i : ℕ) → i < length packets → drop i packets ≡ get_or packets i no_packet ∷ drop (i + 1) packets
next_is packets i less = drop_more packets i no_packet less

count_timed : (magic : ℕ) (packets : List Packet) → length (timed_packets magic packets) ≡ length packets
count_timed magic packets = length-map packets (timed_of magic)

-- the reader stood before the packets that were not given, and one of them was read
pub read_next : (opened : Opened) (held : Option (List ℕ)) (packets : List Packet) (i : ℕ) (stamp : Stamp) (new : Reading) → i < length packets → GivesPacket (Ok stamp) opened held new (drop i packets)
    → (get_or packets i no_packet ≡ packet_with stamp new.feed.given) × StandsBefore opened held new (drop (i + 1) packets)
read_next opened held packets i stamp new less gives =
    let P : List Packet → Type 0 = GivesPacket (Ok stamp) opened held new in
    subst P (next_is packets i less) gives

pub read_failed : (opened : Opened) (held : Option (List ℕ)) (packets : List Packet) (i : ℕ) (e : CaptureError) (new : Reading) → i < length packets → GivesPacket (Err e) opened held new (drop i packets) → e ≡ Failed
read_failed opened held packets i e new less gives =
    let P : List Packet → Type 0 = GivesPacket (Err e) opened held new in
    subst P (next_is packets i less) gives

-- it was given
pub gives_next : (opened : Opened) (held : Option (List ℕ)) (packets : List Packet) (old new : Driving) (stamp : Stamp) (bytes : List ℕ) (r : Reading) (u : Unit {0}) → bytes ≡ r.feed.given → old.given < length packets → old.ended ≡ false → GivesPacket (Ok stamp) opened held r (drop old.given packets)
    → new ≡ with_packet old (timed_of opened.magic (packet_with stamp bytes)) → FitsWith old new (timed_of opened.magic (packet_with stamp bytes) ∷ []) → GivesNext (Ok u) opened held packets r old new
gives_next opened held packets old new stamp bytes r u read less goes gives is fits =
    let p = timed_of opened.magic (packet_with stamp bytes) in
    let n = read_next opened held packets old.given stamp r less gives in
    let at : p ≡ get_or (timed_packets opened.magic packets) old.given p =
    sym (get_or-map (timed_of opened.magic) packets old.given no_packet p less ∙ ap (λ q. timed_of opened.magic q) (n.0 ∙ ap (λ b. packet_with stamp b) (sym read))) in
    let count = count_timed opened.magic packets in
    let given : new.given ≡ old.given + 1 = ap (λ (v : Driving). v.given) is in
    (given_on (timed_packets opened.magic packets) old new p is at (omega (arith, count)) goes fits, subst (λ k. StandsBefore opened held r (drop k packets)) (sym given) n.1)

-- or none comes
pub gives_end : (opened : Opened) (held : Option (List ℕ)) (packets : List Packet) (old new : Driving) (r : Reading) (u : Unit {0}) → new ≡ record old { ended = true } → old.given ≡ length packets → old.ended ≡ false
    → ((d : Netlist) (first s : Stored) (packets : List Timed) (ms : List Cycle) → Fits old d first s packets ms → Fits new d first s packets ms) → StandsBefore opened held r (drop old.given packets) → GivesNext (Ok u) opened held packets r old new
gives_end opened held packets old new r u is all goes fits stands =
    let given : new.given ≡ old.given = ap (λ (v : Driving). v.given) is in
    (ended_on (timed_packets opened.magic packets) old new is (all ∙ sym (count_timed opened.magic packets)) goes fits, subst (λ k. StandsBefore opened held r (drop k packets)) (sym given) stands)

-- or it was not read
pub not_given : (r : Result (Unit {0}) RunError) (fault : CaptureError) (opened : Opened) (held : Option (List ℕ)) (packets : List Packet) (reader : Reading) (old new : Driving) → IsErrAnd r (λ e. e ≡ Capture fault) → fault ≡ Failed → GivesNext r opened held packets reader old new
not_given (Ok u) fault opened held packets reader old new err is = absurd err
not_given (Err e) fault opened held packets reader old new err is = err ∙ ap (λ f. Capture f) is

-- ---- the answer that has ended
-- it was written as the driver tells it
pub writes_told : (last : Option Answer) (names : Names) (opened : Opened) (held : Option (List ℕ)) (p : Packet) (rest : List Packet) (reader : Reading) (index : ℕ) (result : Result (Unit {0}) RunError) (a b c : ShelfState) (stamp : Stamp) (given : List ℕ) (verdict target : ℕ) (frame : List ℕ) (longer : Type 0)
    → IfSome last (λ r. verdict ≡ r.verdict) → IfSome last (λ r. target ≡ r.target) → IfSome last (λ r. frame ≡ r.frame) → p ≡ packet_with stamp given → StandsBefore opened held reader rest → Changes [] a b
    → Puts result (answer_writes names (packet_with stamp frame) index (record { verdict = verdict; target = target; frame = frame })) longer b c → IfSome last (λ answer. WritesAnswer result names opened held p rest reader index answer a c)
writes_told None names opened held p rest reader index result a b c stamp given verdict target frame longer v t f is stands kept puts = tt
writes_told (Some r) names opened held p rest reader index result a b c stamp given verdict target frame longer v t f is stands kept puts =
    let told : Answer = record { verdict = verdict; target = target; frame = frame } in
    let same : told ≡ r =
    ap (λ x. record { verdict = x; target = target; frame = frame }) v ∙ ap (λ x. record { verdict = r.verdict; target = x; frame = frame }) t ∙ ap (λ x. record { verdict = r.verdict; target = r.target; frame = x }) f in
    let ws : answer_writes names (packet_with stamp frame) index told ≡ answer_writes names p index r =
    ap (λ (x : Answer). answer_writes names (packet_with stamp frame) index x) same ∙ ap (λ q. answer_writes names q index r) (sym is) in
    put_writes names p index r longer a b c kept result opened held rest reader stands (subst (λ l. Puts result l longer b c) ws puts)

-- its time was not read
pub unread_told : (r : Result (Unit {0}) RunError) (last : Option Answer) (names : Names) (opened : Opened) (held : Option (List ℕ)) (p : Packet) (rest : List Packet) (reader : Reading) (index : ℕ) (fault : CaptureError) (a b : ShelfState) → IsErrAnd r (λ e. e ≡ Capture fault) → fault ≡ Failed → Changes [] a b
    → IfSome last (λ answer. WritesAnswer r names opened held p rest reader index answer a b)
unread_told r None names opened held p rest reader index fault a b err is kept = tt
unread_told (Ok u) (Some answer) names opened held p rest reader index fault a b err is kept = absurd err
unread_told (Err e) (Some answer) names opened held p rest reader index fault a b err is kept =
    let P : RunError → Type 0 = λ x. WritesAnswer (Err x) names opened held p rest reader index answer a b in
    subst P (sym (err ∙ ap (λ f. Capture f) is)) kept

-- ---- calls between which the capture's name holds the same
pub held_same : (names : Names) (a b : ShelfState) → IsApart names → Changes (result_names names) a b → b.held names.capture ≡ a.held names.capture
held_same names a b apart kept = kept.others names.capture (apart.capture_answer, (apart.capture_verdicts, tt))

pub next_given : (result : Result (Unit {0}) RunError) (opened : Opened) (held held' : Option (List ℕ)) (packets : List Packet) (ahead ahead' : Reading) (i : ℕ) (w u : Driving) → held ≡ held' → w.given ≡ i → StandsBefore opened held' ahead (drop i packets)
    → (StandsBefore opened held ahead (drop w.given packets) → GivesNext result opened held packets ahead' w u) → GivesNext result opened held' packets ahead' w u
next_given result opened held held' packets ahead ahead' i w u same at stands call =
    let P : Option (List ℕ) → Type 0 = λ h. GivesNext result opened h packets ahead' w u in
    let there : StandsBefore opened held' ahead (drop w.given packets) = subst (λ k. StandsBefore opened held' ahead (drop k packets)) (sym at) stands in
    subst P same (call (stands_as opened held' held ahead (drop w.given packets) (sym same) there))

pub next_written : (result : Result (Unit {0}) RunError) (names : Names) (opened : Opened) (held held' : Option (List ℕ)) (p : Packet) (rest : List Packet) (behind behind' : Reading) (index : ℕ) (last : Option Answer) (answer : Answer) (a b : ShelfState) → held ≡ held' → last ≡ Some answer → StandsBefore opened held' behind (p ∷ rest)
    → (StandsBefore opened held behind (p ∷ rest) → IfSome last (λ r. WritesAnswer result names opened held p rest behind' index r a b)) → WritesAnswer result names opened held' p rest behind' index answer a b
next_written result names opened held held' p rest behind behind' index last answer a b same is stands call =
    let P : Option (List ℕ) → Type 0 = λ h. WritesAnswer result names opened h p rest behind' index answer a b in
    let Q : Option Answer → Type 0 = λ o. IfSome o (λ r. WritesAnswer result names opened held p rest behind' index r a b) in
    subst P same (subst Q is (call (stands_as opened held' held behind (p ∷ rest) (sym same) stands)))

-- ---- what holds between two turns
-- the full drive of these packets so far; the readers stand before the packets that were not given and those that were not answered, and the answers so far were written
pub record DrivenByTold (names : Names) (d : Netlist) (first s : Stored) (ifindex limit : ℕ) (opened : Opened) (held : Option (List ℕ)) (packets : List Packet) (ahead behind : Reading) (v : Driving) (old now : ShelfState) : Type 0 where
  pub answers : List Answer
  pub driven : Driven d first s (timed_packets opened.magic packets) [] answers ifindex limit v
  pub ahead_stands : StandsBefore opened held ahead (drop v.given packets)
  pub behind_stands : StandsBefore opened held behind (drop v.answers packets)
  pub done : AreDone (packet_writes names packets answers (length answers)) old now

pub told_at_first : (names : Names) (d : Netlist) (s : Stored) (ifindex limit : ℕ) (opened : Opened) (held : Option (List ℕ)) (packets : List Packet) (ahead behind : Reading) (v : Driving) (now : ShelfState) → v ≡ undriven ifindex limit → StandsBefore opened held ahead packets → StandsBefore opened held behind packets
    → DrivenByTold names d s s ifindex limit opened held packets ahead behind v now now
told_at_first names d s ifindex limit opened held packets ahead behind v now e before after =
    let given : v.given ≡ 0 = ap (λ (w : Driving). w.given) e in
    let answers : v.answers ≡ 0 = ap (λ (w : Driving). w.answers) e in
    record {
      answers = [];
      driven = driven_from d s (timed_packets opened.magic packets) [] ifindex limit v e;
      ahead_stands = subst (λ k. StandsBefore opened held ahead (drop k packets)) (sym given) before;
      behind_stands = subst (λ k. StandsBefore opened held behind (drop k packets)) (sym answers) after;
      done = changes_none now;
    }

module _ (names : Names) (d : Netlist) (first s : Stored) (ifindex limit : ℕ) (opened : Opened) (held : Option (List ℕ)) (packets : List Packet) (ahead behind : Reading) (v : Driving) (old now : ShelfState) (h : DrivenByTold names d first s ifindex limit opened held packets ahead behind v old now) where
  abbrev timed : List Timed
  timed = timed_packets opened.magic packets

  abbrev whole : Drive
  whole = full_drive d ifindex first timed limit

  abbrev all : List Answer
  all = answers_given [] whole.trace

  count : length timed ≡ length packets
  count = count_timed opened.magic packets

  answers_count : length h.answers ≡ v.answers
  answers_count = ap (λ (l : List Answer). length l) h.driven.told ∙ sym h.driven.fits.answers

  all_done : (some : List Answer) (now : ShelfState) → some ≡ all → AreDone (packet_writes names packets some (length some)) old now → AreDone (packet_writes names packets all (length all)) old now
  all_done some now e done = let P : List Answer → Type 0 = λ l. AreDone (packet_writes names packets l (length l)) old now in subst P e done

  -- ---- the end
  pub told_done : v.clocks ≤ v.limit → v.answers ≡ length packets → (u : Unit {0}) → DrivesOut names d ifindex limit opened.magic packets first s (Ok u) old now
  told_done within done u =
      let f = driven_done d first s timed [] h.answers ifindex limit v h.driven (omega (arith, h.driven.limit_is)) (done ∙ sym count) in
      record { ends = f.ended; leaves = f.stored; out = all_done h.answers now f.given h.done }

  module _ (s' : Stored) (w : Driving) (less : v.answers < length packets) (within : w.clocks ≤ w.limit) (same : (w.ifindex ≡ v.ifindex) × (w.limit ≡ v.limit) × (w.given ≡ v.given) × (w.ended ≡ v.ended)) where
    fewer : v.answers < length timed
    fewer = omega (arith, count)

    -- ---- a packet is needed
    module _ (t : TurnOf v w d s s' (Ok Need)) (ahead' : Reading) (u : Driving) (later : ShelfState) (kept : Changes [] now later) where
      needed : Driven d first s' timed [] h.answers ifindex limit w × (w.answers ≡ v.answers)
      needed = on_need d first s s' timed [] h.answers ifindex limit v w h.driven fewer same t

      pub told_given : (x : Unit {0}) → GivesNext (Ok x) opened held packets ahead' w u → DrivenByTold names d first s' ifindex limit opened held packets ahead' behind u old later
      told_given x g =
          let answers : u.answers ≡ v.answers = g.0.answers ∙ needed.1 in
          record {
            answers = h.answers;
            driven = on_given d first s s' timed [] h.answers ifindex limit v w h.driven fewer same u needed.0 g.0;
            ahead_stands = g.1;
            behind_stands = subst (λ k. StandsBefore opened held behind (drop k packets)) (sym answers) h.behind_stands;
            done = done_still (packet_writes names packets h.answers (length h.answers)) old now later h.done kept;
          }

      pub told_not_given : (e : RunError) (last : Stored) → GivesNext (Err e) opened held packets ahead' w u → DrivesOut names d ifindex limit opened.magic packets first last (Err e) old later
      told_not_given e last g = subst (λ x. DrivesOut names d ifindex limit opened.magic packets first last (Err x) old later) (sym g) (record {
        ends = tt;
        leaves = tt;
        out = some_done names packets h.answers all old later (driven_prefix d first s' timed [] h.answers ifindex limit w needed.0 (omega (arith, needed.0.limit_is))) (done_still (packet_writes names packets h.answers (length h.answers)) old now later h.done kept);
      })

    -- ---- an answer has come
    module _ (t : TurnOf v w d s s' (Ok Done)) (behind' : Reading) (later : ShelfState) where
      abbrev next : List Answer
      next = h.answers ++ t.ends.0 ∷ []

      answered : Driven d first s' timed [] next ifindex limit w × (w.answers ≡ v.answers + 1)
      answered = on_done d first s s' timed [] h.answers ifindex limit v w h.driven fewer same next (Some t.ends.0) (sym t.ends.1) refl t

      prefix : GivesFirst [] next all
      prefix = driven_prefix d first s' timed [] next ifindex limit w answered.0 (omega (arith, answered.0.limit_is))

      -- the answers before it are those so far
      before : GivesFirst [] h.answers all
      before = driven_before prefix
        where
          driven_before : GivesFirst [] next all → GivesFirst [] h.answers all
          driven_before g = record { some = h.answers; rest = t.ends.0 ∷ g.rest; given = refl; first = sym (append_assoc h.answers (t.ends.0 ∷ []) g.rest) ∙ ap (λ l. l ++ g.rest) g.given ∙ g.first }

      abbrev p : Packet
      p = get_or packets v.answers no_packet

      -- the reader stands before the packet that it answers
      pub told_stands : StandsBefore opened held behind (p ∷ drop (v.answers + 1) packets)
      told_stands = subst (λ l. StandsBefore opened held behind l) (next_is packets v.answers less) h.behind_stands

      index : w.answers - 1 ≡ length h.answers
      index = omega (arith, answered.1, answers_count)

      at : get_or packets (length h.answers) no_packet ≡ p
      at = ap (λ k. get_or packets k no_packet) answers_count

      pub told_answered : (x : Unit {0}) → WritesAnswer (Ok x) names opened held p (drop (v.answers + 1) packets) behind' (w.answers - 1) t.ends.0 now later → DrivenByTold names d first s' ifindex limit opened held packets ahead behind' w old later
      told_answered x g =
          let W : ℕ → Type 0 = λ k. AreDone (answer_writes names p k t.ends.0) now later in
          record {
            answers = next;
            driven = answered.0;
            ahead_stands = subst (λ k. StandsBefore opened held ahead (drop k packets)) (sym same.2) h.ahead_stands;
            behind_stands = subst (λ k. StandsBefore opened held behind' (drop k packets)) (sym answered.1) g.1;
            done = next_done names packets h.answers t.ends.0 p old now later at h.done (subst W index g.0);
          }

      -- it was not written
      pub told_unwritten : (e : RunError) (last : Stored) → (e ≡ NoMemory → FRAME_LIMIT < length t.ends.0.frame) → WritesAnswer (Err e) names opened held p (drop (v.answers + 1) packets) behind' (w.answers - 1) t.ends.0 now later → DrivesOut names d ifindex limit opened.magic packets first last (Err e) old later
      told_unwritten Unwritten last longer g =
          let W : ℕ → Type 0 = λ k. OneFailed (answer_writes names p k t.ends.0) now later in
          record { ends = tt; leaves = tt; out = next_failed names packets h.answers all t.ends.0 p old now later at prefix h.done (subst W index g) }
      told_unwritten (Capture Failed) last longer g = record {
        ends = tt;
        leaves = tt;
        out = some_done names packets h.answers all old later before (done_still (packet_writes names packets h.answers (length h.answers)) old now later h.done g);
      }
      told_unwritten NoMemory last longer g =
          let o = outgrown_one h.answers all t.ends.0 prefix (longer refl) in
          record {
            ends = λ answered. (o.answer, o.one, o.longer);
            leaves = tt;
            out = some_done names packets h.answers all old later before (done_still (packet_writes names packets h.answers (length h.answers)) old now later h.done g);
          }
      told_unwritten (Capture TooLong) last longer g = absurd g
      told_unwritten (Capture (Fault f)) last longer g = absurd g
      told_unwritten (X x) last longer g = absurd g
      told_unwritten (Late answers frames) last longer g = absurd g

  -- ---- an error of the drive
  module _ (s' : Stored) (w : Driving) (less : v.answers < length packets) (within : v.clocks ≤ v.limit) (same : (w.ifindex ≡ v.ifindex) × (w.limit ≡ v.limit) × (w.given ≡ v.given) × (w.ended ≡ v.ended)) where
    late : v.answers < length timed
    late = omega (arith, count)

    stopped_out : (e : DriveError) → Turns v w d s s' (Err e) → DrivenOut (Err (run_error e (length packets))) (packet_writes names packets all (length all)) old now
    stopped_out (drive_error.X x) t = all_done h.answers now (on_stop d first s s' timed [] h.answers ifindex limit v w h.driven late same x t).told h.done
    stopped_out (drive_error.Late some given clocks) t = all_done h.answers now (on_late d first s s' timed [] h.answers ifindex limit v w h.driven late same some given clocks t).told h.done
    stopped_out drive_error.NoMemory t = some_done names packets h.answers all old now (driven_prefix d first s timed [] h.answers ifindex limit v h.driven (omega (arith, h.driven.limit_is))) h.done

    pub told_stopped : (e : DriveError) → Turns v w d s s' (Err e) → DrivesOut names d ifindex limit opened.magic packets first s' (Err (run_error e (length packets))) old now
    told_stopped e t = record { ends = turn_ends d first s s' timed h.answers ifindex limit (length packets) v w h.driven count less same e t; leaves = tt; out = stopped_out e t }
