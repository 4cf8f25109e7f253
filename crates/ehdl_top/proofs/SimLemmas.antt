-- What the command `sim` writes, and how it ends, by what its steps did.
use Rattle.std.proofs.Common.{◌≡◌, ℕ, List, [], ◌++◌, length, Option, Some, None, Result, Ok, Err, IsErrAnd, refl, sym, ◌∙◌, ap, subst, inl, inr, flat_map}
use Rattle.std.proofs.lemmas.List.{length-map}
use Rattle.shelf_core.specs.Shelf.{Counts, Rose}
use Rattle.beat_core.specs.declared.answer.Answer.{Answer}
use Rattle.beat_core.specs.declared.frame.Timed.{Timed}
use Rattle.beat_core.specs.Ports.{offers_of}
use Rattle.pcap_core.specs.Format.{Packet}
use Rattle.pcap_core.specs.Time.{timed_of}
use Rattle.net_core.specs.declared.tree.Net.{Net}
use Rattle.net_core.specs.declared.tree.Net.TheVariants.{Wire}
use Rattle.net_core.specs.declared.ports.Inputs.{Inputs}
use Rattle.net_core.specs.Nets.{Netlist}
use Rattle.net_core.specs.Names.{name_of}
use Rattle.net_core.specs.Clock.{Stored, first_stored}
use Rattle.clock_sim.specs.declared.sim.XValue.{XValue}
use Rattle.clock_sim.specs.Running.{IsNamed}
use Rattle.xdp_maps.specs.declared.decl.MapDecl.{MapDecl}
use Rattle.xdp_maps.specs.State.{MapState}
use Rattle.maps_text.specs.Writing.{text_of}
use Rattle.port_drive.specs.realization.History.{answers_given, Drive, Ended, Stopped, OutOfClocks}
use Rattle.port_drive.specs.realization.HostHistory.Host.{load}
use Rattle.port_drive.specs.Reports.{full_drive}
use Rattle.verilog_read.specs.design_rules.Formed.{IsWellFormed}
use Rattle.command_line.specs.Request.{Names}
use Rattle.capture_run.specs.States.{ShelfState, Changes, OneRose}
use Rattle.capture_run.specs.Writes.{Write, AreDone, OneFailed, file_writes}
use Rattle.capture_run.specs.Results.{timed_packets, head_writes, packet_writes, streamed_writes, final_writes}
use Rattle.capture_run.specs.Runs.{SomeDone, EndsFor, IsRunOver, result_names, DrivesSome, DrivesOut}
use Rattle.capture_run.specs.declared.records.CaptureError.{CaptureError}
use Rattle.capture_run.specs.declared.records.CaptureError.TheVariants as capture
use Rattle.capture_run.specs.declared.error.RunError.{RunError}
use Rattle.capture_run.specs.declared.error.RunError.TheVariants as runs
use Rattle.capture_run.proofs.StateLaws.{changes_none, changes_then, changes_within}
use Rattle.capture_run.proofs.PacketWriteLaws.{done_still}
use Rattle.capture_run.proofs.WriteLaws.{AreOf, done_from, failed_from, failed_before, failed_after, done_both, done_changes, failed_changes, failed_rose}
use Rattle.ehdl_top.specs.declared.status.Status.{Status}
use Rattle.ehdl_top.specs.declared.status.Status.TheVariants as status
use Rattle.ehdl_top.specs.declared.error.CommandError.{CommandError}
use Rattle.ehdl_top.specs.declared.error.CommandError.TheVariants as error
use Rattle.ehdl_top.specs.Status.{status_of}
use Rattle.ehdl_top.specs.Simulation.{x_value, drive_error, dumped, driven, simulation, final_text, given_up}
use Rattle.ehdl_top.specs.Steps.{capture_error, StopsAs, StopsWith, AreDistinct, IsGivenUpDrive, LeavesAny, GoesOut, EndsOver, IsOver, StreamsSim, FinishesSim, WritesSim, written_names}
use Rattle.ehdl_top.proofs.DriveLemmas.{drive_stopped, wire_named}
use Rattle.ehdl_top.proofs.SimulationLemmas.{end_by, StopsFor, StopsDump, dump_error, load_given_up}
use Rattle.ehdl_top.proofs.StreamLemmas.{all_done, head_of, none_done, over_then, some_after, some_before}

-- ---- the error that is passed on
pub by_err : (r : Result (Unit {0}) CommandError) (P : Result (Unit {0}) CommandError → Type 0) (x : CommandError) → IsErrAnd r (λ e. e ≡ x) → ((e : CommandError) → e ≡ x → P (Err e)) → P r
by_err (Ok u) P x is for = absurd is
by_err (Err e) P x is for = for e is

-- ---- some of the writes
-- no write after them
done_last : (ws : List Write) (a b c : ShelfState) → AreDone ws a b → Changes [] b c → AreDone (ws ++ []) a c
done_last ws a b c done same = done_both ws [] a b c done same

-- ---- a command that is over
-- memory ran out before anything was written
pub over_out : (Itself : Status → Type 0) (name : List ℕ) (outputs : List (List ℕ)) (e : CommandError) (a b : ShelfState) → e ≡ error.NoMemory → Changes [] a b → IsOver Itself name outputs (Err e) a b
over_out Itself name outputs e a b is same = record { kept = changes_within outputs a b same; cause = inr (inr (inl is)) }

-- the capture is not read on
read_cause : (Itself : Status → Type 0) (name : List ℕ) (outputs : List (List ℕ)) (c : CaptureError) (e : CommandError) (a b : ShelfState) → e ≡ capture_error c → (c ≡ capture.Failed → Rose (a.read_faults name) (b.read_faults name)) → EndsOver Itself name outputs a b e
read_cause Itself name outputs capture.Failed e a b is rose = inl (is, rose refl)
read_cause Itself name outputs capture.TooLong e a b is rose = inr (inr (inr (inl (ap (λ f. status_of f) is))))
read_cause Itself name outputs (capture.Fault fault) e a b is rose = inr (inr (inr (inl (ap (λ f. status_of f) is))))

pub over_unread : (Itself : Status → Type 0) (name : List ℕ) (outputs : List (List ℕ)) (c : CaptureError) (e : CommandError) (a b : ShelfState) → e ≡ capture_error c → (c ≡ capture.Failed → Rose (a.read_faults name) (b.read_faults name)) → Changes [] a b
    → IsOver Itself name outputs (Err e) a b
over_unread Itself name outputs c e a b is rose same = record { kept = changes_within outputs a b same; cause = read_cause Itself name outputs c e a b is rose }

-- a write failed
pub over_unwritten : (Itself : Status → Type 0) (name : List ℕ) (outputs : List (List ℕ)) (ws : List Write) (e : CommandError) (a b : ShelfState) → e ≡ error.WriteFault → AreOf outputs ws → OneFailed ws a b → IsOver Itself name outputs (Err e) a b
over_unwritten Itself name outputs ws e a b is of failed = record { kept = failed_changes outputs ws a b of failed; cause = inr (inl (is, failed_rose outputs ws a b of failed)) }

-- ---- names
head_within : (names : Names) (magic : ℕ) → AreOf (written_names names) (head_writes names magic)
head_within names magic = (inl refl, (inl refl, (inr (inl refl), tt)))

finals_within : (names : Names) (text : List ℕ) → AreOf (written_names names) (file_writes names.final_maps text)
finals_within names text = (inr (inr (inl refl)), (inr (inr (inl refl)), tt))

-- (with the magic number that a call gave)
pub head_as : (names : Names) (m n : ℕ) (a b : ShelfState) → m ≡ n → AreDone (head_writes names m) a b → AreDone (head_writes names n) a b
head_as names m n a b is done = subst (λ (k : ℕ). AreDone (head_writes names k) a b) is done

pub head_failed : (names : Names) (m n : ℕ) (a b : ShelfState) → m ≡ n → OneFailed (head_writes names m) a b → OneFailed (head_writes names n) a b
head_failed names m n a b is failed = subst (λ (k : ℕ). OneFailed (head_writes names k) a b) is failed

-- names that are written are among more of them
changes_wider : (names : Names) (a b : ShelfState) → Changes (result_names names) a b → Changes (written_names names) a b
changes_wider names a b c = record { later = c.later; others = λ other apart. c.others other (apart.0, (apart.1.0, tt)) }

rose_wider : (names : Names) (old new : Counts) → OneRose (result_names names) old new → OneRose (written_names names) old new
rose_wider names old new (inl rose) = inl rose
rose_wider names old new (inr (inl rose)) = inr (inl rose)
rose_wider names old new (inr (inr none)) = absurd none

cause_wider : (Itself : Status → Type 0) (name : List ℕ) (names : Names) (e : CommandError) (a b : ShelfState) → EndsOver Itself name (result_names names) a b e → EndsOver Itself name (written_names names) a b e
cause_wider Itself name names e a b (inl read) = inl read
cause_wider Itself name names e a b (inr (inl write)) = inr (inl (write.0, rose_wider names a.write_faults b.write_faults write.1))
cause_wider Itself name names e a b (inr (inr other)) = inr (inr other)

pub over_wider : (Itself : Status → Type 0) (name : List ℕ) (names : Names) (r : Result (Unit {0}) CommandError) (a b : ShelfState) → IsOver Itself name (result_names names) r a b → IsOver Itself name (written_names names) r a b
over_wider Itself name names (Ok u) a b over = record { kept = changes_wider names a b over.kept; cause = tt }
over_wider Itself name names (Err e) a b over = record { kept = changes_wider names a b over.kept; cause = cause_wider Itself name names e a b over.cause }

-- ---- the capture while answers are begun
same_capture : (names : Names) (a b : ShelfState) → AreDistinct names → Changes (result_names names) a b → b.held names.capture ≡ a.held names.capture
same_capture names a b apart c = c.others names.capture (apart.capture_answer, (apart.capture_verdicts, tt))

-- the answers are begun, their header written, and the verdicts are begun
pub begun_changes : (names : Names) (magic : ℕ) (a b : ShelfState) → AreDone (head_writes names magic) a b → Changes (result_names names) a b
begun_changes names magic a b done = done_changes (result_names names) (head_writes names magic) a b (head_of names magic) done

pub over_begun : (names : Names) (magic : ℕ) (e : CommandError) (a b c : ShelfState) → e ≡ error.WriteFault → Changes [] a b → OneFailed (head_writes names magic) b c → IsOver IsGivenUpDrive names.capture (result_names names) (Err e) a c
over_begun names magic e a b c is same failed =
    over_then IsGivenUpDrive names.capture (result_names names) (Err e) a b c (changes_within (result_names names) a b same) (over_unwritten IsGivenUpDrive names.capture (result_names names) (head_writes names magic) e b c is (head_of names magic) failed)

-- ---- what a run over a capture is given up for
pub stops_as : (design p : Netlist) (ifindex limit count : ℕ) (first last : Stored) (r : RunError) → IsWellFormed design → p ≡ design → DrivesSome design ifindex limit count first last (Err r) → StopsAs p r
stops_as design p ifindex limit count first last (runs.X x) formed same drives =
    let P : Netlist → Type 0 = λ q. IsNamed q x.net in
    let Q : Net → Type 0 = IsNamed design in
    let within = drive_stopped design first (flat_map (offers_of ifindex) drives.packets) (length drives.packets) limit drives.ends.0 drives.ends.1 in
    subst P (sym same) (subst Q (sym drives.ends.2) (wire_named design formed drives.ends.0 within))
stops_as design p ifindex limit count first last r formed same drives = tt

run_cause : (name : List ℕ) (outputs : List (List ℕ)) (p : Netlist) (r : RunError) (e : CommandError) (a b : ShelfState) → EndsFor name outputs r a b → StopsWith p r e → EndsOver IsGivenUpDrive name outputs a b e
run_cause name outputs p (runs.Capture capture.Failed) e a b cause is = inl (is, cause)
run_cause name outputs p (runs.Capture capture.TooLong) e a b cause is = inr (inr (inr (inl (ap (λ f. status_of f) is))))
run_cause name outputs p (runs.Capture (capture.Fault fault)) e a b cause is = inr (inr (inr (inl (ap (λ f. status_of f) is))))
run_cause name outputs p runs.Unwritten e a b cause is = inr (inl (is, cause))
run_cause name outputs p (runs.X x) e a b cause (inl is) = inr (inr (inr (inr (inl (ap (λ f. status_of f) is)))))
run_cause name outputs p (runs.X x) e a b cause (inr is) = inr (inr (inl is))
run_cause name outputs p (runs.Late answers frames) e a b cause is = inr (inr (inr (inr (inr (ap (λ f. status_of f) is)))))
run_cause name outputs p runs.NoMemory e a b cause is = inr (inr (inl is))

pub over_stopped : (names : Names) (magic : ℕ) (p : Netlist) (r : RunError) (e : CommandError) (a b c d : ShelfState) → Changes [] a b → AreDone (head_writes names magic) b c → IsRunOver names.capture (result_names names) (Err r) c d → StopsWith p r e
    → IsOver IsGivenUpDrive names.capture (result_names names) (Err e) a d
over_stopped names magic p r e a b c d same begun over is =
    over_then IsGivenUpDrive names.capture (result_names names) (Err e) a c d (changes_then (result_names names) a b c (changes_within (result_names names) a b same) (begun_changes names magic b c begun))
    (record { kept = over.kept; cause = run_cause names.capture (result_names names) p r e c d over.cause is })

pub over_streamed : (names : Names) (magic : ℕ) (a b c d : ShelfState) → Changes [] a b → AreDone (head_writes names magic) b c → IsRunOver names.capture (result_names names) (Ok tt) c d → IsOver IsGivenUpDrive names.capture (result_names names) (Ok tt) a d
over_streamed names magic a b c d same begun over = record {
  kept = changes_then (result_names names) a c d (changes_then (result_names names) a b c (changes_within (result_names names) a b same) (begun_changes names magic b c begun)) over.kept;
  cause = tt;
}

-- ---- the reader stands where it stood
-- ---- how the answers of a drive went out
module _ (names : Names) (design : Netlist) (first last : Stored) (ifindex clocks magic : ℕ) (packets : List Packet) where
  abbrev whole : Drive
  whole = full_drive design ifindex first (timed_packets magic packets) clocks

  abbrev given : List Answer
  given = answers_given [] whole.trace

  abbrev written : List Write
  written = packet_writes names packets given (length given)

  abbrev pub Streams : Result (Unit {0}) CommandError → ShelfState → ShelfState → Type 0
  Streams r a b = StreamsSim names design first last ifindex clocks magic packets r a b

  -- a read failed before the first write
  pub stream_unread : (e : CommandError) (c : CaptureError) (a b : ShelfState) → e ≡ capture_error c → c ≡ capture.Failed → Changes [] a b → Streams (Err e) a b
  stream_unread e c a b is failed same =
      let P : CommandError → Type 0 = λ f. Streams (Err f) a b in
      subst P (sym (is ∙ ap capture_error failed)) (record { out = none_done (streamed_writes names magic packets given) a b same })

  -- one of the first writes failed
  pub stream_unbegun : (e : CommandError) (a b c : ShelfState) → e ≡ error.WriteFault → Changes [] a b → OneFailed (head_writes names magic) b c → Streams (Err e) a c
  stream_unbegun e a b c is same failed =
      let P : CommandError → Type 0 = λ f. Streams (Err f) a c in
      subst P (sym is) (record { out = failed_before (head_writes names magic) written a c (failed_from (head_writes names magic) a b c same failed) })

  abbrev ended_by : Ended → Option CommandError
  ended_by end = drive_error design (length packets) whole end

  module _ (a b c d : ShelfState) (same : Changes [] a b) (begun : AreDone (head_writes names magic) b c) where
    from_here : AreDone (head_writes names magic) a c
    from_here = done_from (head_writes names magic) a b c same begun

    all_out : AreDone written c d → AreDone (streamed_writes names magic packets given) a d
    all_out done = done_both (head_writes names magic) written a c d from_here done

    some_out : SomeDone written c d → SomeDone (streamed_writes names magic packets given) a d
    some_out some = some_after (head_writes names magic) written a c d from_here some

    pub stream_done : DrivesOut names design ifindex clocks magic packets first last (Ok tt) c d → Streams (Ok tt) a d
    stream_done drives = record { out = (ap ended_by drives.ends, drives.leaves, all_out drives.out) }

    x_named : (x : XValue) (w : ℕ) → x.net ≡ Wire w → x_value design w ≡ error.XValue (name_of design x.net)
    x_named x w is = ap (λ (n : Net). error.XValue (name_of design n)) (sym is)

    stopped_at : (x : XValue) (w : ℕ) → whole.ended ≡ Stopped w → x.net ≡ Wire w → ended_by whole.ended ≡ Some (error.XValue (name_of design x.net))
    stopped_at x w ends net = ap ended_by ends ∙ ap Some (x_named x w net)

    late_at : (answers frames : ℕ) → whole.ended ≡ OutOfClocks → answers ≡ length given → frames ≡ length packets → ended_by whole.ended ≡ Some (error.Late answers frames)
    late_at answers frames ends n m = ap ended_by ends ∙ ap (λ k. Some (error.Late k (length packets))) (sym n) ∙ ap (λ k. Some (error.Late answers k)) (sym m)

    stream_as : (e f : CommandError) → e ≡ f → Streams (Err f) a d → Streams (Err e) a d
    stream_as e f is streams = let P : CommandError → Type 0 = λ x. Streams (Err x) a d in subst P (sym is) streams

    drive_stops : (r : RunError) (e : CommandError) → StopsWith design r e → DrivesOut names design ifindex clocks magic packets first last (Err r) c d → Streams (Err e) a d
    drive_stops (runs.Capture capture.Failed) e is drives = stream_as e error.ReadFault is (record { out = some_out drives.out })
    drive_stops (runs.Capture capture.TooLong) e is drives = absurd drives.out
    drive_stops (runs.Capture (capture.Fault fault)) e is drives = absurd drives.out
    drive_stops runs.Unwritten e is drives = stream_as e error.WriteFault is (record { out = failed_after (head_writes names magic) written a c d from_here drives.out })
    drive_stops (runs.X x) e (inl is) drives =
        stream_as e (error.XValue (name_of design x.net)) is (record { out = (stopped_at x drives.ends.0 drives.ends.1 drives.ends.2, inl refl, all_out drives.out) })
    drive_stops (runs.X x) e (inr is) drives = stream_as e error.NoMemory is (record { out = all_done (streamed_writes names magic packets given) a d (all_out drives.out) })
    drive_stops (runs.Late answers frames) e is drives =
        stream_as e (error.Late answers frames) is (record { out = (late_at answers frames drives.ends.0 drives.ends.1 drives.ends.2, inr refl, all_out drives.out) })
    drive_stops runs.NoMemory e is drives = stream_as e error.NoMemory is (record { out = some_out drives.out })

    pub stream_stopped : (p : Netlist) (r : RunError) (e : CommandError) → p ≡ design → StopsWith p r e → DrivesOut names design ifindex clocks magic packets first last (Err r) c d → Streams (Err e) a d
    stream_stopped p r e kept is drives = let P : Netlist → Type 0 = λ q. StopsWith q r e in drive_stops r e (subst P kept is) drives

-- (the capture is still there)
pub held_begun : (names : Names) (magic : ℕ) (a b c d : ShelfState) → AreDistinct names → Changes [] a b → Changes [] b c → AreDone (head_writes names magic) c d → d.held names.capture ≡ a.held names.capture
held_begun names magic a b c d apart same still begun = same_capture names c d apart (begun_changes names magic c d begun) ∙ still.others names.capture tt ∙ same.others names.capture tt

-- ---- the maps in the end
module _ (name : List ℕ) (design : Netlist) (s : Stored) (decls : List MapDecl) where
  pub finish_out : (e : CommandError) (a b : ShelfState) → e ≡ error.NoMemory → Changes [] a b → FinishesSim name design s decls (Err e) a b
  finish_out e a b is same = let P : CommandError → Type 0 = λ f. FinishesSim name design s decls (Err f) a b in subst P (sym is) same

  pub finish_stops : (e f : CommandError) (a b : ShelfState) → f ≡ e → Err e ≡ dumped design s decls → Changes [] a b → FinishesSim name design s decls (Err f) a b
  finish_stops e f a b is stops same =
      let P : CommandError → Type 0 = λ x. dumped design s decls ≡ Err x → FinishesSim name design s decls (Err x) a b in
      let at : StopsDump design e = dump_error design s decls e (sym stops) in
      subst P (at.for ∙ sym is) (λ d. (d, inl refl, same)) (sym stops ∙ ap Err (sym is))

  -- (the text that is written is that of the maps)
  pub finish_unwritten : (maps : MapState) (text : List ℕ) (e : CommandError) (a b : ShelfState) → e ≡ error.WriteFault → Ok maps ≡ dumped design s decls → text ≡ text_of maps → OneFailed (file_writes name text) a b → FinishesSim name design s decls (Err e) a b
  finish_unwritten maps text e a b is shown same failed =
      let P : CommandError → Type 0 = λ f. FinishesSim name design s decls (Err f) a b in
      let Q : List ℕ → Type 0 = λ t. OneFailed (file_writes name t) a b in
      subst P (sym is) (maps, sym shown, subst Q same failed)

  pub finish_done : (maps : MapState) (text : List ℕ) (a b : ShelfState) → Ok maps ≡ dumped design s decls → text ≡ text_of maps → AreDone (file_writes name text) a b → FinishesSim name design s decls (Ok tt) a b
  finish_done maps text a b shown same done = let Q : List ℕ → Type 0 = λ t. AreDone (file_writes name t) a b in (maps, sym shown, subst Q same done)

pub finish_over : (names : Names) (design : Netlist) (s : Stored) (decls : List MapDecl) (r : Result (Unit {0}) CommandError) (a b : ShelfState) → FinishesSim names.final_maps design s decls r a b → IsOver IsGivenUpDrive names.capture (written_names names) r a b
finish_over names design s decls (Ok u) a b f = record { kept = done_changes (written_names names) (file_writes names.final_maps (text_of f.0)) a b (finals_within names (text_of f.0)) f.2; cause = tt }
finish_over names design s decls (Err error.WriteFault) a b f =
    over_unwritten IsGivenUpDrive names.capture (written_names names) (file_writes names.final_maps (text_of f.0)) error.WriteFault a b refl (finals_within names (text_of f.0)) f.2
finish_over names design s decls (Err error.NoMemory) a b f = over_out IsGivenUpDrive names.capture (written_names names) error.NoMemory a b refl f
finish_over names design s decls (Err e) a b f = record { kept = changes_within (written_names names) a b f.2; cause = inr (inr (inr (inr f.1))) }

-- ---- a load that stops
pub over_unbegun : (names : Names) (magic : ℕ) (e : CommandError) (a b : ShelfState) → e ≡ error.WriteFault → OneFailed (head_writes names magic) a b → IsOver IsGivenUpDrive names.capture (written_names names) (Err e) a b
over_unbegun names magic e a b is failed = over_unwritten IsGivenUpDrive names.capture (written_names names) (head_writes names magic) e a b is (head_within names magic) failed

pub over_unloaded : (names : Names) (magic : ℕ) (d : Netlist) (s : Stored) (clocks : List Inputs) (e f : CommandError) (a b : ShelfState) → f ≡ e → StopsFor d s clocks e → AreDone (head_writes names magic) a b → IsOver IsGivenUpDrive names.capture (written_names names) (Err f) a b
over_unloaded names magic d s clocks e f a b is stops done = record {
  kept = done_changes (written_names names) (head_writes names magic) a b (head_within names magic) done;
  cause = inr (inr (inr (inr (inl (ap (λ (x : CommandError). status_of x) (is ∙ sym stops.for))))));
}

-- ---- what is written of a simulation
module _ (names : Names) (d : Netlist) (maps : MapState) (ifindex clocks magic : ℕ) (packets : List Packet) where
  abbrev timed : List Timed
  timed = timed_packets magic packets

  abbrev Writes : Result (Unit {0}) CommandError → ShelfState → ShelfState → Type 0
  Writes r a b = WritesSim names d maps ifindex clocks magic packets r a b

  pub write_out : (e : CommandError) (a b : ShelfState) → e ≡ error.NoMemory → Changes [] a b → Writes (Err e) a b
  write_out e a b is same = let P : CommandError → Type 0 = λ f. Writes (Err f) a b in subst P (sym is) (record { given = simulation d maps ifindex timed clocks; is_given = refl; out = inl same })

  pub write_unbegun : (x e : CommandError) (a b : ShelfState) → StopsFor d (first_stored d) (load maps) x → e ≡ error.WriteFault → OneFailed (head_writes names magic) a b → Writes (Err e) a b
  write_unbegun x e a b stops is failed =
      let P : CommandError → Type 0 = λ f. Writes (Err f) a b in
      subst P (sym is) (record { given = record { answers = []; end = Err (x_value d stops.wire) }; is_given = load_given_up d maps ifindex timed clocks x stops; out = failed })

  pub write_unloaded : (x e : CommandError) (a b : ShelfState) → e ≡ x → StopsFor d (first_stored d) (load maps) x → AreDone (head_writes names magic) a b → Writes (Err e) a b
  write_unloaded x e a b is stops done =
      let P : CommandError → Type 0 = λ f. Writes (Err f) a b in
      subst P (stops.for ∙ sym is) (record { given = record { answers = []; end = Err (x_value d stops.wire) }; is_given = load_given_up d maps ifindex timed clocks x stops; out = (refl, inl refl, done) })

  -- the load goes, and the drive after it
  module _ (p : Netlist) (t : Stored) (decls : List MapDecl) (loaded : driven p t decls ifindex timed clocks ≡ simulation d maps ifindex timed clocks) where
    abbrev run : Drive
    run = full_drive p ifindex t timed clocks

    abbrev sent : List Write
    sent = streamed_writes names magic packets (answers_given [] run.trace)

    abbrev finals : Result MapState CommandError
    finals = end_by p t decls run (drive_error p (length timed) run run.ended)

    abbrev OutAs : Result (Unit {0}) CommandError → ShelfState → ShelfState → Result MapState CommandError → Type 0
    OutAs r a b end = GoesOut IsGivenUpDrive LeavesAny r (given_up end) (sent ++ final_writes names (final_text end)) a b

    written_as : (r : Result (Unit {0}) CommandError) (a b : ShelfState) (end : Result MapState CommandError) → finals ≡ end → OutAs r a b end → Writes r a b
    written_as r a b end is out = record { given = driven p t decls ifindex timed clocks; is_given = loaded; out = subst (OutAs r a b) (sym is) out }

    finals_by : (o : Option CommandError) → drive_error p (length packets) run run.ended ≡ o → finals ≡ end_by p t decls run o
    finals_by o is = ap (end_by p t decls run) (ap (λ n. drive_error p n run run.ended) (length-map packets (timed_of magic)) ∙ is)

    -- all of it was to be written, and memory ran out
    memory_out : (a b : ShelfState) → SomeDone (sent ++ final_writes names (final_text finals)) a b → Writes (Err error.NoMemory) a b
    memory_out a b some = written_as (Err error.NoMemory) a b finals refl (inr (record { done = some.done; rest = some.rest; all = some.all; left = tt; are = some.are }))

    pub write_unstreamed : (last : Stored) (e : CommandError) (a b : ShelfState) → StreamsSim names p t last ifindex clocks magic packets (Err e) a b → Writes (Err e) a b
    write_unstreamed last error.WriteFault a b s = written_as (Err error.WriteFault) a b finals refl (failed_before sent (final_writes names (final_text finals)) a b s.out)
    write_unstreamed last error.ReadFault a b s = written_as (Err error.ReadFault) a b finals refl (some_before sent (final_writes names (final_text finals)) a b s.out)
    write_unstreamed last error.NoMemory a b s = memory_out a b (some_before sent (final_writes names (final_text finals)) a b s.out)
    write_unstreamed last e a b s = written_as (Err e) a b (Err e) (finals_by (Some e) s.out.0) (refl, s.out.1, done_last sent a b b s.out.2 (changes_none b))

    finish_from : (last : Stored) (a b c : ShelfState) (r : Result (Unit {0}) CommandError) → finals ≡ dumped p last decls → AreDone sent a b → FinishesSim names.final_maps p last decls r b c → Writes r a c
    finish_from last a b c (Ok u) ends done f =
        written_as (Ok u) a c (Ok f.0) (ends ∙ f.1) (refl, done_both sent (file_writes names.final_maps (text_of f.0)) a b c done f.2)
    finish_from last a b c (Err error.WriteFault) ends done f =
        written_as (Err error.WriteFault) a c (Ok f.0) (ends ∙ f.1) (failed_after sent (file_writes names.final_maps (text_of f.0)) a b c done f.2)
    finish_from last a b c (Err error.NoMemory) ends done f = memory_out a c (some_before sent (final_writes names (final_text finals)) a c (all_done sent a c (done_still sent a b c done f)))
    finish_from last a b c (Err error.ReadFault) ends done f = absurd (elim f.1 [ inl is ↦ cc | inr is ↦ cc ])
    finish_from last a b c (Err e) ends done f = written_as (Err e) a c (Err e) (ends ∙ f.0) (refl, f.1, done_last sent a b c done f.2)

    pub write_finished : (q : Netlist) (last : Stored) (r : Result (Unit {0}) CommandError) (a b c : ShelfState) → q ≡ p → StreamsSim names p t last ifindex clocks magic packets (Ok tt) a b → FinishesSim names.final_maps q last decls r b c → Writes r a c
    write_finished q last r a b c kept s f =
        let P : Netlist → Type 0 = λ n. FinishesSim names.final_maps n last decls r b c in
        finish_from last a b c r (finals_by None s.out.0 ∙ sym (ap (λ (u : Stored). dumped p u decls) s.out.1)) s.out.2 (subst P kept f)

-- of a design that was opened, which has the same netlist
pub write_as : (names : Names) (p d : Netlist) (maps : MapState) (i n ifindex clocks magic : ℕ) (packets : List Packet) (r : Result (Unit {0}) CommandError) (a b : ShelfState) → p ≡ d → i ≡ ifindex → n ≡ clocks → WritesSim names p maps i n magic packets r a b
    → WritesSim names d maps ifindex clocks magic packets r a b
write_as names p d maps i n ifindex clocks magic packets r a b same by within w =
    subst (λ (q : Netlist). WritesSim names q maps ifindex clocks magic packets r a b) same
    (subst (λ (j : ℕ). WritesSim names p maps j clocks magic packets r a b) by (subst (λ (k : ℕ). WritesSim names p maps i k magic packets r a b) within w))
