-- What the command `run` has written, and how it is over, by what its steps did.
use Rattle.std.specs.Prelude.{if◌then◌else◌, ◌==◌, Contains}
use Rattle.std.specs.List.{AllByRecursion}
use Rattle.std.proofs.Common.{◌≡◌, ℕ, ◌+◌, ◌*◌, ◌<◌, ◌≤◌, ◌^◌, Bool, true, false, List, [], ◌∷◌, ◌++◌, length, map, Option, None, Result, Ok, Err, IsErrAnd, IsErrOf, slice_index_or, refl, sym, ◌∙◌, ap, subst, inl, inr, arith, append_assoc, mul-le-mul_left}
use Rattle.std.proofs.lemmas.List.{length-map}
use Rattle.shelf_core.specs.Shelf.{Rose}
use Rattle.beat_core.specs.declared.frame.TheConstants.{FRAME_LIMIT, BEAT_LIMIT}
use Rattle.beat_core.specs.declared.frame.Timed.{Timed}
use Rattle.beat_core.specs.declared.answer.Answer.{Answer}
use Rattle.pcap_core.specs.Format.{Packet, Record, IsRecord, packets_of}
use Rattle.pcap_core.specs.Time.{unit_of, timed_of}
use Rattle.pcap_core.specs.Streaming.{Opened}
use Rattle.net_core.specs.Nets.{Netlist}
use Rattle.net_core.specs.Clock.{Stored}
use Rattle.net_core.specs.Trace.{stored_after}
use Rattle.port_drive.specs.realization.History.{Ended, Answered, Stopped, OutOfClocks, answers_given}
use Rattle.port_drive.specs.realization.HostHistory.Host.{ShowsMaps}
use Rattle.port_drive.specs.realization.Bounds.{clock_bound, most_beats}
use Rattle.port_drive.specs.Driving.{Driving, undriven}
use Rattle.port_drive.specs.Reports.{full_drive, given_in}
use Rattle.xdp_maps.specs.declared.decl.MapDecl.{MapDecl}
use Rattle.xdp_maps.specs.State.{MapState}
use Rattle.xdp_object.specs.xdp_machine.Program.{XdpProgram}
use Rattle.maps_text.specs.Writing.{text_of}
use Rattle.ehdl_build.specs.declared.built.Built.{Built}
use Rattle.ehdl_build.specs.Compiled.{IsSequential}
use Rattle.command_line.specs.Request.{Names}
use Rattle.capture_run.specs.States.{ShelfState, IsOther, Changes, OneRose}
use Rattle.capture_run.specs.Writes.{Write, AreDone, OneFailed, file_writes}
use Rattle.capture_run.specs.Captures.{Reading, HoldsCapture, StandsBefore}
use Rattle.capture_run.specs.Results.{timed_packets, came_by, head_writes, packet_writes, streamed_writes}
use Rattle.capture_run.specs.Runs.{EndsFor, IsRunOver, result_names, IsLegal, DrivesSome, DrivesOut}
use Rattle.capture_run.specs.declared.records.CaptureError.{CaptureError}
use Rattle.capture_run.specs.declared.records.CaptureError.TheVariants as capture
use Rattle.capture_run.specs.declared.error.RunError.{RunError}
use Rattle.capture_run.specs.declared.error.RunError.TheVariants as runs
use Rattle.capture_run.proofs.RangeLaws.{time_most, unit_by}
use Rattle.capture_run.proofs.StateLaws.{changes_then, changes_within}
use Rattle.capture_run.proofs.WriteLaws.{AreOf, done_from, failed_from, failed_before, failed_after, done_both, done_changes, failed_changes, failed_rose}
use Rattle.ehdl_top.specs.declared.status.Status.{Status}
use Rattle.ehdl_top.specs.declared.error.CommandError.{CommandError}
use Rattle.ehdl_top.specs.declared.error.CommandError.TheVariants as error
use Rattle.capture_run.specs.Runs.{IsPlainStop}
use Rattle.ehdl_top.specs.Steps.{capture_error, stop_error, AreDistinct, IsTextApart, StreamOut, GoesOut, EndsOver, IsOver, NoOther, LeavesFinals, DrivesAsRuns, IsPipelineOf, IsPipelineFor, IsDriven, StreamsDrive, WritesRuns, streamed_names, run_names}
use Rattle.ehdl_top.proofs.RealizedLemmas.{answers_fit, sequential_decls, shows_as}
use Rattle.ehdl_top.proofs.StreamLemmas.{none_done, over_then, some_after, some_before, stands_still}

-- ---- the packets of a capture
legal_records : (magic : ℕ) (rs : List Record) → AllByRecursion IsRecord rs → AllByRecursion IsLegal (timed_packets magic (packets_of rs))
legal_records magic [] are = tt
legal_records magic (r ∷ rs) are = (
  (record { bytes = are.0.bytes; some = are.0.len.0; room = are.0.len.1 }, time_most r.packet.seconds r.packet.fraction (unit_of magic) are.0.seconds are.0.fraction (unit_by (magic == 0xa1b23c4d))),
  legal_records magic rs are.1,
)

pub legal_of : (opened : Opened) (held : Option (List ℕ)) (packets : List Packet) → HoldsCapture opened held packets → AllByRecursion IsLegal (timed_packets opened.magic packets)
legal_of opened held packets holds = subst (λ (ps : List Packet). AllByRecursion IsLegal (timed_packets opened.magic ps)) (sym holds.is.packets) (legal_records opened.magic holds.is.records holds.is.are_records)

-- ---- a pipeline for so many packets, whatever their lengths
beats_most : (packets : List Timed) → AllByRecursion IsLegal packets → most_beats (map (λ q. q.frame) packets) ≤ BEAT_LIMIT
beats_most [] legal = omega arith
beats_most (p ∷ rest) legal =
    let here : length p.frame ≤ FRAME_LIMIT = legal.0.0.room in
    let more : most_beats (map (λ (q : Timed). q.frame) rest) ≤ BEAT_LIMIT = beats_most rest legal.1 in
    omega (arith, here, more)

clocks_most : (n count stages beats records limit : ℕ) → n ≡ count → beats ≤ BEAT_LIMIT → limit ≡ clock_bound count stages BEAT_LIMIT records → clock_bound n stages beats records ≤ limit
clocks_most n count stages beats records limit many most is =
    let each : stages + 2 * beats + records + 8 ≤ stages + 2 * BEAT_LIMIT + records + 8 = omega (arith, most) in
    let all : count * (stages + 2 * beats + records + 8) ≤ count * (stages + 2 * BEAT_LIMIT + records + 8) = mul-le-mul_left count each in
    subst (λ (k : ℕ). clock_bound k stages beats records ≤ limit) (sym many) (subst (λ (k : ℕ). clock_bound count stages beats records ≤ k) (sym is) all)

pub pipeline_for : (b : Built) (p : XdpProgram) (first : MapState) (d : Netlist) (s : Stored) (ifindex limit count : ℕ) → IsPipelineOf p b first d s → ifindex < 2 ^ 32 → limit ≡ clock_bound count b.rows BEAT_LIMIT b.records
    → IsPipelineFor p first d s ifindex limit count
pipeline_for b p first d s ifindex limit count pipeline fits is =
    λ packets legal many. pipeline ifindex limit packets fits legal (clocks_most (length packets) count b.rows (most_beats (map (λ q. q.frame) packets)) b.records limit many (beats_most packets legal) is)

-- a driver that was opened
pub undriven_as : (v : Driving) (ifindex limit : ℕ) → v ≡ undriven ifindex limit → v ≡ undriven v.ifindex v.limit
undriven_as v ifindex limit is = subst (λ (w : Driving). w ≡ undriven w.ifindex w.limit) (sym is) refl

pub pipeline_driven : (p : XdpProgram) (first : MapState) (d : Netlist) (s : Stored) (v : Driving) (ifindex limit count : ℕ) → v ≡ undriven ifindex limit → IsPipelineFor p first d s ifindex limit count → IsPipelineFor p first d s v.ifindex v.limit count
pipeline_driven p first d s v ifindex limit count is pipeline = subst (λ (w : Driving). IsPipelineFor p first d s w.ifindex w.limit count) (sym is) pipeline

pub run_of_capture : (p : XdpProgram) (first : MapState) (d : Netlist) (s : Stored) (ifindex limit count : ℕ) (opened : Opened) (held : Option (List ℕ)) (packets : List Packet) → IsPipelineFor p first d s ifindex limit count → HoldsCapture opened held packets → count ≡ length packets
    → DrivesAsRuns p first d s ifindex limit (timed_packets opened.magic packets)
run_of_capture p first d s ifindex limit count opened held packets pipeline holds many = pipeline (timed_packets opened.magic packets) (legal_of opened held packets holds) (length-map packets (timed_of opened.magic) ∙ sym many)

pub streams_as : (names : Names) (verilog text written : List ℕ) (design : Netlist) (s t : Stored) (v : Driving) (ifindex limit magic : ℕ) (packets : List Packet) (r : Result (Unit {0}) CommandError) (a b : ShelfState) → v ≡ undriven ifindex limit → text ≡ written
    → StreamsDrive names design s t v.ifindex v.limit magic packets r (file_writes verilog text) a b → StreamsDrive names design s t ifindex limit magic packets r (file_writes verilog written) a b
streams_as names verilog text written design s t v ifindex limit magic packets r a b is same streams =
    subst (λ (bytes : List ℕ). StreamsDrive names design s t ifindex limit magic packets r (file_writes verilog bytes) a b) same
    (subst (λ (w : Driving). StreamsDrive names design s t w.ifindex w.limit magic packets r (file_writes verilog text) a b) is streams)

-- ---- a pipeline answers all packets in time
never_stopped : (e : Ended) (w : ℕ) → e ≡ Answered → e ≡ Stopped w → ⊥
never_stopped e w answered stopped = cc

always_in_time : (e : Ended) → e ≡ Answered → e ≡ OutOfClocks → ⊥
always_in_time e answered late = cc

pub plain_stop : (p : XdpProgram) (first : MapState) (d : Netlist) (s last : Stored) (ifindex limit count : ℕ) (e : RunError) → IsPipelineFor p first d s ifindex limit count → DrivesSome d ifindex limit count s last (Err e) → IsPlainStop e
plain_stop p first d s last ifindex limit count (runs.Capture c) pipeline some = tt
plain_stop p first d s last ifindex limit count runs.Unwritten pipeline some = tt
plain_stop p first d s last ifindex limit count (runs.X x) pipeline some =
    let run : DrivesAsRuns p first d s ifindex limit some.packets = pipeline some.packets some.legal some.many in
    never_stopped (full_drive d ifindex s some.packets limit).ended some.ends.0 run.ended some.ends.1
plain_stop p first d s last ifindex limit count (runs.Late answers frames) pipeline some =
    let run : DrivesAsRuns p first d s ifindex limit some.packets = pipeline some.packets some.legal some.many in
    always_in_time (full_drive d ifindex s some.packets limit).ended run.ended some.ends.0
plain_stop p first d s last ifindex limit count runs.NoMemory pipeline some =
    let run : DrivesAsRuns p first d s ifindex limit some.packets = pipeline some.packets some.legal some.many in
    let answers : List Answer = answers_given [] (full_drive d ifindex s some.packets limit).trace in
    none_longer answers (answers_fit p first run.last ifindex some.packets answers run.all some.legal) (some.ends run.ended)
  where
    none_longer : (answers : List Answer) → ((k : ℕ) (d : Answer) → k < length answers → length (slice_index_or answers k d).frame ≤ FRAME_LIMIT) → (answer : Answer) × Contains answers answer × (FRAME_LIMIT < length answer.frame) → ⊥
    none_longer answers fit longer =
        let within : length (slice_index_or answers longer.1.0 longer.0).frame ≤ FRAME_LIMIT = fit longer.1.0 longer.0 longer.1.1 in
        let same : length (slice_index_or answers longer.1.0 longer.0).frame ≡ length longer.0.frame = ap (λ (a : Answer). length a.frame) longer.1.2 in
        let above : FRAME_LIMIT < length longer.0.frame = longer.2 in
        omega (arith, within, same, above)

pub is_driven : (d : Netlist) (ifindex limit count : ℕ) (s last : Stored) → DrivesSome d ifindex limit count s last (Ok tt) → IsDriven d ifindex limit count s last
is_driven d ifindex limit count s last some = record { packets = some.packets; legal = some.legal; many = some.many; leaves = some.leaves }

-- ---- what holds of an error holds of a result that is it
by_error : (Q : Result (Unit {0}) CommandError → Type 0) (r : Result (Unit {0}) CommandError) (x : CommandError) → IsErrAnd r (λ e. e ≡ x) → Q (Err x) → Q r
by_error Q (Ok u) x is holds = absurd is
by_error Q (Err e) x is holds = let P : CommandError → Type 0 = λ f. Q (Err f) in subst P (sym is) holds

-- ---- some of the writes
-- ---- a command that is over
-- memory ran out
pub over_out : (Itself : Status → Type 0) (name : List ℕ) (outputs : List (List ℕ)) (r : Result (Unit {0}) CommandError) (a b : ShelfState) → IsErrAnd r (λ e. e ≡ error.NoMemory) → Changes outputs a b → IsOver Itself name outputs r a b
over_out Itself name outputs r a b is kept = by_error (λ q. IsOver Itself name outputs q a b) r error.NoMemory is (record { kept = kept; cause = inr (inr (inl refl)) })

-- the capture is not read on
read_cause : (Itself : Status → Type 0) (name : List ℕ) (outputs : List (List ℕ)) (c : CaptureError) (a b : ShelfState) → (IsErrOf {T = Unit {0}} (Err c) capture.Failed → Rose (a.read_faults name) (b.read_faults name)) → EndsOver Itself name outputs a b (capture_error c)
read_cause Itself name outputs capture.Failed a b rose = inl (refl, rose refl)
read_cause Itself name outputs capture.TooLong a b rose = inr (inr (inr (inl refl)))
read_cause Itself name outputs (capture.Fault fault) a b rose = inr (inr (inr (inl refl)))

pub over_unread : (Itself : Status → Type 0) (name : List ℕ) (outputs : List (List ℕ)) (r : Result (Unit {0}) CommandError) (c : CaptureError) (a b d : ShelfState) → IsErrAnd r (λ e. e ≡ capture_error c) → Changes [] a b
    → (IsErrOf {T = Unit {0}} (Err c) capture.Failed → Rose (b.read_faults name) (d.read_faults name)) → Changes [] b d → IsOver Itself name outputs r a d
over_unread Itself name outputs r c a b d is before rose same =
    by_error (λ q. IsOver Itself name outputs q a d) r (capture_error c) is
    (over_then Itself name outputs (Err (capture_error c)) a b d (changes_within outputs a b before) (record { kept = changes_within outputs b d same; cause = read_cause Itself name outputs c b d rose }))

-- a write failed
over_unwritten : (Itself : Status → Type 0) (name : List ℕ) (outputs : List (List ℕ)) (ws : List Write) (r : Result (Unit {0}) CommandError) (a b c : ShelfState) → IsErrAnd r (λ e. e ≡ error.WriteFault) → AreOf outputs ws → Changes outputs a b → OneFailed ws b c
    → IsOver Itself name outputs r a c
over_unwritten Itself name outputs ws r a b c is of before failed =
    by_error (λ q. IsOver Itself name outputs q a c) r error.WriteFault is
    (over_then Itself name outputs (Err error.WriteFault) a b c before (record { kept = failed_changes outputs ws b c of failed; cause = inr (inl (refl, failed_rose outputs ws b c of failed)) }))

-- with more names
rose_wider : (names more : List (List ℕ)) (a b : ShelfState) → OneRose names a.write_faults b.write_faults → OneRose (names ++ more) a.write_faults b.write_faults
rose_wider [] more a b rose = absurd rose
rose_wider (name ∷ names) more a b (inl rose) = inl rose
rose_wider (name ∷ names) more a b (inr rose) = inr (rose_wider names more a b rose)

other_front : (names more : List (List ℕ)) (other : List ℕ) → IsOther (names ++ more) other → IsOther names other
other_front [] more other apart = tt
other_front (name ∷ names) more other apart = (apart.0, other_front names more other apart.1)

changes_wider : (names more : List (List ℕ)) (a b : ShelfState) → Changes names a b → Changes (names ++ more) a b
changes_wider names more a b c = record { later = c.later; others = λ other apart. c.others other (other_front names more other apart) }

cause_wider : (Itself : Status → Type 0) (name : List ℕ) (names more : List (List ℕ)) (e : CommandError) (a b : ShelfState) → EndsOver Itself name names a b e → EndsOver Itself name (names ++ more) a b e
cause_wider Itself name names more e a b (inl read) = inl read
cause_wider Itself name names more e a b (inr (inl write)) = inr (inl (write.0, rose_wider names more a b write.1))
cause_wider Itself name names more e a b (inr (inr other)) = inr (inr other)

over_wider : (Itself : Status → Type 0) (name : List ℕ) (names more : List (List ℕ)) (r : Result (Unit {0}) CommandError) (a b : ShelfState) → IsOver Itself name names r a b → IsOver Itself name (names ++ more) r a b
over_wider Itself name names more (Ok u) a b over = record { kept = changes_wider names more a b over.kept; cause = tt }
over_wider Itself name names more (Err e) a b over = record { kept = changes_wider names more a b over.kept; cause = cause_wider Itself name names more e a b over.cause }

-- ---- the reader stands where it stood
pub reads_on : (opened : Opened) (r : Reading) (packets : List Packet) (a b c : ShelfState) (name : List ℕ) → Changes [] a b → c.held name ≡ a.held name → StandsBefore opened (b.held name) r packets → StandsBefore opened (c.held name) r packets
reads_on opened r packets a b c name same still stands = stands_still opened r packets b c name (still ∙ sym (same.others name tt)) stands

-- ---- what is written while the capture is read
pub same_capture : (names : Names) (verilog : List ℕ) (a b : ShelfState) → AreDistinct names → IsTextApart names verilog → Changes (streamed_names names verilog) a b → b.held names.capture ≡ a.held names.capture
same_capture names verilog a b apart own c = c.others names.capture ((λ e. own.capture (sym e)), (apart.capture_answer, (apart.capture_verdicts, tt)))

text_of_names : (names : Names) (verilog text : List ℕ) → AreOf (streamed_names names verilog) (file_writes verilog text)
text_of_names names verilog text = (inl refl, (inl refl, tt))

head_of_names : (names : Names) (verilog : List ℕ) (magic : ℕ) → AreOf (streamed_names names verilog) (head_writes names magic)
head_of_names names verilog magic = (inr (inl refl), (inr (inl refl), (inr (inr (inl refl)), tt)))

finals_of_names : (names : Names) (verilog text : List ℕ) → AreOf (run_names names verilog) (file_writes names.final_maps text)
finals_of_names names verilog text = (inr (inr (inr (inl refl))), (inr (inr (inr (inl refl))), tt))

-- the text is written, and then the answers are begun
put_changes : (names : Names) (verilog text : List ℕ) (a b c : ShelfState) → Changes [] a b → AreDone (file_writes verilog text) b c → Changes (streamed_names names verilog) a c
put_changes names verilog text a b c same put =
    changes_then (streamed_names names verilog) a b c (changes_within (streamed_names names verilog) a b same) (done_changes (streamed_names names verilog) (file_writes verilog text) b c (text_of_names names verilog text) put)

pub begun_changes : (names : Names) (verilog text : List ℕ) (magic : ℕ) (a b c d : ShelfState) → Changes [] a b → AreDone (file_writes verilog text) b c → AreDone (head_writes names magic) c d → Changes (streamed_names names verilog) a d
begun_changes names verilog text magic a b c d same put begun =
    changes_then (streamed_names names verilog) a c d (put_changes names verilog text a b c same put) (done_changes (streamed_names names verilog) (head_writes names magic) c d (head_of_names names verilog magic) begun)

pub over_untexted : (names : Names) (verilog text : List ℕ) (r : Result (Unit {0}) CommandError) (a b c : ShelfState) → IsErrAnd r (λ e. e ≡ error.WriteFault) → Changes [] a b → OneFailed (file_writes verilog text) b c → IsOver NoOther names.capture (streamed_names names verilog) r a c
over_untexted names verilog text r a b c is same failed =
    over_unwritten NoOther names.capture (streamed_names names verilog) (file_writes verilog text) r a b c is (text_of_names names verilog text) (changes_within (streamed_names names verilog) a b same) failed

pub over_unbegun : (names : Names) (verilog text : List ℕ) (magic : ℕ) (r : Result (Unit {0}) CommandError) (a b c d : ShelfState) → IsErrAnd r (λ e. e ≡ error.WriteFault) → Changes [] a b → AreDone (file_writes verilog text) b c → OneFailed (head_writes names magic) c d
    → IsOver NoOther names.capture (streamed_names names verilog) r a d
over_unbegun names verilog text magic r a b c d is same put failed =
    over_unwritten NoOther names.capture (streamed_names names verilog) (head_writes names magic) r a c d is (head_of_names names verilog magic) (put_changes names verilog text a b c same put) failed

-- the drive
drive_kept : (names : Names) (verilog : List ℕ) (a b : ShelfState) → Changes (result_names names) a b → Changes (streamed_names names verilog) a b
drive_kept names verilog a b c = record { later = c.later; others = λ other apart. c.others other apart.1 }

drive_cause : (names : Names) (verilog : List ℕ) (e : RunError) (a b : ShelfState) → EndsFor names.capture (result_names names) e a b → IsPlainStop e → EndsOver NoOther names.capture (streamed_names names verilog) a b (stop_error e)
drive_cause names verilog (runs.Capture capture.Failed) a b cause plain = inl (refl, cause)
drive_cause names verilog (runs.Capture capture.TooLong) a b cause plain = inr (inr (inr (inl refl)))
drive_cause names verilog (runs.Capture (capture.Fault fault)) a b cause plain = inr (inr (inr (inl refl)))
drive_cause names verilog runs.Unwritten a b cause plain = inr (inl (refl, inr cause))
drive_cause names verilog (runs.X x) a b cause plain = absurd plain
drive_cause names verilog (runs.Late answers frames) a b cause plain = absurd plain
drive_cause names verilog runs.NoMemory a b cause plain = absurd plain

pub over_stopped : (names : Names) (verilog : List ℕ) (r : Result (Unit {0}) CommandError) (e : RunError) (a d z : ShelfState) → IsErrAnd r (λ f. f ≡ stop_error e) → IsPlainStop e → Changes (streamed_names names verilog) a d → IsRunOver names.capture (result_names names) (Err e) d z
    → IsOver NoOther names.capture (streamed_names names verilog) r a z
over_stopped names verilog r e a d z is plain before over =
    by_error (λ q. IsOver NoOther names.capture (streamed_names names verilog) q a z) r (stop_error e) is
    (over_then NoOther names.capture (streamed_names names verilog) (Err (stop_error e)) a d z before (record { kept = drive_kept names verilog d z over.kept; cause = drive_cause names verilog e d z over.cause plain }))

pub over_streamed : (names : Names) (verilog : List ℕ) (a d z : ShelfState) → Changes (streamed_names names verilog) a d → IsRunOver names.capture (result_names names) (Ok tt) d z → IsOver NoOther names.capture (streamed_names names verilog) (Ok tt) a z
over_streamed names verilog a d z before over = record { kept = changes_then (streamed_names names verilog) a d z before (drive_kept names verilog d z over.kept); cause = tt }

-- ---- how the answers went out
module _ (names : Names) (verilog text : List ℕ) (design : Netlist) (first last : Stored) (ifindex limit magic : ℕ) (packets : List Packet) where
  abbrev pub given : List Answer
  given = answers_given [] (full_drive design ifindex first (timed_packets magic packets) limit).trace

  abbrev pub written : List Write
  written = packet_writes names packets given (length given)

  abbrev pub Streams : Result (Unit {0}) CommandError → ShelfState → ShelfState → Type 0
  Streams r a b = StreamsDrive names design first last ifindex limit magic packets r (file_writes verilog text) a b

  stream_as : (r : Result (Unit {0}) CommandError) (x : CommandError) (a b : ShelfState) → IsErrAnd r (λ e. e ≡ x) → Streams (Err x) a b → Streams r a b
  stream_as r x a b is streams = by_error (λ q. Streams q a b) r x is streams

  -- a read failed before the first write
  pub stream_unread : (r : Result (Unit {0}) CommandError) (c : CaptureError) (a b : ShelfState) → IsErrAnd r (λ e. e ≡ capture_error c) → c ≡ capture.Failed → Changes [] a b → Streams r a b
  stream_unread r c a b is failed same =
      let P : CaptureError → Type 0 = λ x. Streams (Err (capture_error x)) a b in
      stream_as r (capture_error c) a b is (subst P (sym failed) (record { out = none_done (file_writes verilog text ++ (head_writes names magic ++ written)) a b same }))

  -- one of the first writes failed
  pub stream_untexted : (r : Result (Unit {0}) CommandError) (a b c : ShelfState) → IsErrAnd r (λ e. e ≡ error.WriteFault) → Changes [] a b → OneFailed (file_writes verilog text) b c → Streams r a c
  stream_untexted r a b c is same failed =
      stream_as r error.WriteFault a c is (record { out = failed_before (file_writes verilog text) (head_writes names magic ++ written) a c (failed_from (file_writes verilog text) a b c same failed) })

  pub stream_unbegun : (r : Result (Unit {0}) CommandError) (a b c d : ShelfState) → IsErrAnd r (λ e. e ≡ error.WriteFault) → Changes [] a b → AreDone (file_writes verilog text) b c → OneFailed (head_writes names magic) c d → Streams r a d
  stream_unbegun r a b c d is same put failed =
      stream_as r error.WriteFault a d is
      (record { out = failed_after (file_writes verilog text) (head_writes names magic ++ written) a c d (done_from (file_writes verilog text) a b c same put) (failed_before (head_writes names magic) written c d failed) })

  pub stream_done : (a b c d z : ShelfState) → Changes [] a b → AreDone (file_writes verilog text) b c → AreDone (head_writes names magic) c d → DrivesOut names design ifindex limit magic packets first last (Ok tt) d z → Streams (Ok tt) a z
  stream_done a b c d z same put begun drives = record {
    out = (drives.leaves, done_both (file_writes verilog text) (head_writes names magic ++ written) a c z (done_from (file_writes verilog text) a b c same put) (done_both (head_writes names magic) written c d z begun drives.out));
  }

  drive_stops : (e : RunError) (a c d z : ShelfState) → IsPlainStop e → AreDone (file_writes verilog text) a c → AreDone (head_writes names magic) c d → DrivesOut names design ifindex limit magic packets first last (Err e) d z → Streams (Err (stop_error e)) a z
  drive_stops (runs.Capture capture.Failed) a c d z plain put begun drives = record { out = some_after (file_writes verilog text) (head_writes names magic ++ written) a c z put (some_after (head_writes names magic) written c d z begun drives.out) }
  drive_stops (runs.Capture capture.TooLong) a c d z plain put begun drives = absurd drives.out
  drive_stops (runs.Capture (capture.Fault fault)) a c d z plain put begun drives = absurd drives.out
  drive_stops runs.Unwritten a c d z plain put begun drives = record { out = failed_after (file_writes verilog text) (head_writes names magic ++ written) a c z put (failed_after (head_writes names magic) written c d z begun drives.out) }
  drive_stops (runs.X x) a c d z plain put begun drives = absurd plain
  drive_stops (runs.Late answers frames) a c d z plain put begun drives = absurd plain
  drive_stops runs.NoMemory a c d z plain put begun drives = absurd plain

  pub stream_stopped : (r : Result (Unit {0}) CommandError) (e : RunError) (a b c d z : ShelfState) → IsErrAnd r (λ f. f ≡ stop_error e) → IsPlainStop e → Changes [] a b → AreDone (file_writes verilog text) b c → AreDone (head_writes names magic) c d
      → DrivesOut names design ifindex limit magic packets first last (Err e) d z → Streams r a z
  stream_stopped r e a b c d z is plain same put begun drives = stream_as r (stop_error e) a z is (drive_stops e a c d z plain (done_from (file_writes verilog text) a b c same put) begun drives)

-- ---- the final maps
-- what was written before a run ended early, and more that was left
stopped_out : (names : Names) (ws vs : List Write) (e : CommandError) (left : Type 0) (a b : ShelfState) → StreamOut (Err e) ws left a b → GoesOut NoOther (LeavesFinals names) (Err e) None (ws ++ vs) a b
stopped_out names ws vs error.WriteFault left a b out = failed_before ws vs a b out
stopped_out names ws vs error.ReadFault left a b out = some_before ws vs a b out
stopped_out names ws vs error.NoMemory left a b out = absurd out
stopped_out names ws vs error.Usage left a b out = absurd out
stopped_out names ws vs (error.Object x) left a b out = absurd out
stopped_out names ws vs (error.Refused x) left a b out = absurd out
stopped_out names ws vs error.LongVerilog left a b out = absurd out
stopped_out names ws vs (error.Verilog x) left a b out = absurd out
stopped_out names ws vs error.LongMaps left a b out = absurd out
stopped_out names ws vs (error.Maps x) left a b out = absurd out
stopped_out names ws vs error.LongCapture left a b out = absurd out
stopped_out names ws vs (error.Capture x) left a b out = absurd out
stopped_out names ws vs (error.XValue x) left a b out = absurd out
stopped_out names ws vs (error.Late x y) left a b out = absurd out

-- memory ran out before the first write
pub out_first : (names : Names) (verilog text : List ℕ) (p : XdpProgram) (first : MapState) (ifindex magic : ℕ) (packets : List Packet) (r : Result (Unit {0}) CommandError) (a b : ShelfState) → IsErrAnd r (λ e. e ≡ error.NoMemory)
    → ((answers : List Answer) × (last : MapState) × IsSequential p first (came_by ifindex (timed_packets magic packets)) answers last) → Changes [] a b → WritesRuns names p first ifindex magic packets r (file_writes verilog text) a b
out_first names verilog text p first ifindex magic packets r a b is x same =
    by_error (λ q. WritesRuns names p first ifindex magic packets q (file_writes verilog text) a b) r error.NoMemory is (record { answers = x.0; final = x.1; runs = x.2; out = inl same })

-- a drive of a pipeline of the program
module _ (names : Names) (verilog text : List ℕ) (p : XdpProgram) (first : MapState) (ifindex magic : ℕ) (packets : List Packet) (design : Netlist) (s t : Stored) (limit : ℕ) (run : DrivesAsRuns p first design s ifindex limit (timed_packets magic packets)) where
  abbrev pub driven : List Answer
  driven = answers_given [] (full_drive design ifindex s (timed_packets magic packets) limit).trace

  abbrev pub before : List Write
  before = file_writes verilog text ++ streamed_writes names magic packets driven

  abbrev pub finals : List Write
  finals = file_writes names.final_maps (text_of run.last)

  abbrev pub Drives : Result (Unit {0}) CommandError → ShelfState → ShelfState → Type 0
  Drives r a b = StreamsDrive names design s t ifindex limit magic packets r (file_writes verilog text) a b

  abbrev pub Writes : Result (Unit {0}) CommandError → ShelfState → ShelfState → Type 0
  Writes r a b = WritesRuns names p first ifindex magic packets r (file_writes verilog text) a b

  -- the same writes, the final maps last
  as_whole : (r : Result (Unit {0}) CommandError) (a b : ShelfState) → GoesOut NoOther (LeavesFinals names) r None (before ++ finals) a b → Writes r a b
  as_whole r a b out =
      let P : List Write → Type 0 = λ ws. GoesOut NoOther (LeavesFinals names) r None ws a b in
      record { answers = driven; final = run.last; runs = run.all; out = subst P (append_assoc (file_writes verilog text) (streamed_writes names magic packets driven) finals) out }

  pub writes_stopped : (r : Result (Unit {0}) CommandError) (e : CommandError) (a b : ShelfState) → IsErrAnd r (λ f. f ≡ e) → Drives (Err e) a b → Writes r a b
  writes_stopped r e a b is drives =
      by_error (λ q. Writes q a b) r e is
      (as_whole (Err e) a b (stopped_out names before finals e (t ≡ stored_after design s (given_in (full_drive design ifindex s (timed_packets magic packets) limit).trace)) a b drives.out))

  -- memory ran out after all answers
  pub out_last : (r : Result (Unit {0}) CommandError) (a b : ShelfState) → IsErrAnd r (λ f. f ≡ error.NoMemory) → Drives (Ok tt) a b → Writes r a b
  out_last r a b is drives =
      by_error (λ q. Writes q a b) r error.NoMemory is (as_whole (Err error.NoMemory) a b (inr (record { done = before; rest = finals; all = refl; left = (text_of run.last, refl); are = drives.out.1 })))

  -- the design shows the maps that the last run leaves
  pub shows_last : (d : Netlist) (u : Stored) (a b : ShelfState) → d ≡ design → u ≡ t → Drives (Ok tt) a b → ShowsMaps d u run.last
  shows_last d u a b same is drives = shows_as design d (stored_after design s (given_in (full_drive design ifindex s (timed_packets magic packets) limit).trace)) u run.last same (is ∙ drives.out.0) run.shown

  pub last_decls : run.last.decls ≡ first.decls
  last_decls = sequential_decls p first (came_by ifindex (timed_packets magic packets)) driven run.last run.all

  pub finals_failed : (bytes : List ℕ) (r : Result (Unit {0}) CommandError) (a b c : ShelfState) → bytes ≡ text_of run.last → IsErrAnd r (λ e. e ≡ error.WriteFault) → Drives (Ok tt) a b → OneFailed (file_writes names.final_maps bytes) b c → Writes r a c
  finals_failed bytes r a b c these is drives failed =
      let P : List ℕ → Type 0 = λ x. OneFailed (file_writes names.final_maps x) b c in
      by_error (λ q. Writes q a c) r error.WriteFault is (as_whole (Err error.WriteFault) a c (failed_after before finals a b c drives.out.1 (subst P these failed)))

  pub finals_done : (bytes : List ℕ) (a b c : ShelfState) → bytes ≡ text_of run.last → Drives (Ok tt) a b → AreDone (file_writes names.final_maps bytes) b c → Writes (Ok tt) a c
  finals_done bytes a b c these drives done =
      let P : List ℕ → Type 0 = λ x. AreDone (file_writes names.final_maps x) b c in
      as_whole (Ok tt) a c (refl, done_both before finals a b c drives.out.1 (subst P these done))

-- the maps that a drive of so many packets leaves
pub shows_some : (p : XdpProgram) (first : MapState) (decls : List MapDecl) (design d : Netlist) (s u : Stored) (ifindex limit count : ℕ) → decls ≡ first.decls → d ≡ design → IsPipelineFor p first design s ifindex limit count → IsDriven design ifindex limit count s u
    → (maps : MapState) × (maps.decls ≡ decls) × ShowsMaps d u maps
shows_some p first decls design d s u ifindex limit count own same pipeline driven =
    let run : DrivesAsRuns p first design s ifindex limit driven.packets = pipeline driven.packets driven.legal driven.many in
    let left : run.last.decls ≡ decls = sequential_decls p first (came_by ifindex driven.packets) (answers_given [] (full_drive design ifindex s driven.packets limit).trace) run.last run.all ∙ sym own in
    (run.last, left, shows_as design d (stored_after design s (given_in (full_drive design ifindex s driven.packets limit).trace)) u run.last same driven.leaves run.shown)

-- ---- a run that is over
pub over_some : (names : Names) (verilog : List ℕ) (r : Result (Unit {0}) CommandError) (e : CommandError) (a b : ShelfState) → IsErrAnd r (λ f. f ≡ e) → IsOver NoOther names.capture (streamed_names names verilog) (Err e) a b → IsOver NoOther names.capture (run_names names verilog) r a b
over_some names verilog r e a b is over = by_error (λ q. IsOver NoOther names.capture (run_names names verilog) q a b) r e is (over_wider NoOther names.capture (streamed_names names verilog) (names.final_maps ∷ []) (Err e) a b over)

pub kept_some : (names : Names) (verilog : List ℕ) (a b : ShelfState) → Changes (streamed_names names verilog) a b → Changes (run_names names verilog) a b
kept_some names verilog a b kept = changes_wider (streamed_names names verilog) (names.final_maps ∷ []) a b kept

pub over_final : (names : Names) (verilog bytes : List ℕ) (r : Result (Unit {0}) CommandError) (a b c : ShelfState) → IsErrAnd r (λ e. e ≡ error.WriteFault) → Changes (streamed_names names verilog) a b → OneFailed (file_writes names.final_maps bytes) b c
    → IsOver NoOther names.capture (run_names names verilog) r a c
over_final names verilog bytes r a b c is kept failed =
    over_unwritten NoOther names.capture (run_names names verilog) (file_writes names.final_maps bytes) r a b c is (finals_of_names names verilog bytes) (kept_some names verilog a b kept) failed

pub over_whole : (names : Names) (verilog bytes : List ℕ) (a b c : ShelfState) → Changes (streamed_names names verilog) a b → AreDone (file_writes names.final_maps bytes) b c → IsOver NoOther names.capture (run_names names verilog) (Ok tt) a c
over_whole names verilog bytes a b c kept done = record {
  kept = changes_then (run_names names verilog) a b c (kept_some names verilog a b kept) (done_changes (run_names names verilog) (file_writes names.final_maps bytes) b c (finals_of_names names verilog bytes) done);
  cause = tt;
}
