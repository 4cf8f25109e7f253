-- The command `ref`: runs of the packets of a capture, and how what is written of them goes out.
use Rattle.std.specs.List.{AllByRecursion}
use Rattle.std.proofs.Common.{◌≡◌, ℕ, List, [], ◌∷◌, ◌++◌, map, Some, None, Result, Ok, Err, IsErrAnd, refl, sym, ap, ◌∙◌, subst, inl, inr, append_assoc, arith}
use Rattle.pcap_core.specs.Format.{Packet}
use Rattle.xdp_maps.specs.State.{MapState, IsSound}
use Rattle.xdp_object.specs.xdp_machine.Program.{XdpProgram, IsProgram, program_code}
use Rattle.xdp_object.specs.xdp_machine.MachineLaws.{LeavesInRange}
use Rattle.xdp_object.specs.xdp_machine.State.{Code, PacketIn, start}
use Rattle.xdp_object.specs.xdp_machine.Runs.{Leaves, Ended, AreRuns, run}
use Rattle.kind_core.proofs.xdp_machine_laws.RangeLaws.{runs_leave_in_range}
use Rattle.unfold_core.specs.declared.unfolding.Unfolded.{Unfolded}
use Rattle.unfold_core.specs.Unfolding.{IsUnfolded}
use Rattle.unfold_core.specs.RunLaws.{RunsAreSound}
use Rattle.maps_text.specs.Writing.{text_of}
use Rattle.command_line.specs.Request.{Names}
use Rattle.ehdl_build.specs.Compiled.{IsSequential, code_of, packets_in}
use Rattle.capture_run.specs.States.{ShelfState, IsOther, Changes}
use Rattle.capture_run.specs.Writes.{Write, AreDone, OneFailed, file_writes}
use Rattle.capture_run.specs.Results.{timed_packets, came_by, streamed_writes, final_writes, result_writes}
use Rattle.capture_run.specs.Runs.{RunsEnd, AnswersOut, packet_in, answers_left}
use Rattle.capture_run.specs.declared.records.CaptureError.{CaptureError}
use Rattle.capture_run.specs.declared.records.CaptureError.TheVariants.{Failed, TooLong, Fault}
use Rattle.capture_run.specs.declared.error.RunError.{RunError}
use Rattle.capture_run.specs.declared.error.RunError.TheVariants as runs
use Rattle.capture_run.proofs.StateLaws.{changes_none}
use Rattle.capture_run.proofs.WriteLaws.{done_both, failed_after, failed_before}
use Rattle.capture_run.proofs.RangeLaws.{Comes}
use Rattle.capture_run.proofs.RunLaws.{runs_exist}
use Rattle.ehdl_top.specs.declared.error.CommandError.{CommandError}
use Rattle.ehdl_top.specs.declared.error.CommandError.TheVariants as error
use Rattle.ehdl_top.specs.Steps.{stop_error, capture_error, StreamOut, GoesOut, NoOther, LeavesFinals, StreamsRuns, WritesRuns}
use Rattle.ehdl_top.proofs.StreamLemmas.{none_done, some_after, some_before}

-- ---- runs
-- each run of an unfolded program that starts in range has an end
pub runs_end : (sound : RunsAreSound) (p : XdpProgram) (u : Unfolded) (code : Code) (first : MapState) → IsProgram p → IsUnfolded p u → code ≡ program_code p → first.decls ≡ p.decls → RunsEnd code first
runs_end sound p u code first program unfolded is decls = λ packet maps same range.
    let s = sound p u packet maps program unfolded (same ∙ decls) range in
    let few = unfolded.graph.few in
    let end = s.ended 1048576 (omega (arith, few)) in
    let left : LeavesInRange s.left = runs_leave_in_range (program_code p) packet maps s.left program.legal range (1048576, end) in
    subst (λ (c : Code). (e : Leaves) × (run c 1048576 (start packet maps) ≡ Ended e) × IsSound e.maps) (sym is) (s.left, end, left.maps)

came_in : (ifindex magic : ℕ) (packets : List Packet) → map (packet_in ifindex magic) packets ≡ packets_in (came_by ifindex (timed_packets magic packets))
came_in ifindex magic [] = refl
came_in ifindex magic (p ∷ packets) = ap (λ l. packet_in ifindex magic p ∷ l) (came_in ifindex magic packets)

-- the runs of the packets of a capture are sequential execution
pub sequential_of : (p : XdpProgram) (code : Code) (first final : MapState) (ifindex magic : ℕ) (packets : List Packet) (leaves : List Leaves) → code ≡ program_code p → AreRuns code first (map (packet_in ifindex magic) packets) leaves final
    → IsSequential p first (came_by ifindex (timed_packets magic packets)) (answers_left leaves) final
sequential_of p code first final ifindex magic packets leaves is runs =
    let P : Code → Type 0 = λ c. AreRuns c first (map (packet_in ifindex magic) packets) leaves final in
    let Q : List PacketIn → Type 0 = λ ps. AreRuns (code_of p) first ps leaves final in
    record { leaves = leaves; runs = subst Q (came_in ifindex magic packets) (subst P is runs); answers_are = refl }

-- ---- what is written leaves the capture
-- names that are written while the capture is read
pub held_later : (name : List ℕ) (outputs : List (List ℕ)) (a b : ShelfState) → Changes outputs a b → IsOther outputs name → b.held name ≡ a.held name
held_later name outputs a b c other = c.others name other

-- ---- how writes went, after others that were made
-- a run over a capture that ended early, as a command says it
pub stop_out : (e : RunError) (ws vs : List Write) (left now : Type 0) (a b c : ShelfState) → AreDone ws a b → AnswersOut (Err e) vs left b c → StreamOut (Err (stop_error e)) (ws ++ vs) now a c
stop_out runs.Unwritten ws vs left now a b c done out = failed_after ws vs a b c done out
stop_out (runs.Capture Failed) ws vs left now a b c done out = some_after ws vs a b c done out
stop_out (runs.Capture TooLong) ws vs left now a b c done out = absurd out
stop_out (runs.Capture (Fault f)) ws vs left now a b c done out = absurd out
stop_out (runs.X x) ws vs left now a b c done out = absurd out
stop_out (runs.Late x y) ws vs left now a b c done out = absurd out
stop_out runs.NoMemory ws vs left now a b c done out = absurd out

-- a read that failed before all of them
pub begin_out : (e : CaptureError) (ws : List Write) (now : Type 0) (a b : ShelfState) → e ≡ Failed → Changes [] a b → StreamOut (Err (capture_error e)) ws now a b
begin_out e ws now a b is same = let P : CaptureError → Type 0 = λ x. StreamOut (Err (capture_error x)) ws now a b in subst P (sym is) (none_done ws a b same)

-- an error that is this one
pub is_error : {T : Type 0} (P : Result T CommandError → Type 0) (r : Result T CommandError) (e : CommandError) → IsErrAnd r (λ f. f ≡ e) → P (Err e) → P r
is_error {T} P (Ok u) e is p = absurd is
is_error {T} P (Err f) e is p = subst (λ x. P (Err x)) (sym is) p

-- ---- all writes of a command
-- an error of what was streamed, before the final maps
pub stream_goes : (names : Names) (e : CommandError) (ws vs : List Write) (left : Type 0) (a b : ShelfState) → StreamOut (Err e) ws left a b → GoesOut NoOther (LeavesFinals names) (Err e) None (ws ++ vs) a b
stream_goes names error.WriteFault ws vs left a b out = failed_before ws vs a b out
stream_goes names error.ReadFault ws vs left a b out = some_before ws vs a b out
stream_goes names error.NoMemory ws vs left a b out = absurd out
stream_goes names error.Usage ws vs left a b out = absurd out
stream_goes names (error.Object x) ws vs left a b out = absurd out
stream_goes names (error.Refused x) ws vs left a b out = absurd out
stream_goes names error.LongVerilog ws vs left a b out = absurd out
stream_goes names (error.Verilog x) ws vs left a b out = absurd out
stream_goes names error.LongMaps ws vs left a b out = absurd out
stream_goes names (error.Maps x) ws vs left a b out = absurd out
stream_goes names error.LongCapture ws vs left a b out = absurd out
stream_goes names (error.Capture x) ws vs left a b out = absurd out
stream_goes names (error.XValue x) ws vs left a b out = absurd out
stream_goes names (error.Late x y) ws vs left a b out = absurd out

-- memory ran out before anything was written
pub early_out : (names : Names) (p : XdpProgram) (code : Code) (first : MapState) (ifindex magic : ℕ) (packets : List Packet) (r : Result (Unit {0}) CommandError) (old : ShelfState) → code ≡ program_code p → RunsEnd code first → AllByRecursion Comes (map (packet_in ifindex magic) packets) → IsSound first → IsErrAnd r (λ e. e ≡ error.NoMemory)
    → WritesRuns names p first ifindex magic packets r [] old old
early_out names p code first ifindex magic packets r old is ends come sound memory =
    let all = runs_exist code first first (map (packet_in ifindex magic) packets) ends come sound refl in
    let ws = result_writes names magic packets (answers_left all.0) (Some (text_of all.1)) in
    record {
      answers = answers_left all.0;
      final = all.1;
      runs = sequential_of p code first all.1 ifindex magic packets all.0 is all.2;
      out = is_error (λ q. GoesOut NoOther (LeavesFinals names) q None ws old old) r error.NoMemory memory (inl (changes_none old));
    }

-- what was streamed, and an error that ended it
pub stopped_runs : (names : Names) (p : XdpProgram) (first last : MapState) (ifindex magic : ℕ) (packets : List Packet) (r : Result (Unit {0}) CommandError) (e : CommandError) (before : List Write) (old new : ShelfState) → IsErrAnd r (λ f. f ≡ e)
    → StreamsRuns names p first last ifindex magic packets (Err e) before old new → WritesRuns names p first ifindex magic packets r before old new
stopped_runs names p first last ifindex magic packets r e before old new is s =
    let ws = before ++ streamed_writes names magic packets s.answers in
    let vs = final_writes names (Some (text_of s.final)) in
    let P : List Write → Type 0 = λ l. GoesOut NoOther (LeavesFinals names) (Err e) None l old new in
    record {
      answers = s.answers;
      final = s.final;
      runs = s.runs;
      out = is_error (λ q. GoesOut NoOther (LeavesFinals names) q None (before ++ result_writes names magic packets s.answers (Some (text_of s.final))) old new) r e is
          (subst P (append_assoc before (streamed_writes names magic packets s.answers) vs) (stream_goes names e ws vs (last ≡ s.final) old new s.out));
    }

module _ (names : Names) (p : XdpProgram) (first last : MapState) (ifindex magic : ℕ) (packets : List Packet) (before : List Write) (old mid : ShelfState) (s : StreamsRuns names p first last ifindex magic packets (Ok tt) before old mid) where
  abbrev streamed : List Write
  streamed = before ++ streamed_writes names magic packets s.answers

  abbrev finals : List Write
  finals = final_writes names (Some (text_of s.final))

  grouped : streamed ++ finals ≡ before ++ result_writes names magic packets s.answers (Some (text_of s.final))
  grouped = append_assoc before (streamed_writes names magic packets s.answers) finals

  -- memory ran out for the text of the final maps
  pub textless_runs : (r : Result (Unit {0}) CommandError) → IsErrAnd r (λ e. e ≡ error.NoMemory) → WritesRuns names p first ifindex magic packets r before old mid
  textless_runs r memory = record {
    answers = s.answers;
    final = s.final;
    runs = s.runs;
    out = is_error (λ q. GoesOut NoOther (LeavesFinals names) q None (before ++ result_writes names magic packets s.answers (Some (text_of s.final))) old mid) r error.NoMemory memory
        (inr (record { done = streamed; rest = finals; all = sym grouped; left = (text_of s.final, refl); are = s.out.1 }));
  }

  -- the text of the maps that were left
  text_is : (text : List ℕ) → text ≡ text_of last → file_writes names.final_maps text ≡ finals
  text_is text is = ap (λ t. file_writes names.final_maps t) (is ∙ ap text_of s.out.0)

  pub unwritten_runs : (r : Result (Unit {0}) CommandError) (text : List ℕ) (new : ShelfState) → IsErrAnd r (λ e. e ≡ error.WriteFault) → text ≡ text_of last → OneFailed (file_writes names.final_maps text) mid new → WritesRuns names p first ifindex magic packets r before old new
  unwritten_runs r text new is same failed =
      let P : List Write → Type 0 = λ l. OneFailed l old new in
      record {
        answers = s.answers;
        final = s.final;
        runs = s.runs;
        out = is_error (λ q. GoesOut NoOther (LeavesFinals names) q None (before ++ result_writes names magic packets s.answers (Some (text_of s.final))) old new) r error.WriteFault is
            (subst P grouped (failed_after streamed finals old mid new s.out.1 (subst (λ l. OneFailed l mid new) (text_is text same) failed)));
      }

  pub written_runs : (text : List ℕ) (new : ShelfState) → text ≡ text_of last → AreDone (file_writes names.final_maps text) mid new → WritesRuns names p first ifindex magic packets (Ok tt) before old new
  written_runs text new same done =
      let P : List Write → Type 0 = λ l. AreDone l old new in
      record {
        answers = s.answers;
        final = s.final;
        runs = s.runs;
        out = (refl, subst P grouped (done_both streamed finals old mid new s.out.1 (subst (λ l. AreDone l mid new) (text_is text same) done)));
      }
