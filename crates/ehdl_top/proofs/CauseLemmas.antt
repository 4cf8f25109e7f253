-- What is known of a command that has ended, by the status that is reported.
use Rattle.std.proofs.Common.{false, ◌≡◌, ◌≢◌, ◌⊎◌, IsTrue, [], Option, Some, None, Result, Ok, Err, OnOk, OnErr, IfErr, refl, ◌∙◌, ap, sym, subst, inl, inr}
use Rattle.shelf_core.specs.Shelf.{Holding, Rose, SameHeld}
use Rattle.maps_text.specs.Laws.{HasOneMeaning}
use Rattle.command_line.specs.Request.{Request, AskCompile, AskRun, AskSim, AskRef, AskReport, AskPrepare, AskDemo}
use Rattle.ehdl_top.specs.declared.status.Status.{Status}
use Rattle.ehdl_top.specs.declared.status.Status.TheVariants as status
use Rattle.ehdl_top.specs.declared.error.CommandError.{CommandError}
use Rattle.ehdl_top.specs.declared.error.CommandError.TheVariants as error
use Rattle.ehdl_top.specs.Status.{ended, status_of}
use Rattle.capture_run.specs.States.{ShelfState, SinkState, Changes, OneRose}
use Rattle.ehdl_top.specs.Inputs.{AreReady, FirstStop, OneUnread, EndsAtInput, names_in}
use Rattle.capture_run.specs.Writes.{Outputs}
use Rattle.ehdl_top.specs.Requests.{inputs_of, IsOutcome, Declines, EndsDeclined, EndsItself, PutsLines, OneUnwritten, IsFault, CanEnd, IsCause, HasDeclined}
use Rattle.ehdl_top.specs.Ends.{EndsAs, HasStopped, LeftUnread, LeftOut, Loses, AllWritten, ByInputs, IsEarly, SaysWhy}
use Rattle.ehdl_top.specs.Steps.{FailsWrite, WritesAll, StopsBy, Unread, OutOfMemory, AtInput, Declined, Unwritten, UnreadLate, OutLate, AtOther, AtEnd, EndsIn, EndsBy, IsFixed}
use Rattle.capture_run.proofs.StateLaws.{same_held}
use Rattle.ehdl_top.proofs.InputLemmas.{IsInputStatus, ready_stops, one_stop, ends_input, unread_rose}
use Rattle.ehdl_top.proofs.FormLemmas.{inputs_sound}
use Rattle.ehdl_top.proofs.OutcomeLemmas.{outcome_ready, declined_ready, ends_one}

-- A command has ended with this status: a read failed; memory ran out, and nothing was written; an input is not in its form, or is declined; a write
-- failed; a read failed, or memory ran out, between two writes; a shelf that does not tell its content held another capture when it was read
-- again; all was written; all was written, and memory ran out after it; all was written, and a put of the command's lines failed.
pub data Ended (request : Request) (old new : ShelfState) (before after : SinkState) (result : Status) : Type 0 where
  AtRead : result ≡ status.ReadFault → OneUnread (inputs_of request old.held) old new → Changes [] old new → Ended request old new before after result
  Out : result ≡ status.NoMemory → Changes [] old new → Ended request old new before after result
  NotReady : (e : CommandError) → result ≡ status_of e → EndsAtInput (inputs_of request old.held) (status_of e) → (IsTrue old.tells → FirstStop (inputs_of request old.held) old.held e) → Changes [] old new → Ended request old new before after result
  AtDecline : (e : CommandError) → result ≡ status_of e → EndsDeclined request (status_of e) → (IsTrue old.tells → Declines request old.held e) → Changes [] old new → Ended request old new before after result
  AtWrite : result ≡ status.WriteFault → FailsWrite request old new → Ended request old new before after result
  AtLateRead : result ≡ status.ReadFault → OneUnread (inputs_of request old.held) old new → (IsTrue old.tells → HasStopped request (LeftUnread request) old new) → Ended request old new before after result
  LateOut : result ≡ status.NoMemory → (IsTrue old.tells → Changes [] old new ⊎ HasStopped request (LeftOut request) old new) → Ended request old new before after result
  NotSame : result ≡ status.Input → EndsAtInput (inputs_of request old.held) status.Input → ¬ IsTrue old.tells → Ended request old new before after result
  Whole : (end : Option CommandError) → result ≡ ended end → WritesAll request end old new → Ended request old new before after result
  WholeOut : (end : Option CommandError) → result ≡ status.NoMemory → WritesAll request end old new → Ended request old new before after result
  AtPut : result ≡ status.WriteFault → PutsLines request → Rose before.faults after.faults → WritesAll request None old new → Ended request old new before after result

as_status : (P : Status → Type 0) (s t : Status) → s ≡ t → P s → P t
as_status P s t e p = subst P e p

-- ---- from the end to the status that is reported
pub stops_of : {T : Type 0} (request : Request) (old new : ShelfState) (r : Result T CommandError) (e : CommandError) → r ≡ Err e → EndsIn request old new r → StopsBy request old new e
stops_of {T} request old new r e is ends = let P : Result T CommandError → Type 0 = EndsBy request old new in subst P is ends.by

fixed_as : (e f : CommandError) → e ≡ f → IsFixed f → IsFixed e
fixed_as e f is fixed = let P : CommandError → Type 0 = IsFixed in subst P (sym is) fixed

pub stop_ended : (request : Request) (old new : ShelfState) (before after : SinkState) (e : CommandError) (result : Status) → StopsBy request old new e → (result ≡ status_of e) ⊎ (result ≡ status.NoMemory) → (IsFixed e → result ≡ status_of e) → Ended request old new before after result
stop_ended request old new before after e result (Unread is u same) reported fixed = AtRead (fixed (fixed_as e error.ReadFault is tt) ∙ ap status_of is) u same
stop_ended request old new before after e result (OutOfMemory is same) (inl r) fixed = Out (r ∙ ap status_of is) same
stop_ended request old new before after e result (OutOfMemory is same) (inr r) fixed = Out r same
stop_ended request old new before after e result (AtInput ends first same) (inl r) fixed = NotReady e r ends first same
stop_ended request old new before after e result (AtInput ends first same) (inr r) fixed = Out r same
stop_ended request old new before after e result (Declined ends declines same) (inl r) fixed = AtDecline e r ends declines same
stop_ended request old new before after e result (Declined ends declines same) (inr r) fixed = Out r same
stop_ended request old new before after e result (Unwritten is f) reported fixed = AtWrite (fixed (fixed_as e error.WriteFault is tt) ∙ ap status_of is) f
stop_ended request old new before after e result (UnreadLate is u stopped) reported fixed = AtLateRead (fixed (fixed_as e error.ReadFault is tt) ∙ ap status_of is) u stopped
stop_ended request old new before after e result (OutLate is stopped) (inl r) fixed = LateOut (r ∙ ap status_of is) stopped
stop_ended request old new before after e result (OutLate is stopped) (inr r) fixed = LateOut r stopped
stop_ended request old new before after e result (AtOther is ends untold) (inl r) fixed = NotSame (r ∙ is) (as_status (EndsAtInput (inputs_of request old.held)) (status_of e) status.Input is ends) untold
stop_ended request old new before after e result (AtOther is ends untold) (inr r) fixed = LateOut r (λ told. absurd (untold told))
stop_ended request old new before after e result (AtEnd w) (inl r) fixed = Whole (Some e) r w
stop_ended request old new before after e result (AtEnd w) (inr r) fixed = WholeOut (Some e) r w

pub reported : (e : CommandError) (result : Status) (old new : SinkState) → SaysWhy e result old new ⊎ SaysWhy error.NoMemory result old new → (result ≡ status_of e) ⊎ (result ≡ status.NoMemory)
reported e result old new (inl w) = inl w.status
reported e result old new (inr w) = inr w.status

-- ---- kinds of statuses
itself_written : (request : Request) (s : Status) → EndsItself request s → AllWritten s
itself_written (AskCompile object verilog chosen) s e = as_status AllWritten status.Done s (sym e) tt
itself_written (AskRun names verilog chosen ifindex) s e = as_status AllWritten status.Done s (sym e) tt
itself_written (AskRef names chosen ifindex) s e = as_status AllWritten status.Done s (sym e) tt
itself_written (AskReport object chosen) s e = as_status AllWritten status.Done s (sym e) tt
itself_written (AskPrepare object output chosen) s e = as_status AllWritten status.Done s (sym e) tt
itself_written (AskDemo seed packets) s e = as_status AllWritten status.Done s (sym e) tt
itself_written (AskSim names verilog chosen ifindex clocks events) s (inl e) = as_status AllWritten status.Done s (sym e) tt
itself_written (AskSim names verilog chosen ifindex clocks events) s (inr (inl e)) = as_status AllWritten status.XValue s (sym e) tt
itself_written (AskSim names verilog chosen ifindex clocks events) s (inr (inr e)) = as_status AllWritten status.Late s (sym e) tt

declined_refused : (request : Request) (s : Status) → EndsDeclined request s → s ≡ status.Refused
declined_refused (AskPrepare object output chosen) s ends = ends
declined_refused request s ends = absurd ends

-- a command that declines an object comes to no end of its own
declined_alone : (request : Request) (held : Holding) (e f : CommandError) (outputs : Outputs) → Declines request held e → ¬ IsOutcome request held (Some f) outputs
declined_alone (AskPrepare object output chosen) held e f outputs declines o = let never : Some f ≡ None = o.0 in absurd cc
declined_alone request held e f outputs declines o = absurd declines

input_unwritten : (s : Status) → IsInputStatus s → ¬ AllWritten s
input_unwritten status.Object i w = w
input_unwritten status.Refused i w = w
input_unwritten status.Input i w = w
input_unwritten s i w = i

written_late : (s : Status) → AllWritten s → ¬ IsEarly s
written_late status.Done w early = early
written_late status.XValue w early = early
written_late status.Late w early = early
written_late s w early = w

loses_input : (request : Request) (old new : ShelfState) (s : Status) → IsInputStatus s → Changes [] old new → Loses s request old new
loses_input request old new status.Object i same = tt
loses_input request old new status.Refused i same = tt
loses_input request old new status.Input i same = same
loses_input request old new s i same = absurd i

loses_written : (request : Request) (old new : ShelfState) (s : Status) → AllWritten s → Loses s request old new
loses_written request old new status.Done w = tt
loses_written request old new status.XValue w = tt
loses_written request old new status.Late w = tt
loses_written request old new s w = absurd w

-- ---- one command that has ended
module _ (request : Request) (old new : ShelfState) (before after : SinkState) (result : Status) where
  -- an input that is not in its form is no end of another kind
  at_input : (e : CommandError) → result ≡ status_of e → EndsAtInput (inputs_of request old.held) (status_of e) → IsInputStatus result
  at_input e r ends = as_status IsInputStatus (status_of e) result (sym r) (ends_input (inputs_of request old.held) (status_of e) (inputs_sound request old.held) ends)

  at_end : (end : Option CommandError) → result ≡ ended end → WritesAll request end old new → AllWritten result
  at_end end r w = as_status AllWritten (ended end) result (sym r) (itself_written request (ended end) w.can)

  at_decline : (e : CommandError) → result ≡ status_of e → EndsDeclined request (status_of e) → result ≡ status.Refused
  at_decline e r ends = r ∙ declined_refused request (status_of e) ends

  outcome_stops : (end : Option CommandError) (outputs : Outputs) (e : CommandError) → IsOutcome request old.held end outputs → ¬ FirstStop (inputs_of request old.held) old.held e
  outcome_stops end outputs e o = ready_stops (inputs_of request old.held) old.held e (inputs_sound request old.held) (outcome_ready request old.held end outputs o)

  pub ended_outcome : Ended request old new before after result → AllWritten result → IsTrue old.tells → EndsAs request result old new
  ended_outcome (AtRead r u same) all told = absurd (as_status AllWritten result status.ReadFault r all)
  ended_outcome (Out r same) all told = absurd (as_status AllWritten result status.NoMemory r all)
  ended_outcome (NotReady e r ends first same) all told = absurd (input_unwritten result (at_input e r ends) all)
  ended_outcome (AtDecline e r ends declines same) all told = absurd (as_status AllWritten result status.Refused (at_decline e r ends) all)
  ended_outcome (AtWrite r f) all told = absurd (as_status AllWritten result status.WriteFault r all)
  ended_outcome (AtLateRead r u stopped) all told = absurd (as_status AllWritten result status.ReadFault r all)
  ended_outcome (LateOut r stopped) all told = absurd (as_status AllWritten result status.NoMemory r all)
  ended_outcome (NotSame r ends untold) all told = absurd (untold told)
  ended_outcome (Whole end r w) all told = record { end = end; status = r; has = w.has told }
  ended_outcome (WholeOut end r w) all told = absurd (as_status AllWritten result status.NoMemory r all)
  ended_outcome (AtPut r puts rose w) all told = absurd (as_status AllWritten result status.WriteFault r all)

  pub ended_complete : Ended request old new before after result → IsTrue old.tells → AreReady (inputs_of request old.held) old.held → ¬ OneRose (names_in (inputs_of request old.held)) old.read_faults new.read_faults → ¬ OneUnwritten request old new before after
      → AllWritten result ⊎ ((result ≡ status.NoMemory) ⊎ HasDeclined request old.held result)
  ended_complete (AtRead r u same) told ready quiet calm = absurd (quiet (unread_rose (inputs_of request old.held) old new u))
  ended_complete (Out r same) told ready quiet calm = inr (inl r)
  ended_complete (NotReady e r ends first same) told ready quiet calm =
      absurd (ready_stops (inputs_of request old.held) old.held e (inputs_sound request old.held) ready (first told))
  ended_complete (AtDecline e r ends declines same) told ready quiet calm = inr (inr (e, declines told, r))
  ended_complete (AtWrite r f) told ready quiet calm = absurd (calm (inl f.rose))
  ended_complete (AtLateRead r u stopped) told ready quiet calm = absurd (quiet (unread_rose (inputs_of request old.held) old new u))
  ended_complete (LateOut r stopped) told ready quiet calm = inr (inl r)
  ended_complete (NotSame r ends untold) told ready quiet calm = absurd (untold told)
  ended_complete (Whole end r w) told ready quiet calm = inl (at_end end r w)
  ended_complete (WholeOut end r w) told ready quiet calm = inr (inl r)
  ended_complete (AtPut r puts rose w) told ready quiet calm = absurd (calm (inr (puts, rose)))

  pub ended_usage : Ended request old new before after result → result ≢ status.Usage
  ended_usage (AtRead r u same) e = let f : status.ReadFault ≡ status.Usage = sym r ∙ e in absurd cc
  ended_usage (Out r same) e = let f : status.NoMemory ≡ status.Usage = sym r ∙ e in absurd cc
  ended_usage (NotReady e' r ends first same) e = as_status IsInputStatus result status.Usage e (at_input e' r ends)
  ended_usage (AtDecline e' r ends declines same) e = let f : status.Refused ≡ status.Usage = sym (at_decline e' r ends) ∙ e in absurd cc
  ended_usage (AtWrite r f) e = let f' : status.WriteFault ≡ status.Usage = sym r ∙ e in absurd cc
  ended_usage (AtLateRead r u stopped) e = let f : status.ReadFault ≡ status.Usage = sym r ∙ e in absurd cc
  ended_usage (LateOut r stopped) e = let f : status.NoMemory ≡ status.Usage = sym r ∙ e in absurd cc
  ended_usage (NotSame r ends untold) e = let f : status.Input ≡ status.Usage = sym r ∙ e in absurd cc
  ended_usage (Whole end r w) e = as_status AllWritten result status.Usage e (at_end end r w)
  ended_usage (WholeOut end r w) e = let f : status.NoMemory ≡ status.Usage = sym r ∙ e in absurd cc
  ended_usage (AtPut r puts rose w) e = let f : status.WriteFault ≡ status.Usage = sym r ∙ e in absurd cc

  pub ended_read : Ended request old new before after result → result ≡ status.ReadFault → OneUnread (inputs_of request old.held) old new
  ended_read (AtRead r u same) e = u
  ended_read (Out r same) e = let f : status.NoMemory ≡ status.ReadFault = sym r ∙ e in absurd cc
  ended_read (NotReady e' r ends first same) e = absurd (as_status IsInputStatus result status.ReadFault e (at_input e' r ends))
  ended_read (AtDecline e' r ends declines same) e = let f : status.Refused ≡ status.ReadFault = sym (at_decline e' r ends) ∙ e in absurd cc
  ended_read (AtWrite r f) e = let f' : status.WriteFault ≡ status.ReadFault = sym r ∙ e in absurd cc
  ended_read (AtLateRead r u stopped) e = u
  ended_read (LateOut r stopped) e = let f : status.NoMemory ≡ status.ReadFault = sym r ∙ e in absurd cc
  ended_read (NotSame r ends untold) e = let f : status.Input ≡ status.ReadFault = sym r ∙ e in absurd cc
  ended_read (Whole end r w) e = absurd (as_status AllWritten result status.ReadFault e (at_end end r w))
  ended_read (WholeOut end r w) e = let f : status.NoMemory ≡ status.ReadFault = sym r ∙ e in absurd cc
  ended_read (AtPut r puts rose w) e = let f : status.WriteFault ≡ status.ReadFault = sym r ∙ e in absurd cc

  pub ended_write : Ended request old new before after result → result ≡ status.WriteFault → OneUnwritten request old new before after
  ended_write (AtRead r u same) e = let f : status.ReadFault ≡ status.WriteFault = sym r ∙ e in absurd cc
  ended_write (Out r same) e = let f : status.NoMemory ≡ status.WriteFault = sym r ∙ e in absurd cc
  ended_write (NotReady e' r ends first same) e = absurd (as_status IsInputStatus result status.WriteFault e (at_input e' r ends))
  ended_write (AtDecline e' r ends declines same) e = let f : status.Refused ≡ status.WriteFault = sym (at_decline e' r ends) ∙ e in absurd cc
  ended_write (AtWrite r f) e = inl f.rose
  ended_write (AtLateRead r u stopped) e = let f : status.ReadFault ≡ status.WriteFault = sym r ∙ e in absurd cc
  ended_write (LateOut r stopped) e = let f : status.NoMemory ≡ status.WriteFault = sym r ∙ e in absurd cc
  ended_write (NotSame r ends untold) e = let f : status.Input ≡ status.WriteFault = sym r ∙ e in absurd cc
  ended_write (Whole end r w) e = absurd (as_status AllWritten result status.WriteFault e (at_end end r w))
  ended_write (WholeOut end r w) e = let f : status.NoMemory ≡ status.WriteFault = sym r ∙ e in absurd cc
  ended_write (AtPut r puts rose w) e = inr (puts, rose)

  pub ended_can : Ended request old new before after result → CanEnd request old.held result
  ended_can (AtRead r u same) = inr (inr (inr (as_status IsFault status.ReadFault result (sym r) tt)))
  ended_can (Out r same) = inr (inr (inr (as_status IsFault status.NoMemory result (sym r) tt)))
  ended_can (NotReady e' r ends first same) = inl (as_status (EndsAtInput (inputs_of request old.held)) (status_of e') result (sym r) ends)
  ended_can (AtDecline e' r ends declines same) = inr (inr (inl (as_status (EndsDeclined request) (status_of e') result (sym r) ends)))
  ended_can (AtWrite r f) = inr (inr (inr (as_status IsFault status.WriteFault result (sym r) tt)))
  ended_can (AtLateRead r u stopped) = inr (inr (inr (as_status IsFault status.ReadFault result (sym r) tt)))
  ended_can (LateOut r stopped) = inr (inr (inr (as_status IsFault status.NoMemory result (sym r) tt)))
  ended_can (NotSame r ends untold) = inl (as_status (EndsAtInput (inputs_of request old.held)) status.Input result (sym r) ends)
  ended_can (Whole end r w) = inr (inl (as_status (EndsItself request) (ended end) result (sym r) w.can))
  ended_can (WholeOut end r w) = inr (inr (inr (as_status IsFault status.NoMemory result (sym r) tt)))
  ended_can (AtPut r puts rose w) = inr (inr (inr (as_status IsFault status.WriteFault result (sym r) tt)))

  pub ended_inputs : Ended request old new before after result → IsTrue old.tells → (e : CommandError) → FirstStop (inputs_of request old.held) old.held e → (result ≡ status_of e) ⊎ ((result ≡ status.ReadFault) ⊎ (result ≡ status.NoMemory))
  ended_inputs (AtRead r u same) told e stop = inr (inl r)
  ended_inputs (Out r same) told e stop = inr (inr r)
  ended_inputs (NotReady e' r ends first same) told e stop =
      inl (r ∙ one_stop (inputs_of request old.held) old.held e' e (inputs_sound request old.held) (first told) stop)
  ended_inputs (AtDecline e' r ends declines same) told e stop = absurd (ready_stops (inputs_of request old.held) old.held e (inputs_sound request old.held) (declined_ready request old.held e' (declines told)) stop)
  ended_inputs (AtWrite r f) told e stop = let b = f.broken told in absurd (outcome_stops b.end b.outputs e b.outcome stop)
  ended_inputs (AtLateRead r u stopped) told e stop = inr (inl r)
  ended_inputs (LateOut r stopped) told e stop = inr (inr r)
  ended_inputs (NotSame r ends untold) told e stop = absurd (untold told)
  ended_inputs (Whole end r w) told e stop = let h = w.has told in absurd (outcome_stops end h.outputs e h.outcome stop)
  ended_inputs (WholeOut end r w) told e stop = inr (inr r)
  ended_inputs (AtPut r puts rose w) told e stop = let h = w.has told in absurd (outcome_stops None h.outputs e h.outcome stop)

  pub ended_driven : HasOneMeaning → Ended request old new before after result → IsTrue old.tells → (e : CommandError) (outputs : Outputs) → IsOutcome request old.held (Some e) outputs → (result ≡ status_of e) ⊎ IsFault result
  ended_driven one (AtRead r u same) told e outputs o = inr (as_status IsFault status.ReadFault result (sym r) tt)
  ended_driven one (Out r same) told e outputs o = inr (as_status IsFault status.NoMemory result (sym r) tt)
  ended_driven one (NotReady e' r ends first same) told e outputs o = absurd (outcome_stops (Some e) outputs e' o (first told))
  ended_driven one (AtDecline e' r ends declines same) told e outputs o = absurd (declined_alone request old.held e' e outputs (declines told) o)
  ended_driven one (AtWrite r f) told e outputs o = inr (as_status IsFault status.WriteFault result (sym r) tt)
  ended_driven one (AtLateRead r u stopped) told e outputs o = inr (as_status IsFault status.ReadFault result (sym r) tt)
  ended_driven one (LateOut r stopped) told e outputs o = inr (as_status IsFault status.NoMemory result (sym r) tt)
  ended_driven one (NotSame r ends untold) told e outputs o = absurd (untold told)
  ended_driven one (Whole end r w) told e outputs o = let h = w.has told in inl (r ∙ ap ended (ends_one request old.held end (Some e) h.outputs outputs one h.outcome o))
  ended_driven one (WholeOut end r w) told e outputs o = inr (as_status IsFault status.NoMemory result (sym r) tt)
  ended_driven one (AtPut r puts rose w) told e outputs o = inr (as_status IsFault status.WriteFault result (sym r) tt)

  pub ended_loses : Ended request old new before after result → IsTrue old.tells → Loses result request old new
  ended_loses (AtRead r u same) told = as_status (λ s. Loses s request old new) status.ReadFault result (sym r) (inl same)
  ended_loses (Out r same) told = as_status (λ s. Loses s request old new) status.NoMemory result (sym r) (inl same)
  ended_loses (NotReady e r ends first same) told = loses_input request old new result (at_input e r ends) same
  ended_loses (AtDecline e r ends declines same) told = as_status (λ s. Loses s request old new) status.Refused result (sym (at_decline e r ends)) tt
  ended_loses (AtWrite r f) told = as_status (λ s. Loses s request old new) status.WriteFault result (sym r) (inl (f.broken told))
  ended_loses (AtLateRead r u stopped) told = as_status (λ s. Loses s request old new) status.ReadFault result (sym r) (inr (stopped told))
  ended_loses (LateOut r stopped) told = as_status (λ s. Loses s request old new) status.NoMemory result (sym r) (elim (stopped told) [ inl same ↦ inl same | inr part ↦ inr (inl part) ])
  ended_loses (NotSame r ends untold) told = absurd (untold told)
  ended_loses (Whole end r w) told = loses_written request old new result (at_end end r w)
  ended_loses (WholeOut end r w) told = as_status (λ s. Loses s request old new) status.NoMemory result (sym r) (inr (inr (end, w.has told)))
  ended_loses (AtPut r puts rose w) told = as_status (λ s. Loses s request old new) status.WriteFault result (sym r) (inr (puts, w.has told))

-- ---- the line that says why
by_as : (e f : CommandError) → e ≡ f → ByInputs (status_of e) → ByInputs (status_of f)
by_as e f is by = let P : CommandError → Type 0 = λ x. ByInputs (status_of x) in subst P is by

pub stops_cause : (request : Request) (old new : ShelfState) (e : CommandError) → StopsBy request old new e → ByInputs (status_of e) → IsTrue old.tells → IsCause request old.held e
stops_cause request old new e (Unread is u same) by told = absurd (by_as e error.ReadFault is by)
stops_cause request old new e (OutOfMemory is same) by told = absurd (by_as e error.NoMemory is by)
stops_cause request old new e (AtInput ends first same) by told = inl (first told)
stops_cause request old new e (Declined ends declines same) by told = inr (inr (declines told))
stops_cause request old new e (Unwritten is f) by told = absurd (by_as e error.WriteFault is by)
stops_cause request old new e (UnreadLate is u stopped) by told = absurd (by_as e error.ReadFault is by)
stops_cause request old new e (OutLate is stopped) by told = absurd (by_as e error.NoMemory is by)
stops_cause request old new e (AtOther is ends untold) by told = absurd (untold told)
stops_cause request old new e (AtEnd w) by told = let h = w.has told in inr (inl (h.outputs, h.outcome))

pub no_inputs : (result : Status) → result ≡ status.NoMemory → ¬ ByInputs result
no_inputs result r by = as_status ByInputs result status.NoMemory r by

-- a line that was put, or not whole
pub put_line : {T E A B C R : Type 0} (r : Result T E) → OnOk r (C → A) → OnErr r (C → B) → OnErr r R → C → A ⊎ (R × B)
put_line (Ok x) a b rose c = inl (a c)
put_line (Err e) a b rose c = inr (rose, b c)

-- ---- usage
-- a command that is asked for does not end so
pub never_usage : (request : Request) (old new : ShelfState) → ¬ StopsBy request old new error.Usage
never_usage request old new stops = ended_usage request old new none none status.Usage (stop_ended request old new none none error.Usage status.Usage stops (inl refl) (λ fixed. refl)) refl
  where
    none : SinkState
    none = record { tells = false; taken = None; faults = 0 }

pub usage_only : (e : CommandError) (result : Status) → (result ≡ status_of e) ⊎ (result ≡ status.NoMemory) → result ≡ status.Usage → e ≡ error.Usage
usage_only e result (inl r) u = usage_error e (sym r ∙ u)
  where
    usage_error : (e : CommandError) → status_of e ≡ status.Usage → e ≡ error.Usage
    usage_error error.Usage u = refl
    usage_error e u = absurd cc
usage_only e result (inr r) u = let f : status.NoMemory ≡ status.Usage = sym r ∙ u in absurd cc

-- ---- early
early_as : (e f : CommandError) → e ≡ f → IsEarly (status_of e) → IsEarly (status_of f)
early_as e f is early = let P : CommandError → Type 0 = λ x. IsEarly (status_of x) in subst P is early

stops_early : (request : Request) (old new : ShelfState) (e : CommandError) → StopsBy request old new e → IsEarly (status_of e) → SameHeld old.held new.held
stops_early request old new e (Unread is u same) early = same_held old new same
stops_early request old new e (OutOfMemory is same) early = same_held old new same
stops_early request old new e (AtInput ends first same) early = same_held old new same
stops_early request old new e (Declined ends declines same) early = same_held old new same
stops_early request old new e (Unwritten is f) early = absurd (early_as e error.WriteFault is early)
stops_early request old new e (UnreadLate is u stopped) early = absurd (early_as e error.ReadFault is early)
stops_early request old new e (OutLate is stopped) early = absurd (early_as e error.NoMemory is early)
stops_early request old new e (AtOther is ends untold) early = absurd (as_status IsEarly (status_of e) status.Input is early)
stops_early request old new e (AtEnd w) early = absurd (written_late (status_of e) (itself_written request (status_of e) w.can) early)

-- before any output was begun all names hold what they held
pub early_of : {T : Type 0} (request : Request) (old new : ShelfState) (r : Result T CommandError) → EndsIn request old new r → IfErr r (λ e. IsEarly (status_of e) → SameHeld old.held new.held)
early_of request old new (Ok u) ends = tt
early_of request old new (Err e) ends = stops_early request old new e ends.by
