-- How a command ends, by the step at which it does.
use Rattle.std.proofs.Common.{◌≡◌, ℕ, Bool, IsTrue, List, [], ◌∷◌, ◌++◌, Option, Some, None, Result, Ok, Err, IsErrAnd, ◌⊎◌, refl, sym, ap, subst, inl, inr}
use Rattle.xdp_maps.specs.declared.decl.MapDecl.{MapDecl}
use Rattle.command_line.specs.Request.{Request}
use Rattle.ehdl_top.specs.declared.error.CommandError.{CommandError}
use Rattle.ehdl_top.specs.declared.error.CommandError.TheVariants as error
use Rattle.ehdl_top.specs.declared.status.Status.{Status}
use Rattle.ehdl_top.specs.declared.status.Status.TheVariants as status
use Rattle.ehdl_top.specs.Status.{ended, status_of}
use Rattle.capture_run.specs.States.{ShelfState, Changes, OneRose}
use Rattle.capture_run.specs.Writes.{Write, AreDone, OneFailed}
use Rattle.ehdl_top.specs.Forms.{InputForm, IsReady, IsFaulty, maps_form, capture_form}
use Rattle.ehdl_top.specs.Inputs.{Input, input, may_input, AreReady, FirstStop, OneUnread, EndsAtInput}
use Rattle.ehdl_top.specs.Requests.{inputs_of, outputs_of, Declines, EndsDeclined, EndsItself}
use Rattle.ehdl_top.specs.Ends.{HasStopped, LeftUnread, LeftOut}
use Rattle.ehdl_top.specs.Steps.{IsRead, IsUnread, AreUnread, FailsWrite, WritesAll, GoesOut, EndsOver, IsOver, StopsBy, Unread, AtInput, OutOfMemory, Declined, Unwritten, UnreadLate, OutLate, AtOther, AtEnd, EndsIn, AreOneEnd}
use Rattle.capture_run.proofs.StateLaws.{changes_none, changes_then, changes_within, rose_from, one_rose_from, tells_later}
use Rattle.ehdl_top.proofs.InputLemmas.{unread_behind, stop_behind, ends_behind}
use Rattle.capture_run.proofs.WriteLaws.{AreOf, done_changes, failed_changes}
use Rattle.ehdl_top.proofs.OutcomeLemmas.{Makes, was_held, writes_all, fails_write, broken_write, stopped_part}

-- memory ran out before anything was read
pub out_of_memory : {T : Type 0} (request : Request) (s : ShelfState) → EndsIn {T = T} request s s (Err error.NoMemory)
out_of_memory request s = record { by = OutOfMemory refl (changes_none s); kept = changes_within (outputs_of request) s s (changes_none s) }

-- an object that was read is declined, and nothing was written
pub ends_declined : {T : Type 0} (request : Request) (old new : ShelfState) (e : CommandError) → EndsDeclined request (status_of e) → (IsTrue old.tells → Declines request old.held e) → Changes [] old new → EndsIn {T = T} request old new (Err e)
ends_declined request old new e ends declines same = record { by = Declined ends declines same; kept = changes_within (outputs_of request) old new same }

-- ---- an input that was not read
-- what was read from a later state, in which nothing has changed, is in its form
pub was_ready : (form : InputForm) (name : List ℕ) (a b : ShelfState) (bytes : List ℕ) → Changes [] a b → IsRead form name b bytes → IsTrue a.tells → IsReady form (a.held name)
was_ready form name a b bytes same read told = was_held form.limit name a b bytes form.Fits same read.there read.within read.fits told

module _ (request : Request) (old mid new : ShelfState) (e : CommandError) (kept : Changes [] old mid) (same : Changes [] mid new) where
  stops_unread : (before : List Input) (i : Input) (after : List Input) → inputs_of request old.held ≡ before ++ i ∷ after → (IsTrue old.tells → AreReady before old.held) → IsUnread i.form i.name mid new e → StopsBy request old new e
  stops_unread before i after are ready (inl fault) =
      let P : List Input → Type 0 = λ is. OneUnread is old new in
      Unread fault.0 (subst P (sym are) (unread_behind before i after old new ready (rose_from (old.read_faults i.name) (mid.read_faults i.name) (new.read_faults i.name) (kept.later.reads.each i.name) fault.1)))
      (changes_then [] old mid new kept same)
  stops_unread before i after are ready (inr (inl memory)) = OutOfMemory memory (changes_then [] old mid new kept same)
  stops_unread before i after are ready (inr (inr stop)) =
      let P : List Input → Type 0 = λ is. EndsAtInput is (status_of e) in
      let Q : List Input → Type 0 = λ is. FirstStop is old.held e in
      let R : Option (List ℕ) → Type 0 = λ held. IsFaulty i.form held e in
      AtInput (subst P (sym are) (ends_behind before i after (status_of e) stop.0))
      (λ told. subst Q (sym are) (stop_behind before i after old.held e (ready told) (subst R (kept.others i.name tt) (stop.1 (tells_later old mid kept.later told)))))
      (changes_then [] old mid new kept same)

  ends_stopped : {T : Type 0} (r : Result T CommandError) → IsErrAnd r (λ f. f ≡ e) → StopsBy request old new e → EndsIn request old new r
  ends_stopped (Ok u) is stops = absurd is
  ends_stopped (Err f) is stops =
      let P : CommandError → Type 0 = StopsBy request old new in
      record { by = subst P (sym is) stops; kept = changes_within (outputs_of request) old new (changes_then [] old mid new kept same) }

  -- memory ran out after what was read
  pub ends_out : {T : Type 0} (r : Result T CommandError) → IsErrAnd r (λ f. f ≡ e) → e ≡ error.NoMemory → EndsIn request old new r
  ends_out r is memory = ends_stopped r is (OutOfMemory memory (changes_then [] old mid new kept same))

  pub ends_unread : {T : Type 0} (r : Result T CommandError) (before : List Input) (i : Input) (after : List Input) → IsErrAnd r (λ f. f ≡ e) → inputs_of request old.held ≡ before ++ i ∷ after → (IsTrue old.tells → AreReady before old.held)
      → IsUnread i.form i.name mid new e → EndsIn request old new r
  ends_unread r before i after is are ready unread = ends_stopped r is (stops_unread before i after are ready unread)

  -- the maps that the object declares, which the shelf may not tell
  unread_as : (name : List ℕ) (decls of_held : List MapDecl) → (IsTrue old.tells → of_held ≡ decls) → IsUnread (maps_form decls) name mid new e → IsUnread (maps_form of_held) name mid new e
  unread_as name decls of_held declared (inl fault) = inl fault
  unread_as name decls of_held declared (inr (inl memory)) = inr (inl memory)
  unread_as name decls of_held declared (inr (inr stop)) =
      let P : List MapDecl → Type 0 = λ ds. IsFaulty (maps_form ds) (mid.held name) e in
      let Q : Bool → Type 0 = λ t. IsTrue t in
      inr (inr (stop.0, λ told. subst P (sym (declared (subst Q kept.later.tells told))) (stop.1 told)))

  stops_mapless : (before after : List Input) (name : Option (List ℕ)) (decls of_held : List MapDecl) → inputs_of request old.held ≡ before ++ (may_input name (maps_form of_held) ++ after) → (IsTrue old.tells → AreReady before old.held) → (IsTrue old.tells → of_held ≡ decls)
      → AreUnread name decls mid new e → StopsBy request old new e
  stops_mapless before after (Some name) decls of_held are ready declared unread = stops_unread before (input name (maps_form of_held)) after are ready (unread_as name decls of_held declared unread)
  stops_mapless before after None decls of_held are ready declared unread = OutOfMemory unread (changes_then [] old mid new kept same)

  pub ends_mapless : (r : Result (Unit {0}) CommandError) (before after : List Input) (name : Option (List ℕ)) (decls of_held : List MapDecl) → IsErrAnd r (λ f. f ≡ e) → inputs_of request old.held ≡ before ++ (may_input name (maps_form of_held) ++ after)
      → (IsTrue old.tells → AreReady before old.held) → (IsTrue old.tells → of_held ≡ decls) → AreUnread name decls mid new e → EndsIn request old new r
  ends_mapless r before after name decls of_held is are ready declared unread = ends_stopped r is (stops_mapless before after name decls of_held are ready declared unread)

-- ---- what is written
-- a write failed
pub ends_unwritten : {T : Type 0} (request : Request) (end : Option CommandError) (old mid new : ShelfState) (ws : List Write) (r : Result T CommandError) → IsErrAnd r (λ e. e ≡ error.WriteFault) → AreOf (outputs_of request) ws → Changes [] old mid
    → (IsTrue old.tells → Makes request old.held end ws) → OneFailed ws mid new → EndsIn request old new r
ends_unwritten request end old mid new ws (Ok u) is of same makes failed = absurd is
ends_unwritten request end old mid new ws (Err e) is of same makes failed = record {
  by = Unwritten is (fails_write request end old mid new ws of same makes failed);
  kept = changes_then (outputs_of request) old mid new (changes_within (outputs_of request) old mid same) (failed_changes (outputs_of request) ws mid new of failed);
}

-- all was written
pub ends_done : (request : Request) (old mid new : ShelfState) (ws : List Write) → EndsItself request (ended None) → AreOf (outputs_of request) ws → Changes [] old mid
    → (IsTrue old.tells → Makes request old.held None ws) → AreDone ws mid new → EndsIn {T = Unit {0}} request old new (Ok tt)
ends_done request old mid new ws can of same makes done = record {
  by = writes_all request None old mid new ws can same makes done;
  kept = changes_then (outputs_of request) old mid new (changes_within (outputs_of request) old mid same) (done_changes (outputs_of request) ws mid new of done);
}

-- ---- a command that reads its capture again while it writes
-- neither a fault nor want of memory
abbrev pub IsPlainEnd : Status → Type 0
IsPlainEnd status.ReadFault = ⊥
IsPlainEnd status.WriteFault = ⊥
IsPlainEnd status.NoMemory = ⊥
IsPlainEnd s = Unit {0}

-- whose kind of end is none that an input is why for, nor a fault
pub record IsOwnEnd (request : Request) (Itself : Status → Type 0) : Type 0 where
  pub done : EndsItself request status.Done
  pub other : (s : Status) → Itself s → EndsItself request s
  pub plain : (s : Status) → Itself s → IsPlainEnd s
  pub no_input : ¬ Itself status.Input
  pub reads : (rest : List Write) → LeftUnread request rest

-- how its writes went, where the shelf tells
pub record IsToldOut (request : Request) (Itself : Status → Type 0) (old mid new : ShelfState) (r : Result (Unit {0}) CommandError) : Type 0 where
  pub end : Option CommandError
  pub ws : List Write
  pub makes : Makes request old.held end ws
  pub out : GoesOut Itself (LeftOut request) r end ws mid new

module _ (request : Request) (Itself : Status → Type 0) (own : IsOwnEnd request Itself) (old mid new : ShelfState) (same : Changes [] old mid) where
  done_out : (r : Result (Unit {0}) CommandError) → r ≡ Ok tt → (IsTrue old.tells → IsToldOut request Itself old mid new r) → WritesAll request None old new
  done_out r is told = record {
    can = own.done;
    has = λ t.
        let h = told t in
        let P : Result (Unit {0}) CommandError → Type 0 = λ q. GoesOut Itself (LeftOut request) q h.end h.ws mid new in
        let o = subst P is h.out in
        let Q : Option CommandError → Type 0 = λ end. Makes request old.held end h.ws in
        (writes_all request None old mid new h.ws own.done same (λ _. subst Q o.0 h.makes) o.1).has t;
  }

  written_out : (r : Result (Unit {0}) CommandError) → r ≡ Err error.WriteFault → OneRose (outputs_of request) mid.write_faults new.write_faults → (IsTrue old.tells → IsToldOut request Itself old mid new r) → FailsWrite request old new
  written_out r is rose told = record {
    rose = one_rose_from (outputs_of request) old.write_faults mid.write_faults new.write_faults same.later.writes rose;
    broken = λ t.
        let h = told t in
        let P : Result (Unit {0}) CommandError → Type 0 = λ q. GoesOut Itself (LeftOut request) q h.end h.ws mid new in
        broken_write request h.end old mid new h.ws same t h.makes (subst P is h.out);
  }

  unread_out : (r : Result (Unit {0}) CommandError) → r ≡ Err error.ReadFault → (IsTrue old.tells → IsToldOut request Itself old mid new r) → IsTrue old.tells → HasStopped request (LeftUnread request) old new
  unread_out r is told t =
      let h = told t in
      let P : Result (Unit {0}) CommandError → Type 0 = λ q. GoesOut Itself (LeftOut request) q h.end h.ws mid new in
      let s = subst P is h.out in
      stopped_part request h.end (LeftUnread request) old mid new h.ws s.done s.rest same t h.makes s.all (own.reads s.rest) s.are

  memory_out : (r : Result (Unit {0}) CommandError) → r ≡ Err error.NoMemory → (IsTrue old.tells → IsToldOut request Itself old mid new r) → IsTrue old.tells → Changes [] old new ⊎ HasStopped request (LeftOut request) old new
  memory_out r is told t =
      let h = told t in
      let P : Result (Unit {0}) CommandError → Type 0 = λ q. GoesOut Itself (LeftOut request) q h.end h.ws mid new in
      elim (subst P is h.out) [
        | inl none ↦ inl (changes_then [] old mid new same none)
        | inr s ↦ inr (stopped_part request h.end (LeftOut request) old mid new h.ws s.done s.rest same t h.makes s.all s.left s.are)
      ]

  -- an end that is neither a fault nor want of memory is its own, where the shelf tells
  own_out : (e : CommandError) (end : Option CommandError) (ws : List Write) → IsPlainEnd (status_of e) → GoesOut Itself (LeftOut request) (Err e) end ws mid new → (end ≡ Some e) × Itself (status_of e) × AreDone ws mid new
  own_out error.WriteFault end ws plain out = absurd plain
  own_out error.ReadFault end ws plain out = absurd plain
  own_out error.NoMemory end ws plain out = absurd plain
  own_out error.Usage end ws plain out = out
  own_out (error.Object x) end ws plain out = out
  own_out (error.Refused x) end ws plain out = out
  own_out error.LongVerilog end ws plain out = out
  own_out (error.Verilog x) end ws plain out = out
  own_out error.LongMaps end ws plain out = out
  own_out (error.Maps x) end ws plain out = out
  own_out error.LongCapture end ws plain out = out
  own_out (error.Capture x) end ws plain out = out
  own_out (error.XValue x) end ws plain out = out
  own_out (error.Late x y) end ws plain out = out

  itself_out : (e : CommandError) → IsPlainEnd (status_of e) → Itself (status_of e) → (IsTrue old.tells → IsToldOut request Itself old mid new (Err e)) → WritesAll request (Some e) old new
  itself_out e plain itself told = record {
    can = own.other (status_of e) itself;
    has = λ t.
        let h = told t in
        let o = own_out e h.end h.ws plain h.out in
        let Q : Option CommandError → Type 0 = λ end. Makes request old.held end h.ws in
        (writes_all request (Some e) old mid new h.ws (own.other (status_of e) itself) same (λ _. subst Q o.0 h.makes) o.2).has t;
  }

  -- another capture, which a shelf that tells does not hold
  other_out : (e : CommandError) → status_of e ≡ status.Input → (IsTrue old.tells → IsToldOut request Itself old mid new (Err e)) → ¬ IsTrue old.tells
  other_out e is told t =
      let h = told t in
      let P : Status → Type 0 = IsPlainEnd in
      let o = own_out e h.end h.ws (subst P (sym is) tt) h.out in
      own.no_input (subst Itself is o.1)

  -- whatever it comes to
  pub ends_over : (r : Result (Unit {0}) CommandError) (before : List Input) (capture : List ℕ) → inputs_of request old.held ≡ before ++ input capture capture_form ∷ [] → (IsTrue old.tells → AreReady before old.held)
      → (IsTrue old.tells → IsToldOut request Itself old mid new r) → IsOver Itself capture (outputs_of request) r mid new → EndsIn request old new r
  ends_over (Ok u) before capture are ready told over = record {
    by = done_out (Ok tt) refl told;
    kept = changes_then (outputs_of request) old mid new (changes_within (outputs_of request) old mid same) over.kept;
  }
  ends_over (Err e) before capture are ready told over = record {
    by = by_cause over.cause;
    kept = changes_then (outputs_of request) old mid new (changes_within (outputs_of request) old mid same) over.kept;
  }
    where
      by_cause : EndsOver Itself capture (outputs_of request) mid new e → StopsBy request old new e
      by_cause (inl x) =
          let P : List Input → Type 0 = λ is. OneUnread is old new in
          UnreadLate x.0 (subst P (sym are) (unread_behind before (input capture capture_form) [] old new ready (rose_from (old.read_faults capture) (mid.read_faults capture) (new.read_faults capture) (same.later.reads.each capture) x.1)))
          (unread_out (Err e) (ap Err x.0) told)
      by_cause (inr (inl x)) = Unwritten x.0 (written_out (Err e) (ap Err x.0) x.1 told)
      by_cause (inr (inr (inl is))) = OutLate is (memory_out (Err e) (ap Err is) told)
      by_cause (inr (inr (inr (inl is)))) =
          let P : List Input → Type 0 = λ inputs. EndsAtInput inputs (status_of e) in
          AtOther is (subst P (sym are) (ends_behind before (input capture capture_form) [] (status_of e) is)) (other_out e is told)
      by_cause (inr (inr (inr (inr itself)))) = AtEnd (itself_out e (own.plain (status_of e) itself) itself told)

-- ---- the same end
pub ends_as : {T U : Type 0} (request : Request) (old new : ShelfState) (r : Result T CommandError) (s : Result U CommandError) → AreOneEnd r s → EndsIn request old new r → EndsIn request old new s
ends_as request old new (Ok x) (Ok y) same ends = record { by = ends.by; kept = ends.kept }
ends_as request old new (Err e) (Err f) same ends = let P : CommandError → Type 0 = StopsBy request old new in record { by = subst P same ends.by; kept = ends.kept }
ends_as request old new (Ok x) (Err f) same ends = absurd same
ends_as request old new (Err e) (Ok y) same ends = absurd same
