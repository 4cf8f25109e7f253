-- How a run over a capture ends, by what was read and written of one packet.
use Rattle.std.proofs.Common.{◌≡◌, ◌⊎◌, ℕ, List, [], ◌∷◌, ◌++◌, Result, Ok, Err, OnOk, IsErrOf, IsErrAnd, IfErr, refl, sym, ◌∙◌, ap, subst, inl, inr, append_assoc}
use Rattle.shelf_core.specs.Shelf.{Rose}
use Rattle.beat_core.specs.declared.answer.Answer.{Answer}
use Rattle.pcap_core.specs.Format.{Packet}
use Rattle.command_line.specs.Request.{Names}
use Rattle.capture_run.specs.States.{ShelfState, IsLater, Changes}
use Rattle.capture_run.specs.Writes.{Write, AreDone, OneFailed}
use Rattle.capture_run.specs.Results.{answer_writes}
use Rattle.capture_run.specs.Runs.{SomeDone, EndsFor, IsRunOver, result_names, AnswersOut}
use Rattle.capture_run.specs.declared.records.CaptureError.{CaptureError}
use Rattle.capture_run.specs.declared.records.CaptureError.TheVariants.{Failed, TooLong, Fault}
use Rattle.capture_run.specs.declared.error.RunError.{RunError}
use Rattle.capture_run.specs.declared.error.RunError.TheVariants.{Capture, Unwritten, X, Late, NoMemory}
use Rattle.capture_run.proofs.StateLaws.{rose_from, one_rose_from, changes_then, changes_within}
use Rattle.capture_run.proofs.WriteLaws.{AreOf, done_from, failed_from, done_both, failed_before, failed_after, done_changes, failed_changes, failed_rose}

-- ---- one after the other
cause_then : (capture : List ℕ) (outputs : List (List ℕ)) (e : RunError) (a b c : ShelfState) → IsLater a b → EndsFor capture outputs e b c → EndsFor capture outputs e a c
cause_then capture outputs (Capture Failed) a b c later rose = rose_from (a.read_faults capture) (b.read_faults capture) (c.read_faults capture) (later.reads.each capture) rose
cause_then capture outputs Unwritten a b c later rose = one_rose_from outputs a.write_faults b.write_faults c.write_faults later.writes rose
cause_then capture outputs e a b c later u = tt

pub over_then : (capture : List ℕ) (outputs : List (List ℕ)) (result : Result (Unit {0}) RunError) (a b c : ShelfState) → Changes outputs a b → IsRunOver capture outputs result b c → IsRunOver capture outputs result a c
over_then capture outputs (Ok u) a b c before over = record { kept = changes_then outputs a b c before over.kept; cause = tt }
over_then capture outputs (Err e) a b c before over = record { kept = changes_then outputs a b c before over.kept; cause = cause_then capture outputs e a b c before.later over.cause }

some_from : (ws : List Write) (a b c : ShelfState) → Changes [] a b → SomeDone ws b c → SomeDone ws a c
some_from ws a b c same some = record { done = some.done; rest = some.rest; all = some.all; are = done_from some.done a b c same some.are }

pub out_from : (result : Result (Unit {0}) RunError) (ws : List Write) (left : Type 0) (a b c : ShelfState) → Changes [] a b → AnswersOut result ws left b c → AnswersOut result ws left a c
out_from (Ok u) ws left a b c same out = (out.0, done_from ws a b c same out.1)
out_from (Err Unwritten) ws left a b c same out = failed_from ws a b c same out
out_from (Err (Capture Failed)) ws left a b c same out = some_from ws a b c same out
out_from (Err e) ws left a b c same out = absurd out

-- ---- a read that failed
pub read_over : {T : Type 0} (capture : List ℕ) (outputs : List (List ℕ)) (c : CaptureError) (a b : ShelfState) → (IsErrOf {T = T} (Err c) Failed → Rose (a.read_faults capture) (b.read_faults capture)) → Changes [] a b
    → IsRunOver capture outputs (Err (Capture c)) a b
read_over capture outputs Failed a b rose same = record { kept = changes_within outputs a b same; cause = rose refl }
read_over capture outputs TooLong a b rose same = record { kept = changes_within outputs a b same; cause = tt }
read_over capture outputs (Fault f) a b rose same = record { kept = changes_within outputs a b same; cause = tt }

pub read_out : (ws : List Write) (left : Type 0) (c : CaptureError) (a b : ShelfState) → c ≡ Failed → Changes [] a b → AnswersOut (Err (Capture c)) ws left a b
read_out ws left c a b e same = subst (λ (x : CaptureError). AnswersOut (Err (Capture x)) ws left a b) (sym e) (record { done = []; rest = ws; all = refl; are = same })

-- ---- the writes of one answer
writes_of : (names : Names) (p : Packet) (i : ℕ) (r : Answer) → AreOf (result_names names) (answer_writes names p i r)
writes_of names p i r = (inl refl, (inr (inl refl), tt))

-- no error but these two
abbrev pub IsWriteError : RunError → Type 0
IsWriteError e = (e ≡ Unwritten) ⊎ (e ≡ NoMemory)

no_capture : (c : CaptureError) → ¬ IsWriteError (Capture c)
no_capture c (inl e) = cc
no_capture c (inr e) = cc

module _ (names : Names) (p : Packet) (i : ℕ) (r : Answer) where
  pub put_over : (result : Result (Unit {0}) RunError) (old new : ShelfState) → OnOk result (AreDone (answer_writes names p i r) old new) → (IsErrOf result Unwritten → OneFailed (answer_writes names p i r) old new) → (IsErrOf result NoMemory → ⊥) → IfErr result IsWriteError
      → IsRunOver names.capture (result_names names) result old new
  put_over (Ok u) old new done failed room which = record { kept = done_changes (result_names names) (answer_writes names p i r) old new (writes_of names p i r) done; cause = tt }
  put_over (Err Unwritten) old new done failed room which = record {
    kept = failed_changes (result_names names) (answer_writes names p i r) old new (writes_of names p i r) (failed refl);
    cause = failed_rose (result_names names) (answer_writes names p i r) old new (writes_of names p i r) (failed refl);
  }
  put_over (Err NoMemory) old new done failed room which = absurd (room refl)
  put_over (Err (Capture c)) old new done failed room which = absurd (no_capture c which)
  put_over (Err (X x)) old new done failed room which = absurd (elim which [ inl e ↦ cc | inr e ↦ cc ])
  put_over (Err (Late a f)) old new done failed room which = absurd (elim which [ inl e ↦ cc | inr e ↦ cc ])

  pub put_out : (left : Type 0) (result : Result (Unit {0}) RunError) (old new : ShelfState) → left → OnOk result (AreDone (answer_writes names p i r) old new) → (IsErrOf result Unwritten → OneFailed (answer_writes names p i r) old new) → (IsErrOf result NoMemory → ⊥) → IfErr result IsWriteError
      → AnswersOut result (answer_writes names p i r) left old new
  put_out left (Ok u) old new is done failed room which = (is, done)
  put_out left (Err Unwritten) old new is done failed room which = failed refl
  put_out left (Err NoMemory) old new is done failed room which = absurd (room refl)
  put_out left (Err (Capture c)) old new is done failed room which = absurd (no_capture c which)
  put_out left (Err (X x)) old new is done failed room which = absurd (elim which [ inl e ↦ cc | inr e ↦ cc ])
  put_out left (Err (Late a f)) old new is done failed room which = absurd (elim which [ inl e ↦ cc | inr e ↦ cc ])

-- ---- some of more writes
regroup : (ws done rest more : List Write) → (ws ++ (done ++ rest)) ++ more ≡ (ws ++ done) ++ (rest ++ more)
regroup ws done rest more = simp append_assoc

some_part : (ws vs more all : List Write) (a b c : ShelfState) → all ≡ (ws ++ vs) ++ more → AreDone ws a b → SomeDone vs b c → SomeDone all a c
some_part ws vs more all a b c e done some = record {
  done = ws ++ some.done;
  rest = some.rest ++ more;
  all = e ∙ ap (λ (t : List Write). (ws ++ t) ++ more) some.all ∙ regroup ws some.done some.rest more;
  are = done_both ws some.done a b c done some.are;
}

-- after the writes of the answers before it
pub ends_out : (e : RunError) (ws vs more all : List Write) (left last : Type 0) (a b c : ShelfState) → all ≡ (ws ++ vs) ++ more → AreDone ws a b → AnswersOut (Err e) vs left b c → AnswersOut (Err e) all last a c
ends_out Unwritten ws vs more all left last a b c is done out = subst (λ (t : List Write). OneFailed t a c) (sym is) (failed_before (ws ++ vs) more a c (failed_after ws vs a b c done out))
ends_out (Capture Failed) ws vs more all left last a b c is done out = some_part ws vs more all a b c is done out
ends_out e ws vs more all left last a b c is done out = absurd out

-- ---- what the exit of a `?` returns
pub as_capture : (result : Result (Unit {0}) RunError) (c : CaptureError) → IsErrAnd result (λ e. e ≡ Capture c) → result ≡ Err (Capture c)
as_capture (Ok u) c is = absurd is
as_capture (Err e) c is = ap Err is

pub as_error : (result : Result (Unit {0}) RunError) (e : RunError) → IsErrAnd result (λ f. f ≡ e) → result ≡ Err e
as_error (Ok u) e is = absurd is
as_error (Err f) e is = ap Err is

pub on_ok : {T E P : Type 0} (result : Result T E) → P → OnOk result P
on_ok (Ok x) p = p
on_ok (Err e) p = tt
