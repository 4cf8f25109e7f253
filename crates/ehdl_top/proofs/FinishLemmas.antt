-- What is known of a command whose lines, or the line that says why, were put.
use Rattle.std.proofs.Common.{◌≡◌, ◌≢◌, ◌⊎◌, ℕ, IsTrue, List, [], None, Result, Ok, Err, IfOk, IfErr, IsErrOf, refl, ◌∙◌, ap, sym, subst, inl, inr, arith}
use Rattle.std.specs.declared.vec.Vec.{Vec}
use Rattle.std.specs.declared.alloc.Global.{Global}
use Rattle.shelf_core.specs.Shelf.{SameHeld}
use Rattle.shelf_core.proofs.PrefixLaws.{rose_within}
use Rattle.command_line.specs.Request.{Request, AskReport, AskPrepare, AskDemo}
use Rattle.command_line.specs.AsksFor.{AsksFor}
use Rattle.ehdl_top.specs.declared.status.Status.{Status}
use Rattle.ehdl_top.specs.declared.status.Status.TheVariants as status
use Rattle.ehdl_top.specs.declared.error.CommandError.{CommandError}
use Rattle.ehdl_top.specs.declared.error.CommandError.TheVariants as error
use Rattle.ehdl_top.specs.Status.{status_of}
use Rattle.capture_run.specs.States.{ShelfState, SinkState}
use Rattle.ehdl_top.specs.Requests.{PutsLines, AreLines, IsCause}
use Rattle.ehdl_top.specs.Ends.{ByInputs, IsEarly, SaysWhy, AreLinesOf, ArePut, SaysLast}
use Rattle.ehdl_top.specs.Steps.{EndsIn, IsFinished}
use Rattle.ehdl_top.proofs.CauseLemmas.{Ended, Whole, AtPut, stop_ended, stops_cause, no_inputs, reported, usage_only}

abbrev End : Type 0
End = Result (Vec (List ℕ) Global) CommandError

-- a command that puts none has none
puts_lines : (request : Request) (old new : ShelfState) (lines : List (List ℕ)) → AreLines request old new lines → lines ≢ [] → PutsLines request
puts_lines request old new lines are some = go request are
  where
    go : (request : Request) → AreLines request old new lines → PutsLines request
    go (AskReport object chosen) are = tt
    go (AskPrepare object output chosen) are = tt
    go (AskDemo seed packets) are = tt
    go request are = absurd (some are)

-- those of the words are those of what they ask for
pub lines_of : (words : List (List ℕ)) (old new : ShelfState) (r : End) (request : Request) → AsksFor words request → IfOk r (λ lines. AreLinesOf words old new lines.items) → IfOk r (λ lines. AreLines request old new lines.items)
lines_of words old new (Ok lines) request asks are = are request asks
lines_of words old new (Err e) request asks are = tt

pub lines_asked : (words : List (List ℕ)) (old new : ShelfState) (asked : Request) (r : End) → ((request : Request) → AsksFor words request → asked ≡ request) → IfOk r (λ lines. AreLines asked old new lines.items) → IfOk r (λ lines. AreLinesOf words old new lines.items)
lines_asked words old new asked (Ok lines) same are = λ request asks. subst (λ (a : Request). AreLines a old new lines.items) (same request asks) are
lines_asked words old new asked (Err e) same are = tt

-- ---- statuses
abbrev IsStopped : Status → Type 0
IsStopped status.Done = ⊥
IsStopped s = Unit {0}

stopped : (e : CommandError) → IsStopped (status_of e)
stopped error.Usage = tt
stopped e = tt

as_status : (P : Status → Type 0) (s t : Status) → s ≡ t → P s → P t
as_status P s t e p = subst P e p

never_done : (e : CommandError) (result : Status) → (result ≡ status_of e) ⊎ (result ≡ status.NoMemory) → result ≢ status.Done
never_done e result (inl r) done = as_status IsStopped (status_of e) status.Done (sym r ∙ done) (stopped e)
never_done e result (inr r) done = as_status IsStopped status.NoMemory status.Done (sym r ∙ done) tt

-- ---- words that ask for nothing
error_in : (e : CommandError) (r : End) → r ≡ Err e → IsErrOf r error.Usage ⊎ IsErrOf r error.NoMemory → (e ≡ error.Usage) ⊎ (e ≡ error.NoMemory)
error_in e r is (inl usage) = inl cc
error_in e r is (inr memory) = inr cc

unread_said : (e : CommandError) (result : Status) → (e ≡ error.Usage) ⊎ (e ≡ error.NoMemory) → (result ≡ status_of e) ⊎ (result ≡ status.NoMemory) → (result ≡ status.Usage) ⊎ (result ≡ status.NoMemory)
unread_said e result (inl is) (inl r) = inl (r ∙ ap status_of is)
unread_said e result (inr is) (inl r) = inr (r ∙ ap status_of is)
unread_said e result is (inr r) = inr r

no_error : {P : Type 0} (lines : Vec (List ℕ) Global) (e : CommandError) (r : End) → r ≡ Ok lines → IsErrOf r e → P
no_error lines e r is err = absurd cc

-- ---- how the command has ended
pub finished_ended : (request : Request) (old new : ShelfState) (before after : SinkState) (result : Status) (r : End) → EndsIn request old new r → IfOk r (λ lines. AreLines request old new lines.items) → IsFinished r result before after → Ended request old new before after result
finished_ended request old new before after result (Ok lines) ends are (inl done) = Whole None done.0 ends.by
finished_ended request old new before after result (Ok lines) ends are (inr cut) =
    AtPut cut.status (puts_lines request old new lines.items are cut.cut.some) (rose_within before.faults before.faults cut.mid.faults after.faults (omega arith) cut.cut.rose cut.later.faults) ends.by
finished_ended request old new before after result (Err e) ends are said = stop_ended request old new before after e result ends.by (reported e result before after said.0) said.1

module _ (words : List (List ℕ)) (old new : ShelfState) (before after : SinkState) (result : Status) where
  -- the lines were put
  pub finished_put : (r : End) → IfOk r (λ lines. AreLinesOf words old new lines.items) → IsFinished r result before after → result ≡ status.Done → (lines : List (List ℕ)) × AreLinesOf words old new lines × ArePut lines before after
  finished_put (Ok lines) are (inl done) e = (lines.items, are, done.1)
  finished_put (Ok lines) are (inr cut) e = let f : status.WriteFault ≡ status.Done = sym cut.status ∙ e in absurd cc
  finished_put (Err e') are said e = absurd (never_done e' result (reported e' result before after said.0) e)

  -- and of most commands there are none
  pub finished_silent : (r : End) (request : Request) (P : Type 0) → IfOk r (λ lines. AreLinesOf words old new lines.items) → IsFinished r result before after → IfOk r (λ lines. lines.items ≡ [] → P) → result ≡ status.Done → AsksFor words request → ¬ PutsLines request → P
  finished_silent (Ok lines) request P are said silent e asks none = silent (no_lines request (are request asks) none)
    where
      no_lines : (request : Request) → AreLines request old new lines.items → ¬ PutsLines request → lines.items ≡ []
      no_lines (AskReport object chosen) are none = absurd (none tt)
      no_lines (AskPrepare object output chosen) are none = absurd (none tt)
      no_lines (AskDemo seed packets) are none = absurd (none tt)
      no_lines request are none = are
  finished_silent (Err e') request P are said silent e asks none = absurd (never_done e' result (reported e' result before after said.0) e)

  -- else a line says why
  pub finished_why : (r : End) → IfOk r (λ lines. AreLinesOf words old new lines.items) → ((request : Request) → AsksFor words request → EndsIn request old new r) → IsFinished r result before after → result ≢ status.Done
      → (e : CommandError) × SaysLast words old new e result before after × (ByInputs result → IsTrue old.tells → (request : Request) → AsksFor words request → IsCause request old.held e)
  finished_why (Ok lines) are ends (inl done) not = absurd (not done.0)
  finished_why (Ok lines) are ends (inr cut) not = (
    error.WriteFault,
    record { before = cut.mid; behind = inr (refl, lines.items, are, cut.cut); why = cut.why },
    λ by. absurd (as_status ByInputs result status.WriteFault cut.status by),
  )
  finished_why (Err e) are ends said not = why_said said.0
    where
      why_said : SaysWhy e result before after ⊎ SaysWhy error.NoMemory result before after
          → (f : CommandError) × SaysLast words old new f result before after × (ByInputs result → IsTrue old.tells → (request : Request) → AsksFor words request → IsCause request old.held f)
      why_said (inl w) = (
        e,
        record { before = before; behind = inl refl; why = w },
        λ by told request asks. stops_cause request old new e (ends request asks).by (as_status ByInputs result (status_of e) w.status by) told,
      )
      why_said (inr w) = (error.NoMemory, record { before = before; behind = inl refl; why = w }, λ by. absurd (no_inputs result w.status by))

  -- ---- words that ask for nothing
  pub finished_usage : (r : End) (P : Type 0) → (IsErrOf r error.Usage → P) → IsFinished r result before after → result ≡ status.Usage → P
  finished_usage (Ok lines) P only (inl done) e = let f : status.Done ≡ status.Usage = sym done.0 ∙ e in absurd cc
  finished_usage (Ok lines) P only (inr cut) e = let f : status.WriteFault ≡ status.Usage = sym cut.status ∙ e in absurd cc
  finished_usage (Err e') P only said e = only (ap Err (usage_only e' result (reported e' result before after said.0) e))

  pub finished_unread : (r : End) → IsErrOf r error.Usage ⊎ IsErrOf r error.NoMemory → IsFinished r result before after → (result ≡ status.Usage) ⊎ (result ≡ status.NoMemory)
  finished_unread (Ok lines) (inl is) said = no_error lines error.Usage (Ok lines) refl is
  finished_unread (Ok lines) (inr is) said = no_error lines error.NoMemory (Ok lines) refl is
  finished_unread (Err e) unread said = unread_said e result (error_in e (Err e) refl unread) (reported e result before after said.0)

  -- ---- before any output was begun
  pub finished_early : (r : End) → IfErr r (λ e. IsEarly (status_of e) → SameHeld old.held new.held) → IsFinished r result before after → IsEarly result → SameHeld old.held new.held
  finished_early (Ok lines) same (inl done) early = absurd (as_status IsEarly result status.Done done.0 early)
  finished_early (Ok lines) same (inr cut) early = absurd (as_status IsEarly result status.WriteFault cut.status early)
  finished_early (Err e) same said early = early_said (reported e result before after said.0)
    where
      early_said : (result ≡ status_of e) ⊎ (result ≡ status.NoMemory) → SameHeld old.held new.held
      early_said (inl r) = same (as_status IsEarly result (status_of e) r early)
      early_said (inr r) = absurd (as_status IsEarly result status.NoMemory r early)
