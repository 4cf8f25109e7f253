-- Runs over a capture that end, whatever a shelf tells: what changed, and which fault was counted.
use Rattle.std.proofs.Common.{◌≡◌, ◌⊎◌, ℕ, List, [], Option, Result, Ok, Err, refl, sym, ap, subst, inl, inr}
use Rattle.std.specs.Prelude.{OnOk, IfErr, IsErrOf, IsErrAnd}
use Rattle.beat_core.specs.declared.answer.Answer.{Answer}
use Rattle.pcap_core.specs.Format.{Packet}
use Rattle.pcap_core.specs.Streaming.{Opened}
use Rattle.command_line.specs.Request.{Names}
use Rattle.capture_run.specs.States.{ShelfState, Changes}
use Rattle.capture_run.specs.Writes.{Write, AreDone, OneFailed}
use Rattle.capture_run.specs.Captures.{Reading, StandsBefore}
use Rattle.capture_run.specs.Results.{answer_writes}
use Rattle.capture_run.specs.Runs.{IsRunOver}
use Rattle.capture_run.specs.Driving.{WritesAnswer, run_error}
use Rattle.port_drive.specs.declared.report.DriveError.{DriveError}
use Rattle.port_drive.specs.declared.report.DriveError.TheVariants as drive_error
use Rattle.capture_run.specs.declared.error.RunError.{RunError}
use Rattle.capture_run.specs.declared.error.RunError.TheVariants.{Capture, Unwritten, X, Late, NoMemory}
use Rattle.capture_run.proofs.WriteLaws.{done_from, failed_from}

-- the drive has ended
pub over_stopped : (capture : List ℕ) (outputs : List (List ℕ)) (e : DriveError) (frames : ℕ) (a b : ShelfState) → Changes outputs a b → IsRunOver capture outputs (Err (run_error e frames)) a b
over_stopped capture outputs (drive_error.X x) frames a b kept = record { kept = kept; cause = tt }
over_stopped capture outputs (drive_error.Late answers given clocks) frames a b kept = record { kept = kept; cause = tt }
over_stopped capture outputs drive_error.NoMemory frames a b kept = record { kept = kept; cause = tt }

-- an error that is passed on
pub err_as : (r : Result (Unit {0}) RunError) (e : RunError) → IsErrAnd r (λ x. x ≡ e) → Err e ≡ r
err_as (Ok u) e is = absurd is
err_as (Err x) e is = ap (λ y. Err y) (sym is)

-- ---- an answer was to be written
-- what a call says of it
pub record Puts (result : Result (Unit {0}) RunError) (ws : List Write) (longer : Type 0) (old new : ShelfState) : Type 0 where
  pub done : OnOk result (AreDone ws old new)
  pub failed : IsErrOf result Unwritten → OneFailed ws old new
  pub memory : IsErrOf result NoMemory → longer × (new ≡ old)
  pub errors : IfErr result (λ e. (e ≡ Unwritten) ⊎ (e ≡ NoMemory))

no_other : (e : RunError) → (e ≡ Unwritten → ⊥) → (e ≡ NoMemory → ⊥) → (e ≡ Unwritten) ⊎ (e ≡ NoMemory) → ⊥
no_other e f g (inl u) = f u
no_other e f g (inr m) = g m

module _ (names : Names) (p : Packet) (index : ℕ) (answer : Answer) (longer : Type 0) (a b c : ShelfState) (kept : Changes [] a b) where
  pub put_writes : (result : Result (Unit {0}) RunError) (opened : Opened) (held : Option (List ℕ)) (rest : List Packet) (reader : Reading) → StandsBefore opened held reader rest → Puts result (answer_writes names p index answer) longer b c → WritesAnswer result names opened held p rest reader index answer a c
  put_writes (Ok u) opened held rest reader stands puts = (done_from (answer_writes names p index answer) a b c kept puts.done, stands)
  put_writes (Err Unwritten) opened held rest reader stands puts = failed_from (answer_writes names p index answer) a b c kept (puts.failed refl)
  put_writes (Err NoMemory) opened held rest reader stands puts = let P : ShelfState → Type 0 = λ s. Changes [] a s in subst P (sym (puts.memory refl).1) kept
  put_writes (Err (Capture fault)) opened held rest reader stands puts = absurd (no_other (Capture fault) (λ e. cc) (λ e. cc) puts.errors)
  put_writes (Err (X x)) opened held rest reader stands puts = absurd (no_other (X x) (λ e. cc) (λ e. cc) puts.errors)
  put_writes (Err (Late answers frames)) opened held rest reader stands puts = absurd (no_other (Late answers frames) (λ e. cc) (λ e. cc) puts.errors)
