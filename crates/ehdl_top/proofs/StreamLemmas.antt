-- What run, sim and ref have in common: which writes were made, how a command ends over others, and that the capture stands where it stood.
use Rattle.std.proofs.Common.{◌≡◌, ℕ, List, [], ◌++◌, Option, Result, Ok, Err, refl, sym, ap, ◌∙◌, subst, inl, inr, append_assoc, append-nil}
use Rattle.pcap_core.specs.Format.{Packet}
use Rattle.pcap_core.specs.Streaming.{Opened}
use Rattle.command_line.specs.Request.{Names}
use Rattle.capture_run.specs.States.{ShelfState, IsLater, Changes}
use Rattle.capture_run.specs.Writes.{Write, AreDone}
use Rattle.capture_run.specs.Captures.{Reading, HoldsCapture, StandsBefore}
use Rattle.capture_run.specs.Results.{head_writes}
use Rattle.capture_run.specs.Runs.{SomeDone, IsApart, result_names}
use Rattle.capture_run.proofs.StateLaws.{changes_then, rose_from, one_rose_from}
use Rattle.capture_run.proofs.WriteLaws.{AreOf, done_both}
use Rattle.ehdl_top.specs.declared.status.Status.{Status}
use Rattle.ehdl_top.specs.declared.error.CommandError.{CommandError}
use Rattle.ehdl_top.specs.Steps.{AreDistinct, EndsOver, IsOver}

-- ---- some of the writes
pub none_done : (ws : List Write) (a b : ShelfState) → Changes [] a b → SomeDone ws a b
none_done ws a b same = record { done = []; rest = ws; all = refl; are = same }

pub all_done : (ws : List Write) (a b : ShelfState) → AreDone ws a b → SomeDone ws a b
all_done ws a b done = record { done = ws; rest = []; all = sym (append-nil ws); are = done }

pub some_after : (ws vs : List Write) (a b c : ShelfState) → AreDone ws a b → SomeDone vs b c → SomeDone (ws ++ vs) a c
some_after ws vs a b c done some = record {
  done = ws ++ some.done;
  rest = some.rest;
  all = ap (λ t. ws ++ t) some.all ∙ sym (append_assoc ws some.done some.rest);
  are = done_both ws some.done a b c done some.are;
}

pub some_before : (ws vs : List Write) (a b : ShelfState) → SomeDone ws a b → SomeDone (ws ++ vs) a b
some_before ws vs a b some = record {
  done = some.done;
  rest = some.rest ++ vs;
  all = ap (λ t. t ++ vs) some.all ∙ append_assoc some.done some.rest vs;
  are = some.are;
}

-- ---- a command that is over
pub ends_then : (Itself : Status → Type 0) (name : List ℕ) (outputs : List (List ℕ)) (e : CommandError) (a b c : ShelfState) → IsLater a b → EndsOver Itself name outputs b c e → EndsOver Itself name outputs a c e
ends_then Itself name outputs e a b c later (inl read) = inl (read.0, rose_from (a.read_faults name) (b.read_faults name) (c.read_faults name) (later.reads.each name) read.1)
ends_then Itself name outputs e a b c later (inr (inl write)) = inr (inl (write.0, one_rose_from outputs a.write_faults b.write_faults c.write_faults later.writes write.1))
ends_then Itself name outputs e a b c later (inr (inr other)) = inr (inr other)

pub over_then : (Itself : Status → Type 0) (name : List ℕ) (outputs : List (List ℕ)) (r : Result (Unit {0}) CommandError) (a b c : ShelfState) → Changes outputs a b → IsOver Itself name outputs r b c → IsOver Itself name outputs r a c
over_then Itself name outputs (Ok u) a b c before over = record { kept = changes_then outputs a b c before over.kept; cause = tt }
over_then Itself name outputs (Err e) a b c before over = record { kept = changes_then outputs a b c before over.kept; cause = ends_then Itself name outputs e a b c before.later over.cause }

-- ---- the names of results
pub apart_of : (names : Names) → AreDistinct names → IsApart names
apart_of names d = record { capture_answer = d.capture_answer; capture_verdicts = d.capture_verdicts; answer_verdicts = d.answer_verdicts }

pub head_of : (names : Names) (magic : ℕ) → AreOf (result_names names) (head_writes names magic)
head_of names magic = (inl refl, (inl refl, (inr (inl refl), tt)))

-- ---- the capture, and its reader, while nothing writes to it
pub holds_still : (opened : Opened) (packets : List Packet) (a b : ShelfState) (name : List ℕ) → b.held name ≡ a.held name → HoldsCapture opened (a.held name) packets → HoldsCapture opened (b.held name) packets
holds_still opened packets a b name same holds = subst (λ (h : Option (List ℕ)). HoldsCapture opened h packets) (sym same) holds

pub stands_still : (opened : Opened) (r : Reading) (packets : List Packet) (a b : ShelfState) (name : List ℕ) → b.held name ≡ a.held name → StandsBefore opened (a.held name) r packets → StandsBefore opened (b.held name) r packets
stands_still opened r packets a b name same stands = subst (λ (h : Option (List ℕ)). StandsBefore opened h r packets) (sym same) stands
