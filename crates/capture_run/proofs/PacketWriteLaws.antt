-- What is written of a capture's answers, packet by packet.
use Rattle.std.proofs.Common.{◌≡◌, ℕ, zero, suc, ◌+◌, ◌≤◌, List, [], ◌∷◌, ◌++◌, length, get_or, refl, sym, ap, ◌∙◌, subst, arith, append_assoc, append-nil}
use Rattle.std.proofs.lemmas.List.{length-append, get_or_append_left, get_or_at}
use Rattle.beat_core.specs.declared.answer.Answer.{Answer}
use Rattle.pcap_core.specs.Format.{Packet}
use Rattle.port_drive.specs.Reports.{GivesFirst}
use Rattle.command_line.specs.Request.{Names}
use Rattle.capture_run.specs.States.{ShelfState, Changes}
use Rattle.capture_run.specs.Writes.{Write, AreDone, OneFailed}
use Rattle.capture_run.specs.Results.{no_packet, no_answer, answer_writes, packet_writes}
use Rattle.capture_run.specs.Runs.{SomeDone}
use Rattle.capture_run.proofs.StateLaws.{changes_then}
use Rattle.capture_run.proofs.WriteLaws.{failed_before, done_both, failed_after}

-- ---- the packets one after the other
-- answers that come later change nothing
packet_writes_front : (names : Names) (packets : List Packet) (some rest : List Answer) (n : ℕ) → n ≤ length some → packet_writes names packets (some ++ rest) n ≡ packet_writes names packets some n
packet_writes_front names packets some rest zero le = refl
packet_writes_front names packets some rest (suc n) le =
    ap (λ ws. ws ++ answer_writes names (get_or packets n no_packet) n (get_or (some ++ rest) n no_answer)) (packet_writes_front names packets some rest n (omega arith))
    ∙ ap (λ a. packet_writes names packets some n ++ answer_writes names (get_or packets n no_packet) n a) (get_or_append_left some rest no_answer n (omega arith))

-- the writes of more packets begin with those of fewer
record GoesOn (first all : List Write) : Type 0 where
  more : List Write
  is : all ≡ first ++ more

packet_writes_more : (names : Names) (packets : List Packet) (answers : List Answer) (n k : ℕ) → GoesOn (packet_writes names packets answers n) (packet_writes names packets answers (k + n))
packet_writes_more names packets answers n zero =
    let same : 0 + n ≡ n = omega arith in
    record { more = []; is = ap (λ j. packet_writes names packets answers j) same ∙ sym (append-nil (packet_writes names packets answers n)) }
packet_writes_more names packets answers n (suc k) =
    let m = packet_writes_more names packets answers n k in
    let last = answer_writes names (get_or packets (k + n) no_packet) (k + n) (get_or answers (k + n) no_answer) in
    let one : suc k + n ≡ suc (k + n) = omega arith in
    record {
      more = m.more ++ last;
      is = ap (λ j. packet_writes names packets answers j) one ∙ ap (λ ws. ws ++ last) m.is ∙ append_assoc (packet_writes names packets answers n) m.more last;
    }

packet_writes_whole : (names : Names) (packets : List Packet) (some all : List Answer) → GivesFirst [] some all → GoesOn (packet_writes names packets some (length some)) (packet_writes names packets all (length all))
packet_writes_whole names packets some all g =
    let whole : some ++ g.rest ≡ all = ap (λ l. l ++ g.rest) g.given ∙ g.first in
    let count : length all ≡ length g.rest + length some = omega (arith, ap (λ (l : List Answer). length l) whole, length-append some g.rest) in
    let m = packet_writes_more names packets all (length some) (length g.rest) in
    let front : packet_writes names packets all (length some) ≡ packet_writes names packets some (length some) =
    ap (λ l. packet_writes names packets l (length some)) (sym whole) ∙ packet_writes_front names packets some g.rest (length some) (omega arith) in
    record { more = m.more; is = ap (λ j. packet_writes names packets all j) count ∙ m.is ∙ ap (λ ws. ws ++ m.more) front }

-- those of one answer more
pub packet_writes_next : (names : Names) (packets : List Packet) (answers : List Answer) (answer : Answer) (p : Packet) → get_or packets (length answers) no_packet ≡ p
    → packet_writes names packets (answers ++ answer ∷ []) (length (answers ++ answer ∷ [])) ≡ packet_writes names packets answers (length answers) ++ answer_writes names p (length answers) answer
packet_writes_next names packets answers answer p at =
    let n = length answers in
    let one : length (answers ++ answer ∷ []) ≡ suc n = omega (arith, length-append answers (answer ∷ [])) in
    ap (λ j. packet_writes names packets (answers ++ answer ∷ []) j) one
    ∙ ap (λ ws. ws ++ answer_writes names (get_or packets n no_packet) n (get_or (answers ++ answer ∷ []) n no_answer)) (packet_writes_front names packets answers (answer ∷ []) n (omega arith))
    ∙ ap (λ a. packet_writes names packets answers n ++ answer_writes names (get_or packets n no_packet) n a) (get_or_at answers answer [] no_answer n refl)
    ∙ ap (λ q. packet_writes names packets answers n ++ answer_writes names q n answer) at

-- ---- what was done of them

-- no more was written
pub done_still : (ws : List Write) (a b c : ShelfState) → AreDone ws a b → Changes [] b c → AreDone ws a c
done_still [] a b c done same = changes_then [] a b c done same
done_still (w ∷ ws) a b c done same = (done.0, done.1, done_still ws done.0 b c done.2 same)

pub some_done : (names : Names) (packets : List Packet) (some all : List Answer) (a b : ShelfState) → GivesFirst [] some all → AreDone (packet_writes names packets some (length some)) a b → SomeDone (packet_writes names packets all (length all)) a b
some_done names packets some all a b g done =
    let m = packet_writes_whole names packets some all g in
    record { done = packet_writes names packets some (length some); rest = m.more; all = m.is; are = done }

pub next_done : (names : Names) (packets : List Packet) (answers : List Answer) (answer : Answer) (p : Packet) (a b c : ShelfState) → get_or packets (length answers) no_packet ≡ p
    → AreDone (packet_writes names packets answers (length answers)) a b → AreDone (answer_writes names p (length answers) answer) b c → AreDone (packet_writes names packets (answers ++ answer ∷ []) (length (answers ++ answer ∷ []))) a c
next_done names packets answers answer p a b c at done next =
    let P : List Write → Type 0 = λ ws. AreDone ws a c in
    subst P (sym (packet_writes_next names packets answers answer p at)) (done_both (packet_writes names packets answers (length answers)) (answer_writes names p (length answers) answer) a b c done next)

pub next_failed : (names : Names) (packets : List Packet) (answers all : List Answer) (answer : Answer) (p : Packet) (a b c : ShelfState) → get_or packets (length answers) no_packet ≡ p → GivesFirst [] (answers ++ answer ∷ []) all
    → AreDone (packet_writes names packets answers (length answers)) a b → OneFailed (answer_writes names p (length answers) answer) b c → OneFailed (packet_writes names packets all (length all)) a c
next_failed names packets answers all answer p a b c at g done failed =
    let P : List Write → Type 0 = λ ws. OneFailed ws a c in
    let m = packet_writes_whole names packets (answers ++ answer ∷ []) all g in
    let here = failed_after (packet_writes names packets answers (length answers)) (answer_writes names p (length answers) answer) a b c done failed in
    subst P (sym m.is) (failed_before (packet_writes names packets (answers ++ answer ∷ []) (length (answers ++ answer ∷ []))) m.more a c (subst P (sym (packet_writes_next names packets answers answer p at)) here))
