-- What a clock at the ports adds to what came and was given, where the outputs show what the machine does.
use Rattle.std.specs.Prelude.{◌≡◌, ℕ, suc, ◌+◌, ◌-◌, ◌<◌, ◌==◌, nat_lt, if◌then◌else◌, is_some, Bool, true, false, ◌&&◌, Option, Some, None, List, [], ◌∷◌, ◌++◌, length, min}
use Rattle.std.proofs.Common.{refl, sym, ap, ◌∙◌, subst, arith, length-append}
use Rattle.cell_core.specs.beat_core.declared.beat.Beat.{Beat}
use Rattle.cell_core.specs.beat_core.declared.answer.Answer.{Answer}
use Rattle.cell_core.specs.beat_core.declared.frame.TheConstants.{BEAT_LIMIT}
use Rattle.cell_core.specs.beat_core.Beats.{bytes_of_beat, frame_of, IsOffer}
use Rattle.cell_core.specs.beat_core.Clocks.{AreOffers}
use Rattle.cell_core.specs.beat_core.Ports.{Arrival, arrived, Offered, offered, arrivals_among, Given, given, answers_among}
use Rattle.cell_core.proofs.beat_core_laws.BeatLaws.{IsOffer-eight}
use Rattle.cell_core.proofs.beat_core_laws.WordLaws.{length-low_bytes}
use Rattle.pipe_core.specs.net_core.declared.tree.Word.{Word}
use Rattle.pipe_core.specs.net_core.declared.ports.Inputs.{Inputs}
use Rattle.pipe_core.specs.net_core.declared.ports.TheConstants.{IN_READY, OUT_VALID, OUT_DATA, OUT_BYTES, OUT_LAST, OUT_VERDICT, OUT_TARGET, OUT_RELOAD}
use Rattle.pipe_core.specs.net_core.Value.{bit}
use Rattle.pipe_core.specs.net_core.Trace.{Cycle}
use Rattle.pipe_core.specs.realization.History.{beats_in, offers_in, given_out, open_beats, owed_after}
use Rattle.pipe_net.specs.frame_net.Frames.{position_of}
use Rattle.pipe_core.specs.Machine.{State, Output, Build, inside, some_send, flushed, is_ready, beat_over, came_with, shown_beat, taken_beat, first_answer, output}
use Rattle.pipe_core.specs.History.{came_in, gave_in}
use Rattle.pipe_core.specs.Drive.{ahead}
use Rattle.pipe_core.specs.HostRuns.Inputs.{beat_in, input_of}
use Rattle.pipe_core.proofs.FlushLaws.{fewer_where_sent}
use Rattle.pipe_net.specs.Machine.{ShowsBeat, Shows}
use Rattle.pipe_runs.specs.PipePorts.Ports.{cycle, offers_by, PortsShowClocks}
use Rattle.pipe_runs.proofs.PipePorts.Beats.{frame_append}

reads_bit : (w : Word) (b : Bool) → w ≡ bit b → (w.value == 1) ≡ b
reads_bit w b e = ap (λ (x : Word). x.value == 1) e ∙ by b
  where
    by : (b : Bool) → ((bit b).value == 1) ≡ b
    by true = refl
    by false = refl

-- ---- inwards
offers_case : (ready valid : Bool) (i : Inputs) (os : List Offered) →
    (if ready && valid then offered i.in_ifindex i.in_time (beat_in i) ∷ os else os) ≡ offers_by i (if ready then (if valid then Some (beat_in i) else None) else None) ++ os
offers_case true true i os = refl
offers_case true false i os = refl
offers_case false valid i os = refl

offers_now : (b : Build) (s : State) (i : Inputs) (at : ℕ → Word) → Shows (output b (input_of i) s) at → (ms : List Cycle) → offers_in (cycle i at ∷ ms) ≡ offers_by i (beat_over b s (input_of i)) ++ offers_in ms
unfolding output
offers_now b s i at h ms =
    ap (λ ready. if ready && i.in_valid then offered i.in_ifindex i.in_time (beat_in i) ∷ offers_in ms else offers_in ms) (reads_bit (at IN_READY) (is_ready b s) h.ready)
    ∙ offers_case (is_ready b s) i.in_valid i (offers_in ms)

beats_case : (ready valid : Bool) (x : Beat) (bs : List Beat) → (if ready && valid then x ∷ bs else bs) ≡ ahead (if ready then (if valid then Some x else None) else None) bs
beats_case true true x bs = refl
beats_case true false x bs = refl
beats_case false valid x bs = refl

beats_now : (b : Build) (s : State) (i : Inputs) (at : ℕ → Word) → Shows (output b (input_of i) s) at → (ms : List Cycle) → beats_in (cycle i at ∷ ms) ≡ ahead (beat_over b s (input_of i)) (beats_in ms)
unfolding output
beats_now b s i at h ms =
    ap (λ ready. if ready && i.in_valid then beat_in i ∷ beats_in ms else beats_in ms) (reads_bit (at IN_READY) (is_ready b s) h.ready)
    ∙ beats_case (is_ready b s) i.in_valid (beat_in i) (beats_in ms)

-- what has come of a frame after a clock
abbrev pub part_by : Option Arrival → Inputs → Option Beat → Option Arrival
part_by part i None = part
part_by part i (Some x) = if x.last then None else Some (came_with part (input_of i) x)

pub arrivals_now : (s : State) (i : Inputs) (o : Option Beat) (os : List Offered) → arrivals_among s.part (offers_by i o ++ os) ≡ came_in s (input_of i) o ++ arrivals_among (part_by s.part i o) os
arrivals_now s i None os = refl
arrivals_now s i (Some x) os = by x.last
  where
    by : (last : Bool) →
        (let a : Arrival = arrived s.part (offered i.in_ifindex i.in_time x) in
        (if last then a ∷ arrivals_among None os else arrivals_among (Some a) os) ≡ (if last then a ∷ [] else []) ++ arrivals_among (if last then None else Some a) os)
    by true = refl
    by false = refl

-- ---- well-formed offers
pub offer_now : (n : ℕ) (o : Option Beat) (bs : List Beat) → AreOffers n (ahead o bs) → (x : Beat) → o ≡ Some x → IsOffer x × (n < BEAT_LIMIT)
offer_now n None bs h x e = absurd cc
offer_now n (Some y) bs h x e = subst (λ (z : Beat). IsOffer z × (n < BEAT_LIMIT)) (some_same y x e) (h.0, h.1)
  where
    some_same : (y x : Beat) → Some y ≡ Some x → y ≡ x
    some_same y x e = cc

one_more : (part : Option Arrival) (i : Inputs) (x : Beat) → x.bytes ≡ 8 → position_of (Some (came_with part (input_of i) x)) ≡ suc (position_of part)
one_more None i x e = let n = length-low_bytes (min x.bytes 8) x.word in omega (arith, n, e)
one_more (Some a) i x e = let n = length-low_bytes (min x.bytes 8) x.word in omega (arith, n, e, length-append a.frame (bytes_of_beat x))

pub offers_then : (part : Option Arrival) (i : Inputs) (o : Option Beat) (bs : List Beat) → AreOffers (position_of part) (ahead o bs) → AreOffers (position_of (part_by part i o)) bs
offers_then part i None bs h = h
offers_then part i (Some x) bs h = by x.last refl h.2
  where
    by : (last : Bool) → x.last ≡ last → AreOffers (if last then 0 else suc (position_of part)) bs → AreOffers (position_of (if last then None else Some (came_with part (input_of i) x))) bs
    by true e more = more
    by false e more = subst (λ n. AreOffers n bs) (sym (one_more part i x (IsOffer-eight x h.0 e))) more

-- ---- outwards
abbrev pub gives_by : Output → Option Beat → List Given
gives_by o None = []
gives_by o (Some x) = given o.verdict o.target x ∷ []

abbrev pub shown_at : (ℕ → Word) → Beat
shown_at at = record { word = (at OUT_DATA).value; bytes = (at OUT_BYTES).value; last = (at OUT_LAST).value == 1 }

same_beat : (o : Output) (x : Beat) (at : ℕ → Word) → ShowsBeat o x at → shown_at at ≡ x
same_beat o x at h =
    let w = ap (λ (v : Word). v.value) h.content in
    let n = ap (λ (v : Word). v.value) h.bytes in
    let l = reads_bit (at OUT_LAST) x.last h.last in
    λ j. record { word = w j; bytes = n j; last = l j }

gives_case : (take : Bool) (o : Output) (e : Option Beat) (at : ℕ → Word) (gs : List Given) → ((x : Beat) → e ≡ Some x → ShowsBeat o x at) →
    (if is_some e && take then given (at OUT_VERDICT).value (at OUT_TARGET).value (shown_at at) ∷ gs else gs) ≡ gives_by o (if take then e else None) ++ gs
gives_case true o None at gs h = refl
gives_case false o None at gs h = refl
gives_case false o (Some x) at gs h = refl
gives_case true o (Some x) at gs h =
    let q = h x refl in
    let v = ap (λ (w : Word). w.value) q.verdict in
    let t = ap (λ (w : Word). w.value) q.target in
    let x' = same_beat o x at q in
    λ j. given (v j) (t j) (x' j) ∷ gs

pub gives_now : (b : Build) (s : State) (i : Inputs) (at : ℕ → Word) → Shows (output b (input_of i) s) at → (ms : List Cycle) →
    given_out (cycle i at ∷ ms) ≡ gives_by (output b (input_of i) s) (taken_beat s (input_of i)) ++ given_out ms
unfolding output
gives_now b s i at h ms =
    ap (λ valid. if valid && i.out_ready then given (at OUT_VERDICT).value (at OUT_TARGET).value (shown_at at) ∷ given_out ms else given_out ms) (reads_bit (at OUT_VALID) (is_some (shown_beat s)) h.valid)
    ∙ gives_case i.out_ready (output b (input_of i) s) (shown_beat s) at (given_out ms) h.beat

-- the beats of an answer that are given, after a clock
abbrev pub begun_by : List Beat → Option Beat → List Beat
begun_by before None = before
begun_by before (Some x) = if x.last then [] else before ++ x ∷ []

open_case : (take : Bool) (o : Output) (e : Option Beat) (at : ℕ → Word) (before : List Beat) (ms : List Cycle) → ((x : Beat) → e ≡ Some x → ShowsBeat o x at) →
    (if is_some e && take then (if (shown_at at).last then open_beats [] ms else open_beats (before ++ shown_at at ∷ []) ms) else open_beats before ms) ≡ open_beats (begun_by before (if take then e else None)) ms
open_case true o None at before ms h = refl
open_case false o None at before ms h = refl
open_case false o (Some x) at before ms h = refl
open_case true o (Some x) at before ms h =
    ap (λ (y : Beat). if y.last then open_beats [] ms else open_beats (before ++ y ∷ []) ms) (same_beat o x at (h x refl)) ∙ by x.last
  where
    by : (last : Bool) → (if last then open_beats [] ms else open_beats (before ++ x ∷ []) ms) ≡ open_beats (if last then [] else before ++ x ∷ []) ms
    by true = refl
    by false = refl

pub open_now : (b : Build) (s : State) (i : Inputs) (at : ℕ → Word) → Shows (output b (input_of i) s) at → (before : List Beat) (ms : List Cycle) →
    open_beats before (cycle i at ∷ ms) ≡ open_beats (begun_by before (taken_beat s (input_of i))) ms
unfolding output
open_now b s i at h before ms =
    ap (λ valid. if valid && i.out_ready then (if (shown_at at).last then open_beats [] ms else open_beats (before ++ shown_at at ∷ []) ms) else open_beats before ms) (reads_bit (at OUT_VALID) (is_some (shown_beat s)) h.valid)
    ∙ open_case i.out_ready (output b (input_of i) s) (shown_beat s) at before ms h.beat

-- With a last beat the first answer is given.
pub answers_now : (s : State) (o : Output) (before : List Beat) (e : Option Beat) (gs : List Given) → o.verdict ≡ (first_answer s.answers).verdict → o.target ≡ (first_answer s.answers).target →
    ((x : Beat) → e ≡ Some x → x.last ≡ true → frame_of before ++ bytes_of_beat x ≡ (first_answer s.answers).frame) →
    answers_among (frame_of before) (gives_by o e ++ gs) ≡ gave_in s.answers e ++ answers_among (frame_of (begun_by before e)) gs
answers_now s o before None gs v t whole = refl
answers_now s o before (Some x) gs v t whole = by x.last refl
  where
    by : (last : Bool) → x.last ≡ last →
        (if last then record { verdict = o.verdict; target = o.target; frame = frame_of before ++ bytes_of_beat x } ∷ answers_among [] gs else answers_among (frame_of before ++ bytes_of_beat x) gs)
        ≡ (if last then first_answer s.answers ∷ [] else []) ++ answers_among (frame_of (if last then [] else before ++ x ∷ [])) gs
    by true q = let f = whole x refl q in λ j. record { verdict = v j; target = t j; frame = f j } ∷ answers_among [] gs
    by false q = ap (λ xs. answers_among xs gs) (sym (frame_append before x))

-- ---- a clock
ready_now : (b : Build) (s : State) (i : Inputs) (at : ℕ → Word) → Shows (output b (input_of i) s) at → ((at IN_READY).value == 1) ≡ is_ready b s
unfolding output
ready_now b s i at h = reads_bit (at IN_READY) (is_ready b s) h.ready

owes_case : (take : Bool) (o : Output) (e : Option Beat) (at : ℕ → Word) (answers : List Answer) (owed : ℕ) → ((x : Beat) → e ≡ Some x → ShowsBeat o x at) →
    length (gave_in answers (if take then e else None)) + (if (is_some e && take) && (shown_at at).last then owed else suc owed) ≡ suc owed
owes_case true o None at answers owed h = omega arith
owes_case false o None at answers owed h = omega arith
owes_case false o (Some x) at answers owed h = omega arith
owes_case true o (Some x) at answers owed h =
    ap (λ (y : Beat). length (if x.last then first_answer answers ∷ [] else []) + (if y.last then owed else suc owed)) (same_beat o x at (h x refl)) ∙ by x.last
  where
    by : (last : Bool) → length (if last then first_answer answers ∷ [] else []) + (if last then owed else suc owed) ≡ suc owed
    by true = omega arith
    by false = omega arith

owes_now : (b : Build) (s : State) (i : Inputs) (at : ℕ → Word) → Shows (output b (input_of i) s) at → (owed : ℕ) →
    length (gave_in s.answers (taken_beat s (input_of i))) + owed_after (cycle i at) (suc owed) ≡ suc owed
unfolding output
owes_now b s i at h owed =
    ap (λ valid. length (gave_in s.answers (taken_beat s (input_of i))) + (if (valid && i.out_ready) && (shown_at at).last then owed else suc owed)) (reads_bit (at OUT_VALID) (is_some (shown_beat s)) h.valid)
    ∙ owes_case i.out_ready (output b (input_of i) s) (shown_beat s) at s.answers owed h.beat

sent_now : (b : Build) (s : State) (i : Inputs) (at : ℕ → Word) → Shows (output b (input_of i) s) at → ((at OUT_RELOAD).value == 1) ≡ some_send b 0 s.places
unfolding output
sent_now b s i at h = reads_bit (at OUT_RELOAD) (nat_lt 0 (inside s.places - inside (flushed b 0 s.places))) h.reload ∙ fewer_where_sent b s.places

pub ports_show_clocks : PortsShowClocks
ports_show_clocks b s i at h = record { ready = ready_now b s i at h; offers = offers_now b s i at h; beats = beats_now b s i at h; sent = sent_now b s i at h; owes = owes_now b s i at h }
