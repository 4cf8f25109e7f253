-- The beats of frames and answers at the ports of a design.
use Rattle.std.proofs.Common.{◌≡◌, ℕ, zero, suc, ◌+◌, ◌-◌, ◌*◌, ◌<◌, ◌≤◌, true, false, List, [], ◌∷◌, ◌++◌, length, take, drop, map, Some, None, refl, ap, ◌∙◌, arith, append_assoc, length-drop}
use Rattle.std.specs.Prelude.{nat_le}
use Rattle.std.specs.List.{flat_map, AllByRecursion}
use Rattle.std.proofs.lemmas.List.{take_all, take-append-drop}
use Rattle.std.proofs.lemmas.Bool.{lt-leb, le-leb}
use Rattle.beat_core.specs.Beats.{bytes_of_beat, first_beat, first_beats, beat_count, beats_of}
use Rattle.beat_core.specs.Ports.{Offered, Arrival, offered, offers_of, arrivals_among, Given, given, answers_among}
use Rattle.beat_core.specs.declared.frame.Timed.{Timed}
use Rattle.beat_core.specs.declared.answer.Answer.{Answer}
use Rattle.beat_core.specs.Laws.{HasFrame, IsPacket, arrival_of}
use Rattle.beat_core.proofs.BeatLaws.{bytes_of_beat-first_beat}
use Rattle.list_laws.specs.Bytes.{IsBytes}
use Rattle.list_laws.proofs.ByteLaws.{IsBytes-drop}

-- the bytes of a last beat, and of one before
last_bytes : (xs : List ℕ) → IsBytes xs → length xs ≤ 8 → bytes_of_beat (first_beat xs) ≡ xs
last_bytes xs h fits = bytes_of_beat-first_beat xs h ∙ take_all 8 xs fits

joined : (so_far xs : List ℕ) → (so_far ++ take 8 xs) ++ drop 8 xs ≡ so_far ++ xs
joined so_far xs =
    append_assoc so_far (take 8 xs) (drop 8 xs) ∙ ap (λ (r : List ℕ). so_far ++ r) (take-append-drop 8 xs)

-- ---- frames that are offered

abbrev arrival : ℕ → ℕ → List ℕ → Arrival
arrival ifindex time xs = record { ifindex = ifindex; time = time; frame = xs }

arrives_on : (m ifindex time : ℕ) (so_far xs : List ℕ) (rest : List Offered) → IsBytes xs → 8 * m < length xs → length xs ≤ 8 * m + 8 → arrivals_among (Some (arrival ifindex time so_far)) (map (offered ifindex time) (first_beats (suc m) xs) ++ rest) ≡ arrival ifindex time (so_far ++ xs) ∷ arrivals_among None rest
unfolding first_beats
arrives_on zero ifindex time so_far xs rest h some fits =
    let last : nat_le (length xs) 8 ≡ true = le-leb (length xs) 8 (omega arith) in
    rw (last, last_bytes xs h (omega arith)) refl
arrives_on (suc m) ifindex time so_far xs rest h some fits =
    let on : nat_le (length xs) 8 ≡ false = lt-leb (length xs) 8 (omega arith) in
    let later = arrives_on m ifindex time (so_far ++ take 8 xs) (drop 8 xs) rest (IsBytes-drop 8 xs h) (omega (arith, length-drop 8 xs)) (omega (arith, length-drop 8 xs)) in
    rw (on, bytes_of_beat-first_beat xs h) (later ∙ ap (λ (f : List ℕ). arrival ifindex time f ∷ arrivals_among None rest) (joined so_far xs))

arrives : (m ifindex time : ℕ) (xs : List ℕ) (rest : List Offered) → IsBytes xs → 8 * m < length xs → length xs ≤ 8 * m + 8 → arrivals_among None (map (offered ifindex time) (first_beats (suc m) xs) ++ rest) ≡ arrival ifindex time xs ∷ arrivals_among None rest
unfolding first_beats
arrives zero ifindex time xs rest h some fits =
    let last : nat_le (length xs) 8 ≡ true = le-leb (length xs) 8 (omega arith) in
    rw (last, last_bytes xs h (omega arith)) refl
arrives (suc m) ifindex time xs rest h some fits =
    let on : nat_le (length xs) 8 ≡ false = lt-leb (length xs) 8 (omega arith) in
    let later = arrives_on m ifindex time (take 8 xs) (drop 8 xs) rest (IsBytes-drop 8 xs h) (omega (arith, length-drop 8 xs)) (omega (arith, length-drop 8 xs)) in
    rw (on, bytes_of_beat-first_beat xs h) (later ∙ ap (λ (f : List ℕ). arrival ifindex time f ∷ arrivals_among None rest) (take-append-drop 8 xs))

frame-arrives : (ifindex : ℕ) (p : Timed) (rest : List Offered) → IsPacket p → arrivals_among None (offers_of ifindex p ++ rest) ≡ arrival_of ifindex p ∷ arrivals_among None rest
unfolding beats_of
frame-arrives ifindex p rest h =
    let m = beat_count (length p.frame) - 1 in
    let more : beat_count (length p.frame) ≡ suc m = omega (arith, h.some) in
    rw more (arrives m ifindex p.time p.frame rest h.bytes (omega (arith, h.some)) (omega (arith, h.some)))

pub frames-arrive : (ifindex : ℕ) (packets : List Timed) → AllByRecursion IsPacket packets → arrivals_among None (flat_map (offers_of ifindex) packets) ≡ map (arrival_of ifindex) packets
frames-arrive ifindex [] h = refl
frames-arrive ifindex (p ∷ packets) h =
    frame-arrives ifindex p (flat_map (offers_of ifindex) packets) h.0 ∙ ap (λ (r : List Arrival). arrival_of ifindex p ∷ r) (frames-arrive ifindex packets h.1)

-- ---- answers that are given

abbrev answer : ℕ → ℕ → List ℕ → Answer
answer verdict target xs = record { verdict = verdict; target = target; frame = xs }

gives : (m verdict target : ℕ) (so_far xs : List ℕ) (rest : List Given) → IsBytes xs → 8 * m < length xs → length xs ≤ 8 * m + 8 → answers_among so_far (map (given verdict target) (first_beats (suc m) xs) ++ rest) ≡ answer verdict target (so_far ++ xs) ∷ answers_among [] rest
unfolding first_beats
gives zero verdict target so_far xs rest h some fits =
    let last : nat_le (length xs) 8 ≡ true = le-leb (length xs) 8 (omega arith) in
    rw (last, last_bytes xs h (omega arith)) refl
gives (suc m) verdict target so_far xs rest h some fits =
    let on : nat_le (length xs) 8 ≡ false = lt-leb (length xs) 8 (omega arith) in
    let later = gives m verdict target (so_far ++ take 8 xs) (drop 8 xs) rest (IsBytes-drop 8 xs h) (omega (arith, length-drop 8 xs)) (omega (arith, length-drop 8 xs)) in
    rw (on, bytes_of_beat-first_beat xs h) (later ∙ ap (λ (f : List ℕ). answer verdict target f ∷ answers_among [] rest) (joined so_far xs))

answer-given : (r : Answer) (rest : List Given) → HasFrame r → answers_among [] (map (given r.verdict r.target) (beats_of r.frame) ++ rest) ≡ r ∷ answers_among [] rest
unfolding beats_of
answer-given r rest h =
    let m = beat_count (length r.frame) - 1 in
    let more : beat_count (length r.frame) ≡ suc m = omega (arith, h.some) in
    rw more (gives m r.verdict r.target [] r.frame rest h.bytes (omega (arith, h.some)) (omega (arith, h.some)))

pub answers-given : (answers : List Answer) → AllByRecursion HasFrame answers → answers_among [] (flat_map (λ r. map (given r.verdict r.target) (beats_of r.frame)) answers) ≡ answers
answers-given [] h = refl
answers-given (r ∷ answers) h =
    let rest = flat_map (λ (r' : Answer). map (given r'.verdict r'.target) (beats_of r'.frame)) answers in
    answer-given r rest h.0 ∙ ap (λ (rs : List Answer). r ∷ rs) (answers-given answers h.1)
