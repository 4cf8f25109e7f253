-- Frames that are offered one after the other come in their order.
use Rattle.std.proofs.Common.{◌≡◌, ℕ, zero, suc, ◌+◌, ◌-◌, ◌*◌, ◌<◌, ◌≤◌, min, Bool, true, false, if◌then◌else◌, List, [], ◌∷◌, ◌++◌, length, take, drop, get_or, Option, Some, None, refl, sym, ap, subst, ◌∙◌, arith, append_assoc, length-append, length-drop}
use Rattle.std.specs.Prelude.{nat_le}
use Rattle.std.specs.Option.{option_map_or, ForSome}
use Rattle.std.specs.List.{flat_map, AllByRecursion}
use Rattle.std.proofs.lemmas.List.{take_all, take-append-drop, drop_more}
use Rattle.std.proofs.lemmas.Bool.{lt-leb, le-leb}
use Rattle.beat_core.specs.declared.beat.Beat.{Beat}
use Rattle.beat_core.specs.declared.frame.TheConstants.{FRAME_LIMIT, BEAT_LIMIT}
use Rattle.beat_core.specs.Beats.{bytes_of_beat, first_beat, first_beats, beat_count, beats_of, IsOffer}
use Rattle.beat_core.specs.Clocks.{Gathered, begun, gathered, after_clock, went_over, frames_among, AreOffers}
use Rattle.beat_core.specs.Laws.{IsFrame}
use Rattle.beat_core.proofs.WordLaws.{length-low_bytes}
use Rattle.beat_core.proofs.BeatLaws.{bytes_of_beat-first_beat, IsOffer-count, IsOffer-eight}
use Rattle.list_laws.specs.Bytes.{IsBytes}
use Rattle.list_laws.proofs.ByteLaws.{IsBytes-drop}

-- ---- the beats of one frame before others

offers-first_beats : (m n : ℕ) (xs : List ℕ) (rest : List Beat) → 8 * m < length xs → length xs ≤ 8 * m + 8 → n + m < BEAT_LIMIT → AreOffers 0 rest → AreOffers n (first_beats (suc m) xs ++ rest)
unfolding first_beats
offers-first_beats zero n xs rest some fits room others =
    let last : nat_le (length xs) 8 ≡ true = le-leb (length xs) 8 (omega arith) in
    let offer : IsOffer (first_beat xs) = rw last (omega arith, omega arith) in
    (offer, omega arith, rw last others)
offers-first_beats (suc m) n xs rest some fits room others =
    let on : nat_le (length xs) 8 ≡ false = lt-leb (length xs) 8 (omega arith) in
    let offer : IsOffer (first_beat xs) = rw on (omega arith) in
    (offer, omega arith, rw on (offers-first_beats m (suc n) (drop 8 xs) rest (omega (arith, length-drop 8 xs)) (omega (arith, length-drop 8 xs)) (omega arith) others))

frames-first_beats : (m : ℕ) (so_far xs : List ℕ) (rest : List Beat) → IsBytes xs → 8 * m < length xs → length xs ≤ 8 * m + 8 → frames_among so_far (first_beats (suc m) xs ++ rest) ≡ (so_far ++ xs) ∷ frames_among [] rest
unfolding first_beats
frames-first_beats zero so_far xs rest h some fits =
    let last : nat_le (length xs) 8 ≡ true = le-leb (length xs) 8 (omega arith) in
    let bytes : bytes_of_beat (first_beat xs) ≡ xs = bytes_of_beat-first_beat xs h ∙ take_all 8 xs (omega arith) in
    rw (last, bytes) refl
frames-first_beats (suc m) so_far xs rest h some fits =
    let on : nat_le (length xs) 8 ≡ false = lt-leb (length xs) 8 (omega arith) in
    let bytes : bytes_of_beat (first_beat xs) ≡ take 8 xs = bytes_of_beat-first_beat xs h in
    let later = frames-first_beats m (so_far ++ take 8 xs) (drop 8 xs) rest (IsBytes-drop 8 xs h) (omega (arith, length-drop 8 xs)) (omega (arith, length-drop 8 xs)) in
    rw (on, bytes) (later ∙ ap (λ (frame : List ℕ). frame ∷ frames_among [] rest) (append_assoc so_far (take 8 xs) (drop 8 xs) ∙ ap (λ (r : List ℕ). so_far ++ r) (take-append-drop 8 xs)))

pub offers-beats_of : (xs : List ℕ) (rest : List Beat) → IsFrame xs → AreOffers 0 rest → AreOffers 0 (beats_of xs ++ rest)
unfolding beats_of
offers-beats_of xs rest h others =
    let m = beat_count (length xs) - 1 in
    let more : beat_count (length xs) ≡ suc m = omega (arith, h.some) in
    rw more (offers-first_beats m 0 xs rest (omega (arith, h.some)) (omega (arith, h.some)) (omega (arith, h.some, h.room)) others)

pub frames-beats_of : (xs : List ℕ) (rest : List Beat) → IsBytes xs → 1 ≤ length xs → frames_among [] (beats_of xs ++ rest) ≡ xs ∷ frames_among [] rest
unfolding beats_of
frames-beats_of xs rest h some =
    let m = beat_count (length xs) - 1 in
    let more : beat_count (length xs) ≡ suc m = omega arith in
    rw more (frames-first_beats m [] xs rest h (omega arith) (omega arith))

-- ---- frames one after the other

pub offers-frames : (frames : List (List ℕ)) → AllByRecursion IsFrame frames → AreOffers 0 (flat_map beats_of frames)
offers-frames [] h = tt
offers-frames (xs ∷ frames) h = offers-beats_of xs (flat_map beats_of frames) h.0 (offers-frames frames h.1)

pub frames-frames : (frames : List (List ℕ)) → AllByRecursion IsFrame frames → frames_among [] (flat_map beats_of frames) ≡ frames
frames-frames [] h = refl
frames-frames (xs ∷ frames) h =
    frames-beats_of xs (flat_map beats_of frames) h.0.bytes h.0.some ∙ ap (λ (r : List (List ℕ)). xs ∷ r) (frames-frames frames h.1)

-- ---- a clock of a gatherer

-- Well-formed offers are left: of the frame begun n beats have come.
pub record OffersLeft (g : Gathered) (bs : List Beat) : Type 0 where
  pub before : ℕ
  pub len : length (begun g) ≡ 8 * before
  pub offers : AreOffers before bs

-- the frame that a clock completes
abbrev pub completed : Gathered → Option Beat → List (List ℕ)
completed g None = []
completed g (Some b) = if b.last then (gathered g b).bytes ∷ [] else []

split_last : (last : Bool) (bytes : List ℕ) (bs : List Beat) → (if last then bytes ∷ frames_among [] bs else frames_among bytes bs) ≡ (if last then bytes ∷ [] else []) ++ frames_among (if last then [] else bytes) bs
split_last true bytes bs = refl
split_last false bytes bs = refl

frames_more : (g : Gathered) (beat : Option Beat) (clocks : List (Option Beat)) → frames_among (begun g) (went_over (beat ∷ clocks)) ≡ completed g beat ++ frames_among (begun (after_clock g beat)) (went_over clocks)
frames_more g None clocks = refl
frames_more g (Some b) clocks = split_last b.last (begun g ++ bytes_of_beat b) (went_over clocks)

length-bytes_of_beat : (b : Beat) → IsOffer b → length (bytes_of_beat b) ≡ b.bytes
length-bytes_of_beat b h = omega (arith, IsOffer-count b h, length-low_bytes (min b.bytes 8) b.word)

-- a beat has room after whole words
pub room_after : (so_far : List ℕ) (n : ℕ) (b : Beat) → length so_far ≡ 8 * n → n < BEAT_LIMIT → IsOffer b → length (so_far ++ bytes_of_beat b) ≤ FRAME_LIMIT
room_after so_far n b len below offer =
    omega (arith, length-append so_far (bytes_of_beat b), length-bytes_of_beat b offer, IsOffer-count b offer)

-- well-formed offers have room
room_for : (g : Gathered) (beat : Option Beat) (clocks : List (Option Beat)) → OffersLeft g (went_over (beat ∷ clocks)) → ForSome beat (λ b. length (begun g ++ bytes_of_beat b) ≤ FRAME_LIMIT)
room_for g None clocks h x e = absurd cc
room_for g (Some b) clocks h x e =
    let same : b ≡ x = cc in
    subst (λ (y : Beat). length (begun g ++ bytes_of_beat y) ≤ FRAME_LIMIT) same (room_after (begun g) h.before b h.len h.offers.1 h.offers.0)

left_more : (last : Bool) (n : ℕ) (b : Beat) (bytes : List ℕ) (bs : List Beat) → b.last ≡ last → IsOffer b → length bytes ≡ 8 * n + b.bytes → AreOffers (if last then zero else suc n) bs → (m : ℕ) × (length (if last then [] else bytes) ≡ 8 * m) × AreOffers m bs
left_more true n b bytes bs e offer len offers = (0, refl, offers)
left_more false n b bytes bs e offer len offers = (suc n, omega (arith, IsOffer-eight b offer e), offers)

offers_more : (g : Gathered) (beat : Option Beat) (clocks : List (Option Beat)) → OffersLeft g (went_over (beat ∷ clocks)) → OffersLeft (after_clock g beat) (went_over clocks)
offers_more g None clocks h = record { before = h.before; len = h.len; offers = h.offers }
offers_more g (Some b) clocks h =
    let len : length (begun g ++ bytes_of_beat b) ≡ 8 * h.before + b.bytes = omega (arith, length-append (begun g) (bytes_of_beat b), length-bytes_of_beat b h.offers.0, h.len) in
    let m = left_more b.last h.before b (begun g ++ bytes_of_beat b) (went_over clocks) refl h.offers.0 len h.offers.2 in
    record { before = m.0; len = m.1; offers = m.2 }

-- ---- a walk over clocks

-- the frames so far, and those of the clocks to come, are all
abbrev pub Told : List (List ℕ) → Gathered → List (Option Beat) → List (List ℕ) → Type 0
Told so_far g clocks all = so_far ++ frames_among (begun g) (went_over clocks) ≡ all

pub told_more : (so_far all : List (List ℕ)) (g : Gathered) (clocks : List (Option Beat)) (i : ℕ) (beat : Option Beat) → i < length clocks → beat ≡ get_or clocks i None → Told so_far g (drop i clocks) all → Told (so_far ++ completed g beat) (after_clock g beat) (drop (i + 1) clocks) all
told_more so_far all g clocks i beat lt e h =
    let rest = drop (i + 1) clocks in
    let step : drop i clocks ≡ beat ∷ rest = drop_more clocks i None lt ∙ ap (λ (b : Option Beat). b ∷ rest) (sym e) in
    append_assoc so_far (completed g beat) (frames_among (begun (after_clock g beat)) (went_over rest))
    ∙ ap (λ (r : List (List ℕ)). so_far ++ r) (sym (frames_more g beat rest) ∙ ap (λ (cs : List (Option Beat)). frames_among (begun g) (went_over cs)) (sym step)) ∙ h

-- well-formed offers, one clock on
offers_at : (g : Gathered) (clocks : List (Option Beat)) (i : ℕ) → i < length clocks → OffersLeft g (went_over (drop i clocks)) → OffersLeft g (went_over (get_or clocks i None ∷ drop (i + 1) clocks))
offers_at g clocks i lt h = subst (λ (cs : List (Option Beat)). OffersLeft g (went_over cs)) (drop_more clocks i None lt) h

pub room_at : (g : Gathered) (clocks : List (Option Beat)) (i : ℕ) → i < length clocks → OffersLeft g (went_over (drop i clocks)) → ForSome (get_or clocks i None) (λ b. length (begun g ++ bytes_of_beat b) ≤ FRAME_LIMIT)
room_at g clocks i lt h = room_for g (get_or clocks i None) (drop (i + 1) clocks) (offers_at g clocks i lt h)

pub left_at : (g : Gathered) (clocks : List (Option Beat)) (i : ℕ) → i < length clocks → OffersLeft g (went_over (drop i clocks)) → OffersLeft (after_clock g (get_or clocks i None)) (went_over (drop (i + 1) clocks))
left_at g clocks i lt h = offers_more g (get_or clocks i None) (drop (i + 1) clocks) (offers_at g clocks i lt h)

-- a last beat completes the frame that is held
pub completed_last : (g : Gathered) (beat : Option Beat) → option_map_or (λ b. b.last) beat false ≡ true → completed g beat ≡ (after_clock g beat).bytes ∷ []
completed_last g None e = absurd cc
completed_last g (Some b) e = rw e refl

-- without one no frame is complete
pub completed_none : (g : Gathered) (beat : Option Beat) → option_map_or (λ b. b.last) beat false ≡ false → completed g beat ≡ []
completed_none g None e = refl
completed_none g (Some b) e = rw e refl
