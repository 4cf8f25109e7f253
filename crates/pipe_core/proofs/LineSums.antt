-- How many beats frames have, one after another: of those that came whole, of the one that is coming, and of those to come.
use Rattle.std.proofs.Common.{◌≡◌, ℕ, zero, suc, ◌+◌, ◌-◌, ◌*◌, ◌<◌, ◌≤◌, inl, inr, Bool, true, false, List, [], ◌∷◌, ◌++◌, Option, Some, None, length, drop, refl, sym, ap, ◌∙◌, subst, arith, not, length-append, length-drop}
use Rattle.std.specs.Prelude.{if◌then◌else◌, is_some}
use Rattle.std.specs.List.{flat_map, AllByRecursion}
use Rattle.std.proofs.lemmas.Bool.{cases_lt}
use Rattle.realization.specs.beat_core.declared.beat.Beat.{Beat}
use Rattle.realization.specs.beat_core.declared.answer.Answer.{Answer}
use Rattle.realization.specs.beat_core.Beats.{beat_count, IsWhole, beats_of}
use Rattle.realization.specs.beat_core.Clocks.{AreOffers}
use Rattle.realization.specs.beat_core.Laws.{IsFrame}
use Rattle.realization.specs.beat_core.Ports.{Arrival}
use Rattle.realization.specs.Bounds.{beats_before}
use Rattle.realization.proofs.beat_core_laws.BeatLaws.{length-beats_of, IsWhole-beats_of}
use Rattle.hazard_core.specs.cell_core.Cells.{bit}
use Rattle.hazard_core.specs.cell_core.Sites.{ProgramView}
use Rattle.hazard_core.specs.StageValues.{StageValues, stage_value}
use Rattle.hazard_core.proofs.cell_core_laws.FrameLaws.{with_bytes_length}
use Rattle.pipe_core.specs.Machine.{State, Input, Build, came_with, gathered, work, beat_over, taken_beat, scattered, clock}
use Rattle.pipe_core.specs.History.{Trace, came_in, left_in, next, answers_of, IsInOrder}
use Rattle.pipe_core.specs.Drive.{Driven, ahead}
use Rattle.pipe_core.proofs.Order.{Worked, work_keeps}
use Rattle.pipe_core.proofs.HistoryLaws.{answers_length}
use Rattle.pipe_core.proofs.Draining.{beats, answer_beats, frame_beats, part_beats, part_length, lasts, EndsWhole, IsAt, to_give, answer_append, at_within, came_weight, Driving}
use Rattle.pipe_core.proofs.Offering.{answers_beats}

-- ---- sums

-- the first so many of these numbers, together
abbrev pub upto : ℕ → List ℕ → ℕ
upto zero ms = 0
upto (suc i) [] = 0
upto (suc i) (m ∷ ms) = m + upto i ms

abbrev pub total : List ℕ → ℕ
total ms = upto (length ms) ms

abbrev pub AreSome : List ℕ → Type 0
AreSome ms = AllByRecursion (λ m. 1 ≤ m) ms

pub upto_next : (ms : List ℕ) (i : ℕ) → AreSome ms → i < length ms → upto i ms + 1 ≤ upto (suc i) ms
upto_next [] i a l = absurd (omega (arith, l))
upto_next (m ∷ ms) zero a l = omega (arith, a.0)
upto_next (m ∷ ms) (suc i) a l = omega (arith, upto_next ms i a.1 (omega (arith, l)))

pub upto_more : (ms : List ℕ) (i j : ℕ) → i ≤ j → upto i ms ≤ upto j ms
upto_more ms zero j l = omega arith
upto_more ms (suc i) zero l = absurd (omega (arith, l))
upto_more [] (suc i) (suc j) l = omega arith
upto_more (m ∷ ms) (suc i) (suc j) l = omega (arith, upto_more ms i j (omega (arith, l)))

none_more : (k : ℕ) → 0 + k ≡ k
none_more k = omega arith

pub upto_behind : (xs ys : List ℕ) (k : ℕ) → upto (length xs + k) (xs ++ ys) ≡ total xs + upto k ys
upto_behind [] ys k = ap (λ n. upto n ys) (none_more k) ∙ sym (none_more (upto k ys))
upto_behind (x ∷ xs) ys k =
    let z : suc (length xs) + k ≡ suc (length xs + k) = omega arith in
    omega (arith, ap (λ n. upto n (x ∷ (xs ++ ys))) z, upto_behind xs ys k)

pub upto_front : (xs ys : List ℕ) (k : ℕ) → k ≤ length xs → upto k (xs ++ ys) ≡ upto k xs
upto_front xs ys zero l = refl
upto_front [] ys (suc k) l = absurd (omega (arith, l))
upto_front (x ∷ xs) ys (suc k) l = omega (arith, upto_front xs ys k (omega (arith, l)))

total_append : (xs ys : List ℕ) → total (xs ++ ys) ≡ total xs + total ys
total_append xs ys = ap (λ n. upto n (xs ++ ys)) (length-append xs ys) ∙ upto_behind xs ys (length ys)

some_append : (xs ys : List ℕ) → AreSome xs → AreSome ys → AreSome (xs ++ ys)
some_append [] ys a b = b
some_append (x ∷ xs) ys a b = (a.0, some_append xs ys a.1 b)

-- ---- by frame

abbrev pub came_counts : List Arrival → List ℕ
came_counts [] = []
came_counts (c ∷ cs) = beats (length c.frame) ∷ came_counts cs

abbrev pub answer_counts : List Answer → List ℕ
answer_counts [] = []
answer_counts (a ∷ more) = beats (length a.frame) ∷ answer_counts more

-- m beats of the first one have come
abbrev pub coming_counts : ℕ → List Beat → List ℕ
coming_counts m [] = []
coming_counts m (x ∷ xs) = if x.last then suc m ∷ coming_counts 0 xs else coming_counts (suc m) xs

abbrev pub frame_counts : List (List ℕ) → List ℕ
frame_counts [] = []
frame_counts (f ∷ frames) = beat_count (length f) ∷ frame_counts frames

abbrev pub all_counts : Driven → List ℕ
all_counts d = came_counts d.trace.came ++ coming_counts (part_beats d.trace.state.part) d.left

came_length : (cs : List Arrival) → length (came_counts cs) ≡ length cs
came_length [] = refl
came_length (c ∷ cs) = ap suc (came_length cs)

came_append : (cs ds : List Arrival) → came_counts (cs ++ ds) ≡ came_counts cs ++ came_counts ds
came_append [] ds = refl
came_append (c ∷ cs) ds = ap (λ l. beats (length c.frame) ∷ l) (came_append cs ds)

came_total : (cs : List Arrival) → total (came_counts cs) ≡ frame_beats cs
came_total [] = refl
came_total (c ∷ cs) = omega (arith, came_total cs)

came_some : (cs : List Arrival) → AreSome (came_counts cs)
came_some [] = tt
came_some (c ∷ cs) = (omega arith, came_some cs)

answer_length : (xs : List Answer) → length (answer_counts xs) ≡ length xs
answer_length [] = refl
answer_length (a ∷ xs) = ap suc (answer_length xs)

answer_counts_append : (xs ys : List Answer) → answer_counts (xs ++ ys) ≡ answer_counts xs ++ answer_counts ys
answer_counts_append [] ys = refl
answer_counts_append (a ∷ xs) ys = ap (λ l. beats (length a.frame) ∷ l) (answer_counts_append xs ys)

answer_total : (xs : List Answer) → total (answer_counts xs) ≡ answer_beats xs
answer_total [] = refl
answer_total (a ∷ xs) = omega (arith, answer_total xs)

-- answers have the beats of their frames
same_counts : (p : ProgramView) (hs : List StageValues) (cs : List Arrival) (k : ℕ) → k ≤ length hs → length hs ≤ length cs → upto k (answer_counts (answers_of p hs cs)) ≡ upto k (came_counts cs)
same_counts p hs cs zero l m = refl
same_counts p [] cs (suc k) l m = absurd (omega (arith, l))
same_counts p (h ∷ hs) [] (suc k) l m = absurd (omega (arith, m))
same_counts p (h ∷ hs) (c ∷ cs) (suc k) l m =
    let e = ap beats (with_bytes_length (stage_value h) c.frame p.frame) in omega (arith, e, same_counts p hs cs k (omega (arith, l)) (omega (arith, m)))

-- ---- what is coming

coming_length : (m : ℕ) (xs : List Beat) → length (coming_counts m xs) ≡ lasts xs
coming_length m [] = refl
coming_length m (x ∷ xs) = by x.last (coming_length 0 xs) (coming_length (suc m) xs)
  where
    by : (l : Bool) → length (coming_counts 0 xs) ≡ lasts xs → length (coming_counts (suc m) xs) ≡ lasts xs → length (if l then suc m ∷ coming_counts 0 xs else coming_counts (suc m) xs) ≡ bit l + lasts xs
    by true g h = omega (arith, g)
    by false g h = omega (arith, h)

coming_some : (m : ℕ) (xs : List Beat) → AreSome (coming_counts m xs)
coming_some m [] = tt
coming_some m (x ∷ xs) = by x.last (coming_some 0 xs) (coming_some (suc m) xs)
  where
    by : (l : Bool) → AreSome (coming_counts 0 xs) → AreSome (coming_counts (suc m) xs) → AreSome (if l then suc m ∷ coming_counts 0 xs else coming_counts (suc m) xs)
    by true g h = (omega arith, g)
    by false g h = h

coming_total : (m : ℕ) (begun : Bool) (xs : List Beat) → (begun ≡ false → m ≡ 0) → EndsWhole begun xs → total (coming_counts m xs) ≡ m + length xs
coming_total m begun [] z e = omega (arith, z e)
coming_total m begun (x ∷ xs) z e = by x.last e (coming_total 0 false xs (λ h. refl)) (coming_total (suc m) true xs (λ h. cc))
  where
    by : (l : Bool) → EndsWhole (not l) xs → (EndsWhole false xs → total (coming_counts 0 xs) ≡ 0 + length xs) → (EndsWhole true xs → total (coming_counts (suc m) xs) ≡ suc m + length xs) →
        total (if l then suc m ∷ coming_counts 0 xs else coming_counts (suc m) xs) ≡ m + suc (length xs)
    by true e g h = omega (arith, g e)
    by false e g h = omega (arith, h e)

-- the first one has more beats than have come of it
coming_first : (m : ℕ) (xs : List Beat) → 1 ≤ length (coming_counts m xs) → m + 1 ≤ upto 1 (coming_counts m xs)
coming_first m [] l = absurd (omega (arith, l))
coming_first m (x ∷ xs) l = by x.last l (coming_first (suc m) xs)
  where
    by : (c : Bool) → 1 ≤ length (if c then suc m ∷ coming_counts 0 xs else coming_counts (suc m) xs) → (1 ≤ length (coming_counts (suc m) xs) → suc m + 1 ≤ upto 1 (coming_counts (suc m) xs)) →
        m + 1 ≤ upto 1 (if c then suc m ∷ coming_counts 0 xs else coming_counts (suc m) xs)
    by true l h = omega arith
    by false l h = omega (arith, h l)

coming_whole : (m : ℕ) (bs rest : List Beat) → IsWhole bs → coming_counts m (bs ++ rest) ≡ (m + length bs) ∷ coming_counts 0 rest
coming_whole m [] rest h = absurd h
coming_whole m (x ∷ []) rest h = by x.last h.1
  where
    by : (l : Bool) → l ≡ true → (if l then suc m ∷ coming_counts 0 rest else coming_counts (suc m) rest) ≡ (m + 1) ∷ coming_counts 0 rest
    by true e = let n : suc m ≡ m + 1 = omega arith in ap (λ k. k ∷ coming_counts 0 rest) n
    by false e = cc
coming_whole m (x ∷ y ∷ bs) rest h = by x.last h.1 (coming_whole (suc m) (y ∷ bs) rest h.2)
  where
    by : (l : Bool) → l ≡ false → coming_counts (suc m) ((y ∷ bs) ++ rest) ≡ (suc m + length (y ∷ bs)) ∷ coming_counts 0 rest →
        (if l then suc m ∷ coming_counts 0 ((y ∷ bs) ++ rest) else coming_counts (suc m) ((y ∷ bs) ++ rest)) ≡ (m + length (x ∷ y ∷ bs)) ∷ coming_counts 0 rest
    by true e more = cc
    by false e more = let n : suc m + length (y ∷ bs) ≡ m + length (x ∷ y ∷ bs) = omega arith in more ∙ ap (λ k. k ∷ coming_counts 0 rest) n

pub coming_frames : (frames : List (List ℕ)) → AllByRecursion IsFrame frames → coming_counts 0 (flat_map beats_of frames) ≡ frame_counts frames
coming_frames [] h = refl
coming_frames (f ∷ frames) h = coming_whole 0 (beats_of f) (flat_map beats_of frames) (IsWhole-beats_of f h.0.some) ∙ ap (λ n. n ∷ coming_counts 0 (flat_map beats_of frames)) (none_more (length (beats_of f)) ∙ length-beats_of f) ∙ ap (λ l. beat_count (length f) ∷ l) (coming_frames frames h.1)

pub upto_frames : (k : ℕ) (frames : List (List ℕ)) → upto k (frame_counts frames) ≡ beats_before k frames
upto_frames zero frames = refl
upto_frames (suc k) [] = refl
upto_frames (suc k) (f ∷ frames) = omega (arith, upto_frames k frames)

pub frame_counts_length : (frames : List (List ℕ)) → length (frame_counts frames) ≡ length frames
frame_counts_length [] = refl
frame_counts_length (f ∷ frames) = ap suc (frame_counts_length frames)

-- ---- a clock

gathered_counts : (w : State) (i : Input) (o : Option Beat) (left : List Beat) → 8 * part_beats w.part ≡ part_length w.part → AreOffers (part_beats w.part) (ahead o left) →
    came_counts (came_in w i o) ++ coming_counts (part_beats (gathered w i o).part) left ≡ coming_counts (part_beats w.part) (ahead o left)
gathered_counts w i None left f o = refl
gathered_counts w i (Some x) left f o = by x.last
  where
    weight : beats (length (came_with w.part i x).frame) ≡ suc (part_beats w.part)
    weight = omega (arith, came_weight w.part i x f o.0)

    by : (l : Bool) → came_counts (if l then came_with w.part i x ∷ [] else []) ++ coming_counts (part_beats (if l then record w { frames = w.frames ++ came_with w.part i x ∷ []; part = None } else record w { part = Some (came_with w.part i x) }).part) left
        ≡ (if l then suc (part_beats w.part) ∷ coming_counts 0 left else coming_counts (suc (part_beats w.part)) left)
    by true = ap (λ n. n ∷ coming_counts 0 left) weight
    by false = ap (λ n. coming_counts n left) weight

-- Beats that come change no count.
pub counts_stay : (n : ℕ) (b : Build) (i : Input) (t : Trace) (left : List Beat) → Driving n b (record { left = ahead (beat_over b t.state i) left; trace = t }) →
    all_counts (record { left = left; trace = next b i t }) ≡ all_counts (record { left = ahead (beat_over b t.state i) left; trace = t })
unfolding next clock
counts_stay n b i t left v = whole
  where
    s : State
    s = t.state

    over : Option Beat
    over = beat_over b s i

    w : State
    w = work b i s

    part : w.part ≡ s.part
    part = (work_keeps b i s v.order.places v.order.packets).part

    scattered_part : (o : Option Beat) → (scattered (gathered w i over) o).part ≡ (gathered w i over).part
    scattered_part None = refl
    scattered_part (Some x) = by x.last
      where
        by : (l : Bool) → (if l then record (gathered w i over) { answers = drop 1 (gathered w i over).answers; pos = 0 } else record (gathered w i over) { pos = suc (gathered w i over).pos }).part ≡ (gathered w i over).part
        by true = refl
        by false = refl

    same_came : (o : Option Beat) → came_in s i o ≡ came_in w i o
    same_came None = refl
    same_came (Some x) = ap (λ p. if x.last then came_with p i x ∷ [] else []) (sym part)

    now : came_counts (came_in s i over) ++ coming_counts (part_beats (gathered w i over).part) left ≡ coming_counts (part_beats s.part) (ahead over left)
    now =
        ap (λ cs. came_counts cs ++ coming_counts (part_beats (gathered w i over).part) left) (same_came over)
        ∙ gathered_counts w i over left (subst (λ p. 8 * part_beats p ≡ part_length p) (sym part) v.full) (subst (λ p. AreOffers (part_beats p) (ahead over left)) (sym part) v.offers)
        ∙ ap (λ p. coming_counts (part_beats p) (ahead over left)) part

    append_assoc : (xs ys zs : List ℕ) → (xs ++ ys) ++ zs ≡ xs ++ (ys ++ zs)
    append_assoc [] ys zs = refl
    append_assoc (x ∷ xs) ys zs = ap (λ l. x ∷ l) (append_assoc xs ys zs)

    whole : came_counts (t.came ++ came_in s i over) ++ coming_counts (part_beats (scattered (gathered w i over) (taken_beat s i)).part) left ≡ came_counts t.came ++ coming_counts (part_beats s.part) (ahead over left)
    whole =
        ap (λ p. came_counts (t.came ++ came_in s i over) ++ coming_counts (part_beats p) left) (scattered_part (taken_beat s i))
        ∙ ap (λ l. l ++ coming_counts (part_beats (gathered w i over).part) left) (came_append t.came (came_in s i over))
        ∙ append_assoc (came_counts t.came) (came_counts (came_in s i over)) (coming_counts (part_beats (gathered w i over).part) left)
        ∙ ap (λ l. came_counts t.came ++ l) now

-- ---- what the counts say of a drive

pub record Counted (ms : List ℕ) (d : Driven) : Type 0 where
  pub frames : length d.trace.left + length d.trace.state.frames ≡ length d.trace.came
  pub answers : length d.trace.gave + length d.trace.state.answers ≡ length d.trace.left
  pub part : part_beats d.trace.state.part + length d.left + upto (length d.trace.came) ms ≡ total ms
  pub fresh : length d.trace.came < length ms → part_beats d.trace.state.part + 1 + upto (length d.trace.came) ms ≤ upto (suc (length d.trace.came)) ms
  pub give : to_give d + d.trace.state.pos + upto (length d.trace.gave) ms ≡ total ms
  pub first : length d.trace.gave < length ms → d.trace.state.pos + 1 + upto (length d.trace.gave) ms ≤ upto (suc (length d.trace.gave)) ms
  pub some : AreSome ms
  pub count : length ms ≡ length d.trace.came + lasts d.left

begun_part : (p : Option Arrival) → is_some p ≡ false → part_beats p ≡ 0
begun_part None e = refl
begun_part (Some c) e = cc

module _ (n : ℕ) (b : Build) (d : Driven) (v : Driving n b d) where
  abbrev t : Trace
  t = d.trace

  abbrev s : State
  s = d.trace.state

  abbrev came : List ℕ
  came = came_counts t.came

  abbrev rest : List ℕ
  rest = coming_counts (part_beats s.part) d.left

  count_of_came : length came ≡ length t.came
  count_of_came = came_length t.came

  rest_total : total rest ≡ part_beats s.part + length d.left
  rest_total = coming_total (part_beats s.part) (is_some s.part) d.left (begun_part s.part) v.ends

  all_some : AreSome (came ++ rest)
  all_some = some_append came rest (came_some t.came) (coming_some (part_beats s.part) d.left)

  upto_came : (k : ℕ) → upto (length t.came + k) (came ++ rest) ≡ total came + upto k rest
  upto_came k = ap (λ c. upto (c + k) (came ++ rest)) (sym count_of_came) ∙ upto_behind came rest k

  answers_count : length t.gave + length s.answers ≡ length t.left
  answers_count = omega (arith, sym (length-append t.gave s.answers) ∙ ap length v.order.answers ∙ answers_length b.program t.left t.came v.order.begun)

  -- the first answers have the beats of the first frames
  upto_answers : (k : ℕ) → k ≤ length t.left → upto k (came ++ rest) ≡ upto k (answer_counts t.gave ++ answer_counts s.answers)
  upto_answers k l =
      upto_front came rest k (omega (arith, l, v.order.begun, count_of_came))
      ∙ sym (same_counts b.program t.left t.came k l v.order.begun)
      ∙ ap (λ a. upto k (answer_counts a)) (sym v.order.answers)
      ∙ ap (upto k) (answer_counts_append t.gave s.answers)

  upto_gave : (k : ℕ) → length t.gave + k ≤ length t.left → upto (length t.gave + k) (came ++ rest) ≡ answer_beats t.gave + upto k (answer_counts s.answers)
  upto_gave k l =
      upto_answers (length t.gave + k) l
      ∙ ap (λ c. upto (c + k) (answer_counts t.gave ++ answer_counts s.answers)) (sym (answer_length t.gave))
      ∙ upto_behind (answer_counts t.gave) (answer_counts s.answers) k
      ∙ ap (λ c. c + upto k (answer_counts s.answers)) (answer_total t.gave)

  whole : total (came ++ rest) ≡ frame_beats t.came + part_beats s.part + length d.left
  whole = omega (arith, total_append came rest, came_total t.came, rest_total)

  gave_now : upto (length t.gave) (came ++ rest) ≡ answer_beats t.gave
  gave_now = let z : length t.gave ≡ length t.gave + 0 = omega arith in omega (arith, ap (λ k. upto k (came ++ rest)) z, upto_gave 0 (omega (arith, answers_count)))

  answers_first : (xs : List Answer) → xs ≡ s.answers → IsAt s.pos xs → length t.gave < length (came ++ rest) → s.pos + 1 + upto (length t.gave) (came ++ rest) ≤ upto (suc (length t.gave)) (came ++ rest)
  answers_first [] e at l = omega (arith, at, upto_next (came ++ rest) (length t.gave) all_some l)
  answers_first (a ∷ xs) e at l =
      let z : suc (length t.gave) ≡ length t.gave + 1 = omega arith in
      let one : upto 1 (answer_counts s.answers) ≡ beats (length a.frame) + 0 = ap (λ (ys : List Answer). upto 1 (answer_counts ys)) (sym e) in
      omega (arith, at, gave_now, one, ap (λ k. upto k (came ++ rest)) z, upto_gave 1 (omega (arith, answers_count, ap length e)))

  pub counted : Counted (all_counts d) d
  counted = record {
    frames = omega (arith, ap length v.order.frames, length-drop (length t.left) t.came, v.order.begun);
    answers = answers_count;
    part = let z : length t.came ≡ length t.came + 0 = omega arith in omega (arith, whole, ap (λ k. upto k (came ++ rest)) z, upto_came 0, came_total t.came);
    fresh = λ l.
        let z : length t.came ≡ length t.came + 0 = omega arith in
        let y : suc (length t.came) ≡ length t.came + 1 = omega arith in
        let f = coming_first (part_beats s.part) d.left (omega (arith, l, length-append came rest, count_of_came)) in
        omega (arith, f, ap (λ k. upto k (came ++ rest)) z, ap (λ k. upto k (came ++ rest)) y, upto_came 0, upto_came 1);
    give =
        let behind = answers_beats b.program t.left t.came v.order.begun in
        let drops : frame_beats (drop (length t.left) t.came) ≡ frame_beats s.frames = ap frame_beats (sym v.order.frames) in
        let all : answer_beats t.gave + answer_beats s.answers ≡ answer_beats (answers_of b.program t.left t.came) = sym (answer_append t.gave s.answers) ∙ ap answer_beats v.order.answers in
        omega (arith, whole, gave_now, behind, drops, all, at_within s.pos s.answers v.at);
    first = answers_first s.answers refl v.at;
    some = all_some;
    count = omega (arith, length-append came rest, count_of_came, coming_length (part_beats s.part) d.left);
  }
