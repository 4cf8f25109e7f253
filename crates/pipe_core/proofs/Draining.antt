-- Where nothing is sent back, each clock of the full drive that commits no operation brings the end nearer.
use Rattle.std.proofs.Common.{◌≡◌, ℕ, zero, suc, ◌+◌, ◌-◌, ◌*◌, ◌/◌, ◌<◌, ◌≤◌, ◌⊎◌, inl, inr, Bool, true, false, List, [], ◌∷◌, ◌++◌, Option, Some, None, length, get_or, drop, refl, sym, ap, ◌∙◌, subst, arith, not, length-append, length-drop}
use Rattle.std.specs.Prelude.{if◌then◌else◌, nat_lt, nat_le, ◌||◌, is_some, min}
use Rattle.std.proofs.lemmas.Bool.Decides.{nat_tests}
use Rattle.realization.specs.beat_core.declared.beat.Beat.{Beat}
use Rattle.realization.specs.beat_core.declared.answer.Answer.{Answer}
use Rattle.realization.specs.beat_core.Beats.{bytes_of_beat, IsOffer, IsWhole, beats_of}
use Rattle.realization.specs.beat_core.Clocks.{AreOffers}
use Rattle.realization.specs.beat_core.Laws.{IsFrame}
use Rattle.realization.proofs.beat_core_laws.WordLaws.{length-low_bytes}
use Rattle.realization.proofs.beat_core_laws.BeatLaws.{IsOffer-count, IsOffer-eight, IsWhole-beats_of}
use Rattle.realization.proofs.beat_core_laws.OrderLaws.{offers-frames}
use Rattle.std.specs.List.{flat_map, AllByRecursion}
use Rattle.hazard_core.specs.xdp_maps.State.{MapState}
use Rattle.hazard_core.specs.cell_core.Cells.{bit}
use Rattle.hazard_core.specs.cell_core.Sites.{ProgramView}
use Rattle.hazard_core.specs.Tables.{TableState}
use Rattle.realization.specs.beat_core.Ports.{Arrival}
use Rattle.hazard_core.specs.declared.change.Change.{Change}
use Rattle.hazard_core.specs.Commits.{change_by}
use Rattle.std.specs.Option.{option_map}
use Rattle.pipe_core.specs.Machine.{Packet, State, Input, Build, Action, Commits, Writes, Moves, inside, some_send, marked_by, marked_below, moved, injected, place_at, answers_by, action_of, worked, work, came_with, gathered, is_ready, beat_over, beat_at, taken_beat, scattered, clock}
use Rattle.pipe_core.specs.History.{came_in, next, IsInOrder}
use Rattle.pipe_core.specs.Drive.{Driven, first_of, driving, drive_clock, Beside, drive, drive_start}
use Rattle.pipe_core.specs.Forward.{GoesForward, commit_count, commits_in, EndsForward}
use Rattle.pipe_core.specs.SeenChanges.{action_in}
use Rattle.pipe_core.proofs.Acting.{ActionIs, action_is}
use Rattle.std.proofs.lemmas.Bool.{cases_lt}
use Rattle.hazard_core.proofs.cell_core_laws.FrameLaws.{with_bytes_length}
use Rattle.pipe_core.proofs.Order.{marked_by_inside, marked_by_length, last_or, moved_inside, moved_length, place_last, some_last, keeps_order, beats_keep, begins}
use Rattle.pipe_core.proofs.FlushLaws.{flushed_none}
use Rattle.pipe_core.proofs.HistoryLaws.{answers_length}

-- ---- what is still to be done

-- the beats of so many bytes as an answer: at least one
abbrev pub beats : ℕ → ℕ
beats n = 1 + (n - 1) / 8

abbrev pub answer_beats : List Answer → ℕ
answer_beats [] = 0
answer_beats (a ∷ more) = beats (length a.frame) + answer_beats more

abbrev pub frame_beats : List Arrival → ℕ
frame_beats [] = 0
frame_beats (c ∷ cs) = beats (length c.frame) + frame_beats cs

abbrev pub part_beats : Option Arrival → ℕ
part_beats None = 0
part_beats (Some c) = beats (length c.frame)

abbrev pub lasts : List Beat → ℕ
lasts [] = 0
lasts (x ∷ xs) = bit x.last + lasts xs

-- how far the youngest packet has to go
abbrev way : List (Option Packet) → ℕ
way [] = 0
way (None ∷ xs) = way xs
way (Some x ∷ xs) = suc (length xs)

pub answer_append : (xs ys : List Answer) → answer_beats (xs ++ ys) ≡ answer_beats xs + answer_beats ys
answer_append [] ys = omega arith
answer_append (x ∷ xs) ys = omega (arith, answer_append xs ys)

frame_append : (cs ds : List Arrival) → frame_beats (cs ++ ds) ≡ frame_beats cs + frame_beats ds
frame_append [] ds = omega arith
frame_append (c ∷ cs) ds = omega (arith, frame_append cs ds)

-- ---- moving on

way_moved : (b : Build) (t : TableState) (fs : List Arrival) (k : ℕ) (x : Option Packet) (ys : List (Option Packet)) → way (moved b t fs k x ys) ≡ way (x ∷ ys) - 1
way_moved b t fs k None [] = refl
way_moved b t fs k (Some x) [] = refl
way_moved b t fs k None (y ∷ ys) = way_moved b t fs (suc k) y ys
way_moved b t fs k (Some x) (y ∷ ys) = omega (arith, moved_length b t fs (suc k) y ys)

way_at_most : (xs : List (Option Packet)) → way xs ≤ length xs
way_at_most [] = omega arith
way_at_most (None ∷ xs) = omega (arith, way_at_most xs)
way_at_most (Some x ∷ xs) = omega arith

inside_way : (xs : List (Option Packet)) → inside xs ≤ way xs
inside_way [] = omega arith
inside_way (None ∷ xs) = inside_way xs
inside_way (Some x ∷ xs) = omega (arith, inside_way xs, way_at_most xs)

way_marked_by : (to : ℕ) (b : Build) (t : TableState) (e : Change) (k : ℕ) (xs : List (Option Packet)) → way (marked_below to b t e k xs) ≡ way xs
way_marked_by to b t e k [] = refl
way_marked_by to b t e k (x ∷ xs) = by (nat_lt k to) x (way_marked_by to b t e (suc k) xs)
  where
    by : (c : Bool) (x : Option Packet) → way (marked_below to b t e (suc k) xs) ≡ way xs → way ((if c then option_map (marked_by b t k e) x else x) ∷ marked_below to b t e (suc k) xs) ≡ way (x ∷ xs)
    by true None more = more
    by true (Some x) more = ap suc (marked_by_length to b t e (suc k) xs)
    by false None more = more
    by false (Some x) more = ap suc (marked_by_length to b t e (suc k) xs)

-- an answer has the beats of its frame
answered_beats : (p : ProgramView) (fs : List Arrival) (x : Option Packet) → bit (is_some x) ≤ length fs → answer_beats (answers_by p fs x) + frame_beats (drop (bit (is_some x)) fs) ≡ frame_beats fs
answered_beats p fs None h = omega arith
answered_beats p [] (Some x) h = absurd (omega arith)
answered_beats p (c ∷ cs) (Some x) h =
    let e = ap beats (with_bytes_length (λ k. get_or x.held.values k 0) c.frame p.frame) in omega (arith, e)

-- ---- nothing is sent back, and no operation stalls

work_ahead : (b : Build) (i : Input) (s : State) → some_send b 0 s.places ≡ false → work b i s ≡ worked b s false s.places (action_of b i s s.places)
unfolding work
work_ahead b i s ahead = rw (ahead, flushed_none b 0 s.places ahead) refl

-- ---- the work of a clock

record Advances (b : Build) (stalls : ℕ) (s w : State) : Type 0 where
  out : ℕ
  new : ℕ
  more : List Answer
  frames : length w.frames + out ≡ length s.frames
  places : inside w.places + out ≡ inside s.places + new
  beats_stay : answer_beats w.answers + frame_beats w.frames ≡ answer_beats s.answers + frame_beats s.frames
  waits : stalls ≡ 0 → inside s.places < length s.frames → (new ≡ 1) × (way w.places ≡ b.plan.last + 1)
  none_waits : stalls ≡ 0 → length s.frames ≤ inside s.places → (new ≡ 0) × (way w.places ≡ way s.places - 1)
  stalled : 1 ≤ stalls → (new ≡ 0) × (way w.places ≡ way s.places)
  answers : w.answers ≡ s.answers ++ more
  part : w.part ≡ s.part
  pos_stays : w.pos ≡ s.pos

advances_moving : (b : Build) (s : State) → length s.places ≡ suc b.plan.last → inside s.places ≤ length s.frames → Advances b 0 s (worked b s false s.places Moves)
advances_moving b s h l = by (nat_lt (inside s.places) (length s.frames)) refl
  where
    x : Option Packet
    x = place_at s.places b.plan.last

    at_last : (xs : List (Option Packet)) → length xs ≡ suc b.plan.last → (new : Option Packet) → place_at xs b.plan.last ≡ last_or new xs
    at_last [] h new = absurd (omega (arith, h))
    at_last (y ∷ ys) h new = subst (λ n. place_at (y ∷ ys) n ≡ last_or y ys) (omega (arith, h)) (place_last y ys)

    count : (xs : List (Option Packet)) → length xs ≡ suc b.plan.last → bit (is_some (place_at xs b.plan.last)) ≤ inside xs
    count [] h = absurd (omega (arith, h))
    count (y ∷ ys) h = omega (arith, some_last y ys, ap (λ z. bit (is_some z)) (at_last (y ∷ ys) h None))

    by : (c : Bool) → nat_lt (inside s.places) (length s.frames) ≡ c → Advances b 0 s (record s {
      answers = s.answers ++ answers_by b.program s.frames x;
      frames = drop (bit (is_some x)) s.frames;
      places = moved b s.tables s.frames 0 (if c then Some (injected b.program) else None) s.places;
      done = 0;
      passed = (worked b s false s.places Moves).passed;
    })
    by c e =
        let new : Option Packet = (if c then Some (injected b.program) else None) in
        let same : bit (is_some x) ≡ bit (is_some (last_or new s.places)) = ap (λ z. bit (is_some z)) (at_last s.places h new) in
        let some : bit (is_some x) ≤ length s.frames = omega (arith, count s.places h, l) in
        record {
          out = bit (is_some x);
          new = bit c;
          more = answers_by b.program s.frames x;
          frames = omega (arith, length-drop (bit (is_some x)) s.frames, some);
          places = omega (arith, moved_inside b s.tables s.frames 0 new s.places, same, one c);
          beats_stay = omega (arith, answer_append s.answers (answers_by b.program s.frames x), answered_beats b.program s.frames x some);
          waits = λ moves l. waiting c e l;
          none_waits = λ moves l. idle c e l;
          stalled = λ l. absurd (omega arith);
          answers = refl;
          part = refl;
          pos_stays = refl;
        }
      where
        one : (c : Bool) → inside ((if c then Some (injected b.program) else None) ∷ s.places) ≡ inside s.places + bit c
        one true = omega arith
        one false = omega arith

        waiting : (c : Bool) → nat_lt (inside s.places) (length s.frames) ≡ c → inside s.places < length s.frames → (bit c ≡ 1) × (way (moved b s.tables s.frames 0 (if c then Some (injected b.program) else None) s.places) ≡ b.plan.last + 1)
        waiting true e l = (refl, omega (arith, way_moved b s.tables s.frames 0 (Some (injected b.program)) s.places, h))
        waiting false e l = let m : length s.frames ≤ inside s.places = grind (arith, nat_tests) in absurd (omega arith)

        idle : (c : Bool) → nat_lt (inside s.places) (length s.frames) ≡ c → length s.frames ≤ inside s.places → (bit c ≡ 0) × (way (moved b s.tables s.frames 0 (if c then Some (injected b.program) else None) s.places) ≡ way s.places - 1)
        idle true e l = let m : inside s.places < length s.frames = grind (arith, nat_tests) in absurd (omega arith)
        idle false e l = (refl, way_moved b s.tables s.frames 0 None s.places)

advances : (b : Build) (s : State) → length s.places ≡ suc b.plan.last → inside s.places ≤ length s.frames → (u : Action) → ActionIs b s s.places u → Advances b (commit_count u) s (worked b s false s.places u)
advances b s h l (Commits j x) is =
    let e : Change = change_by b.program s.tables s.taken x.held j in
    record {
      out = 0;
      new = 0;
      more = [];
      frames = omega arith;
      places = omega (arith, marked_by_inside b.plan.commit b s.tables e 0 s.places);
      beats_stay = refl;
      waits = λ moves l. absurd (omega arith);
      none_waits = λ moves l. absurd (omega arith);
      stalled = λ l. (refl, way_marked_by b.plan.commit b s.tables e 0 s.places);
      answers = none_more s.answers;
      part = refl;
      pos_stays = refl;
    }
  where
    none_more : (xs : List Answer) → xs ≡ xs ++ []
    none_more [] = refl
    none_more (x ∷ xs) = ap (λ ys. x ∷ ys) (none_more xs)
advances b s h l (Writes a n) is = absurd is
advances b s h l Moves is = advances_moving b s h l

-- ---- a beat comes

abbrev pub part_length : Option Arrival → ℕ
part_length None = 0
part_length (Some c) = length c.frame

-- the frames that come are whole
abbrev pub EndsWhole : Bool → List Beat → Type 0
EndsWhole begun [] = begun ≡ false
EndsWhole begun (x ∷ xs) = EndsWhole (not x.last) xs

pub record Took (w g : State) (before left : List Beat) : Type 0 where
  pub beats_stay : frame_beats g.frames + part_beats g.part + length left ≡ frame_beats w.frames + part_beats w.part + length before
  pub frames_stay : length g.frames + lasts left ≡ length w.frames + lasts before
  pub fewer : length left ≤ length before
  pub full : 8 * part_beats g.part ≡ part_length g.part
  pub offers : AreOffers (part_beats g.part) left
  pub ends : EndsWhole (is_some g.part) left
  pub places : g.places ≡ w.places
  pub answers : g.answers ≡ w.answers
  pub pos_stays : g.pos ≡ w.pos

beats_last : (m n by : ℕ) → n ≡ 8 * m + by → 1 ≤ by → by ≤ 8 → beats n ≡ m + 1
beats_last m n by e l h = omega arith

length_beat : (x : Beat) → IsOffer x → length (bytes_of_beat x) ≡ x.bytes
length_beat x o = let c = IsOffer-count x o in omega (arith, length-low_bytes (min x.bytes 8) x.word, c.0, c.1)

with_length : (part : Option Arrival) (i : Input) (x : Beat) → length (came_with part i x).frame ≡ part_length part + length (bytes_of_beat x)
with_length None i x = omega arith
with_length (Some c) i x = length-append c.frame (bytes_of_beat x)

-- a beat makes what has come of a frame one longer
pub came_weight : (part : Option Arrival) (i : Input) (x : Beat) → 8 * part_beats part ≡ part_length part → IsOffer x → beats (length (came_with part i x).frame) ≡ part_beats part + 1
came_weight part i x full o =
    let q = IsOffer-count x o in
    beats_last (part_beats part) (length (came_with part i x).frame) x.bytes (omega (arith, with_length part i x, length_beat x o, full)) q.0 q.1

pub took_none : (w : State) (left : List Beat) → 8 * part_beats w.part ≡ part_length w.part → AreOffers (part_beats w.part) left → EndsWhole (is_some w.part) left → Took w w left left
took_none w left f o n = record { beats_stay = refl; frames_stay = refl; fewer = omega arith; full = f; offers = o; ends = n; places = refl; answers = refl; pos_stays = refl }

pub took_one : (w : State) (i : Input) (x : Beat) (left : List Beat) → 8 * part_beats w.part ≡ part_length w.part → AreOffers (part_beats w.part) (x ∷ left) → EndsWhole (is_some w.part) (x ∷ left) →
    Took w (gathered w i (Some x)) (x ∷ left) left
took_one w i x left f o n = by x.last refl o.2 n (λ e. IsOffer-eight x o.0 e)
  where
    c : Arrival
    c = came_with w.part i x

    size : length c.frame ≡ 8 * part_beats w.part + x.bytes
    size = omega (arith, with_length w.part i x, length_beat x o.0, f)

    weight : beats (length c.frame) ≡ part_beats w.part + 1
    weight = came_weight w.part i x f o.0

    by : (l : Bool) → x.last ≡ l → AreOffers (if l then zero else suc (part_beats w.part)) left → EndsWhole (not l) left → (l ≡ false → x.bytes ≡ 8) →
        Took w (if l then record w { frames = w.frames ++ c ∷ []; part = None } else record w { part = Some c }) (x ∷ left) left
    by true e o n eight = record {
      beats_stay = omega (arith, frame_append w.frames (c ∷ []), weight);
      frames_stay = omega (arith, length-append w.frames (c ∷ []), ap bit e);
      fewer = omega arith;
      full = refl;
      offers = o;
      ends = n;
      places = refl;
      answers = refl;
      pos_stays = refl;
    }
    by false e o n eight = record {
      beats_stay = omega (arith, weight);
      frames_stay = omega (arith, ap bit e);
      fewer = omega arith;
      full = omega (arith, weight, size, eight refl);
      offers = subst (λ m. AreOffers m left) (omega (arith, weight)) o;
      ends = n;
      places = refl;
      answers = refl;
      pos_stays = refl;
    }

took : (w : State) (i : Input) (r : Bool) (left : List Beat) → 8 * part_beats w.part ≡ part_length w.part → AreOffers (part_beats w.part) left → EndsWhole (is_some w.part) left →
    Took w (gathered w i (if r then first_of left else None)) left (if r then drop 1 left else left)
took w i false left f o n = took_none w left f o n
took w i true [] f o n = took_none w [] f o n
took w i true (x ∷ left) f o n = took_one w i x left f o n

-- ---- a beat goes

abbrev pub IsAt : ℕ → List Answer → Type 0
IsAt pos [] = pos ≡ 0
IsAt pos (a ∷ more) = pos < beats (length a.frame)

pub at_append : (pos : ℕ) (xs ys : List Answer) → IsAt pos xs → IsAt pos (xs ++ ys)
at_append pos [] [] h = h
at_append pos [] (a ∷ ys) h = omega (arith, h)
at_append pos (x ∷ xs) ys h = h

at_first : (xs : List Answer) → IsAt 0 xs
at_first [] = refl
at_first (a ∷ xs) = omega arith

pub at_within : (pos : ℕ) (xs : List Answer) → IsAt pos xs → pos ≤ answer_beats xs
at_within pos [] h = omega (arith, h)
at_within pos (a ∷ xs) h = omega (arith, h)

pub record Gave (g c : State) (old : List Answer) : Type 0 where
  pub frames : c.frames ≡ g.frames
  pub places : c.places ≡ g.places
  pub part : c.part ≡ g.part
  pub at : IsAt c.pos c.answers
  -- how many beats are still to be given
  pub idle : length old ≡ 0 → answer_beats c.answers + g.pos ≡ answer_beats g.answers + c.pos
  pub goes : 1 ≤ length old → answer_beats c.answers + g.pos + 1 ≤ answer_beats g.answers + c.pos

pub gave : (g : State) (old new : List Answer) → g.answers ≡ old ++ new → IsAt g.pos g.answers → Gave g (scattered g (beat_at g.pos old)) old
gave g [] new e h = record { frames = refl; places = refl; part = refl; at = h; idle = λ l. refl; goes = λ l. absurd (omega arith) }
gave g (a ∷ old) new e h = by (nat_le (length (drop (8 * g.pos) a.frame)) 8) refl
  where
    here : g.pos < beats (length a.frame)
    here = subst (IsAt g.pos) e h

    all : answer_beats g.answers ≡ beats (length a.frame) + answer_beats (old ++ new)
    all = ap answer_beats e

    rest : answer_beats (drop 1 g.answers) ≡ answer_beats (old ++ new)
    rest = ap (λ xs. answer_beats (drop 1 xs)) e

    by : (l : Bool) → nat_le (length (drop (8 * g.pos) a.frame)) 8 ≡ l → Gave g (if l then record g { answers = drop 1 g.answers; pos = 0 } else record g { pos = suc g.pos }) (a ∷ old)
    by true q = record {
      frames = refl;
      places = refl;
      part = refl;
      at = at_first (drop 1 g.answers);
      idle = λ l. absurd (omega arith);
      goes = λ l. omega (arith, here, all, rest);
    }
    by false q =
        let m : 8 < length (drop (8 * g.pos) a.frame) = grind (arith, nat_tests) in
        let n : suc g.pos < beats (length a.frame) = omega (arith, m, length-drop (8 * g.pos) a.frame) in
        record {
          frames = refl;
          places = refl;
          part = refl;
          at = subst (IsAt (suc g.pos)) (sym e) n;
          idle = λ l. absurd (omega arith);
          goes = λ l. omega arith;
        }

-- ---- a clock of the drive

-- n frames in all
pub record Driving (n : ℕ) (b : Build) (d : Driven) : Type 0 where
  pub order : IsInOrder b d.trace
  pub count : length d.trace.came + lasts d.left ≡ n
  pub full : 8 * part_beats d.trace.state.part ≡ part_length d.trace.state.part
  pub offers : AreOffers (part_beats d.trace.state.part) d.left
  pub ends : EndsWhole (is_some d.trace.state.part) d.left
  pub at : IsAt d.trace.state.pos d.trace.state.answers

-- beats to be given, beats to be offered, frames to be injected, and the way of the youngest packet once all are
abbrev pub to_give : Driven → ℕ
to_give d = answer_beats d.trace.state.answers + frame_beats d.trace.state.frames + part_beats d.trace.state.part + length d.left - d.trace.state.pos

abbrev pub to_inject : Driven → ℕ
to_inject d = lasts d.left + (length d.trace.state.frames - inside d.trace.state.places)

abbrev pub way_left : Build → Driven → ℕ
way_left b d = if nat_lt 0 (to_inject d) then b.plan.last + 1 else way d.trace.state.places

abbrev pub far : Build → Driven → ℕ
far b d = to_give d + length d.left + to_inject d + way_left b d

pub no_answers : (xs : List Answer) → length xs ≡ 0 → answer_beats xs ≡ 0
no_answers [] h = refl
no_answers (a ∷ xs) h = absurd (omega arith)

pub no_frames : (xs : List Arrival) → length xs ≡ 0 → frame_beats xs ≡ 0
no_frames [] h = refl
no_frames (c ∷ xs) h = absurd (omega arith)

pub no_part : (part : Option Arrival) (left : List Beat) → length left ≡ 0 → EndsWhole (is_some part) left → part_beats part ≡ 0
no_part None left h e = refl
no_part (Some c) [] h e = cc
no_part (Some c) (x ∷ left) h e = absurd (omega arith)

-- a beat goes over inwards, or none is left, or a frame waits
pub goes_in : (b : Build) (s : State) (left : List Beat) → b.slots ≡ b.plan.last + 4 → length s.places ≡ suc b.plan.last → length s.answers ≡ 0 →
    (length (if is_ready b s then drop 1 left else left) + 1 ≤ length left) ⊎ ((length left ≡ 0) ⊎ (inside s.places < length s.frames))
goes_in b s [] slots h none = inr (inl refl)
goes_in b s (x ∷ left) slots h none = by (is_some s.part) (nat_lt (length s.answers + length s.frames) b.slots) refl
  where
    by : (c d : Bool) → nat_lt (length s.answers + length s.frames) b.slots ≡ d →
        (length (if c || d then left else x ∷ left) + 1 ≤ length (x ∷ left)) ⊎ ((length (x ∷ left) ≡ 0) ⊎ (inside s.places < length s.frames))
    by true d e = inl (omega arith)
    by false true e = inl (omega arith)
    by false false e =
        let m : b.slots ≤ length s.answers + length s.frames = grind (arith, nat_tests) in
        inr (inr (omega (arith, m, slots, h, none, inside_way s.places, way_at_most s.places)))

-- all of it in numbers
nearer : (S G pos L I E W G' pos' L' I' E' W' new a : ℕ) →
    (0 < I → E ≡ S + 1) → (I ≡ 0 → E ≡ W) → (0 < I' → E' ≡ S + 1) → (I' ≡ 0 → E' ≡ W') →
    pos ≤ G → pos' ≤ G' → L' ≤ L → I' + new ≡ I → W' ≤ S + 1 → (new ≡ 0 → W' ≡ W - 1) →
    (a ≡ 0 → G' + pos ≡ G + pos') → (1 ≤ a → G' + pos + 1 ≤ G + pos') →
    (a ≡ 0 → (L' + 1 ≤ L) ⊎ ((new ≡ 1) ⊎ ((L ≡ 0) × (I ≡ 0) × (W ≡ 0 → G ≡ 0)))) →
    (G' - pos') + L' + I' + E' ≤ (G - pos) + L + I + E - 1
nearer S G pos L I E W G' pos' L' I' E' W' new a e0 e1 e2 e3 p p' l i w n idle goes why = by (cases_zero a)
  where
    cases_zero : (a : ℕ) → (a ≡ 0) ⊎ (1 ≤ a)
    cases_zero zero = inl refl
    cases_zero (suc a) = inr (omega arith)

    less : E' + I' ≤ E + I
    less = split (cases_zero I) (cases_zero I')
      where
        split : (I ≡ 0) ⊎ (1 ≤ I) → (I' ≡ 0) ⊎ (1 ≤ I') → E' + I' ≤ E + I
        split (inl x) (inl y) = omega (arith, e1 x, e3 y, n (omega arith))
        split (inl x) (inr y) = absurd (omega arith)
        split (inr x) (inl y) = omega (arith, e0 x, e3 y)
        split (inr x) (inr y) = omega (arith, e0 x, e2 y)

    inject : new ≡ 1 → E' + I' + 1 ≤ E + I
    inject one = split (cases_zero I')
      where
        split : (I' ≡ 0) ⊎ (1 ≤ I') → E' + I' + 1 ≤ E + I
        split (inl y) = omega (arith, e0 (omega arith), e3 y)
        split (inr y) = omega (arith, e0 (omega arith), e2 y)

    by : (a ≡ 0) ⊎ (1 ≤ a) → (G' - pos') + L' + I' + E' ≤ (G - pos) + L + I + E - 1
    by (inr some) = omega (arith, goes some, less)
    by (inl none) = elim (why none) [
      | inl beat ↦ omega (arith, idle none, less, beat)
      | inr more ↦ elim more [
        | inl one ↦ omega (arith, idle none, inject one)
        | inr last ↦ ends last (cases_zero W)
      ]
    ]
      where
        ends : (L ≡ 0) × (I ≡ 0) × (W ≡ 0 → G ≡ 0) → (W ≡ 0) ⊎ (1 ≤ W) → (G' - pos') + L' + I' + E' ≤ (G - pos) + L + I + E - 1
        ends q (inl z) = omega (arith, idle none, q.0, q.1, q.2 z, e1 q.1, e3 (omega (arith, q.1)), n (omega (arith, q.1)))
        ends q (inr z) = omega (arith, idle none, q.0, q.1, e1 q.1, e3 (omega (arith, q.1)), n (omega (arith, q.1)))

-- in a clock that commits an operation nothing goes back
no_farther : (S G pos L I E W G' pos' L' E' W' : ℕ) → (0 < I → E ≡ S + 1) → (I ≡ 0 → E ≡ W) → (0 < I → E' ≡ S + 1) → (I ≡ 0 → E' ≡ W') →
    pos ≤ G → pos' ≤ G' → L' ≤ L → W' ≡ W → G' + pos ≤ G + pos' → (G' - pos') + L' + I + E' ≤ (G - pos) + L + I + E
no_farther S G pos L I E W G' pos' L' E' W' e0 e1 e2 e3 p p' l w g = elim (cases_lt 0 I) [
  | inl some ↦ omega (arith, e0 (omega arith), e2 (omega arith))
  | inr none ↦ omega (arith, e1 (omega arith), e3 (omega arith))
]

if_some : (i s w : ℕ) → 0 < i → (if nat_lt 0 i then s else w) ≡ s
if_some i s w h = by (nat_lt 0 i) refl
  where
    by : (c : Bool) → nat_lt 0 i ≡ c → (if c then s else w) ≡ s
    by true e = refl
    by false e = let m : i ≤ 0 = grind (arith, nat_tests) in absurd (omega arith)

if_none : (i s w : ℕ) → i ≡ 0 → (if nat_lt 0 i then s else w) ≡ w
if_none i s w h = by (nat_lt 0 i) refl
  where
    by : (c : Bool) → nat_lt 0 i ≡ c → (if c then s else w) ≡ w
    by true e = let m : 0 < i = grind (arith, nat_tests) in absurd (omega arith)
    by false e = refl

one_of : (m n : ℕ) → (m < n) ⊎ (n ≤ m)
one_of m n = cases_lt m n

-- a clock of the drive, which may commit an operation
record Stepped (n : ℕ) (b : Build) (stalls : ℕ) (d e : Driven) : Type 0 where
  driving : Driving n b e
  no_farther : far b e ≤ far b d
  nearer : stalls ≡ 0 → far b e ≤ far b d - 1

pub no_lasts : (left : List Beat) → length left ≡ 0 → lasts left ≡ 0
no_lasts [] h = refl
no_lasts (x ∷ left) h = absurd (omega arith)

steps : (n : ℕ) (b : Build) → b.slots ≡ b.plan.last + 4 → (ifindex time : ℕ) (d : Driven) → some_send b 0 d.trace.state.places ≡ false → Driving n b d →
    Stepped n b (commit_count (action_in b (driving ifindex time d.left) d.trace.state)) d (drive_clock b ifindex time d)
unfolding drive_clock next clock
steps n b slots ifindex time d ahead v = record {
  driving = record {
    order = order;
    count = omega (arith, v.count, length-append d.trace.came (came_in s i (beat_over b s i)), ap length (beats_keep b i d.trace v.order).frames, length-append w.frames (came_in s i (beat_over b s i)), ap length gv.frames, tk.frames_stay);
    full = ap (λ x. 8 * part_beats x) gv.part ∙ tk.full ∙ sym (ap part_length gv.part);
    offers = subst (λ x. AreOffers (part_beats x) left) (sym gv.part) tk.offers;
    ends = subst (λ x. EndsWhole (is_some x) left) (sym gv.part) tk.ends;
    at = gv.at;
  };
  no_farther = elim (cases_lt 0 stalls) [
    | inl stalling ↦ stands stalling
    | inr moving ↦ omega (arith, comes_nearer (omega (arith, moving)))
  ];
  nearer = comes_nearer;
}
  where
    S : ℕ
    S = b.plan.last

    s : State
    s = d.trace.state

    i : Input
    i = driving ifindex time d.left

    w : State
    w = work b i s

    stalls : ℕ
    stalls = commit_count (action_in b i s)

    ad : Advances b stalls s w
    ad = subst (λ rest. Advances b (commit_count (action_of b i s rest)) s w) (sym (flushed_none b 0 s.places ahead))
        (subst (Advances b (commit_count (action_of b i s s.places)) s) (sym (work_ahead b i s ahead)) (advances b s v.order.places v.order.packets (action_of b i s s.places) (action_is b i refl s s.places)))

    left : List Beat
    left = if is_ready b s then drop 1 d.left else d.left

    g : State
    g = gathered w i (beat_over b s i)

    tk : Took w g d.left left
    tk = took w i (is_ready b s) d.left (ap (λ x. 8 * part_beats x) ad.part ∙ v.full ∙ sym (ap part_length ad.part)) (subst (λ x. AreOffers (part_beats x) d.left) (sym ad.part) v.offers) (subst (λ x. EndsWhole (is_some x) d.left) (sym ad.part) v.ends)

    pos : g.pos ≡ s.pos
    pos = tk.pos_stays ∙ ad.pos_stays

    c : State
    c = scattered g (taken_beat s i)

    gv : Gave g c s.answers
    gv = subst (λ p. Gave g (scattered g (beat_at p s.answers)) s.answers) pos
        (gave g s.answers ad.more (tk.answers ∙ ad.answers) (subst (IsAt g.pos) (sym (tk.answers ∙ ad.answers)) (subst (λ p. IsAt p (s.answers ++ ad.more)) (sym pos) (at_append s.pos s.answers ad.more v.at))))

    order : IsInOrder b (next b i d.trace)
    order = keeps_order b i d.trace v.order

    G : ℕ
    G = answer_beats s.answers + frame_beats s.frames + part_beats s.part + length d.left

    G' : ℕ
    G' = answer_beats c.answers + frame_beats c.frames + part_beats c.part + length left

    L : ℕ
    L = length d.left

    L' : ℕ
    L' = length left

    I : ℕ
    I = to_inject d

    I' : ℕ
    I' = lasts left + (length c.frames - inside c.places)

    W : ℕ
    W = way s.places

    W' : ℕ
    W' = way c.places

    E : ℕ
    E = way_left b d

    E' : ℕ
    E' = if nat_lt 0 I' then S + 1 else W'

    stay : answer_beats g.answers + frame_beats g.frames + part_beats g.part + length left ≡ answer_beats s.answers + frame_beats s.frames + part_beats s.part + length d.left
    stay = omega (arith, ap answer_beats tk.answers, tk.beats_stay, ad.beats_stay, ap part_beats ad.part)

    places : c.places ≡ w.places
    places = gv.places ∙ tk.places

    new_is : stalls ≡ 0 → (ad.new ≡ 0) × (length s.frames ≤ inside s.places) ⊎ (ad.new ≡ 1) × (inside s.places < length s.frames)
    new_is moving = elim (one_of (inside s.places) (length s.frames)) [
      | inl l ↦ inr ((ad.waits moving l).0, l)
      | inr l ↦ inl ((ad.none_waits moving l).0, l)
    ]

    injects : stalls ≡ 0 → I' + ad.new ≡ I
    injects moving = elim (new_is moving) [
      | inl q ↦ omega (arith, q.0, q.1, ap length gv.frames, tk.frames_stay, ad.frames, ad.places, ap inside places, v.order.packets, order.packets)
      | inr q ↦ omega (arith, q.0, q.1, ap length gv.frames, tk.frames_stay, ad.frames, ad.places, ap inside places, v.order.packets, order.packets)
    ]

    stays : stalls ≡ 0 → ad.new ≡ 0 → W' ≡ W - 1
    stays moving z = elim (new_is moving) [
      | inl q ↦ ap way places ∙ (ad.none_waits moving q.1).1
      | inr q ↦ absurd (omega (arith, z, q.0))
    ]

    no_more : G' + s.pos ≤ G + c.pos
    no_more = elim (cases_lt 0 (length s.answers)) [
      | inl some ↦ omega (arith, gv.goes (omega (arith, some)), stay, ap frame_beats gv.frames, ap part_beats gv.part, pos)
      | inr none ↦ omega (arith, gv.idle (omega (arith, none)), stay, ap frame_beats gv.frames, ap part_beats gv.part, pos)
    ]

    -- frames are injected in clocks that move alone
    stands : 0 < stalls → far b (drive_clock b ifindex time d) ≤ far b d
    stands stalling =
        let q = ad.stalled (omega (arith, stalling)) in
        let same : I' ≡ I = omega (arith, q.0, ap length gv.frames, tk.frames_stay, ad.frames, ad.places, ap inside places, v.order.packets, order.packets) in
        let e : E' ≡ (if nat_lt 0 I then S + 1 else W') = ap (λ n. if nat_lt 0 n then S + 1 else W') same in
        let g = no_farther S G s.pos L I E W G' c.pos L' E' W' (λ h. if_some I (S + 1) W h) (λ h. if_none I (S + 1) W h) (λ h. e ∙ if_some I (S + 1) W' h) (λ h. e ∙ if_none I (S + 1) W' h)
        (omega (arith, at_within s.pos s.answers v.at)) (omega (arith, at_within c.pos c.answers gv.at)) tk.fewer (ap way places ∙ q.1) no_more in
        omega (arith, g, same)

    why : stalls ≡ 0 → length s.answers ≡ 0 → (L' + 1 ≤ L) ⊎ ((ad.new ≡ 1) ⊎ ((L ≡ 0) × (I ≡ 0) × (W ≡ 0 → G ≡ 0)))
    why moving z = elim (goes_in b s d.left slots v.order.places z) [
      | inl beat ↦ inl beat
      | inr more ↦ elim more [
        | inl empty ↦ elim (new_is moving) [
          | inl q ↦ inr (inr (
            empty,
            omega (arith, no_lasts d.left empty, q.1),
            λ far. omega (arith, no_answers s.answers z, no_frames s.frames (omega (arith, q.1, inside_way s.places, far)), no_part s.part d.left empty v.ends, empty),
          ))
          | inr q ↦ inr (inl q.0)
        ]
        | inr waits ↦ inr (inl (ad.waits moving waits).0)
      ]
    ]

    comes_nearer : stalls ≡ 0 → far b (drive_clock b ifindex time d) ≤ far b d - 1
    comes_nearer moving = nearer S G s.pos L I E W G' c.pos L' I' E' W' ad.new (length s.answers)
        (λ h. if_some I (S + 1) W h) (λ h. if_none I (S + 1) W h) (λ h. if_some I' (S + 1) W' h) (λ h. if_none I' (S + 1) W' h)
        (omega (arith, at_within s.pos s.answers v.at)) (omega (arith, at_within c.pos c.answers gv.at)) tk.fewer (injects moving)
        (omega (arith, way_at_most c.places, order.places)) (stays moving)
        (λ h. omega (arith, gv.idle h, stay, ap frame_beats gv.frames, ap part_beats gv.part, pos))
        (λ h. omega (arith, gv.goes h, stay, ap frame_beats gv.frames, ap part_beats gv.part, pos))
        (why moving)

-- ---- the whole drive

record Drove (n : ℕ) (b : Build) (commits clocks : ℕ) (d e : Driven) : Type 0 where
  driving : Driving n b e
  no_farther : far b e ≤ far b d
  nearer : (far b e ≡ 0) ⊎ (far b e + clocks ≤ far b d + commits)

one_more : (n : ℕ) (b : Build) (x : Beside) (xs : List Beside) (d : Driven) → Stepped n b (commit_count (action_in b (driving x.ifindex x.time d.left) d.trace.state)) d (drive_clock b x.ifindex x.time d) →
    (let e = drive_clock b x.ifindex x.time d in Drove n b (commits_in b xs e) (length xs) e (drive b xs e)) → Drove n b (commits_in b (x ∷ xs) d) (length (x ∷ xs)) d (drive b (x ∷ xs) d)
one_more n b x xs d s r = record {
  driving = r.driving;
  no_farther = omega (arith, r.no_farther, s.no_farther);
  nearer = elim (cases_lt 0 (far b d)) [
    | inl some ↦ elim r.nearer [
      | inl ended ↦ inl ended
      | inr more ↦ inr (elim (cases_lt 0 (commit_count (action_in b (driving x.ifindex x.time d.left) d.trace.state))) [
        | inl stalling ↦ omega (arith, more, stalling, s.no_farther)
        | inr moving ↦ omega (arith, more, some, s.nearer (omega (arith, moving)))
      ])
    ]
    | inr none ↦ inl (omega (arith, none, s.no_farther, r.no_farther))
  ];
}

forward : (n : ℕ) (b : Build) → b.slots ≡ b.plan.last + 4 → (clocks : List Beside) (d : Driven) → GoesForward b clocks d → Driving n b d → Drove n b (commits_in b clocks d) (length clocks) d (drive b clocks d)
forward n b slots [] d ahead v = record { driving = v; no_farther = omega arith; nearer = inr (omega arith) }
forward n b slots (x ∷ xs) d ahead v =
    one_more n b x xs d (steps n b slots x.ifindex x.time d ahead.0 v) (forward n b slots xs (drive_clock b x.ifindex x.time d) ahead.1 (steps n b slots x.ifindex x.time d ahead.0 v).driving)

pub at_end : (pos : ℕ) (xs : List Answer) → IsAt pos xs → answer_beats xs ≤ pos → length xs ≡ 0
at_end pos [] h l = refl
at_end pos (a ∷ xs) h l = absurd (omega (arith, h, l))

some_beats : (cs : List Arrival) → length cs ≤ frame_beats cs
some_beats [] = omega arith
some_beats (c ∷ cs) = omega (arith, some_beats cs)

-- where no beat is left to be given, all frames are answered
pub all_given : (n : ℕ) (b : Build) (d : Driven) → Driving n b d → to_give d ≡ 0 → length d.trace.gave ≡ n
all_given n b d v z =
    let t = d.trace in
    let s = t.state in
    let within = at_within s.pos s.answers v.at in
    let frames : length s.frames ≡ 0 = omega (arith, z, within, some_beats s.frames) in
    let answers : length s.answers ≡ 0 = at_end s.pos s.answers v.at (omega (arith, z)) in
    let none_left : lasts d.left ≡ 0 = no_lasts d.left (omega (arith, z, within)) in
    omega (arith, ap length v.order.answers, length-append t.gave s.answers, answers, answers_length b.program t.left t.came v.order.begun, ap length v.order.frames, length-drop (length t.left) t.came, frames, v.order.begun, v.count, none_left)

lasts_whole : (bs rest : List Beat) → IsWhole bs → lasts (bs ++ rest) ≡ 1 + lasts rest
lasts_whole [] rest h = absurd h
lasts_whole (x ∷ []) rest h = omega (arith, ap bit h.1)
lasts_whole (x ∷ y ∷ bs) rest h = omega (arith, ap bit h.1, lasts_whole (y ∷ bs) rest h.2)

ends_whole : (begun : Bool) (bs rest : List Beat) → IsWhole bs → EndsWhole false rest → EndsWhole begun (bs ++ rest)
ends_whole begun [] rest h e = absurd h
ends_whole begun (x ∷ []) rest h e = subst (λ l. EndsWhole (not l) rest) (sym h.1) e
ends_whole begun (x ∷ y ∷ bs) rest h e = ends_whole (not x.last) (y ∷ bs) rest h.2 e

pub lasts_frames : (frames : List (List ℕ)) → AllByRecursion IsFrame frames → lasts (flat_map beats_of frames) ≡ length frames
lasts_frames [] h = refl
lasts_frames (f ∷ frames) h = omega (arith, lasts_whole (beats_of f) (flat_map beats_of frames) (IsWhole-beats_of f h.0.some), lasts_frames frames h.1)

pub ends_frames : (frames : List (List ℕ)) → AllByRecursion IsFrame frames → EndsWhole false (flat_map beats_of frames)
ends_frames [] h = refl
ends_frames (f ∷ frames) h = ends_whole false (beats_of f) (flat_map beats_of frames) (IsWhole-beats_of f h.0.some) (ends_frames frames h.1)

pub way_short : (b : Build) (d : Driven) → length d.trace.state.places ≡ suc b.plan.last → way_left b d ≤ b.plan.last + 1
way_short b d h = by (nat_lt 0 (to_inject d))
  where
    by : (c : Bool) → (if c then b.plan.last + 1 else way d.trace.state.places) ≤ b.plan.last + 1
    by true = omega arith
    by false = omega (arith, way_at_most d.trace.state.places, h)

pub begins_driving : (b : Build) (maps : MapState) (frames : List (List ℕ)) → AllByRecursion IsFrame frames → Driving (length frames) b (drive_start b maps frames)
begins_driving b maps frames whole = record {
  order = begins b maps;
  count = omega (arith, lasts_frames frames whole);
  full = refl;
  offers = offers-frames frames whole;
  ends = ends_frames frames whole;
  at = refl;
}

pub ends_forward : EndsForward
ends_forward b slots maps frames whole clocks ahead long =
    let d = drive_start b maps frames in
    let v = begins_driving b maps frames whole in
    let r = forward (length frames) b slots clocks d ahead v in
    all_given (length frames) b (drive b clocks d) r.driving (elim r.nearer [
      | inl ended ↦ omega (arith, ended)
      | inr near ↦ omega (arith, near, long, way_short b d v.order.places, lasts_frames frames whole)
    ])
