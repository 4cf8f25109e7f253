-- Frames and answers keep their order.
use Rattle.std.proofs.Common.{◌≡◌, ℕ, zero, suc, ◌+◌, ◌-◌, ◌*◌, ◌<◌, ◌≤◌, Bool, true, false, List, [], ◌∷◌, ◌++◌, Option, Some, None, length, drop, refl, sym, ap, ◌∙◌, subst, arith, not, length-append, length-drop, append_assoc}
use Rattle.std.specs.Prelude.{if◌then◌else◌, nat_lt, ◌&&◌, ◌||◌, is_some, replicate}
use Rattle.std.specs.Option.{option_map}
use Rattle.std.proofs.lemmas.Bool.Decides.{nat_tests}
use Rattle.std.proofs.lemmas.List.{drop-append-le, length-replicate}
use Rattle.realization.specs.beat_core.declared.beat.Beat.{Beat}
use Rattle.realization.specs.beat_core.declared.answer.Answer.{Answer}
use Rattle.realization.specs.beat_core.Beats.{first_beat}
use Rattle.hazard_core.specs.xdp_maps.State.{MapState}
use Rattle.hazard_core.specs.cell_core.Cells.{bit}
use Rattle.hazard_core.specs.cell_core.Sites.{ProgramView}
use Rattle.hazard_core.specs.StageValues.{StageValues}
use Rattle.hazard_core.specs.Tables.{TableState}
use Rattle.hazard_core.specs.declared.change.Change.{Change}
use Rattle.hazard_core.specs.Commits.{change_by, host_change}
use Rattle.realization.specs.beat_core.Ports.{Arrival}
use Rattle.pipe_core.specs.Machine.{Packet, State, Input, Build, Action, Commits, Writes, Moves, place_at, inside, flushed, some_send, marked_by, marked_below, moved, newcomer, injected, answers_by, answer_of, worked, work, action_of, came_with, gathered, beat_over, beat_at, taken_beat, scattered, clock}
use Rattle.pipe_core.specs.History.{Trace, came_in, left_as, left_in, gave_in, next, run, begin, answers_of, IsInOrder}
use Rattle.pipe_core.proofs.FlushLaws.{flushed_inside, flushed_length}
use Rattle.pipe_core.proofs.HistoryLaws.{answers_length}

-- ---- packets in the places

pub marked_by_length : (to : ℕ) (b : Build) (t : TableState) (e : Change) (k : ℕ) (xs : List (Option Packet)) → length (marked_below to b t e k xs) ≡ length xs
marked_by_length to b t e k [] = refl
marked_by_length to b t e k (x ∷ xs) = ap suc (marked_by_length to b t e (suc k) xs)

pub marked_by_inside : (to : ℕ) (b : Build) (t : TableState) (e : Change) (k : ℕ) (xs : List (Option Packet)) → inside (marked_below to b t e k xs) ≡ inside xs
marked_by_inside to b t e k [] = refl
marked_by_inside to b t e k (x ∷ xs) = by (nat_lt k to) x (marked_by_inside to b t e (suc k) xs)
  where
    by : (c : Bool) (x : Option Packet) → inside (marked_below to b t e (suc k) xs) ≡ inside xs → inside ((if c then option_map (marked_by b t k e) x else x) ∷ marked_below to b t e (suc k) xs) ≡ inside (x ∷ xs)
    by true None more = more
    by true (Some x) more = ap suc more
    by false None more = more
    by false (Some x) more = ap suc more

-- the last of some places, the first of which is x
abbrev pub last_or : Option Packet → List (Option Packet) → Option Packet
last_or x [] = x
last_or x (y ∷ ys) = last_or y ys

pub place_last : (x : Option Packet) (xs : List (Option Packet)) → place_at (x ∷ xs) (length xs) ≡ last_or x xs
place_last x [] = refl
place_last x (y ∷ ys) = place_last y ys

pub moved_length : (b : Build) (t : TableState) (fs : List Arrival) (k : ℕ) (x : Option Packet) (ys : List (Option Packet)) → length (moved b t fs k x ys) ≡ length ys
moved_length b t fs k x [] = refl
moved_length b t fs k x (y ∷ ys) = ap suc (moved_length b t fs (suc k) y ys)

pub moved_inside : (b : Build) (t : TableState) (fs : List Arrival) (k : ℕ) (x : Option Packet) (ys : List (Option Packet)) →
    inside (moved b t fs k x ys) + bit (is_some (last_or x ys)) ≡ inside (x ∷ ys)
moved_inside b t fs k None [] = refl
moved_inside b t fs k (Some x) [] = refl
moved_inside b t fs k None (y ∷ ys) = moved_inside b t fs (suc k) y ys
moved_inside b t fs k (Some x) (y ∷ ys) = let h = moved_inside b t fs (suc k) y ys in omega (arith, h)

-- with one that comes, no more than there are frames
pub came_inside : (b : Build) (back : Bool) (fs : List Arrival) (rest : List (Option Packet)) → inside rest ≤ length fs → inside (newcomer b back fs rest ∷ rest) ≤ length fs
came_inside b back fs rest h = by (not back) (nat_lt (inside rest) (length fs)) refl
  where
    by : (c d : Bool) → nat_lt (inside rest) (length fs) ≡ d → inside ((if c && d then Some (injected b.program) else None) ∷ rest) ≤ length fs
    by true true e = let l : inside rest < length fs = grind (arith, nat_tests) in omega arith
    by true false e = h
    by false d e = h

-- ---- the work of a clock

pub record Worked (b : Build) (s w : State) (left : List StageValues) : Type 0 where
  pub places : length w.places ≡ suc b.plan.last
  pub packets : inside w.places ≤ length w.frames
  pub one : length left ≤ length s.frames
  pub frames : w.frames ≡ drop (length left) s.frames
  pub answers : w.answers ≡ s.answers ++ answers_of b.program left s.frames
  pub part : w.part ≡ s.part

pub append_none : {X : Type 0} (xs : List X) → xs ++ [] ≡ xs
append_none [] = refl
append_none (x ∷ xs) = ap (λ l. x ∷ l) (append_none xs)

pub some_last : (x : Option Packet) (xs : List (Option Packet)) → bit (is_some (last_or x xs)) ≤ inside (x ∷ xs)
some_last None [] = omega arith
some_last (Some x) [] = omega arith
some_last None (y ∷ ys) = some_last y ys
some_last (Some x) (y ∷ ys) = let h = some_last y ys in omega (arith, h)

pub moves : (b : Build) (s : State) (back : Bool) (rest : List (Option Packet)) → length rest ≡ suc b.plan.last → inside rest ≤ length s.frames →
    Worked b s (worked b s back rest Moves) (left_as Moves (place_at rest b.plan.last))
moves b s back [] h l = absurd (omega (arith, h))
moves b s back (x ∷ xs) h l = by (place_at (x ∷ xs) b.plan.last) here
  where
    new : Option Packet
    new = newcomer b back s.frames (x ∷ xs)

    here : place_at (x ∷ xs) b.plan.last ≡ last_or x xs
    here = subst (λ n. place_at (x ∷ xs) n ≡ last_or x xs) (omega (arith, h)) (place_last x xs)

    go : inside (moved b s.tables s.frames 0 new (x ∷ xs)) + bit (is_some (last_or x xs)) ≡ inside (new ∷ x ∷ xs)
    go = moved_inside b s.tables s.frames 0 new (x ∷ xs)

    fit : inside (new ∷ x ∷ xs) ≤ length s.frames
    fit = came_inside b back s.frames (x ∷ xs) l

    long : length (moved b s.tables s.frames 0 new (x ∷ xs)) ≡ suc b.plan.last
    long = moved_length b s.tables s.frames 0 new (x ∷ xs) ∙ h

    many : bit (is_some (last_or x xs)) ≤ inside (x ∷ xs)
    many = some_last x xs

    by : (y : Option Packet) → y ≡ last_or x xs → Worked b s (record s {
      answers = s.answers ++ answers_by b.program s.frames y;
      frames = drop (bit (is_some y)) s.frames;
      places = moved b s.tables s.frames 0 new (x ∷ xs);
      done = 0;
      passed = (worked b s back (x ∷ xs) Moves).passed;
    }) (left_as Moves y)
    by None e = record {
      places = long;
      packets = let n : bit (is_some (last_or x xs)) ≡ 0 = sym (ap (λ z. bit (is_some z)) e) in omega (arith, go, fit, n);
      one = omega arith;
      frames = refl;
      answers = refl;
      part = refl;
    }
    by (Some y) e =
        let n : bit (is_some (last_or x xs)) ≡ 1 = sym (ap (λ z. bit (is_some z)) e) in
        some s.frames refl (omega (arith, many, l, n)) n
      where
        some : (fs : List Arrival) → fs ≡ s.frames → 1 ≤ length fs → bit (is_some (last_or x xs)) ≡ 1 → Worked b s (record s {
          answers = s.answers ++ answers_by b.program s.frames (Some y);
          frames = drop 1 s.frames;
          places = moved b s.tables s.frames 0 new (x ∷ xs);
          done = 0;
          passed = (worked b s back (x ∷ xs) Moves).passed;
        }) (y.held ∷ [])
        some [] e h n = absurd (omega arith)
        some (f ∷ fs) e h n = record {
          places = long;
          packets = omega (arith, go, fit, n, length-drop 1 s.frames);
          one = omega (arith, ap length e);
          frames = refl;
          answers = ap (λ l. s.answers ++ l) (subst (λ l. answers_by b.program l (Some y) ≡ answers_of b.program (y.held ∷ []) l) e refl);
          part = refl;
        }

-- an action in which no packet moves
stays : (b : Build) (s w : State) (to : ℕ) (e : Change) (rest : List (Option Packet)) → length rest ≡ suc b.plan.last → inside rest ≤ length s.frames →
    w.places ≡ marked_below to b s.tables e 0 rest → w.frames ≡ s.frames → w.answers ≡ s.answers → w.part ≡ s.part → Worked b s w []
stays b s w to e rest h l places frames answers part = record {
  places = ap length places ∙ marked_by_length to b s.tables e 0 rest ∙ h;
  packets = omega (arith, ap inside places, marked_by_inside to b s.tables e 0 rest, l, ap length frames);
  one = omega arith;
  frames = frames;
  answers = answers ∙ sym (append_none s.answers);
  part = part;
}

acted : (b : Build) (s : State) (back : Bool) (rest : List (Option Packet)) (u : Action) → length rest ≡ suc b.plan.last → inside rest ≤ length s.frames →
    Worked b s (worked b s back rest u) (left_as u (place_at rest b.plan.last))
acted b s back rest (Commits j x) h l =
    subst (Worked b s (worked b s back rest (Commits j x))) (nothing (place_at rest b.plan.last))
    (stays b s (worked b s back rest (Commits j x)) b.plan.commit (change_by b.program s.tables s.taken x.held j) rest h l refl refl refl refl)
  where
    nothing : (y : Option Packet) → [] ≡ left_as (Commits j x) y
    nothing None = refl
    nothing (Some y) = refl
acted b s back rest (Writes a n) h l =
    subst (Worked b s (worked b s back rest (Writes a n))) (nothing (place_at rest b.plan.last))
    (stays b s (worked b s back rest (Writes a n)) (suc b.plan.commit) (host_change s.tables a) rest h l refl refl refl refl)
  where
    nothing : (y : Option Packet) → [] ≡ left_as (Writes a n) y
    nothing None = refl
    nothing (Some y) = refl
acted b s back rest Moves h l = moves b s back rest h l

pub work_keeps : (b : Build) (i : Input) (s : State) → length s.places ≡ suc b.plan.last → inside s.places ≤ length s.frames → Worked b s (work b i s) (left_in b i s)
unfolding work
work_keeps b i s h l =
    let rest = flushed b 0 s.places in
    acted b s (some_send b 0 s.places) rest (action_of b i s rest) (flushed_length b 0 s.places ∙ h) (omega (arith, flushed_inside b 0 s.places, l))

-- ---- answers to frames

pub answers_append : (p : ProgramView) (hs gs : List StageValues) (cs : List Arrival) → length hs ≤ length cs → answers_of p (hs ++ gs) cs ≡ answers_of p hs cs ++ answers_of p gs (drop (length hs) cs)
answers_append p [] gs cs h = refl
answers_append p (x ∷ hs) gs [] h = absurd (omega arith)
answers_append p (x ∷ hs) gs (c ∷ cs) h = ap (λ l. answer_of p x c ∷ l) (answers_append p hs gs cs (omega arith))

pub answers_more : (p : ProgramView) (hs : List StageValues) (cs ds : List Arrival) → length hs ≤ length cs → answers_of p hs (cs ++ ds) ≡ answers_of p hs cs
answers_more p [] cs ds h = refl
answers_more p (x ∷ hs) [] ds h = absurd (omega arith)
answers_more p (x ∷ hs) (c ∷ cs) ds h = ap (λ l. answer_of p x c ∷ l) (answers_more p hs cs ds (omega arith))

pub drop_drop : {X : Type 0} (m n : ℕ) (xs : List X) → m ≤ length xs → drop n (drop m xs) ≡ drop (m + n) xs
drop_drop zero n xs h = let e : n ≡ 0 + n = omega arith in ap (λ k. drop k xs) e
drop_drop (suc m) n [] h = absurd (omega arith)
drop_drop (suc m) n (x ∷ xs) h = let e : suc (m + n) ≡ suc m + n = omega arith in drop_drop m n xs (omega arith) ∙ ap (λ k. drop k (x ∷ xs)) e

-- ---- a beat comes

pub record Gathers (n : ℕ) (w g : State) (more : List Arrival) : Type 0 where
  pub places : g.places ≡ w.places
  pub answers : g.answers ≡ w.answers
  pub frames : g.frames ≡ w.frames ++ more
  pub room : length g.frames + bit (is_some g.part) ≤ n

gathers : (n : ℕ) (w : State) (i : Input) (e : Option Beat) → length w.frames + bit (is_some w.part) ≤ n → ((x : Beat) → e ≡ Some x → length w.frames + 1 ≤ n) →
    Gathers n w (gathered w i e) (came_in w i e)
gathers n w i None h k = record { places = refl; answers = refl; frames = sym (append_none w.frames); room = h }
gathers n w i (Some x) h k = by x.last (k x refl)
  where
    by : (l : Bool) → length w.frames + 1 ≤ n → Gathers n w (if l then record w { frames = w.frames ++ came_with w.part i x ∷ []; part = None } else record w { part = Some (came_with w.part i x) }) (if l then came_with w.part i x ∷ [] else [])
    by true h = record { places = refl; answers = refl; frames = refl; room = omega (arith, h, length-append w.frames (came_with w.part i x ∷ [])) }
    by false h = record { places = refl; answers = refl; frames = sym (append_none w.frames); room = h }

came_same : (w s : State) (i : Input) (e : Option Beat) → w.part ≡ s.part → came_in w i e ≡ came_in s i e
came_same w s i None h = refl
came_same w s i (Some x) h = ap (λ part. if x.last then came_with part i x ∷ [] else []) h

-- where a beat goes over there is room for its frame
ready_room : (b : Build) (s : State) (i : Input) → length s.answers + length s.frames + bit (is_some s.part) ≤ b.slots → (x : Beat) → beat_over b s i ≡ Some x →
    length s.answers + length s.frames + 1 ≤ b.slots
ready_room b s i room x e = by (is_some s.part) (nat_lt (length s.answers + length s.frames) b.slots) refl refl e
  where
    by : (c d : Bool) → is_some s.part ≡ c → nat_lt (length s.answers + length s.frames) b.slots ≡ d → (if c || d then i.beat else None) ≡ Some x → length s.answers + length s.frames + 1 ≤ b.slots
    by true d p q e = let r : bit (is_some s.part) ≡ 1 = ap bit p in omega (arith, room, r)
    by false true p q e = let l : length s.answers + length s.frames < b.slots = grind (arith, nat_tests) in omega arith
    by false false p q e = cc

-- ---- a beat goes

pub record Scatters (g c : State) (gone : List Answer) : Type 0 where
  pub places : c.places ≡ g.places
  pub frames : c.frames ≡ g.frames
  pub part : c.part ≡ g.part
  pub answers : gone ++ c.answers ≡ g.answers

scatters : (g : State) (old new : List Answer) (pos : ℕ) (take : Bool) → g.answers ≡ old ++ new →
    Scatters g (scattered g (if take then beat_at pos old else None)) (gave_in old (if take then beat_at pos old else None))
scatters g old new pos false h = record { places = refl; frames = refl; part = refl; answers = refl }
scatters g [] new pos true h = record { places = refl; frames = refl; part = refl; answers = refl }
scatters g (a ∷ more) new pos true h = by (first_beat (drop (8 * pos) a.frame)).last
  where
    by : (l : Bool) → Scatters g (if l then record g { answers = drop 1 g.answers; pos = 0 } else record g { pos = suc g.pos }) (if l then a ∷ [] else [])
    by true = record { places = refl; frames = refl; part = refl; answers = subst (λ l. a ∷ drop 1 l ≡ l) (sym h) refl }
    by false = record { places = refl; frames = refl; part = refl; answers = refl }

-- ---- the whole clock

-- what beats do to the state after the work of the clock
pub record BeatsKeep (b : Build) (s w c : State) (more : List Arrival) (gone : List Answer) : Type 0 where
  pub places : c.places ≡ w.places
  pub frames : c.frames ≡ w.frames ++ more
  pub answers : gone ++ c.answers ≡ w.answers
  pub room : length c.answers + length c.frames + bit (is_some c.part) ≤ b.slots

pub beats_keep : (b : Build) (i : Input) (t : Trace) → IsInOrder b t →
    BeatsKeep b t.state (work b i t.state) (clock b i t.state) (came_in t.state i (beat_over b t.state i)) (gave_in t.state.answers (taken_beat t.state i))
unfolding clock
beats_keep b i t o =
    let s = t.state in
    let w = work b i s in
    let k = work_keeps b i s o.places o.packets in
    let left = left_in b i s in
    let e = beat_over b s i in
    let n = b.slots - length w.answers in
    let many : length w.answers + length w.frames ≡ length s.answers + length s.frames = omega (arith, ap length k.answers, length-append s.answers (answers_of b.program left s.frames), answers_length b.program left s.frames k.one, ap length k.frames, length-drop (length left) s.frames, k.one) in
    let part : bit (is_some w.part) ≡ bit (is_some s.part) = ap (λ c. bit (is_some c)) k.part in
    let gs = gathers n w i e (omega (arith, many, part, o.room)) (λ x q. omega (arith, many, ready_room b s i o.room x q)) in
    let g = gathered w i e in
    let sc = scatters g s.answers (answers_of b.program left s.frames) s.pos i.take (gs.answers ∙ k.answers) in
    let gone = gave_in s.answers (taken_beat s i) in
    let c = scattered g (taken_beat s i) in
    record {
      places = sc.places ∙ gs.places;
      frames = sc.frames ∙ gs.frames ∙ ap (λ l. w.frames ++ l) (came_same w s i e k.part);
      answers = sc.answers ∙ gs.answers;
      room = omega (arith, gs.room, ap length sc.frames, ap (λ x. bit (is_some x)) sc.part, ap length sc.answers, length-append gone c.answers, ap length gs.answers, many, o.room);
    }

pub keeps_order : (b : Build) (i : Input) (t : Trace) → IsInOrder b t → IsInOrder b (next b i t)
unfolding next
keeps_order b i t o =
    let s = t.state in
    let w = work b i s in
    let k = work_keeps b i s o.places o.packets in
    let left = left_in b i s in
    let c = clock b i s in
    let more = came_in s i (beat_over b s i) in
    let gone = gave_in s.answers (taken_beat s i) in
    let beats = beats_keep b i t o in
    let count : length left ≤ length t.came - length t.left = omega (arith, k.one, ap length o.frames, length-drop (length t.left) t.came) in
    let begun : length (t.left ++ left) ≤ length t.came = omega (arith, length-append t.left left, count, o.begun) in
    record {
      room = beats.room;
      places = ap length beats.places ∙ k.places;
      packets = omega (arith, ap inside beats.places, k.packets, ap length beats.frames, length-append w.frames more);
      begun = omega (arith, begun, length-append t.came more);
      frames = beats.frames ∙ ap (λ l. l ++ more) (k.frames ∙ ap (drop (length left)) o.frames ∙ drop_drop (length t.left) (length left) t.came o.begun ∙ ap (λ k. drop k t.came) (sym (length-append t.left left)))
          ∙ sym (drop-append-le (length (t.left ++ left)) t.came more begun);
      answers = append_assoc t.gave gone c.answers ∙ ap (λ l. t.gave ++ l) (beats.answers ∙ k.answers) ∙ sym (append_assoc t.gave s.answers (answers_of b.program left s.frames))
          ∙ ap (λ l. l ++ answers_of b.program left s.frames) o.answers ∙ ap (λ l. answers_of b.program t.left t.came ++ answers_of b.program left l) o.frames
          ∙ sym (answers_append b.program t.left left t.came o.begun) ∙ sym (answers_more b.program (t.left ++ left) t.came more begun);
    }

always : (b : Build) (is : List Input) (t : Trace) → IsInOrder b t → IsInOrder b (run b is t)
always b [] t o = o
always b (i ∷ is) t o = always b is (next b i t) (keeps_order b i t o)

no_packets : (n : ℕ) → inside (replicate n None) ≡ 0
no_packets zero = refl
no_packets (suc n) = no_packets n

pub begins : (b : Build) (maps : MapState) → IsInOrder b (begin b maps)
begins b maps = record {
  room = omega arith;
  places = length-replicate (suc b.plan.last) None;
  packets = omega (arith, no_packets (suc b.plan.last));
  begun = omega arith;
  frames = refl;
  answers = refl;
}

pub in_order : (b : Build) (maps : MapState) (is : List Input) → IsInOrder b (run b is (begin b maps))
in_order b maps is = always b is (begin b maps) (begins b maps)
