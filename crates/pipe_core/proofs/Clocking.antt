-- The steps of a clock in code are those of the machine, and each keeps the pipe steady.
use Rattle.std.proofs.Common.{◌≡◌, ℕ, zero, suc, ◌+◌, ◌<◌, ◌≤◌, Bool, true, false, List, [], ◌∷◌, ◌++◌, Option, Some, None, length, drop, get_or, refl, sym, ap, ◌∙◌, subst, arith, length-append, length-drop}
use Rattle.std.proofs.lemmas.List.{length-set}
use Rattle.std.specs.Prelude.{if◌then◌else◌, nat_lt, ◌%◌, ◌^◌, ◌||◌, is_some, slice_set, nat_le, min}
use Rattle.std.specs.Option.{option_map, option_and_then}
use Rattle.realization.specs.beat_core.declared.beat.Beat.{Beat}
use Rattle.realization.specs.beat_core.declared.answer.Answer.{Answer}
use Rattle.realization.specs.beat_core.Ports.{Arrival}
use Rattle.hazard_core.specs.cell_core.Cells.{bit}
use Rattle.hazard_core.specs.cell_core.Formed.{AllFit}
use Rattle.hazard_core.specs.cell_core.Sites.{ProgramView, site_at, with_bytes}
use Rattle.hazard_core.specs.xdp_maps.declared.decl.MapDecl.{MapDecl}
use Rattle.hazard_core.specs.StageValues.{StageValues, stage_value, is_update}
use Rattle.hazard_core.specs.Tables.{TableState}
use Rattle.hazard_core.specs.declared.access.Access.{Access}
use Rattle.hazard_core.specs.Commits.{committed, taken_after, change_by, host_written, host_change, written_slot}
use Rattle.pipe_core.specs.Machine.{Packet, State, Input, Build, Action, Commits, Writes, Moves, place_at, inside, flushed, some_send, enters, moved, newcomer, answers_by, answer_of, no_frame, chosen, commits_as, commits_or_moves, action_as, worked, work, action_of, came_with, gathered, is_ready, beat_at, beat_over, taken_beat, scattered, clock}
use Rattle.pipe_core.specs.FrameQueue.{FrameQueue, came_bytes, left_word, left_frames, answered_as}
use Rattle.pipe_core.specs.StateView.{state_of}
use Rattle.pipe_core.specs.PipeView.{IsSteady, has_room}
use Rattle.pipe_core.specs.declared.arrived.TheConstants.{FRAME_ROOM}
use Rattle.pipe_core.proofs.Order.{marked_by_length, marked_by_inside, last_or, place_last, some_last, append_none, moves}
use Rattle.pipe_core.proofs.FlushLaws.{flushed_inside, flushed_length}
use Rattle.pipe_core.proofs.ClockLaws.{worked_part}

-- ---- the packets move on

get_first : (f g : Arrival) (fs : List Arrival) (n : ℕ) → 1 ≤ n → get_or (f ∷ fs) n no_frame ≡ get_or (g ∷ fs) n no_frame
get_first f g fs zero h = absurd (omega arith)
get_first f g fs (suc n) h = refl

enters_first : (b : Build) (t : TableState) (f g : Arrival) (fs : List Arrival) (k n : ℕ) (x : Option Packet) (l : List (Option Packet)) → 1 ≤ n →
    enters b t k (get_or (f ∷ fs) n no_frame) x ∷ l ≡ enters b t k (get_or (g ∷ fs) n no_frame) x ∷ l
enters_first b t f g fs k n x l h = ap (λ (c : Arrival). enters b t k c x ∷ l) (get_first f g fs n h)

-- where a packet leaves, no other has the oldest frame
moved_first : (b : Build) (t : TableState) (f g : Arrival) (fs : List Arrival) (k : ℕ) (x y : Option Packet) (ys : List (Option Packet)) → bit (is_some (last_or y ys)) ≡ 1 →
    moved b t (f ∷ fs) k x (y ∷ ys) ≡ moved b t (g ∷ fs) k x (y ∷ ys)
moved_first b t f g fs k x y [] h = enters_first b t f g fs k (inside (y ∷ [])) x [] (omega (arith, some_last y [], h))
moved_first b t f g fs k x y (z ∷ zs) h =
    enters_first b t f g fs k (inside (y ∷ z ∷ zs)) x (moved b t (f ∷ fs) (suc k) y (z ∷ zs)) (omega (arith, some_last y (z ∷ zs), h))
    ∙ ap (λ (l : List (Option Packet)). enters b t k (get_or (g ∷ fs) (inside (y ∷ z ∷ zs)) no_frame) x ∷ l) (moved_first b t f g fs (suc k) y z zs h)

-- the oldest frame becomes the answer, the packets move, and the answer goes over
pub advanced : (b : Build) (t : TableState) (q : FrameQueue) (places : List (Option Packet)) (done : ℕ) (taken : List ℕ) (passed : ℕ) (back : Bool)
    → length places ≡ suc b.plan.last → inside places ≤ length q.frames
    → (let x = place_at places b.plan.last in let fs = left_frames b.program x q.frames in
    state_of t (answered_as (option_map (left_word b.program) x) (record q { frames = fs })) (moved b t fs 0 (newcomer b back fs places) places) 0 taken
    ((passed + bit (is_some (place_at places b.plan.commit))) % 2 ^ 32)
    ≡ worked b (state_of t q places done taken passed) back places Moves)
advanced b t q [] done taken passed back long l = absurd (omega (arith, long))
advanced b t q (p ∷ ps) done taken passed back long l = by (place_at (p ∷ ps) b.plan.last) here q.frames refl
  where
    here : place_at (p ∷ ps) b.plan.last ≡ last_or p ps
    here = subst (λ n. place_at (p ∷ ps) n ≡ last_or p ps) (omega (arith, long)) (place_last p ps)

    by : (x : Option Packet) → x ≡ last_or p ps → (fs : List Arrival) → fs ≡ q.frames →
        state_of t (answered_as (option_map (left_word b.program) x) (record q { frames = left_frames b.program x fs })) (moved b t (left_frames b.program x fs) 0 (newcomer b back (left_frames b.program x fs) (p ∷ ps)) (p ∷ ps)) 0 taken
        ((passed + bit (is_some (place_at (p ∷ ps) b.plan.commit))) % 2 ^ 32)
        ≡ record {
          tables = t;
          answers = q.answers ++ answers_by b.program fs x;
          pos = q.pos;
          frames = drop (bit (is_some x)) fs;
          part = q.part;
          places = moved b t fs 0 (newcomer b back fs (p ∷ ps)) (p ∷ ps);
          done = 0;
          taken = taken;
          passed = (passed + bit (is_some (place_at (p ∷ ps) b.plan.commit))) % 2 ^ 32;
        }
    by None e fs is = ap (λ l. state_of t (record q { answers = l; frames = fs }) (moved b t fs 0 (newcomer b back fs (p ∷ ps)) (p ∷ ps)) 0 taken ((passed + bit (is_some (place_at (p ∷ ps) b.plan.commit))) % 2 ^ 32)) (sym (append_none q.answers))
    by (Some x) e [] is = absurd (omega (arith, ap length is, l, some_last p ps, ap (λ z. bit (is_some z)) e))
    by (Some x) e (f ∷ fs) is =
        ap (λ l. state_of t (record q { answers = q.answers ++ answer_of b.program x.held f ∷ []; frames = fs }) l 0 taken ((passed + bit (is_some (place_at (p ∷ ps) b.plan.commit))) % 2 ^ 32))
        (moved_first b t (record f { frame = with_bytes (stage_value x.held) f.frame b.program.frame }) f fs 0 (newcomer b back (f ∷ fs) (p ∷ ps)) p ps (sym (ap (λ z. bit (is_some z)) e)))

-- ---- what a clock does

pub commits_at : (b : Build) (s : State) (p : Option Packet) (j : ℕ) → option_and_then (chosen b s.tables s.done) p ≡ Some j → (x : Packet) × (p ≡ Some x) × (commits_or_moves b s p ≡ Commits j x)
commits_at b s None j e = absurd cc
commits_at b s (Some x) j e = (x, refl, ap (commits_as x) e)

pub moves_at : (b : Build) (s : State) (p : Option Packet) → option_and_then (chosen b s.tables s.done) p ≡ None → commits_or_moves b s p ≡ Moves
moves_at b s None e = refl
moves_at b s (Some x) e = ap (commits_as x) e

-- once the places are flushed
pub action_flushed : (b : Build) (s : State) (rest : List (Option Packet)) (w : Option (Access × ℕ)) → action_as b (record s { places = rest }) rest w ≡ action_as b s rest w
action_flushed b s rest (Some w) = refl
action_flushed b s rest None = by (place_at rest b.plan.commit)
  where
    by : (x : Option Packet) → commits_or_moves b (record s { places = rest }) x ≡ commits_or_moves b s x
    by None = refl
    by (Some x) = refl

pub worked_flushed : (b : Build) (s : State) (back : Bool) (rest : List (Option Packet)) (u : Action) → worked b (record s { places = rest }) back rest u ≡ worked b s back rest u
worked_flushed b s back rest (Commits j x) = refl
worked_flushed b s back rest (Writes a n) = refl
worked_flushed b s back rest Moves = refl

-- ---- the pipe stays steady

pub flushed_steady : (b : Build) (s : State) (n : ℕ) → IsSteady b s n → IsSteady b (record s { places = flushed b 0 s.places }) n
flushed_steady b s n h = record { fits = h.fits; places = flushed_length b 0 s.places ∙ h.places; packets = omega (arith, flushed_inside b 0 s.places, h.packets); taken = h.taken; slots = h.slots }

pub committed_decls : (p : ProgramView) (t : TableState) (taken : List ℕ) (h : StageValues) (j : ℕ) → (committed p t taken h j).decls ≡ t.decls
unfolding committed
committed_decls p t taken h j = refl

pub written_decls : (t : TableState) (a : Access) (n : ℕ) → (host_written t a n).decls ≡ t.decls
unfolding host_written
written_decls t a n = refl

pub taken_length : (p : ProgramView) (t : TableState) (taken : List ℕ) (h : StageValues) (j : ℕ) → length (taken_after p t taken h j) ≡ length taken
taken_length p t taken h j = by (is_update (site_at p.sites j).act)
  where
    by : (c : Bool) → length (if c then slice_set taken j (written_slot p t taken h j) else taken) ≡ length taken
    by true = length-set taken j (written_slot p t taken h j)
    by false = refl

pub fits_as : (b : Build) (old new : List MapDecl) → new ≡ old → AllFit old b.program.sites → AllFit new b.program.sites
fits_as b old new same fits = subst (λ d. AllFit d b.program.sites) (sym same) fits

pub committed_steady : (b : Build) (s : State) (n : ℕ) (back : Bool) (j : ℕ) (x : Packet) → IsSteady b s n → IsSteady b (worked b s back s.places (Commits j x)) n
committed_steady b s n back j x h = record {
  fits = fits_as b s.tables.decls _ (committed_decls b.program s.tables s.taken x.held j) h.fits;
  places = marked_by_length b.plan.commit b s.tables (change_by b.program s.tables s.taken x.held j) 0 s.places ∙ h.places;
  packets = omega (arith, marked_by_inside b.plan.commit b s.tables (change_by b.program s.tables s.taken x.held j) 0 s.places, h.packets);
  taken = taken_length b.program s.tables s.taken x.held j ∙ h.taken;
  slots = h.slots;
}

pub written_steady : (b : Build) (s : State) (n : ℕ) (back : Bool) (a : Access) (m : ℕ) → IsSteady b s n → IsSteady b (worked b s back s.places (Writes a m)) n
written_steady b s n back a m h = record {
  fits = fits_as b s.tables.decls _ (written_decls s.tables a m) h.fits;
  places = marked_by_length (suc b.plan.commit) b s.tables (host_change s.tables a) 0 s.places ∙ h.places;
  packets = omega (arith, marked_by_inside (suc b.plan.commit) b s.tables (host_change s.tables a) 0 s.places, h.packets);
  taken = h.taken;
  slots = h.slots;
}

pub moved_steady : (b : Build) (s : State) (n : ℕ) (back : Bool) → IsSteady b s n → IsSteady b (worked b s back s.places Moves) n
moved_steady b s n back h = let w = moves b s back s.places h.places h.packets in record { fits = h.fits; places = w.places; packets = w.packets; taken = h.taken; slots = h.slots }

pub gathered_steady : (b : Build) (s : State) (n : ℕ) (i : Input) (e : Option Beat) → IsSteady b s n → IsSteady b (gathered s i e) n
gathered_steady b s n i None h = h
gathered_steady b s n i (Some x) h = by x.last
  where
    by : (l : Bool) → IsSteady b (if l then record s { frames = s.frames ++ came_with s.part i x ∷ []; part = None } else record s { part = Some (came_with s.part i x) }) n
    by true = record { fits = h.fits; places = h.places; packets = omega (arith, h.packets, length-append s.frames (came_with s.part i x ∷ [])); taken = h.taken; slots = h.slots }
    by false = record { fits = h.fits; places = h.places; packets = h.packets; taken = h.taken; slots = h.slots }

pub scattered_steady : (b : Build) (s : State) (n : ℕ) (e : Option Beat) → IsSteady b s n → IsSteady b (scattered s e) n
scattered_steady b s n None h = h
scattered_steady b s n (Some x) h = by x.last
  where
    by : (l : Bool) → IsSteady b (if l then record s { answers = drop 1 s.answers; pos = 0 } else record s { pos = suc s.pos }) n
    by true = record { fits = h.fits; places = h.places; packets = h.packets; taken = h.taken; slots = h.slots }
    by false = record { fits = h.fits; places = h.places; packets = h.packets; taken = h.taken; slots = h.slots }

-- ---- what the work of a clock leaves for the beats

pub work_part : (b : Build) (i : Input) (s : State) → (work b i s).part ≡ s.part
unfolding work
work_part b i s = worked_part b s (some_send b 0 s.places) (flushed b 0 s.places) (action_of b i s (flushed b 0 s.places))

worked_pos : (b : Build) (s : State) (back : Bool) (rest : List (Option Packet)) (u : Action) → (worked b s back rest u).pos ≡ s.pos
worked_pos b s back rest (Commits j x) = refl
worked_pos b s back rest (Writes a n) = refl
worked_pos b s back rest Moves = refl

pub work_pos : (b : Build) (i : Input) (s : State) → (work b i s).pos ≡ s.pos
unfolding work
work_pos b i s = worked_pos b s (some_send b 0 s.places) (flushed b 0 s.places) (action_of b i s (flushed b 0 s.places))

worked_answers : (b : Build) (s : State) (back : Bool) (rest : List (Option Packet)) (u : Action) → length s.answers ≤ length (worked b s back rest u).answers
worked_answers b s back rest (Commits j x) = omega arith
worked_answers b s back rest (Writes a n) = omega arith
worked_answers b s back rest Moves = omega (arith, length-append s.answers (answers_by b.program s.frames (place_at rest b.plan.last)))

work_answers : (b : Build) (i : Input) (s : State) → length s.answers ≤ length (work b i s).answers
unfolding work
work_answers b i s = worked_answers b s (some_send b 0 s.places) (flushed b 0 s.places) (action_of b i s (flushed b 0 s.places))

gathered_answers : (s : State) (i : Input) (e : Option Beat) → (gathered s i e).answers ≡ s.answers
gathered_answers s i None = refl
gathered_answers s i (Some x) = by x.last
  where
    by : (l : Bool) → (let w : State = (if l then record s { frames = s.frames ++ came_with s.part i x ∷ []; part = None } else record s { part = Some (came_with s.part i x) }) in w.answers ≡ s.answers)
    by true = refl
    by false = refl

gathered_pos : (s : State) (i : Input) (e : Option Beat) → (gathered s i e).pos ≡ s.pos
gathered_pos s i None = refl
gathered_pos s i (Some x) = by x.last
  where
    by : (l : Bool) → (let w : State = (if l then record s { frames = s.frames ++ came_with s.part i x ∷ []; part = None } else record s { part = Some (came_with s.part i x) }) in w.pos ≡ s.pos)
    by true = refl
    by false = refl

some_answer : (answers : List Answer) (pos : ℕ) (x : Beat) → beat_at pos answers ≡ Some x → 1 ≤ length answers
some_answer [] pos x e = absurd cc
some_answer (a ∷ more) pos x e = omega arith

-- where a beat is shown its answer is still there
pub still_shown : (b : Build) (i : Input) (s : State) (e : Option Beat) (x : Beat) → beat_at s.pos s.answers ≡ Some x → 0 < length (gathered (work b i s) i e).answers
still_shown b i s e x h = omega (arith, some_answer s.answers s.pos x h, work_answers b i s, ap length (gathered_answers (work b i s) i e))

pub same_pos : (b : Build) (i : Input) (s : State) (e : Option Beat) → (gathered (work b i s) i e).pos ≡ s.pos
same_pos b i s e = gathered_pos (work b i s) i e ∙ work_pos b i s

pub some_inside : (xs : List (Option Packet)) (k : ℕ) (x : Packet) → place_at xs k ≡ Some x → 1 ≤ inside xs
some_inside [] k x e = absurd cc
some_inside (None ∷ xs) zero x e = absurd cc
some_inside (None ∷ xs) (suc k) x e = some_inside xs k x e
some_inside (Some y ∷ xs) k x e = omega arith

worked_ready : (b : Build) (s : State) (back : Bool) (rest : List (Option Packet)) (u : Action) → inside rest ≤ length s.frames → is_ready b (worked b s back rest u) ≡ is_ready b s
worked_ready b s back rest (Commits j x) h = refl
worked_ready b s back rest (Writes a n) h = refl
worked_ready b s back rest Moves h = by (place_at rest b.plan.last) refl
  where
    by : (y : Option Packet) → place_at rest b.plan.last ≡ y → (is_some s.part || nat_lt (length (s.answers ++ answers_by b.program s.frames y) + length (drop (bit (is_some y)) s.frames)) b.slots) ≡ is_ready b s
    by None e =
        let many : length (s.answers ++ []) + length s.frames ≡ length s.answers + length s.frames = omega (arith, length-append s.answers []) in
        ap (λ (n : ℕ). is_some s.part || nat_lt n b.slots) many
    by (Some x) e =
        let some : 1 ≤ inside rest = some_inside rest b.plan.last x e in
        let a = answer_of b.program x.held (get_or s.frames 0 no_frame) in
        let many : length (s.answers ++ a ∷ []) + length (drop 1 s.frames) ≡ length s.answers + length s.frames = omega (arith, length-append s.answers (a ∷ []), length-drop 1 s.frames, some, h) in
        ap (λ (n : ℕ). is_some s.part || nat_lt n b.slots) many

-- as many frames and answers are inside
pub work_ready : (b : Build) (i : Input) (s : State) → inside s.places ≤ length s.frames → is_ready b (work b i s) ≡ is_ready b s
unfolding work
work_ready b i s h = let rest = flushed b 0 s.places in worked_ready b s (some_send b 0 s.places) rest (action_of b i s rest) (omega (arith, flushed_inside b 0 s.places, h))

-- ---- the whole clock

pub room_kept : (s w : State) (ready : Bool) (beat : Option Beat) → w.part ≡ s.part → has_room s beat ≡ true → has_room w (if ready then beat else None) ≡ true
room_kept s w false beat e h = refl
room_kept s w true None e h = refl
room_kept s w true (Some x) e h = ap (λ (p : Option Arrival). nat_le (came_bytes p + min x.bytes 8) FRAME_ROOM) e ∙ h

pub over_ready : (ready : Bool) (beat : Option Beat) → is_some (if ready then beat else None) ≡ true → ready ≡ true
over_ready true beat h = refl
over_ready false beat h = absurd cc

pub taken_shown : (take : Bool) (shown : Option Beat) (x : Beat) → (if take then shown else None) ≡ Some x → shown ≡ Some x
taken_shown true shown x e = e
taken_shown false shown x e = absurd cc

pub clocked : (b : Build) (i : Input) (s : State) (over taken : Option Beat) → over ≡ beat_over b s i → taken ≡ taken_beat s i → scattered (gathered (work b i s) i over) taken ≡ clock b i s
unfolding clock
clocked b i s over taken oe te = ap (λ (e : Option Beat). scattered (gathered (work b i s) i e) taken) oe ∙ ap (scattered (gathered (work b i s) i (beat_over b s i))) te
