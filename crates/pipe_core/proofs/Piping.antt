-- A pipe in code is the machine: what the methods leave, by the parts of its state.
use Rattle.std.proofs.Common.{◌≡◌, ℕ, zero, suc, ◌*◌, ◌++◌, drop, not, ◌+◌, ◌<◌, ◌≤◌, Bool, true, false, List, [], ◌∷◌, Option, Some, None, length, refl, sym, ap, ◌∙◌, subst, arith, map as map_list}
use Rattle.std.specs.Prelude.{if◌then◌else◌, ◌||◌, ◌&&◌, replicate, ◌%◌, ◌^◌, nat_lt, min, is_some, IsSome, IfSome}
use Rattle.std.specs.Option.{option_map}
use Rattle.std.proofs.lemmas.Bool.Decides.{nat_tests}
use Rattle.std.proofs.lemmas.List.{length-replicate}
use Rattle.realization.specs.beat_core.declared.beat.Beat.{Beat}
use Rattle.realization.specs.beat_core.declared.answer.Answer.{Answer}
use Rattle.realization.specs.beat_core.Ports.{Arrival}
use Rattle.hazard_core.specs.xdp_maps.State.{MapState}
use Rattle.hazard_core.specs.xdp_maps.declared.decl.MapDecl.{MapDecl}
use Rattle.hazard_core.specs.cell_core.Cells.{bit}
use Rattle.hazard_core.specs.cell_core.Formed.{AllFit}
use Rattle.hazard_core.specs.cell_core.Sites.{ProgramView}
use Rattle.hazard_core.specs.StageValues.{StageValues}
use Rattle.hazard_core.specs.Tables.{TableState, tables_of}
use Rattle.hazard_core.specs.Marks.{is_marked}
use Rattle.hazard_core.specs.declared.access.Access.{Access}
use Rattle.hazard_core.specs.declared.change.Change.{Change}
use Rattle.hazard_core.specs.Commits.{committed, taken_after, change_by, host_written, host_change}
use Rattle.pipe_core.specs.Machine.{Packet, State, Build, Input, new_state, some_send, is_idle, is_ready, host_ready, host_writes, action_as, work, came_with, gathered, scattered, beat_at, first_answer, host_value, Output, output, clock, Commits, Writes, Moves, site_numbers, marked_at, place_at, inside, flushed, marked_by, marked_below, moved, newcomer, worked}
use Rattle.pipe_core.specs.BuildView.{BuildView, build_in}
use Rattle.pipe_core.specs.PlacesView.{PlacesView}
use Rattle.pipe_core.specs.FrameQueue.{FrameQueue, empty_frame_queue, came_bytes, has_slot, gathered_as, given_as, left_word, left_frames, answered_as}
use Rattle.pipe_core.specs.StateView.{state_of}
use Rattle.pipe_core.specs.PipeView.{PipeView, IsSteady, has_room}
use Rattle.pipe_core.specs.declared.arrived.TheConstants.{FRAME_ROOM}
use Rattle.pipe_core.proofs.Clocking.{committed_decls, written_decls, advanced, worked_flushed, action_flushed, some_inside, work_part, room_kept, over_ready, still_shown, taken_shown, same_pos, clocked}

pub some_map : {A B : Type 0} (f : A → B) (x : Option A) → is_some x ≡ is_some (option_map f x)
some_map f None = refl
some_map f (Some x) = refl

-- ---- a change marks packets by the declarations alone

marked_by_decls : (b : Build) (t u : TableState) (k : ℕ) (e : Change) (x : Packet) → t.decls ≡ u.decls → marked_by b t k e x ≡ marked_by b u k e x
unfolding marked_by
marked_by_decls b t u k e x same = ap (λ (d : List MapDecl). record x { marks = map_list (λ j. marked_at x j || is_marked b.program b.plan.row d k x.held e j) (site_numbers b.program) }) same

marked_below_decls : (to : ℕ) (b : Build) (t u : TableState) (e : Change) (k : ℕ) (xs : List (Option Packet)) → t.decls ≡ u.decls → marked_below to b t e k xs ≡ marked_below to b u e k xs
marked_below_decls to b t u e k [] same = refl
marked_below_decls to b t u e k (x ∷ xs) same = ap (λ (y : Option Packet). y ∷ marked_below to b t e (suc k) xs) (by (nat_lt k to) x) ∙ ap (λ (ys : List (Option Packet)). (if nat_lt k to then option_map (marked_by b u k e) x else x) ∷ ys) (marked_below_decls to b t u e (suc k) xs same)
  where
    by : (c : Bool) (x : Option Packet) → (if c then option_map (marked_by b t k e) x else x) ≡ (if c then option_map (marked_by b u k e) x else x)
    by false x = refl
    by true None = refl
    by true (Some x) = ap (λ (y : Packet). Some y) (marked_by_decls b t u k e x same)

-- ---- the methods, by the parts of the state

-- a pipe of these parts
abbrev pub pipe_view : TableState → FrameQueue → PlacesView → ℕ → List ℕ → ℕ → PipeView
pipe_view t q P done taken passed = record { build = P.build; state = state_of t q P.places done taken passed }

pub flushed_pipe : (t : TableState) (q : FrameQueue) (P P' : PlacesView) (done : ℕ) (taken : List ℕ) (passed : ℕ) → P' ≡ record P { places = flushed (build_in P.build) 0 P.places } →
    pipe_view t q P' done taken passed ≡ (let S = pipe_view t q P done taken passed in record S { state = record S.state { places = flushed (build_in S.build) 0 S.state.places } })
flushed_pipe t q P P' done taken passed e = ap (λ (p : PlacesView). pipe_view t q p done taken passed) e

pub committed_pipe : (t t' : TableState) (q : FrameQueue) (P P' : PlacesView) (done : ℕ) (taken taken' : List ℕ) (passed : ℕ) (p : ProgramView) (at j : ℕ) (h : StageValues) (e : Change) (x : Packet) (back : Bool)
    → p ≡ P.build.program → at ≡ P.build.commit → h ≡ x.held
    → e ≡ change_by p t taken h j → t' ≡ committed p t taken h j → taken' ≡ taken_after p t taken h j
    → P' ≡ record P { places = marked_below at (build_in P.build) t' e 0 P.places }
    → pipe_view t' q P' (j + 1) taken' passed ≡ (let S = pipe_view t q P done taken passed in record S { state = worked (build_in S.build) S.state back S.state.places (Commits j x) })
committed_pipe t t' q P P' done taken taken' passed p at j h e x back pe ate he ee te ke Pe =
    ap (λ (r : PlacesView). pipe_view t' q r (j + 1) taken' passed) Pe
    ∙ ap (λ (ps : List (Option Packet)). record { build = P.build; state = state_of t' q ps (j + 1) taken' passed }) (
    ap (λ (n : ℕ). marked_below n (build_in P.build) t' e 0 P.places) ate
    ∙ marked_below_decls P.build.commit (build_in P.build) t' t e 0 P.places (ap (λ (u : TableState). u.decls) te ∙ committed_decls p t taken h j)
    ∙ ap (λ (f : Change). marked_below P.build.commit (build_in P.build) t f 0 P.places) (ee ∙ both (λ (r : ProgramView) (g : StageValues). change_by r t taken g j)))
    ∙ ap (λ (u : TableState). record { build = P.build; state = state_of u q new (j + 1) taken' passed }) (te ∙ both (λ (r : ProgramView) (g : StageValues). committed r t taken g j))
    ∙ ap (λ (k : List ℕ). record { build = P.build; state = state_of (committed P.build.program t taken x.held j) q new (j + 1) k passed }) (ke ∙ both (λ (r : ProgramView) (g : StageValues). taken_after r t taken g j))
    ∙ ap (λ (n : ℕ). record { build = P.build; state = state_of (committed P.build.program t taken x.held j) q new n (taken_after P.build.program t taken x.held j) passed }) next
  where
    next : j + 1 ≡ suc j
    next = omega arith

    new : List (Option Packet)
    new = marked_below P.build.commit (build_in P.build) t (change_by P.build.program t taken x.held j) 0 P.places

    both : {A : Type 0} (f : ProgramView → StageValues → A) → f p h ≡ f P.build.program x.held
    both f = ap (λ (r : ProgramView). f r h) pe ∙ ap (λ (g : StageValues). f P.build.program g) he

pub written_pipe : (t t' : TableState) (q : FrameQueue) (P P' : PlacesView) (done : ℕ) (taken : List ℕ) (passed : ℕ) (to : ℕ) (a : Access) (n : ℕ) (e : Change) (back : Bool)
    → to ≡ P.build.commit + 1 → e ≡ host_change t a → t' ≡ host_written t a n
    → P' ≡ record P { places = marked_below to (build_in P.build) t' e 0 P.places }
    → pipe_view t' q P' done taken passed ≡ (let S = pipe_view t q P done taken passed in record S { state = worked (build_in S.build) S.state back S.state.places (Writes a n) })
written_pipe t t' q P P' done taken passed to a n e back toe ee te Pe =
    ap (λ (r : PlacesView). pipe_view t' q r done taken passed) Pe
    ∙ ap (λ (ps : List (Option Packet)). record { build = P.build; state = state_of t' q ps done taken passed }) (
    ap (λ (m : ℕ). marked_below m (build_in P.build) t' e 0 P.places) next
    ∙ marked_below_decls (suc P.build.commit) (build_in P.build) t' t e 0 P.places (ap (λ (u : TableState). u.decls) te ∙ written_decls t a n)
    ∙ ap (λ (f : Change). marked_below (suc P.build.commit) (build_in P.build) t f 0 P.places) ee)
    ∙ ap (λ (u : TableState). record { build = P.build; state = state_of u q (marked_below (suc P.build.commit) (build_in P.build) t (host_change t a) 0 P.places) done taken passed }) te
  where
    next : to ≡ suc P.build.commit
    next = omega (arith, toe)

pub moved_pipe : (t : TableState) (q q' q'' : FrameQueue) (P P' : PlacesView) (done : ℕ) (taken : List ℕ) (passed passed' : ℕ) (p : ProgramView) (last commit : ℕ) (leaving : Option Packet) (left : Option (ℕ × ℕ)) (passes back : Bool) (fs : List Arrival)
    → p ≡ P.build.program → leaving ≡ place_at P.places last → last ≡ P.build.last → commit ≡ P.build.commit
    → length P.places ≡ suc P.build.last → inside P.places ≤ length q.frames
    → q' ≡ record q { frames = left_frames p leaving q.frames } → left ≡ option_map (left_word p) leaving
    → passes ≡ is_some (place_at P.places commit) → passed' ≡ (passed + bit passes) % 2 ^ 32 → fs ≡ q'.frames
    → P' ≡ record P { places = moved (build_in P.build) t fs 0 (newcomer (build_in P.build) back fs P.places) P.places }
    → q'' ≡ answered_as left q'
    → pipe_view t q'' P' 0 taken passed' ≡ (let S = pipe_view t q P done taken passed in record S { state = worked (build_in S.build) S.state back S.state.places Moves })
moved_pipe t q q' q'' P P' done taken passed passed' p last commit leaving left passes back fs pe le lasts commits long l qe lefts pass passeds fse Pe qqe =
    ap (λ (r : PlacesView). pipe_view t q'' r 0 taken passed') Pe
    ∙ ap (λ (gs : List Arrival). record { build = P.build; state = state_of t q'' (moved b t gs 0 (newcomer b back gs P.places) P.places) 0 taken passed' }) (fse ∙ ap (λ (r : FrameQueue). r.frames) q_is)
    ∙ ap (λ (r : FrameQueue). record { build = P.build; state = state_of t r (moved b t gs 0 (newcomer b back gs P.places) P.places) 0 taken passed' }) (qqe ∙ ap (λ (m : Option (ℕ × ℕ)). answered_as m q') left_is ∙ ap (λ (r : FrameQueue). answered_as (option_map (left_word P.build.program) x) r) q_is)
    ∙ ap (λ (n : ℕ). record { build = P.build; state = state_of t (answered_as (option_map (left_word P.build.program) x) (record q { frames = gs })) (moved b t gs 0 (newcomer b back gs P.places) P.places) 0 taken n }) (passeds ∙ ap (λ (c : Bool). (passed + bit c) % 2 ^ 32) (pass ∙ ap (λ (n : ℕ). is_some (place_at P.places n)) commits))
    ∙ ap (λ (s : State). record { build = P.build; state = s }) (advanced b t q P.places done taken passed back long l)
  where
    b : Build
    b = build_in P.build

    x : Option Packet
    x = place_at P.places P.build.last

    gs : List Arrival
    gs = left_frames P.build.program x q.frames

    x_is : leaving ≡ x
    x_is = le ∙ ap (place_at P.places) lasts

    q_is : q' ≡ record q { frames = gs }
    q_is = qe ∙ ap (λ (r : ProgramView). record q { frames = left_frames r leaving q.frames }) pe ∙ ap (λ (y : Option Packet). record q { frames = left_frames P.build.program y q.frames }) x_is

    left_is : left ≡ option_map (left_word P.build.program) x
    left_is = lefts ∙ ap (λ (r : ProgramView). option_map (left_word r) leaving) pe ∙ ap (option_map (left_word P.build.program)) x_is

-- ---- a whole clock's work

pub worked_pipe : (S S1 S2 : PipeView) (i : Input) (back : Bool) (w : Option (Access × ℕ))
    → S1 ≡ record S { state = record S.state { places = flushed (build_in S.build) 0 S.state.places } }
    → back ≡ some_send (build_in S.build) 0 S.state.places
    → w ≡ host_writes (host_ready (build_in S.build) S.state) (is_idle S.state) S.state.tables i.host
    → S2 ≡ record S1 { state = worked (build_in S1.build) S1.state back S1.state.places (action_as (build_in S1.build) S1.state S1.state.places w) }
    → S2 ≡ record S { state = work (build_in S.build) i S.state }
unfolding work
worked_pipe S S1 S2 i back w first backs ws last =
    last
    ∙ ap (λ (T : PipeView). record T { state = worked (build_in T.build) T.state back T.state.places (action_as (build_in T.build) T.state T.state.places w) }) first
    ∙ ap (λ (u : State). record S { state = u }) (
    worked_flushed b s back rest (action_as b (record s { places = rest }) rest w)
    ∙ ap (worked b s back rest) (action_flushed b s rest w)
    ∙ ap (λ (c : Bool). worked b s c rest (action_as b s rest w)) backs
    ∙ ap (λ (v : Option (Access × ℕ)). worked b s (some_send b 0 s.places) rest (action_as b s rest v)) ws)
  where
    b : Build
    b = build_in S.build

    s : State
    s = S.state

    rest : List (Option Packet)
    rest = flushed b 0 s.places

-- ---- beats

pub gathered_queue : (t : TableState) (q : FrameQueue) (places : List (Option Packet)) (done : ℕ) (taken : List ℕ) (passed : ℕ) (i : Input) (x : Beat)
    → state_of t (gathered_as x.last (came_with q.part i x) q) places done taken passed ≡ gathered (state_of t q places done taken passed) i (Some x)
gathered_queue t q places done taken passed i x = by x.last
  where
    by : (l : Bool) → state_of t (gathered_as l (came_with q.part i x) q) places done taken passed
        ≡ (let s = state_of t q places done taken passed in if l then record s { frames = s.frames ++ came_with s.part i x ∷ []; part = None } else record s { part = Some (came_with s.part i x) })
    by true = refl
    by false = refl

pub given_queue : (t : TableState) (q : FrameQueue) (places : List (Option Packet)) (done : ℕ) (taken : List ℕ) (passed : ℕ) (x : Beat)
    → state_of t (given_as x.last q) places done taken passed ≡ scattered (state_of t q places done taken passed) (Some x)
given_queue t q places done taken passed x = by x.last
  where
    next : q.pos + 1 ≡ suc q.pos
    next = omega arith

    by : (l : Bool) → state_of t (given_as l q) places done taken passed
        ≡ (let s = state_of t q places done taken passed in if l then record s { answers = drop 1 s.answers; pos = 0 } else record s { pos = suc s.pos })
    by true = refl
    by false = ap (λ (n : ℕ). state_of t (record q { pos = n }) places done taken passed) next

-- where a beat goes over there is a slot
pub slot_in : (b : Build) (t : TableState) (q : FrameQueue) (places : List (Option Packet)) (done : ℕ) (taken : List ℕ) (passed : ℕ) → q.slots ≡ b.slots → has_slot q ≡ is_ready b (state_of t q places done taken passed)
slot_in b t q places done taken passed e = ap (λ (n : ℕ). is_some q.part || nat_lt (length q.answers + length q.frames) n) e

-- ---- before the first clock

pub nothing_inside : (n : ℕ) → inside (replicate n None) ≡ 0
nothing_inside zero = refl
nothing_inside (suc n) = nothing_inside n

pub none_inside : (xs : List (Option Packet)) → inside xs ≡ 0 → xs ≡ replicate (length xs) None
none_inside [] h = refl
none_inside (None ∷ xs) h = ap (λ (ys : List (Option Packet)). None ∷ ys) (none_inside xs h)
none_inside (Some x ∷ xs) h = absurd (omega arith)

-- nothing is inside an idle pipe
pub record IsIdle (q : FrameQueue) : Type 0 where
  pub answers : q.answers ≡ []
  pub frames : q.frames ≡ []
  pub part : q.part ≡ None

pub idle_queue : (t : TableState) (q : FrameQueue) (places : List (Option Packet)) (done : ℕ) (taken : List ℕ) (passed : ℕ) → is_idle (state_of t q places done taken passed) ≡ true → IsIdle q
idle_queue t q places done taken passed h = by q.part q.answers q.frames refl refl refl h
  where
    by : (p : Option Arrival) (given : List Answer) (fs : List Arrival) → q.part ≡ p → q.answers ≡ given → q.frames ≡ fs → not (is_some p) && nat_lt (length given + length fs) 1 ≡ true → IsIdle q
    by (Some c) given fs pe ae fe h = absurd cc
    by None [] [] pe ae fe h = record { answers = ae; frames = fe; part = pe }
    by None [] (f ∷ fs) pe ae fe h = absurd (grind (arith, nat_tests))
    by None (a ∷ given) fs pe ae fe h = absurd (grind (arith, nat_tests))

-- what is loaded into an idle pipe
pub loaded_pipe : (maps : MapState) (t' : TableState) (q q' : FrameQueue) (P : PlacesView) (taken : List ℕ)
    → IsIdle q → inside P.places ≤ length q.frames → length P.places ≡ suc P.build.last → length taken ≡ length P.build.program.sites
    → t' ≡ tables_of maps → q' ≡ record q { pos = 0 }
    → pipe_view t' q' P 0 (replicate (length taken) 0) 0 ≡ record { build = P.build; state = new_state (build_in P.build) maps }
loaded_pipe maps t' q q' P taken idle packets long sites te qe =
    ap (λ (u : TableState). pipe_view u q' P 0 (replicate (length taken) 0) 0) te
    ∙ ap (λ (r : FrameQueue). pipe_view (tables_of maps) r P 0 (replicate (length taken) 0) 0) qe
    ∙ ap (λ (given : List Answer). state given q.frames q.part (replicate (length taken) 0) P.places) idle.answers
    ∙ ap (λ (fs : List Arrival). state [] fs q.part (replicate (length taken) 0) P.places) idle.frames
    ∙ ap (λ (p : Option Arrival). state [] [] p (replicate (length taken) 0) P.places) idle.part
    ∙ ap (λ (n : ℕ). state [] [] None (replicate n 0) P.places) sites
    ∙ ap (λ (ps : List (Option Packet)). state [] [] None (replicate (length P.build.program.sites) 0) ps) (none_inside P.places (omega (arith, packets, ap length idle.frames)) ∙ ap empty long)
  where
    empty : ℕ → List (Option Packet)
    empty n = replicate n None

    state : List Answer → List Arrival → Option Arrival → List ℕ → List (Option Packet) → PipeView
    state given fs p taken ps = record {
      build = P.build;
      state = record {
        tables = tables_of maps;
        answers = given;
        pos = 0;
        frames = fs;
        part = p;
        places = ps;
        done = 0;
        taken = taken;
        passed = 0;
      };
    }

pub new_pipe : (maps : MapState) (t : TableState) (q : FrameQueue) (P : PlacesView) (b : BuildView) (taken : List ℕ)
    → t ≡ tables_of maps → q ≡ empty_frame_queue b.slots → P ≡ record { build = b; places = replicate (suc b.last) None } → taken ≡ replicate (length b.program.sites) 0
    → pipe_view t q P 0 taken 0 ≡ record { build = b; state = new_state (build_in b) maps }
new_pipe maps t q P b taken te qe Pe ke =
    ap (λ (u : TableState). pipe_view u q P 0 taken 0) te
    ∙ ap (λ (r : FrameQueue). pipe_view (tables_of maps) r P 0 taken 0) qe
    ∙ ap (λ (p : PlacesView). pipe_view (tables_of maps) (empty_frame_queue b.slots) p 0 taken 0) Pe
    ∙ ap (λ (k : List ℕ). pipe_view (tables_of maps) (empty_frame_queue b.slots) (record { build = b; places = replicate (suc b.last) None }) 0 k 0) ke

pub new_steady : (maps : MapState) (b : BuildView) → AllFit maps.decls b.program.sites → IsSteady (build_in b) (new_state (build_in b) maps) b.slots
new_steady maps b fits = record {
  fits = fits;
  places = length-replicate (suc b.last) None;
  packets = omega (arith, nothing_inside (suc b.last));
  taken = length-replicate (length b.program.sites) 0;
  slots = refl;
}

-- a pipe that is the same is as steady
pub steady_as : (S T : PipeView) (n : ℕ) → T ≡ S → IsSteady (build_in S.build) S.state n → IsSteady (build_in T.build) T.state n
steady_as S T n e h = subst (λ (U : PipeView). IsSteady (build_in U.build) U.state n) (sym e) h

pub map_map : {A B C : Type 0} (f : A → B) (g : B → C) (x : Option A) → option_map (λ y. g (f y)) x ≡ option_map g (option_map f x)
map_map f g None = refl
map_map f g (Some x) = refl

-- ---- a packet that leaves has a frame

pub frame_for : {A : Type 0} (f : A → Packet) (o : Option A) (xs : List (Option Packet)) (k n : ℕ) → option_map f o ≡ place_at xs k → inside xs ≤ n → IsSome o → 0 < n
frame_for f None xs k n e h some = absurd cc
frame_for f (Some x) xs k n e h some = omega (arith, some_inside xs k (f x) (sym e), h)

pub left_length : (p : ProgramView) (x : Option Packet) (fs : List Arrival) → length (left_frames p x fs) ≡ length fs
left_length p None fs = refl
left_length p (Some x) [] = refl
left_length p (Some x) (f ∷ fs) = refl

pub some_of : {A B : Type 0} (f : A → B) (o : Option A) (m : Option B) → m ≡ option_map f o → IsSome m → IsSome o
some_of f None None e some = absurd cc
some_of f None (Some y) e some = absurd cc
some_of f (Some x) m e some = refl

-- ---- beats

pub room_in : (s : State) (x : Beat) → has_room s (Some x) ≡ true → came_bytes s.part + min x.bytes 8 ≤ FRAME_ROOM
room_in s x h = grind (arith, nat_tests)

pub gathered_slots : (l : Bool) (a : Arrival) (q : FrameQueue) → (gathered_as l a q).slots ≡ q.slots
gathered_slots true a q = refl
gathered_slots false a q = refl

pub given_slots : (l : Bool) (q : FrameQueue) → (given_as l q).slots ≡ q.slots
given_slots true q = refl
given_slots false q = refl

pub answered_slots : (left : Option (ℕ × ℕ)) (q : FrameQueue) → (answered_as left q).slots ≡ q.slots
answered_slots None q = refl
answered_slots (Some l) q = refl

-- ---- what is shown

abbrev pub shown_as : Bool → Option Beat → ℕ → ℕ → Bool → ℕ → ℕ → Output
shown_as ready beat verdict target host value passed = record {
  ready = ready;
  beat = beat;
  verdict = verdict;
  target = target;
  reloaded = 0;
  host_ready = host;
  host_value = value;
  host_passed = passed;
}

pub shown_pipe : (t : TableState) (q : FrameQueue) (P : PlacesView) (done : ℕ) (taken : List ℕ) (passed : ℕ) (i : Input) (ready : Bool) (beat : Option Beat) (verdict target : ℕ) (host : Bool) (value : ℕ)
    → q.slots ≡ P.build.slots → ready ≡ has_slot q → beat ≡ beat_at q.pos q.answers → verdict ≡ (first_answer q.answers).verdict → target ≡ (first_answer q.answers).target
    → host ≡ host_ready (build_in P.build) (state_of t q P.places done taken passed) → value ≡ host_value host t i.host
    → shown_as ready beat verdict target host value passed ≡ (let S = pipe_view t q P done taken passed in record (output (build_in S.build) i S.state) { reloaded = 0 })
unfolding output
shown_pipe t q P done taken passed i ready beat verdict target host value slots readys beats verdicts targets hosts values =
    ap (λ (r : Bool). shown_as r beat verdict target host value passed) (readys ∙ slot_in (build_in P.build) t q P.places done taken passed slots)
    ∙ ap (λ (x : Option Beat). shown_as is x verdict target host value passed) beats
    ∙ ap (λ (n : ℕ). shown_as is (beat_at q.pos q.answers) n target host value passed) verdicts
    ∙ ap (λ (n : ℕ). shown_as is (beat_at q.pos q.answers) (first_answer q.answers).verdict n host value passed) targets
    ∙ ap (λ (n : ℕ). shown_as is (beat_at q.pos q.answers) (first_answer q.answers).verdict (first_answer q.answers).target host n passed) values
    ∙ ap (λ (r : Bool). shown_as is (beat_at q.pos q.answers) (first_answer q.answers).verdict (first_answer q.answers).target r (host_value r t i.host) passed) hosts
  where
    is : Bool
    is = is_ready (build_in P.build) (state_of t q P.places done taken passed)

-- ---- the whole clock

-- The steps of a clock in code, by what is known of each.
pub record Steps (S S1 S2 S3 : PipeView) (i : Input) (shown over taken : Option Beat) (ready : Bool) : Type 0 where
  pub shown_is : shown ≡ beat_at S.state.pos S.state.answers
  pub ready_is : ready ≡ is_ready (build_in S.build) S.state
  pub over_is : over ≡ (if ready then i.beat else None)
  pub taken_is : taken ≡ (if i.take then shown else None)
  pub work_is : S1 ≡ record S { state = work (build_in S.build) i S.state }
  pub gather_is : S2 ≡ record S1 { state = gathered S1.state i over }
  pub scatter_is : S3 ≡ record S2 { state = scattered S2.state taken }

pub clock_room : (S S1 : PipeView) (i : Input) (over : Option Beat) (ready : Bool) → S1 ≡ record S { state = work (build_in S.build) i S.state } → over ≡ (if ready then i.beat else None) → has_room S.state i.beat ≡ true → has_room S1.state over ≡ true
clock_room S S1 i over ready worked overs room =
    ap (has_room S1.state) overs ∙ room_kept S.state S1.state ready i.beat (ap (λ (T : PipeView). T.state.part) worked ∙ work_part (build_in S.build) i S.state) room

pub clock_slot : (S S1 : PipeView) (i : Input) (over : Option Beat) (ready : Bool) → ready ≡ is_ready (build_in S.build) S.state → over ≡ (if ready then i.beat else None) → S1.build ≡ S.build
    → is_ready (build_in S.build) S1.state ≡ is_ready (build_in S.build) S.state → is_some over ≡ true → is_ready (build_in S1.build) S1.state ≡ true
clock_slot S S1 i over ready readys overs build same some =
    ap (λ (b : BuildView). is_ready (build_in b) S1.state) build ∙ same ∙ sym readys ∙ over_ready ready i.beat (sym (ap is_some overs) ∙ some)

pub clock_some : (S S1 S2 : PipeView) (i : Input) (shown over taken : Option Beat) → shown ≡ beat_at S.state.pos S.state.answers → taken ≡ (if i.take then shown else None)
    → S1 ≡ record S { state = work (build_in S.build) i S.state } → S2 ≡ record S1 { state = gathered S1.state i over } → is_some taken ≡ true → 0 < length S2.state.answers
clock_some S S1 S2 i shown over taken showns takens worked gathers some = by taken refl some
  where
    there : (x : Beat) → beat_at S.state.pos S.state.answers ≡ Some x → 0 < length S2.state.answers
    there x e = subst (λ (T : PipeView). 0 < length T.state.answers) (sym (gathers ∙ ap (λ (T : PipeView). record T { state = gathered T.state i over }) worked)) (still_shown (build_in S.build) i S.state over x e)

    by : (o : Option Beat) → taken ≡ o → is_some o ≡ true → 0 < length S2.state.answers
    by None e h = absurd cc
    by (Some x) e h = there x (sym showns ∙ taken_shown i.take shown x (sym takens ∙ e))

pub clock_more : (S S1 S2 : PipeView) (i : Input) (shown over taken : Option Beat) → IfSome shown (λ x. x.last ≡ false → 8 * (S.state.pos + 1) ≤ FRAME_ROOM) → taken ≡ (if i.take then shown else None)
    → S1 ≡ record S { state = work (build_in S.build) i S.state } → S2 ≡ record S1 { state = gathered S1.state i over } → IfSome taken (λ x. x.last ≡ false → 8 * (S2.state.pos + 1) ≤ FRAME_ROOM)
clock_more S S1 S2 i shown over taken more takens worked gathers =
    subst (λ (o : Option Beat). IfSome o (λ x. x.last ≡ false → 8 * (S2.state.pos + 1) ≤ FRAME_ROOM)) (sym takens) (by i.take shown (subst (λ (n : ℕ). IfSome shown (λ x. x.last ≡ false → 8 * (n + 1) ≤ FRAME_ROOM)) (sym place) more))
  where
    place : S2.state.pos ≡ S.state.pos
    place = ap (λ (T : PipeView). T.state.pos) (gathers ∙ ap (λ (T : PipeView). record T { state = gathered T.state i over }) worked) ∙ same_pos (build_in S.build) i S.state over

    by : (take : Bool) (o : Option Beat) → IfSome o (λ x. x.last ≡ false → 8 * (S2.state.pos + 1) ≤ FRAME_ROOM) → IfSome (if take then o else None) (λ x. x.last ≡ false → 8 * (S2.state.pos + 1) ≤ FRAME_ROOM)
    by true o h = h
    by false o h = tt

pub clock_pipe : (S S1 S2 S3 : PipeView) (i : Input) (shown over taken : Option Beat) (ready : Bool) → Steps S S1 S2 S3 i shown over taken ready → S3 ≡ record S { state = clock (build_in S.build) i S.state }
clock_pipe S S1 S2 S3 i shown over taken ready k =
    k.scatter_is ∙ ap (λ (T : PipeView). record T { state = scattered T.state taken }) (k.gather_is ∙ ap (λ (T : PipeView). record T { state = gathered T.state i over }) k.work_is)
    ∙ ap (λ (t : State). record S { state = t }) (clocked (build_in S.build) i S.state over taken (k.over_is ∙ ap (λ (r : Bool). if r then i.beat else None) k.ready_is) (k.taken_is ∙ ap (λ (o : Option Beat). if i.take then o else None) k.shown_is))
