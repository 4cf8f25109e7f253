-- Where marks stand.
use Rattle.std.proofs.Common.{◌≡◌, ℕ, zero, suc, ◌≤◌, inl, Bool, true, false, List, [], ◌∷◌, Option, Some, None, length, refl, sym, ap, ◌∙◌, subst, arith, not}
use Rattle.std.specs.Prelude.{if◌then◌else◌, nat_le, ◌&&◌, ◌||◌, replicate}
use Rattle.std.specs.List.{list_any}
use Rattle.std.proofs.lemmas.Bool.Decides.{nat_tests}
use Rattle.std.proofs.lemmas.Bool.{le-leb}
use Rattle.realization.proofs.list_laws_laws.PlaceLaws.{no_mark}
use Rattle.hazard_core.specs.xdp_maps.State.{MapState}
use Rattle.hazard_core.specs.xdp_maps.declared.decl.MapDecl.{MapDecl}
use Rattle.hazard_core.specs.cell_core.Cells.{on}
use Rattle.hazard_core.specs.cell_core.Sites.{SiteView, site_at}
use Rattle.hazard_core.specs.Tables.{TableState}
use Rattle.hazard_core.specs.StageValues.{StageValues, stage_value, guard_on}
use Rattle.hazard_core.specs.Rows.{with_row}
use Rattle.hazard_core.specs.declared.change.Change.{Change}
use Rattle.hazard_core.specs.Marks.{touches, known_off, has_read, is_marked}
use Rattle.hazard_core.specs.Commits.{committed, change_by, host_written, host_change}
use Rattle.realization.specs.beat_core.Ports.{Arrival}
use Rattle.hazard_core.proofs.cell_core_laws.NumberLaws.{marked_of}
use Rattle.pipe_core.specs.Machine.{Packet, State, Input, Build, Action, Commits, Writes, Moves, packet_of, place_at, marked_at, injected, entered, marked_by, some_send, worked, work, gathered, beat_over, taken_beat, clock}
use Rattle.pipe_core.specs.History.{Trace, next, begin, IsInOrder}
use Rattle.pipe_core.specs.Placed.{Placed}
use Rattle.pipe_core.specs.SeenChanges.{Seen, SeenChanges, held_in, sees, seen_on, seen_after, rest_of, action_in, observed, watch, watch_start}
use Rattle.pipe_core.specs.Marked.{touched_then, MarksAre, AreMarked, AreAlwaysMarked}
use Rattle.pipe_core.proofs.Agreeing.{keeps_other}
use Rattle.pipe_core.proofs.Staying.{gathered_tables, scattered_tables}
use Rattle.pipe_core.proofs.Order.{keeps_order, begins}
use Rattle.pipe_core.proofs.Placing.{Settled, MarkedBySteps, MovedSteps, ActionSteps, next_placed}

-- ---- the declarations stay

worked_decls : (b : Build) (s : State) (back : Bool) (rest : List (Option Packet)) (u : Action) → (worked b s back rest u).tables.decls ≡ s.tables.decls
unfolding committed host_written
worked_decls b s back rest (Commits j x) = refl
worked_decls b s back rest (Writes a n) = refl
worked_decls b s back rest Moves = refl

pub next_decls : (b : Build) (i : Input) (t : Trace) → (next b i t).state.tables.decls ≡ t.state.tables.decls
unfolding next clock work
next_decls b i t =
    let s = t.state in
    ap (λ (t : TableState). t.decls) (scattered_tables (gathered (work b i s) i (beat_over b s i)) (taken_beat s i) ∙ gathered_tables (work b i s) i (beat_over b s i))
    ∙ worked_decls b s (some_send b 0 s.places) (rest_of b s) (action_in b i s)

-- ---- a change is seen

joins : (a r o t : Bool) → (a && not o) || (r && not o && t) ≡ ((r && t) || a) && not o
joins a r o t = grind arith

marked_by_marks : (b : Build) (t : TableState) (k : ℕ) (e : Change) (seen : List Seen) (x : Packet) → MarksAre b t.decls seen k x →
    MarksAre b t.decls ((record { place = k; held = x.held; change = e }) ∷ seen) k (marked_by b t k e x)
unfolding marked_by
marked_by_marks b t k e seen x m j l =
    let off = known_off b.plan.row k x.held (site_at b.program.sites j) in
    let read = has_read b.program b.plan.row k j in
    let touch = touches b.program t.decls x.held j e in
    marked_of (λ j. marked_at x j || is_marked b.program b.plan.row t.decls k x.held e j) (length b.program.sites) j l
    ∙ ap (λ (c : Bool). c || is_marked b.program b.plan.row t.decls k x.held e j) (m j l)
    ∙ joins (list_any (touched_then b t.decls j) seen) read off touch

held_here : (b : Build) (o : Option Packet) (x : Packet) → o ≡ Some x → held_in b.program o ≡ x.held
held_here b None x e = cc
held_here b (Some y) x e = let same : y ≡ x = cc in ap (λ (z : Packet). z.held) same

marked_by_steps : (b : Build) (t : TableState) (e : Change) (to : ℕ) (rest : List (Option Packet)) (seen : ℕ → List Seen) →
    MarkedBySteps b t e to (Settled b rest (λ k c x. MarksAre b t.decls (seen k) k x)) (λ k c x. MarksAre b t.decls (sees b rest to e seen k) k x)
marked_by_steps b t e to rest seen = record {
  hit = λ k c x l m.
      subst (λ (d : Bool). MarksAre b t.decls (if d then (record { place = k; held = held_in b.program (place_at rest k); change = e }) ∷ seen k else seen k) k (marked_by b t k e x)) (sym l)
      (subst (λ (h : StageValues). MarksAre b t.decls ((record { place = k; held = h; change = e }) ∷ seen k) k (marked_by b t k e x)) (sym (held_here b (place_at rest k) x m.here)) (marked_by_marks b t k e (seen k) x m.holds));
  missed = λ k c x l m.
      subst (λ (d : Bool). MarksAre b t.decls (if d then (record { place = k; held = held_in b.program (place_at rest k); change = e }) ∷ seen k else seen k) k x) (sym l) m.holds;
}

-- ---- a packet moves on

-- a guard that is known as 0 stays so
stays_off : (b : Build) (k : ℕ) (h g : StageValues) (s : SiteView) → ((c : ℕ) → b.plan.row c ≤ k → stage_value h c ≡ stage_value g c) → known_off b.plan.row k h s ≡ true → known_off b.plan.row (suc k) g s ≡ true
stays_off b k h g s same e = by (nat_le (b.plan.row s.guard) k) refl e
  where
    by : (c : Bool) → nat_le (b.plan.row s.guard) k ≡ c → c && not (guard_on h s) ≡ true → nat_le (b.plan.row s.guard) (suc k) && not (guard_on g s) ≡ true
    by true l e =
        let m : b.plan.row s.guard ≤ k = grind (arith, nat_tests) in
        ap (λ (c : Bool). c && not (guard_on g s)) (le-leb (b.plan.row s.guard) (suc k) (omega arith)) ∙ ap (λ (n : ℕ). not (on n)) (sym (same s.guard m)) ∙ e
    by false l e = cc

drops : (a o n : Bool) → (o ≡ true → n ≡ true) → (a && not o) && not n ≡ a && not n
drops false o n h = refl
drops true false n h = refl
drops true true n h = rw (h refl) refl

entered_marks : (b : Build) (t : TableState) (k : ℕ) (c : Arrival) (decls : List MapDecl) (seen : List Seen) (x : Packet) → MarksAre b decls seen k x → MarksAre b decls seen (suc k) (entered b t (suc k) c x)
unfolding entered with_row
entered_marks b t k c decls seen x m j l =
    let s = site_at b.program.sites j in
    let g = with_row b.program b.plan.row (suc k) t (packet_of c) x.held in
    let same : (i : ℕ) → b.plan.row i ≤ k → stage_value x.held i ≡ stage_value g i = λ i low. (keeps_other b (suc k) t (packet_of c) 0 b.program.cells x.held (omega arith) i (inl (λ e. omega (arith, e, low)))).value in
    marked_of (λ j. marked_at x j && not (known_off b.plan.row (suc k) g (site_at b.program.sites j))) (length b.program.sites) j l
    ∙ ap (λ (d : Bool). d && not (known_off b.plan.row (suc k) g s)) (m j l)
    ∙ drops (list_any (touched_then b decls j) seen) (known_off b.plan.row k x.held s) (known_off b.plan.row (suc k) g s) (stays_off b k x.held g s same)

injected_marks : (b : Build) (t : TableState) (c : Arrival) (decls : List MapDecl) → MarksAre b decls [] 0 (entered b t 0 c (injected b.program))
unfolding entered
injected_marks b t c decls j l =
    let g = with_row b.program b.plan.row 0 t (packet_of c) (injected b.program).held in
    marked_of (λ j. marked_at (injected b.program) j && not (known_off b.plan.row 0 g (site_at b.program.sites j))) (length b.program.sites) j l
    ∙ ap (λ (d : Bool). d && not (known_off b.plan.row 0 g (site_at b.program.sites j))) (no_mark (length b.program.sites) j)

moved_steps : (b : Build) (t : TableState) (rest : List (Option Packet)) (seen : ℕ → List Seen) →
    MovedSteps b t (Settled b rest (λ k c x. MarksAre b t.decls (seen k) k x)) (λ k c x. MarksAre b t.decls (seen_on seen k) k x)
moved_steps b t rest seen = record {
  first = λ c. injected_marks b t c t.decls;
  further = λ k c x m. entered_marks b t k c t.decls (seen k) x m.holds;
}

-- ---- all clocks

action_steps : (b : Build) (s : State) (rest : List (Option Packet)) (seen : ℕ → List Seen) (u : Action) →
    ActionSteps b s (Settled b rest (λ k c x. MarksAre b s.tables.decls (seen k) k x)) (λ k c x. MarksAre b s.tables.decls (seen_after b s rest u seen k) k x) u
action_steps b s rest seen (Commits j x) = marked_by_steps b s.tables (change_by b.program s.tables s.taken x.held j) b.plan.commit rest seen
action_steps b s rest seen (Writes a n) = marked_by_steps b s.tables (host_change s.tables a) (suc b.plan.commit) rest seen
action_steps b s rest seen Moves = moved_steps b s.tables rest seen

pub keeps_marked : (b : Build) (i : Input) (w : SeenChanges) → IsInOrder b w.trace → AreMarked b w → AreMarked b (observed b i w)
unfolding observed
keeps_marked b i w o h =
    let s = w.trace.state in
    let n = next b i w.trace in
    let seen = seen_after b s (rest_of b s) (action_in b i s) w.seen in
    subst (λ (decls : List MapDecl). Placed (λ k c x. MarksAre b decls (seen k) k x) n.state.frames 0 n.state.places) (sym (next_decls b i w.trace))
    (next_placed b i w.trace (λ k c x. MarksAre b s.tables.decls (w.seen k) k x) (λ k c x. MarksAre b s.tables.decls (seen k) k x) o h (action_steps b s (rest_of b s) w.seen (action_in b i s)))

nobody : (P : ℕ → Arrival → Packet → Type 0) (k n : ℕ) → Placed P [] k (replicate n None)
nobody P k zero = tt
nobody P k (suc n) = nobody P (suc k) n

pub begins_placed : (b : Build) (maps : MapState) (P : ℕ → Arrival → Packet → Type 0) → Placed P (begin b maps).state.frames 0 (begin b maps).state.places
begins_placed b maps P = nobody P 0 (suc b.plan.last)

all_marked : (b : Build) (is : List Input) (w : SeenChanges) → IsInOrder b w.trace → AreMarked b w → AreMarked b (watch b is w)
unfolding observed
all_marked b [] w o h = h
all_marked b (i ∷ is) w o h = all_marked b is (observed b i w) (keeps_order b i w.trace o) (keeps_marked b i w o h)

pub always_marked : AreAlwaysMarked
always_marked b maps is = all_marked b is (watch_start b maps) (begins b maps) (begins_placed b maps (λ k c x. MarksAre b (begin b maps).state.tables.decls [] k x))
