-- What the packets hold of the maps, over all clocks.
use Rattle.std.proofs.Common.{◌≡◌, ℕ, zero, suc, ◌+◌, ◌<◌, ◌≤◌, inl, inr, Bool, true, false, List, [], ◌∷◌, Option, Some, None, length, drop, refl, sym, ap, ◌∙◌, subst, arith, not}
use Rattle.std.specs.Prelude.{if◌then◌else◌, nat_lt, nat_le, ◌==◌, ◌&&◌, ◌||◌}
use Rattle.std.specs.List.{list_any}
use Rattle.std.proofs.lemmas.Bool.Decides.{nat_tests, Decides-eqb}
use Rattle.std.proofs.lemmas.Bool.{cases_lt, lt-ltb, le-leb}
use Rattle.std.proofs.lemmas.List.{length-replicate}
use Rattle.hazard_core.specs.xdp_machine.State.{PacketIn}
use Rattle.hazard_core.specs.cell_core.Cells.{CellView, cell_at, no_cell, site_in, bits_from}
use Rattle.hazard_core.specs.cell_core.Sites.{SiteView, site_at}
use Rattle.hazard_core.specs.cell_core.Rows.{numbers}
use Rattle.hazard_core.specs.Tables.{TableState}
use Rattle.hazard_core.specs.declared.pointer.Pointer.TheVariants.{Null}
use Rattle.hazard_core.specs.StageValues.{StageValues, with_cell, guard_on, writes}
use Rattle.hazard_core.specs.Rows.{cell_number, cell_pointer, with_made, made_from, with_row}
use Rattle.hazard_core.specs.declared.change.Change.{Change}
use Rattle.hazard_core.specs.Marks.{known_on, known_off}
use Rattle.hazard_core.specs.Changes.{IsRightCommit, CommitsChange}
use Rattle.hazard_core.specs.Commits.{committed, change_by}
use Rattle.realization.specs.beat_core.Ports.{Arrival}
use Rattle.hazard_core.proofs.cell_core_laws.NumberLaws.{marked_of}
use Rattle.pipe_core.specs.Machine.{Packet, State, Build, Action, Commits, Writes, Moves, packet_of, marked_at, injected, with_kept_marks, entered, marked_by, must_reload, sends, some_send, worked, work}
use Rattle.pipe_core.specs.History.{next}
use Rattle.pipe_core.specs.Agreement.{UpdatesFind, Agrees, excused_as, off_below, EnteringAgrees, MarkingAgrees}
use Rattle.pipe_core.specs.Pipeable.{IsPipeable}
use Rattle.pipe_core.specs.Placed.{Placed}
use Rattle.pipe_core.specs.SeenChanges.{SeenChanges, views_below, views_on, views_after, rest_of, action_in, observed}
use Rattle.pipe_core.specs.Marked.{touched_then, MarksAre}
use Rattle.pipe_core.specs.Agreed.{IsClean, IsAgreed, IsRightAction, KeepsAgreed, IsPathMade, PathsAreMade}
use Rattle.pipe_core.proofs.Computing.{drop_next}
use Rattle.pipe_core.proofs.MarkedBy.{TablesSame, unread}
use Rattle.pipe_core.proofs.Marking.{keeps_marked}
use Rattle.pipe_core.proofs.Placing.{Settled, MarkedBySteps, MovedSteps, ActionSteps, next_placed, settled}
use Rattle.pipe_core.proofs.Acting.{ActionIs, action_is}
use Rattle.pipe_core.proofs.ClockLaws.{clock_aside}

-- ---- a row without reads does not see the tables

made_without : (b : Build) (r : ℕ) (t u : TableState) (packet : PacketIn) (k : ℕ) (cs : List CellView) (h : StageValues) → drop k b.program.cells ≡ cs → ((c j : ℕ) → c < length b.program.cells → b.plan.row c ≡ r → site_in (cell_at b.program.cells c).op ≡ Some j → ⊥) →
    made_from b.program b.plan.row r u packet k cs h ≡ made_from b.program b.plan.row r t packet k cs h
made_without b r t u packet k [] h e none = refl
made_without b r t u packet k (c ∷ cs) h e none =
    let q = drop_next k b.program.cells c cs no_cell e in
    ap (made_from b.program b.plan.row r u packet (suc k) cs) (one (b.plan.row k == r) refl q.0 q.1)
    ∙ made_without b r t u packet (suc k) cs (with_made b.program b.plan.row r t packet h k c) q.2 none
  where
    made : TableState → StageValues
    made v = with_cell h k (bits_from (cell_number b.program b.plan.row r v packet h c c.op) c.from c.width) (cell_pointer b.program b.plan.row r v h c c.op)

    no_site : b.plan.row k ≡ r → cell_at b.program.cells k ≡ c → k < length b.program.cells → (o : Option ℕ) → site_in c.op ≡ o → site_in c.op ≡ None
    no_site here same l None e = e
    no_site here same l (Some j) e = absurd (none k j l here (ap (λ (d : CellView). site_in d.op) same ∙ e))

    one : (here : Bool) → (b.plan.row k == r) ≡ here → cell_at b.program.cells k ≡ c → k < length b.program.cells → (if here then made u else h) ≡ (if here then made t else h)
    one false here same l = refl
    one true here same l =
        let s : TablesSame b.program b.plan.row r t u packet h c c.op = unread b.program b.plan.row r t u packet h c c.op (no_site ((Decides-eqb (b.plan.row k) r).0 here) same l (site_in c.op) refl) in
        ap (λ n. with_cell h k (bits_from n c.from c.width) (cell_pointer b.program b.plan.row r u h c c.op)) s.number
        ∙ ap (with_cell h k (bits_from (cell_number b.program b.plan.row r t packet h c c.op) c.from c.width)) s.pointer

late_row : (b : Build) → IsPipeable b → (t u : TableState) (k : ℕ) (c : Arrival) (x : Packet) → b.plan.commit < k → entered b u k c x ≡ entered b t k c x
unfolding entered with_row
late_row b fit t u k c x late =
    ap (λ (h : StageValues). with_kept_marks b k h x)
    (made_without b k t u (packet_of c) 0 b.program.cells x.held refl (λ i j l here e. let low = fit.read_rows i j l e in omega (arith, low, here, late)))

-- ---- a packet that stays

on_if : (n o m : Bool) → n ≡ true → m && not (n && not o) ≡ true → o ≡ true
on_if true true m e f = refl
on_if true false true e f = cc
on_if true false false e f = cc
on_if false o m e f = cc

any_at : (test : ℕ → Bool) (from n j : ℕ) → j < n → test (from + j) ≡ true → list_any test (numbers from n) ≡ true
any_at test from zero j l e = absurd (omega arith)
any_at test from (suc n) zero l e = ap (λ c. c || list_any test (numbers (suc from) n)) (ap test (omega arith) ∙ e)
any_at test from (suc n) (suc j) l e = by (test from) (any_at test (suc from) n j (omega arith) (ap test (omega arith) ∙ e))
  where
    by : (c : Bool) → list_any test (numbers (suc from) n) ≡ true → c || list_any test (numbers (suc from) n) ≡ true
    by true q = refl
    by false q = q

guard_row : (b : Build) → IsPipeable b → (j k : ℕ) → j < length b.program.sites → b.plan.commit ≤ k → nat_le (b.plan.row (site_at b.program.sites j).guard) k ≡ true
guard_row b fit j k l up = let low = (fit.site_rows j l).0 in le-leb (b.plan.row (site_at b.program.sites j).guard) k (omega (arith, low, up))

-- at the commit place a packet that is not sent back has no mark
unmarked_here : (b : Build) → IsPipeable b → (seen : Bool) (x : Packet) (j : ℕ) → j < length b.program.sites → sends b b.plan.commit (Some x) ≡ false →
    marked_at x j ≡ seen && not (known_off b.plan.row b.plan.commit x.held (site_at b.program.sites j)) → marked_at x j ≡ false
unfolding must_reload
unmarked_here b fit seen x j l unsent m = by (marked_at x j) refl
  where
    s : SiteView
    s = site_at b.program.sites j

    known : nat_le (b.plan.row s.guard) b.plan.commit ≡ true
    known = guard_row b fit j b.plan.commit l (omega arith)

    test : ℕ → Bool
    test i = marked_at x i && known_on b.plan.row b.plan.commit x.held (site_at b.program.sites i)

    reload : list_any test (numbers 0 (length b.program.sites)) ≡ false
    reload = ap (λ c. c && list_any test (numbers 0 (length b.program.sites))) (sym (le-leb b.plan.commit b.plan.commit (omega arith))) ∙ unsent

    by : (c : Bool) → marked_at x j ≡ c → c ≡ false
    by false e = refl
    by true e =
        let on : guard_on x.held s ≡ true = on_if (nat_le (b.plan.row s.guard) b.plan.commit) (guard_on x.held s) seen known (sym m ∙ e) in
        let passes : test (0 + j) ≡ true = ap test (omega arith) ∙ ap (λ c. c && known_on b.plan.row b.plan.commit x.held s) e ∙ ap (λ c. c && guard_on x.held s) known ∙ on in
        absurd (no (sym (any_at test 0 (length b.program.sites) j l passes) ∙ reload))
      where
        no : true ≡ false → ⊥
        no e = cc

-- ---- past the commit place

entered_clean : (b : Build) (t : TableState) (k : ℕ) (c : Arrival) (x : Packet) (j : ℕ) → j < length b.program.sites → marked_at x j ≡ false → marked_at (entered b t k c x) j ≡ false
unfolding entered
entered_clean b t k c x j l e =
    let g = with_row b.program b.plan.row k t (packet_of c) x.held in
    marked_of (λ j. marked_at x j && not (known_off b.plan.row k g (site_at b.program.sites j))) (length b.program.sites) j l
    ∙ ap (λ d. d && not (known_off b.plan.row k g (site_at b.program.sites j))) e

pub record Known (b : Build) (w : SeenChanges) (k : ℕ) (c : Arrival) (x : Packet) : Type 0 where
  pub marks : MarksAre b w.trace.state.tables.decls (w.seen k) k x
  pub clean : IsClean b k x
  pub agrees : Agrees b (w.views k) (packet_of c) (suc k) x

pub both_placed : (P Q R : ℕ → Arrival → Packet → Type 0) → ((k : ℕ) (c : Arrival) (x : Packet) → P k c x → Q k c x → R k c x) → (fs : List Arrival) (k : ℕ) (xs : List (Option Packet)) → Placed P fs k xs → Placed Q fs k xs → Placed R fs k xs
both_placed P Q R join fs k [] p q = tt
both_placed P Q R join fs k (None ∷ xs) p q = both_placed P Q R join fs (suc k) xs p q
both_placed P Q R join fs k (Some x ∷ xs) p q = (join k _ x p.0 q.0, both_placed P Q R join fs (suc k) xs p.1 q.1)

pub each_placed : (P Q : ℕ → Arrival → Packet → Type 0) → ((k : ℕ) (c : Arrival) (x : Packet) → P k c x → Q k c x) → (fs : List Arrival) (k : ℕ) (xs : List (Option Packet)) → Placed P fs k xs → Placed Q fs k xs
each_placed P Q f fs k xs p = both_placed P P Q (λ k c x h g. f k c x h) fs k xs p p

pub all_known : (b : Build) (w : SeenChanges) → IsAgreed b w → Placed (Known b w) w.trace.state.frames 0 w.trace.state.places
all_known b w h =
    let s = w.trace.state in
    both_placed (λ k c x. MarksAre b s.tables.decls (w.seen k) k x × IsClean b k x) (λ k c x. Agrees b (w.views k) (packet_of c) (suc k) x) (Known b w) (λ k c x p q. record { marks = p.0; clean = p.1; agrees = q }) s.frames 0 s.places
    (both_placed (λ k c x. MarksAre b s.tables.decls (w.seen k) k x) (λ k c x. IsClean b k x) (λ k c x. MarksAre b s.tables.decls (w.seen k) k x × IsClean b k x) (λ k c x p q. (p, q)) s.frames 0 s.places h.marked h.clean)
    h.agree

-- from the commit place on a packet that stays has no mark
pub unmarked : (b : Build) → IsPipeable b → (w : SeenChanges) (rest : List (Option Packet)) (k : ℕ) (c : Arrival) (x : Packet) → b.plan.commit ≤ k → Settled b rest (Known b w) k c x → (j : ℕ) → j < length b.program.sites → marked_at x j ≡ false
unmarked b fit w rest k c x up m j l = elim (cases_lt b.plan.commit k) [
  | inl past ↦ m.holds.clean past j l
  | inr low ↦
      let e : b.plan.commit ≡ k = omega (arith, up, low) in
      unmarked_here b fit (list_any (touched_then b w.trace.state.tables.decls j) (w.seen k)) x j l (ap (λ n. sends b n (Some x)) e ∙ m.unsent) (m.holds.marks j l ∙ ap (λ n. list_any (touched_then b w.trace.state.tables.decls j) (w.seen k) && not (known_off b.plan.row n x.held (site_at b.program.sites j))) (sym e))
]

marked_by_clean : (b : Build) (t : TableState) (e : Change) (w : SeenChanges) (rest : List (Option Packet)) → MarkedBySteps b t e b.plan.commit (Settled b rest (Known b w)) (λ k c x. IsClean b k x)
marked_by_clean b t e w rest = record {
  hit = λ k c x l m past. absurd (under k l past);
  missed = λ k c x l m. m.holds.clean;
}
  where
    under : (k : ℕ) → nat_lt k b.plan.commit ≡ true → b.plan.commit < k → ⊥
    under k e past = let m : k < b.plan.commit = grind (arith, nat_tests) in omega (arith, m, past)

moved_clean : (b : Build) → IsPipeable b → (t : TableState) (w : SeenChanges) (rest : List (Option Packet)) → MovedSteps b t (Settled b rest (Known b w)) (λ k c x. IsClean b k x)
moved_clean b fit t w rest = record {
  first = λ c past. absurd (omega (arith, past));
  further = λ k c x m past j l. entered_clean b t (suc k) c x j l (unmarked b fit w rest k c x (omega (arith, past)) m j l);
}

-- ---- agreement

nothing_agrees : (b : Build) (t : TableState) (c : Arrival) → Agrees b t (packet_of c) 0 (injected b.program)
nothing_agrees b t c = record { values = length-replicate (length b.program.cells) 0; pointers = length-replicate (length b.program.cells) Null; fit = λ i l low read. absurd (omega (arith, low)); each = λ i l low free. absurd (omega (arith, low)) }

marked_by_agrees : MarkingAgrees → CommitsChange → (b : Build) → IsPipeable b → (w : SeenChanges) (rest : List (Option Packet)) (j : ℕ) (y : Packet) → UpdatesFind w.trace.state.tables.decls b → IsAgreed b w → writes b.program w.trace.state.tables.decls y.held j ≡ true → IsRightCommit b.program w.trace.state.tables w.trace.state.taken y.held j →
    MarkedBySteps b w.trace.state.tables (change_by b.program w.trace.state.tables w.trace.state.taken y.held j) b.plan.commit (Settled b rest (Known b w))
    (λ k c x. Agrees b (views_below b.plan.commit (committed b.program w.trace.state.tables w.trace.state.taken y.held j) w.views k) (packet_of c) (suc k) x)
unfolding committed
marked_by_agrees marking changes b fit w rest j y updates h on right = record {
  hit = λ k c x l m.
      subst (λ (d : Bool). Agrees b (if d then u else w.views k) (packet_of c) (suc k) (marked_by b t k e x)) (sym l)
      (marking b fit.reads t u.tables e (packet_of c) k x updates (changes b.program t w.trace.state.taken y.held j on right)
      (subst (λ (v : TableState). Agrees b v (packet_of c) (suc k) x) (h.current k (below k l)) m.holds.agrees));
  missed = λ k c x l m. subst (λ (d : Bool). Agrees b (if d then u else w.views k) (packet_of c) (suc k) x) (sym l) m.holds.agrees;
}
  where
    t : TableState
    t = w.trace.state.tables

    u : TableState
    u = committed b.program t w.trace.state.taken y.held j

    e : Change
    e = change_by b.program t w.trace.state.taken y.held j

    below : (k : ℕ) → nat_lt k b.plan.commit ≡ true → k < b.plan.commit
    below k l = grind (arith, nat_tests)

moved_agrees : EnteringAgrees → (b : Build) → IsPipeable b → (w : SeenChanges) (rest : List (Option Packet)) → IsAgreed b w →
    MovedSteps b w.trace.state.tables (Settled b rest (Known b w)) (λ k c x. Agrees b (views_on b.plan.commit w.trace.state.tables w.views k) (packet_of c) (suc k) x)
moved_agrees entering b fit w rest h = record {
  first = λ c. entering b fit.reads t c 0 (injected b.program) (nothing_agrees b t c);
  further = λ k c x m. by k c x (nat_lt k b.plan.commit) refl m.holds.agrees;
}
  where
    t : TableState
    t = w.trace.state.tables

    by : (k : ℕ) (c : Arrival) (x : Packet) (d : Bool) → nat_lt k b.plan.commit ≡ d → Agrees b (w.views k) (packet_of c) (suc k) x → Agrees b (if d then t else w.views k) (packet_of c) (suc (suc k)) (entered b t (suc k) c x)
    by k c x true l a =
        let low : k < b.plan.commit = grind (arith, nat_tests) in
        entering b fit.reads t c (suc k) x (subst (λ (v : TableState). Agrees b v (packet_of c) (suc k) x) (h.current k low) a)
    by k c x false l a =
        let up : b.plan.commit ≤ k = grind (arith, nat_tests) in
        subst (λ (y : Packet). Agrees b (w.views k) (packet_of c) (suc (suc k)) y) (late_row b fit t (w.views k) (suc k) c x (omega (arith, up)))
        (entering b fit.reads (w.views k) c (suc k) x a)

-- ---- all of a clock

action_clean : (b : Build) → IsPipeable b → (w : SeenChanges) (rest : List (Option Packet)) (u : Action) → IsRightAction b w.trace.state u → ActionSteps b w.trace.state (Settled b rest (Known b w)) (λ k c x. IsClean b k x) u
action_clean b fit w rest (Commits j x) right = marked_by_clean b w.trace.state.tables (change_by b.program w.trace.state.tables w.trace.state.taken x.held j) w rest
action_clean b fit w rest (Writes a n) right = absurd right
action_clean b fit w rest Moves right = moved_clean b fit w.trace.state.tables w rest

action_agrees : EnteringAgrees → MarkingAgrees → CommitsChange → (b : Build) → IsPipeable b → (w : SeenChanges) (rest : List (Option Packet)) (u : Action) → UpdatesFind w.trace.state.tables.decls b → IsAgreed b w → ActionIs b w.trace.state rest u → IsRightAction b w.trace.state u →
    ActionSteps b w.trace.state (Settled b rest (Known b w)) (λ k c x. Agrees b (views_after b w.trace.state u w.views k) (packet_of c) (suc k) x) u
action_agrees entering marking changes b fit w rest (Commits j x) updates h is right = marked_by_agrees marking changes b fit w rest j x updates h is.writes_there right
action_agrees entering marking changes b fit w rest (Writes a n) updates h is right = absurd right
action_agrees entering marking changes b fit w rest Moves updates h is right = moved_agrees entering b fit w rest h

record ViewsKeep (b : Build) (s v : State) (views : ℕ → TableState) : Type 0 where
  current : (k : ℕ) → k < b.plan.commit → views k ≡ v.tables
  begun : v.done ≡ 0 → views b.plan.commit ≡ v.tables

views_keep : (b : Build) (s : State) (back : Bool) (rest : List (Option Packet)) (u : Action) (views : ℕ → TableState) → IsRightAction b s u → ViewsKeep b s (worked b s back rest u) (views_after b s u views)
views_keep b s back rest (Commits j x) views right = record {
  current = λ k l. ap (λ (c : Bool). if c then committed b.program s.tables s.taken x.held j else views k) (lt-ltb k b.plan.commit l);
  begun = λ e. absurd (omega (arith, e));
}
views_keep b s back rest (Writes a n) views right = absurd right
views_keep b s back rest Moves views right = record {
  current = λ k l. at k (omega (arith, l));
  begun = λ e. at b.plan.commit (omega arith);
}
  where
    at : (k : ℕ) → k ≤ b.plan.commit → views_on b.plan.commit s.tables views k ≡ s.tables
    at zero l = refl
    at (suc k) l = ap (λ (c : Bool). if c then s.tables else views k) (lt-ltb k b.plan.commit (omega (arith, l)))

pub keeps_agreed : EnteringAgrees → MarkingAgrees → CommitsChange → KeepsAgreed
unfolding observed next work
keeps_agreed entering marking changes b fit i silent w updates o right h =
    let s = w.trace.state in
    let u = action_in b i s in
    let rest = rest_of b s in
    let known = all_known b w h in
    let v = views_keep b s (some_send b 0 s.places) rest u w.views right in
    let aside = clock_aside b i s in
    record {
      marked = keeps_marked b i w o h.marked;
      clean = next_placed b i w.trace (Known b w) (λ k c x. IsClean b k x) o known (action_clean b fit w rest u right);
      agree = next_placed b i w.trace (Known b w) (λ k c x. Agrees b (views_after b s u w.views k) (packet_of c) (suc k) x) o known (action_agrees entering marking changes b fit w rest u updates h (action_is b i silent s rest) right);
      current = λ k l. v.current k l ∙ sym aside.tables;
      begun = λ e. v.begun (sym aside.done ∙ e) ∙ sym aside.tables;
    }

-- ---- the path

pub path_made : (b : Build) → IsPipeable b → (t : TableState) (packet : PacketIn) (k : ℕ) (x : Packet) → b.plan.commit ≤ k → ((j : ℕ) → j < length b.program.sites → marked_at x j ≡ false) → Agrees b t packet (suc k) x → IsPathMade b t packet x
path_made b fit t packet k x up none a c j l e on =
    let low = fit.read_rows c j l e in
    let n = fit.reads.sites c j l e in
    a.each c l (omega (arith, low, up)) (ap (excused_as b (suc k) x) e ∙ ap (λ d. d || off_below b.plan.row (suc k) x.held (site_at b.program.sites j)) (none j n)
    ∙ ap (λ d. nat_lt (b.plan.row (site_at b.program.sites j).guard) (suc k) && not d) on ∙ no (nat_lt (b.plan.row (site_at b.program.sites j).guard) (suc k)))
  where
    no : (d : Bool) → d && false ≡ false
    no true = refl
    no false = refl

pub paths_are_made : PathsAreMade
paths_are_made b fit w h =
    let s = w.trace.state in
    each_placed (Settled b (rest_of b s) (Known b w)) (λ k c x. b.plan.commit ≤ k → IsPathMade b (w.views k) (packet_of c) x)
    (λ k c x m up. path_made b fit (w.views k) (packet_of c) k x up (unmarked b fit w (rest_of b s) k c x up m) m.holds.agrees) s.frames 0 (rest_of b s) (settled b s (Known b w) (all_known b w h))
