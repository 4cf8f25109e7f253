-- What commits do to the tables, over all clocks.
use Rattle.std.proofs.Common.{◌≡◌, ℕ, zero, suc, ◌+◌, ◌-◌, ◌<◌, ◌≤◌, Bool, true, false, List, [], ◌∷◌, Option, Some, None, length, refl, sym, ap, ◌∙◌, subst, arith, length-set}
use Rattle.std.specs.Prelude.{if◌then◌else◌, nat_lt, nat_le, ◌&&◌, ◌||◌, replicate, slice_set}
use Rattle.std.specs.List.{AllByRecursion, list_any}
use Rattle.std.specs.Option.{option_map}
use Rattle.std.proofs.lemmas.Bool.Decides.{nat_tests}
use Rattle.std.proofs.lemmas.List.{length-replicate}
use Rattle.hazard_core.specs.xdp_maps.declared.decl.MapDecl.{MapDecl}
use Rattle.hazard_core.specs.xdp_maps.State.{MapState, IsSound}
use Rattle.hazard_core.specs.cell_core.declared.site.Act.{Act}
use Rattle.hazard_core.specs.cell_core.declared.site.Act.TheVariants as act
use Rattle.hazard_core.specs.cell_core.Acts.{asks}
use Rattle.hazard_core.specs.cell_core.Sites.{site_at}
use Rattle.hazard_core.specs.cell_core.Formed.{AllFit}
use Rattle.hazard_core.specs.cell_core.Rows.{numbers}
use Rattle.hazard_core.specs.Tables.{TableState, decl_of, tables_of}
use Rattle.hazard_core.specs.Tabled.{AreTables, LoadsTables}
use Rattle.hazard_core.specs.StageValues.{StageValues, is_update, writes}
use Rattle.hazard_core.specs.declared.change.Change.{Change}
use Rattle.hazard_core.specs.Marks.{known_on}
use Rattle.hazard_core.specs.Commits.{written_slot, committed, taken_after, change_by}
use Rattle.hazard_core.specs.Changes.{IsRightCommit}
use Rattle.hazard_core.specs.Replay.{Replayed, replay_one, replayed, HoldsReads, IsInTurn, CommitsInTurn, SeesEarlier}
use Rattle.realization.specs.beat_core.Ports.{Arrival}
use Rattle.pipe_core.specs.Machine.{Packet, State, Input, Build, Action, Commits, Writes, Moves, packet_of, place_at, marked_at, marked_by, marked_below, must_reload, sends, flushed, some_send, worked, work, clock}
use Rattle.pipe_core.specs.History.{next, begin, IsInOrder}
use Rattle.pipe_core.specs.Agreement.{UpdatesFind, Agrees}
use Rattle.pipe_core.specs.Pipeable.{IsPipeable, IsPipelinable}
use Rattle.pipe_core.specs.SeenChanges.{SeenChanges, views_below, views_on, views_after, rest_of, action_in, observed, watch, watch_start}
use Rattle.pipe_core.specs.Marked.{MarksAre}
use Rattle.pipe_core.specs.Agreed.{IsClean, IsAgreed, IsRightAction, KeepsAgreed}
use Rattle.pipe_core.specs.Right.{Replays, IsUnmarked, IsRightAt, IsRight, ActionsAreRight, KeepsRight, IsAlwaysRight}
use Rattle.pipe_core.proofs.Order.{keeps_order, begins, beats_keep}
use Rattle.pipe_core.proofs.Sending.{always_sends_back}
use Rattle.pipe_core.proofs.Marking.{begins_placed}
use Rattle.pipe_core.proofs.Placing.{Settled, settled, placed_at}
use Rattle.pipe_core.proofs.Acting.{IsChosen, ActionIs, action_is}
use Rattle.pipe_core.proofs.Agreed.{Known, all_known, unmarked, path_made}
use Rattle.pipe_core.proofs.Holding.{own_cells, holds_reads}
use Rattle.pipe_core.proofs.FlushLaws.{flushed_at}
use Rattle.pipe_core.proofs.ClockLaws.{Aside, clock_aside}

-- ---- places

pub not_marked_by : (to : ℕ) (b : Build) (t : TableState) (e : Change) (k : ℕ) (xs : List (Option Packet)) (n : ℕ) → to ≤ k + n → place_at (marked_below to b t e k xs) n ≡ place_at xs n
not_marked_by to b t e k [] n l = refl
not_marked_by to b t e k (x ∷ xs) zero l = by (nat_lt k to) refl
  where
    by : (c : Bool) → nat_lt k to ≡ c → (if c then option_map (marked_by b t k e) x else x) ≡ x
    by true q = let m : k < to = grind (arith, nat_tests) in absurd (omega (arith, m, l))
    by false q = refl
not_marked_by to b t e k (x ∷ xs) (suc n) l = not_marked_by to b t e (suc k) xs n (omega (arith, l))

none_must_reload : (test : ℕ → Bool) (from n : ℕ) → ((i : ℕ) → i < n → test (from + i) ≡ false) → list_any test (numbers from n) ≡ false
none_must_reload test from zero none = refl
none_must_reload test from (suc n) none =
    ap (λ c. c || list_any test (numbers (suc from) n)) (ap test (omega arith) ∙ none 0 (omega arith))
    ∙ none_must_reload test (suc from) n (λ i l. ap test (omega arith) ∙ none (suc i) (omega (arith, l)))

pub unmarked_must_not_reload : (b : Build) (k : ℕ) (x : Packet) → ((j : ℕ) → j < length b.program.sites → marked_at x j ≡ false) → must_reload b k x ≡ false
unfolding must_reload
unmarked_must_not_reload b k x none =
    none_must_reload (λ j. marked_at x j && known_on b.plan.row k x.held (site_at b.program.sites j)) 0 (length b.program.sites)
    (λ i l. let e : 0 + i ≡ i = omega arith in ap (λ j. marked_at x j && known_on b.plan.row k x.held (site_at b.program.sites j)) e ∙ ap (λ c. c && known_on b.plan.row k x.held (site_at b.program.sites i)) (none i l))

-- a packet without a mark at the commit place stays there
pub keeps_place : (b : Build) (places : List (Option Packet)) → b.plan.commit < length places → IsUnmarked b (place_at places b.plan.commit) → place_at (flushed b 0 places) b.plan.commit ≡ place_at places b.plan.commit
keeps_place b places l u = (always_sends_back b places).kept b.plan.commit l (λ s.
    let past : s.at ≤ b.plan.commit = at_most s.at (place_at places s.at) s.sends_back in
    let f = s.further in
    let same : s.at ≡ b.plan.commit = omega (arith, past, f) in
    no (sym (unsent (place_at places b.plan.commit) u.here) ∙ subst (λ n. sends b n (place_at places n) ≡ true) same s.sends_back))
  where
    no : false ≡ true → ⊥
    no e = cc

    at_most : (n : ℕ) (o : Option Packet) → sends b n o ≡ true → n ≤ b.plan.commit
    at_most n None e = cc
    at_most n (Some x) e = by (nat_le n b.plan.commit) refl e
      where
        by : (c : Bool) → nat_le n b.plan.commit ≡ c → c && must_reload b n x ≡ true → n ≤ b.plan.commit
        by true q e = grind (arith, nat_tests)
        by false q e = cc

    unsent : (o : Option Packet) → o ≡ Some u.packet → sends b b.plan.commit o ≡ false
    unsent None e = cc
    unsent (Some x) e =
        let same : x ≡ u.packet = cc in
        ap (λ c. nat_le b.plan.commit b.plan.commit && c) (ap (must_reload b b.plan.commit) same ∙ unmarked_must_not_reload b b.plan.commit u.packet u.unmarked) ∙ off (nat_le b.plan.commit b.plan.commit)
      where
        off : (c : Bool) → c && false ≡ false
        off true = refl
        off false = refl

-- ---- the packet at the commit place

record Sits (b : Build) (w : SeenChanges) (x : Packet) : Type 0 where
  came : Arrival
  agrees : Agrees b (w.views b.plan.commit) (packet_of came) (suc b.plan.commit) x
  unmarked_there : (j : ℕ) → j < length b.program.sites → marked_at x j ≡ false

sits : (b : Build) → IsPipeable b → (w : SeenChanges) → IsAgreed b w → (x : Packet) → place_at (rest_of b w.trace.state) b.plan.commit ≡ Some x → Sits b w x
sits b fit w h x here =
    let s = w.trace.state in
    let q = placed_at (Settled b (rest_of b s) (Known b w)) s.frames 0 b.plan.commit (rest_of b s) x (settled b s (Known b w) (all_known b w h)) here in
    let e : 0 + b.plan.commit ≡ b.plan.commit = omega arith in
    let m : Settled b (rest_of b s) (Known b w) b.plan.commit q.0 x = subst (λ k. Settled b (rest_of b s) (Known b w) k q.0 x) e q.1 in
    record { came = q.0; agrees = m.holds.agrees; unmarked_there = unmarked b fit w (rest_of b s) b.plan.commit q.0 x (omega arith) m }

pub reads_there : SeesEarlier → (b : Build) (decls : List MapDecl) → IsPipelinable decls b → (w : SeenChanges) → (w.views b.plan.commit).decls ≡ decls → IsAgreed b w → (x : Packet) → place_at (rest_of b w.trace.state) b.plan.commit ≡ Some x →
    HoldsReads b.program (w.views b.plan.commit) x.held
reads_there seen b decls fit w same h x here =
    let q = sits b fit.rows w h x here in
    let t = w.views b.plan.commit in
    let packet = packet_of q.came in
    holds_reads seen b t packet x (subst (λ ds. IsPipelinable ds b) (sym same) fit) (own_cells b t packet x q.agrees) q.agrees.fit (path_made b fit.rows t packet b.plan.commit x (omega arith) q.unmarked_there q.agrees)

-- ---- a commit

-- sites that do not write are passed
pub skips : (b : Build) (h : StageValues) (r : Replayed) (decls : List MapDecl) (done n : ℕ) → ((j : ℕ) → j < done + n → (replayed b.program h r j).tables.decls ≡ decls) → ((i : ℕ) → done ≤ i → i < done + n → writes b.program decls h i ≡ false) →
    replayed b.program h r (done + n) ≡ replayed b.program h r done
skips b h r decls done zero same idle = ap (replayed b.program h r) (omega arith)
skips b h r decls done (suc n) same idle =
    let e : done + suc n ≡ suc (done + n) = omega arith in
    let q = replayed b.program h r (done + n) in
    let off : writes b.program q.tables.decls h (done + n) ≡ false = ap (λ ds. writes b.program ds h (done + n)) (same (done + n) (omega arith)) ∙ idle (done + n) (omega arith) (omega arith) in
    ap (replayed b.program h r) e
    ∙ ap (λ (c : Bool). if c then record { tables = committed b.program q.tables q.taken h (done + n); taken = taken_after b.program q.tables q.taken h (done + n) } else q) off
    ∙ skips b h r decls done n (λ j l. same j (omega (arith, l))) (λ i a l. idle i a (omega (arith, l)))

pub record Acted (b : Build) (decls : List MapDecl) (w : SeenChanges) (j : ℕ) (x : Packet) : Type 0 where
  pub first : List ℕ
  pub first_long : length first ≡ length b.program.sites
  pub midst : record { tables = w.trace.state.tables; taken = w.trace.state.taken } ≡ replayed b.program x.held (record { tables = w.views b.plan.commit; taken = first }) j
  right : IsRightCommit b.program w.trace.state.tables w.trace.state.taken x.held j
  at : IsRightAt b decls (w.views b.plan.commit) (committed b.program w.trace.state.tables w.trace.state.taken x.held j) (taken_after b.program w.trace.state.tables w.trace.state.taken x.held j) (suc j) (Some x)

pub acted : CommitsInTurn → SeesEarlier → (b : Build) (decls : List MapDecl) → IsPipelinable decls b → (w : SeenChanges) → IsRight b decls w → (j : ℕ) (x : Packet) → IsChosen b w.trace.state (rest_of b w.trace.state) j x → Acted b decls w j x
acted in_turn seen b decls fit w h j x is = record {
  first = rp.first;
  first_long = rp.long;
  midst = here_now;
  right = subst (λ (q : Replayed). IsRightCommit b.program q.tables q.taken x.held j) (sym here_now) ((action j (omega (arith, is.in_range))).right is.in_range on_view);
  at = record {
    decls_are = ap (λ (q : Replayed). q.tables.decls) after_is ∙ next_action.decls ∙ h.at.view_decls;
    view_decls = h.at.view_decls;
    tables_are = subst (λ (q : Replayed). AreTables q.tables) (sym after_is) next_action.tables;
    view_tables = h.at.view_tables;
    long = taken_long;
    replays = λ y e. let same : x ≡ y = some_same e in subst (Replays b (w.views b.plan.commit) (committed b.program w.trace.state.tables w.trace.state.taken x.held j) (taken_after b.program w.trace.state.tables w.trace.state.taken x.held j) (suc j)) same
        (record { first = rp.first; long = rp.long; state = after_is; through = omega (arith, is.in_range) });
    amid = λ l. record { packet = x; here = refl; unmarked = (sits b fit.rows w h.agreed x is.here).unmarked_there };
  };
}
  where
    some_same : {y : Packet} → Some x ≡ Some y → x ≡ y
    some_same e = cc

    rp : Replays b (w.views b.plan.commit) w.trace.state.tables w.trace.state.taken w.trace.state.done x
    rp = h.at.replays x (flushed_at b 0 w.trace.state.places b.plan.commit x is.here)

    action : (k : ℕ) → k ≤ length b.program.sites → IsInTurn b.program (w.views b.plan.commit) rp.first x.held k
    action = in_turn b.program (w.views b.plan.commit) rp.first x.held h.at.view_tables (subst (λ ds. AllFit ds b.program.sites) (sym h.at.view_decls) fit.fits) rp.long (reads_there seen b decls fit w h.at.view_decls h.agreed x is.here)

    same_decls : w.trace.state.tables.decls ≡ (w.views b.plan.commit).decls
    same_decls = h.at.decls_are ∙ sym h.at.view_decls

    on_view : writes b.program (w.views b.plan.commit).decls x.held j ≡ true
    on_view = ap (λ ds. writes b.program ds x.held j) (sym same_decls) ∙ is.writes_there

    here_now : record { tables = w.trace.state.tables; taken = w.trace.state.taken } ≡ replayed b.program x.held (record { tables = w.views b.plan.commit; taken = rp.first }) j
    here_now =
        let n : ℕ = j - w.trace.state.done in
        let f = is.from_on in
        let e : w.trace.state.done + n ≡ j = omega (arith, f) in
        let q = is.in_range in
        rp.state ∙ sym (skips b x.held (record { tables = w.views b.plan.commit; taken = rp.first }) (w.views b.plan.commit).decls w.trace.state.done n
        (λ k l. (action k (omega (arith, l, e, q))).decls)
        (λ i a l. ap (λ ds. writes b.program ds x.held i) (sym same_decls) ∙ is.before i a (omega (arith, l, e))))
        ∙ ap (replayed b.program x.held (record { tables = w.views b.plan.commit; taken = rp.first })) e

    after_is : record { tables = committed b.program w.trace.state.tables w.trace.state.taken x.held j; taken = taken_after b.program w.trace.state.tables w.trace.state.taken x.held j } ≡ replayed b.program x.held (record { tables = w.views b.plan.commit; taken = rp.first }) (suc j)
    after_is =
        let r : Replayed = record { tables = w.trace.state.tables; taken = w.trace.state.taken } in
        sym (ap (λ (c : Bool). if c then record { tables = committed b.program r.tables r.taken x.held j; taken = taken_after b.program r.tables r.taken x.held j } else r) is.writes_there)
        ∙ ap (λ (q : Replayed). replay_one b.program x.held q j) here_now

    next_action : IsInTurn b.program (w.views b.plan.commit) rp.first x.held (suc j)
    next_action = let q = is.in_range in action (suc j) (omega (arith, q))

    taken_long : length (taken_after b.program w.trace.state.tables w.trace.state.taken x.held j) ≡ length b.program.sites
    taken_long = by (is_update (site_at b.program.sites j).act)
      where
        by : (c : Bool) → length (if c then slice_set w.trace.state.taken j (written_slot b.program w.trace.state.tables w.trace.state.taken x.held j) else w.trace.state.taken) ≡ length b.program.sites
        by true = length-set w.trace.state.taken j (written_slot b.program w.trace.state.tables w.trace.state.taken x.held j) ∙ h.at.long
        by false = h.at.long

-- ---- the tables after an action

begins_at : (b : Build) (decls : List MapDecl) (t : TableState) (taken : List ℕ) (place : Option Packet) → t.decls ≡ decls → AreTables t → length taken ≡ length b.program.sites → IsRightAt b decls t t taken 0 place
begins_at b decls t taken place same tables long = record {
  decls_are = same;
  view_decls = same;
  tables_are = tables;
  view_tables = tables;
  long = long;
  replays = λ x e. record { first = taken; long = long; state = refl; through = omega arith };
  amid = λ l. absurd (omega (arith, l));
}

pub moved_view : (commit : ℕ) (t : TableState) (views : ℕ → TableState) → views_on commit t views commit ≡ t
moved_view zero t views = refl
moved_view (suc k) t views = by (nat_lt k (suc k)) refl
  where
    by : (c : Bool) → nat_lt k (suc k) ≡ c → (if c then t else views k) ≡ t
    by true e = refl
    by false e = let m : suc k ≤ k = grind (arith, nat_tests) in absurd (omega (arith, m))

pub kept_view : (commit : ℕ) (t : TableState) (views : ℕ → TableState) → views_below commit t views commit ≡ views commit
kept_view commit t views = by (nat_lt commit commit) refl
  where
    by : (c : Bool) → nat_lt commit commit ≡ c → (if c then t else views commit) ≡ views commit
    by true e = let m : commit < commit = grind (arith, nat_tests) in absurd (omega (arith, m))
    by false e = refl

action_right : CommitsInTurn → SeesEarlier → (b : Build) (decls : List MapDecl) → IsPipelinable decls b → (w : SeenChanges) → IsRight b decls w → (u : Action) → ActionIs b w.trace.state (rest_of b w.trace.state) u → IsRightAction b w.trace.state u
action_right in_turn seen b decls fit w h (Commits j x) is = (acted in_turn seen b decls fit w h j x is).right
action_right in_turn seen b decls fit w h (Writes a n) is = is
action_right in_turn seen b decls fit w h Moves is = tt

action_at : CommitsInTurn → SeesEarlier → (b : Build) (decls : List MapDecl) → IsPipelinable decls b → (w : SeenChanges) → IsRight b decls w → (back : Bool) (u : Action) → ActionIs b w.trace.state (rest_of b w.trace.state) u →
    (let v = worked b w.trace.state back (rest_of b w.trace.state) u in IsRightAt b decls (views_after b w.trace.state u w.views b.plan.commit) v.tables v.taken v.done (place_at v.places b.plan.commit))
action_at in_turn seen b decls fit w h back (Commits j x) is =
    let s = w.trace.state in
    let rest = rest_of b s in
    let u = committed b.program s.tables s.taken x.held j in
    let e = change_by b.program s.tables s.taken x.held j in
    let there : place_at (marked_below b.plan.commit b s.tables e 0 rest) b.plan.commit ≡ Some x = not_marked_by b.plan.commit b s.tables e 0 rest b.plan.commit (omega arith) ∙ is.here in
    subst (λ (o : Option Packet). IsRightAt b decls (views_below b.plan.commit u w.views b.plan.commit) u (taken_after b.program s.tables s.taken x.held j) (suc j) o) (sym there)
    (subst (λ v. IsRightAt b decls v u (taken_after b.program s.tables s.taken x.held j) (suc j) (Some x)) (sym (kept_view b.plan.commit u w.views)) (acted in_turn seen b decls fit w h j x is).at)
action_at in_turn seen b decls fit w h back (Writes a n) is = absurd is
action_at in_turn seen b decls fit w h back Moves is =
    let s = w.trace.state in
    let v = worked b s back (rest_of b s) Moves in
    subst (λ z. IsRightAt b decls z s.tables s.taken 0 (place_at v.places b.plan.commit)) (sym (moved_view b.plan.commit s.tables w.views))
    (begins_at b decls s.tables s.taken (place_at v.places b.plan.commit) h.at.decls_are h.at.tables_are h.at.long)

pub actions_are_right : CommitsInTurn → SeesEarlier → ActionsAreRight
actions_are_right in_turn seen b decls fit i silent w h = action_right in_turn seen b decls fit w h (action_in b i w.trace.state) (action_is b i silent w.trace.state (rest_of b w.trace.state))

along : (b : Build) (decls : List MapDecl) (view : TableState) (v c : State) → Aside v c → c.places ≡ v.places → IsRightAt b decls view v.tables v.taken v.done (place_at v.places b.plan.commit) → IsRightAt b decls view c.tables c.taken c.done (place_at c.places b.plan.commit)
along b decls view v c aside places h =
    subst (λ t. IsRightAt b decls view t c.taken c.done (place_at c.places b.plan.commit)) (sym aside.tables)
    (subst (λ k. IsRightAt b decls view v.tables k c.done (place_at c.places b.plan.commit)) (sym aside.taken)
    (subst (λ d. IsRightAt b decls view v.tables v.taken d (place_at c.places b.plan.commit)) (sym aside.done)
    (subst (λ xs. IsRightAt b decls view v.tables v.taken v.done (place_at xs b.plan.commit)) (sym places) h)))

updates_find : (decls : List MapDecl) (b : Build) → IsPipelinable decls b → UpdatesFind decls b
updates_find decls b fit j l update hash =
    let s = site_at b.program.sites j in
    fit.found j l (ap (λ (a : Act). asks a (decl_of decls s.map).kind) update ∙ ap (asks act.Update) hash)

pub keeps_right : KeepsAgreed → CommitsInTurn → SeesEarlier → KeepsRight
unfolding observed next work
keeps_right agree in_turn seen b decls fit i silent w o h =
    let s = w.trace.state in
    let is = action_is b i silent s (rest_of b s) in
    let right = action_right in_turn seen b decls fit w h (action_in b i s) is in
    record {
      agreed = agree b fit.rows i silent w (subst (λ ds. UpdatesFind ds b) (sym h.at.decls_are) (updates_find decls b fit)) o right h.agreed;
      at = along b decls (views_after b s (action_in b i s) w.views b.plan.commit) (work b i s) (clock b i s) (clock_aside b i s) (beats_keep b i w.trace o).places
          (action_at in_turn seen b decls fit w h (some_send b 0 s.places) (action_in b i s) is);
    }

begins_right : LoadsTables → (b : Build) (maps : MapState) → IsSound maps → IsRight b maps.decls (watch_start b maps)
begins_right loads b maps sound = record {
  agreed = record {
    marked = begins_placed b maps (λ k c x. MarksAre b maps.decls [] k x);
    clean = begins_placed b maps (λ k c x. IsClean b k x);
    agree = begins_placed b maps (λ k c x. Agrees b (tables_of maps) (packet_of c) (suc k) x);
    current = λ k l. refl;
    begun = λ e. refl;
  };
  at = begins_at b maps.decls (tables_of maps) (replicate (length b.program.sites) 0) (place_at (begin b maps).state.places b.plan.commit) refl (loads maps sound) (length-replicate (length b.program.sites) 0);
}

all_right : KeepsRight → (b : Build) (decls : List MapDecl) → IsPipelinable decls b → (is : List Input) → AllByRecursion (λ i. i.host ≡ None) is → (w : SeenChanges) → IsInOrder b w.trace → IsRight b decls w → IsRight b decls (watch b is w)
unfolding observed
all_right keeps b decls fit [] silent w o h = h
all_right keeps b decls fit (i ∷ is) silent w o h = all_right keeps b decls fit is silent.1 (observed b i w) (keeps_order b i w.trace o) (keeps b decls fit i silent.0 w o h)

pub always_right : KeepsRight → LoadsTables → IsAlwaysRight
always_right keeps loads b maps fit sound is silent = all_right keeps b maps.decls fit is silent (watch_start b maps) (begins b maps) (begins_right loads b maps sound)
