-- Packets overlap, and are cell runs one after another.
use Rattle.std.proofs.Common.{◌≡◌, ℕ, zero, suc, ◌+◌, ◌-◌, ◌<◌, ◌≤◌, inl, inr, Bool, true, false, List, [], ◌∷◌, ◌++◌, Option, Some, None, length, get_or, drop, refl, sym, ap, ◌∙◌, subst, arith}
use Rattle.std.specs.Prelude.{if◌then◌else◌, nat_lt}
use Rattle.std.proofs.lemmas.Bool.Decides.{nat_tests}
use Rattle.std.proofs.lemmas.Bool.{cases_lt}
use Rattle.std.proofs.lemmas.List.{length-drop, take_all}
use Rattle.hazard_core.specs.xdp_maps.declared.decl.MapDecl.{MapDecl}
use Rattle.hazard_core.specs.xdp_maps.State.{MapState}
use Rattle.hazard_core.specs.xdp_machine.State.{PacketIn}
use Rattle.hazard_core.specs.cell_core.Formed.{AllFit}
use Rattle.hazard_core.specs.cell_core.Sites.{ProgramView, IsCellRun, after}
use Rattle.hazard_core.specs.Tables.{TableState, maps_of}
use Rattle.hazard_core.specs.Tabled.{AreTables}
use Rattle.hazard_core.specs.StageValues.{StageValues, stage_value, writes}
use Rattle.hazard_core.specs.declared.change.Change.{Change}
use Rattle.hazard_core.specs.Commits.{committed, change_by}
use Rattle.hazard_core.specs.Replay.{Replayed, replayed, CommitsInTurn, MapsInTurn, ReadsInTurn, SeesEarlier}
use Rattle.realization.specs.beat_core.Ports.{Arrival}
use Rattle.pipe_core.specs.Machine.{Packet, State, Build, Action, Commits, Writes, Moves, packet_of, place_at, marked_below, moved, newcomer, worked}
use Rattle.pipe_core.specs.History.{left_as, IsInOrder}
use Rattle.pipe_core.specs.Computed.{Computes, LeftCompute}
use Rattle.pipe_core.specs.Sequential.{AreCellRuns}
use Rattle.pipe_core.specs.Agreement.{excused_as}
use Rattle.pipe_core.specs.Pipeable.{IsPipelinable}
use Rattle.pipe_core.specs.SeenChanges.{SeenChanges, views_below, views_on, views_after, rest_of}
use Rattle.pipe_core.specs.SequentialOrder.{left_maps, passed_maps, AreChained, IsSequential}
use Rattle.pipe_core.proofs.Order.{last_or, place_last}
use Rattle.pipe_core.proofs.Agreed.{Known, all_known, unmarked, path_made}
use Rattle.pipe_core.proofs.Placing.{Settled, settled, placed_at}
use Rattle.pipe_core.proofs.Acting.{ActionIs}
use Rattle.pipe_core.proofs.Righting.{keeps_place, skips, reads_there, moved_view, kept_view}
use Rattle.pipe_core.proofs.Passing.{exit_maps, passed_moved, ReadyMaps, chained_moved, chained_same, drop_moved, drop_marked_by, drop_flushed}
use Rattle.pipe_core.proofs.Exiting.{cell_run}
use Rattle.pipe_core.proofs.FlushLaws.{flushed_at, flushed_length}

-- ---- lists of runs

pub left_append : (p : ProgramView) (maps : MapState) (hs gs : List StageValues) → left_maps p maps (hs ++ gs) ≡ left_maps p (left_maps p maps hs) gs
left_append p maps [] gs = refl
left_append p maps (h ∷ hs) gs = left_append p (after (stage_value h) maps p.sites) hs gs

pub runs_append : (p : ProgramView) (maps last : MapState) (hs gs : List StageValues) (cs : List Arrival) → AreCellRuns p maps hs cs (left_maps p maps hs) → AreCellRuns p (left_maps p maps hs) gs (drop (length hs) cs) last → AreCellRuns p maps (hs ++ gs) cs last
runs_append p maps last [] gs cs h k = k
runs_append p maps last (x ∷ hs) gs [] h k = absurd h
runs_append p maps last (x ∷ hs) gs (c ∷ cs) h k = (h.0, runs_append p (after (stage_value x) maps p.sites) last hs gs cs h.1 k)

pub runs_more : (p : ProgramView) (maps last : MapState) (hs : List StageValues) (cs ds : List Arrival) → AreCellRuns p maps hs cs last → AreCellRuns p maps hs (cs ++ ds) last
runs_more p maps last [] cs ds h = h
runs_more p maps last (x ∷ hs) [] ds h = absurd h
runs_more p maps last (x ∷ hs) (c ∷ cs) ds h = (h.0, runs_more p (after (stage_value x) maps p.sites) last hs cs ds h.1)

-- ---- what an action does

pub record Core (b : Build) (maps : MapState) (decls : List MapDecl) (frames : List Arrival) (gone : List StageValues) (views : ℕ → TableState) (places : List (Option Packet)) : Type 0 where
  pub runs : AreCellRuns b.program maps gone frames (left_maps b.program maps gone)
  pub chained : AreChained b.program (left_maps b.program maps gone) views (suc b.plan.commit) (drop (suc b.plan.commit) places)
  pub now : maps_of (views b.plan.commit) ≡ passed_maps b.program (left_maps b.program maps gone) (drop (suc b.plan.commit) places)
  pub view_decls : (k : ℕ) → b.plan.commit ≤ k → (views k).decls ≡ decls
  pub view_tables : (k : ℕ) → b.plan.commit ≤ k → AreTables (views k)

past_places : (b : Build) (s : State) → drop (suc b.plan.commit) (rest_of b s) ≡ drop (suc b.plan.commit) s.places
past_places b s = drop_flushed b 0 (suc b.plan.commit) s.places (omega arith)

below_same : (commit : ℕ) (t : TableState) (views : ℕ → TableState) (k : ℕ) → commit ≤ k → views_below commit t views k ≡ views k
below_same commit t views k l = by (nat_lt k commit) refl
  where
    by : (c : Bool) → nat_lt k commit ≡ c → (if c then t else views k) ≡ views k
    by true e = let m : k < commit = grind (arith, nat_tests) in absurd (omega (arith, m, l))
    by false e = refl

on_same : (commit : ℕ) (t : TableState) (views : ℕ → TableState) (k : ℕ) → commit ≤ k → views_on commit t views (suc k) ≡ views k
on_same commit t views k l = below_same commit t views k l

commit_core : (b : Build) (maps : MapState) (w : SeenChanges) (t : TableState) (e : Change) → IsSequential b maps w → Core b (left_maps b.program maps w.trace.left) maps.decls w.trace.state.frames [] (views_below b.plan.commit t w.views) (marked_below b.plan.commit b w.trace.state.tables e 0 (rest_of b w.trace.state))
commit_core b maps w t e h =
    let s = w.trace.state in
    let places : drop (suc b.plan.commit) (marked_below b.plan.commit b s.tables e 0 (rest_of b s)) ≡ drop (suc b.plan.commit) s.places =
    drop_marked_by b.plan.commit b s.tables e 0 (suc b.plan.commit) (rest_of b s) (omega arith) ∙ past_places b s in
    let m = left_maps b.program maps w.trace.left in
    record {
      runs = refl;
      chained = subst (AreChained b.program m (views_below b.plan.commit t w.views) (suc b.plan.commit)) (sym places)
          (chained_same b.program m w.views (views_below b.plan.commit t w.views) (suc b.plan.commit) (drop (suc b.plan.commit) s.places) (λ n l. below_same b.plan.commit t w.views n (omega (arith, l))) h.chained);
      now = ap maps_of (kept_view b.plan.commit t w.views) ∙ h.now ∙ ap (passed_maps b.program m) (sym places);
      view_decls = λ k l. ap (λ (v : TableState). v.decls) (below_same b.plan.commit t w.views k l) ∙ h.view_decls k l;
      view_tables = λ k l. subst AreTables (sym (below_same b.plan.commit t w.views k l)) (h.view_tables k l);
    }

-- ---- moving on

pub last_dropped : (xs : List (Option Packet)) (n m : ℕ) → n < length xs → suc m ≡ length xs → place_at xs m ≡ last_or (get_or xs n None) (drop (suc n) xs)
last_dropped [] n m l e = absurd (omega (arith, l))
last_dropped (y ∷ ys) zero m l e = let q : m ≡ length ys = omega (arith, e) in ap (place_at (y ∷ ys)) q ∙ place_last y ys
last_dropped (y ∷ ys) (suc n) zero l e = absurd (omega (arith, l, e))
last_dropped (y ∷ ys) (suc n) (suc m) l e = last_dropped ys n m (omega (arith, l)) (omega (arith, e))

gone_maps : (p : ProgramView) (maps : MapState) (o : Option Packet) → left_maps p maps (left_as Moves o) ≡ exit_maps p maps o
gone_maps p maps None = refl
gone_maps p maps (Some x) = refl

last_view : (p : ProgramView) (maps : MapState) (views : ℕ → TableState) (k : ℕ) (x : Option Packet) (ys : List (Option Packet)) (z : Packet) → ReadyMaps p maps (views k) x ys → AreChained p maps views (suc k) ys → last_or x ys ≡ Some z →
    maps_of (views (k + length ys)) ≡ maps
last_view p maps views k None [] z r h e = cc
last_view p maps views k (Some x) [] z r h e = ap (λ n. maps_of (views n)) (omega arith) ∙ r
last_view p maps views k x (None ∷ ys) z r h e = ap (λ n. maps_of (views n)) (omega arith) ∙ last_view p maps views (suc k) None ys z tt h e
last_view p maps views k x (Some y ∷ ys) z r h e = ap (λ n. maps_of (views n)) (omega arith) ∙ last_view p maps views (suc k) (Some y) ys z h.0 h.1 e

module _ (seen : SeesEarlier) (in_turn : CommitsInTurn) (maps_action : MapsInTurn) (reads_action : ReadsInTurn) (b : Build) (maps : MapState) (fit : IsPipelinable maps.decls b) (w : SeenChanges) (h : IsSequential b maps w) (o : IsInOrder b w.trace) where
  abbrev s : State
  s = w.trace.state

  abbrev rest : List (Option Packet)
  rest = rest_of b w.trace.state

  abbrev base : MapState
  base = left_maps b.program maps w.trace.left

  abbrev past : List (Option Packet)
  past = drop (suc b.plan.commit) (rest_of b w.trace.state)

  abbrev at_commit : Option Packet
  at_commit = place_at (rest_of b w.trace.state) b.plan.commit

  rest_length : length (rest_of b w.trace.state) ≡ suc b.plan.last
  rest_length = flushed_length b 0 s.places ∙ o.places

  chained_rest : AreChained b.program base w.views (suc b.plan.commit) past
  chained_rest = subst (AreChained b.program base w.views (suc b.plan.commit)) (sym (past_places b s)) h.chained

  now_rest : maps_of (w.views b.plan.commit) ≡ passed_maps b.program base past
  now_rest = h.now ∙ ap (passed_maps b.program base) (sym (past_places b s))

  ready : (x : Option Packet) → ReadyMaps b.program base (w.views b.plan.commit) x past
  ready None = tt
  ready (Some x) = now_rest

  -- the operations of the packet that passes are in the tables
  passes : ActionIs b w.trace.state (rest_of b w.trace.state) Moves → (x : Option Packet) → place_at (rest_of b w.trace.state) b.plan.commit ≡ x → maps_of w.trace.state.tables ≡ passed_maps b.program base (x ∷ past)
  passes through None e = ap maps_of (sym (h.right.agreed.begun still)) ∙ now_rest
    where
      still : w.trace.state.done ≡ 0
      still = elim (cases_lt 0 w.trace.state.done) [
        | inl l ↦
            let u = h.right.at.amid l in
            let c = fit.rows.commit in
            let k = keeps_place b w.trace.state.places (omega (arith, c, o.places)) u in
            absurd (no (sym e ∙ k ∙ u.here))
        | inr l ↦ omega (arith, l)
      ]
        where
          no : {x : Packet} → None ≡ Some x → ⊥
          no e = cc
  passes through (Some x) e =
      let p = b.program in
      let view = w.views b.plan.commit in
      let rp = h.right.at.replays x (flushed_at b 0 s.places b.plan.commit x e) in
      let at : Replayed = record { tables = view; taken = rp.first } in
      let fits = subst (λ ds. AllFit ds p.sites) (sym h.right.at.view_decls) fit.fits in
      let reads = reads_there seen b maps.decls fit w h.right.at.view_decls h.right.agreed x e in
      let n : ℕ = length p.sites - s.done in
      let t = rp.through in
      let all : s.done + n ≡ length p.sites = omega (arith, t) in
      let same : s.tables.decls ≡ view.decls = h.right.at.decls_are ∙ sym h.right.at.view_decls in
      let done_all = skips b x.held at view.decls s.done n (λ k l. (in_turn p view rp.first x.held h.right.at.view_tables fits rp.long reads k (omega (arith, l, all))).decls)
      (λ i a l. ap (λ ds. writes p ds x.held i) (sym same) ∙ through x e i a (omega (arith, l, all))) in
      ap (λ (q : Replayed). maps_of q.tables) (rp.state ∙ sym done_all ∙ ap (replayed p x.held at) all)
      ∙ maps_action p view rp.first x.held h.right.at.view_tables fits rp.long reads (length p.sites) (omega arith)
      ∙ ap (after (stage_value x.held) (maps_of view)) (take_all (length p.sites) p.sites (omega arith)) ∙ ap (λ m. after (stage_value x.held) m p.sites) now_rest

  exit_run : (z : Packet) → place_at (rest_of b w.trace.state) b.plan.last ≡ Some z → (packet : PacketIn) → Computes b packet (suc b.plan.last) z.held → IsCellRun packet base b.program (stage_value z.held)
  exit_run z e packet k =
      let c = fit.rows.commit in
      let q = placed_at (Settled b rest (Known b w)) s.frames 0 b.plan.last rest z (settled b s (Known b w) (all_known b w h.right.agreed)) e in
      let m : Settled b rest (Known b w) b.plan.last q.0 z = subst (λ n. Settled b rest (Known b w) n q.0 z) (omega arith) q.1 in
      let t = w.views b.plan.last in
      let other = packet_of q.0 in
      let last_is : place_at rest b.plan.last ≡ last_or at_commit past = last_dropped rest b.plan.commit b.plan.last (omega (arith, c, rest_length)) (sym rest_length) in
      let at_last : b.plan.commit + length past ≡ b.plan.last = omega (arith, length-drop (suc b.plan.commit) rest, rest_length, c) in
      let maps_are : maps_of t ≡ base = ap (λ n. maps_of (w.views n)) (sym at_last) ∙ last_view b.program base w.views b.plan.commit at_commit past z (ready at_commit) chained_rest (sym last_is ∙ e) in
      let path = path_made b fit.rows t other b.plan.last z c (unmarked b fit.rows w rest b.plan.last q.0 z c m) m.holds.agrees in
      subst (λ v. IsCellRun packet v b.program (stage_value z.held)) maps_are
      (cell_run seen reads_action b t other z (subst (λ ds. IsPipelinable ds b) (sym (h.view_decls b.plan.last c)) fit) (h.view_tables b.plan.last c)
      (λ i l low none. m.holds.agrees.each i l (omega (arith, low, c)) (ap (λ (a : Option ℕ). excused_as b (suc b.plan.last) z a) none)) (λ i l low read. m.holds.agrees.fit i l (omega (arith, low, c)) read) path packet k m.holds.agrees.fit)

  exit_runs : (x : Option Packet) → place_at (rest_of b w.trace.state) b.plan.last ≡ x → (fs : List Arrival) → LeftCompute b (left_as Moves x) fs → AreCellRuns b.program base (left_as Moves x) fs (left_maps b.program base (left_as Moves x))
  exit_runs None e fs k = refl
  exit_runs (Some z) e [] k = absurd k
  exit_runs (Some z) e (f ∷ fs) k = (exit_run z e (packet_of f) k.0, refl)

  moves_core : (back : Bool) → ActionIs b w.trace.state (rest_of b w.trace.state) Moves → LeftCompute b (left_as Moves (place_at (rest_of b w.trace.state) b.plan.last)) w.trace.state.frames →
      Core b base maps.decls w.trace.state.frames (left_as Moves (place_at (rest_of b w.trace.state) b.plan.last)) (views_on b.plan.commit w.trace.state.tables w.views) (worked b w.trace.state back (rest_of b w.trace.state) Moves).places
  moves_core back through k =
      let p = b.program in
      let c = fit.rows.commit in
      let new = newcomer b back s.frames rest in
      let views = views_on b.plan.commit s.tables w.views in
      let last_is : place_at rest b.plan.last ≡ last_or at_commit past = last_dropped rest b.plan.commit b.plan.last (omega (arith, c, rest_length)) (sym rest_length) in
      let gone_is : left_maps p base (left_as Moves (place_at rest b.plan.last)) ≡ exit_maps p base (last_or at_commit past) = gone_maps p base (place_at rest b.plan.last) ∙ ap (exit_maps p base) last_is in
      let places : drop (suc b.plan.commit) (moved b s.tables s.frames 0 new rest) ≡ moved b s.tables s.frames (suc b.plan.commit) at_commit past =
      drop_moved b s.tables s.frames 0 b.plan.commit new rest (omega (arith, c, rest_length)) ∙ ap (λ n. moved b s.tables s.frames (suc n) at_commit past) (omega arith) in
      record {
        runs = exit_runs (place_at rest b.plan.last) refl s.frames k;
        chained = subst (λ m. AreChained p m views (suc b.plan.commit) (drop (suc b.plan.commit) (moved b s.tables s.frames 0 new rest))) (sym gone_is)
            (subst (AreChained p (exit_maps p base (last_or at_commit past)) views (suc b.plan.commit)) (sym places)
            (chained_moved b fit.rows s.tables s.frames base w.views views (λ n l. on_same b.plan.commit s.tables w.views n l) b.plan.commit at_commit past (omega arith) (ready at_commit) chained_rest));
        now = ap maps_of (moved_view b.plan.commit s.tables w.views) ∙ passes through at_commit refl ∙ sym (passed_moved b fit.rows s.tables s.frames base (suc b.plan.commit) at_commit past (omega arith))
            ∙ ap (λ m. passed_maps p m (moved b s.tables s.frames (suc b.plan.commit) at_commit past)) (sym gone_is) ∙ ap (passed_maps p (left_maps p base (left_as Moves (place_at rest b.plan.last)))) (sym places);
        view_decls = λ n l. elim (cases_lt b.plan.commit n) [
          | inl m ↦ later (λ (v : TableState). v.decls ≡ maps.decls) n m (λ i a. h.view_decls i a)
          | inr m ↦ let e : b.plan.commit ≡ n = omega (arith, l, m) in subst (λ i. (views i).decls ≡ maps.decls) e (subst (λ (v : TableState). v.decls ≡ maps.decls) (sym (moved_view b.plan.commit s.tables w.views)) h.right.at.decls_are)
        ];
        view_tables = λ n l. elim (cases_lt b.plan.commit n) [
          | inl m ↦ later AreTables n m (λ i a. h.view_tables i a)
          | inr m ↦ let e : b.plan.commit ≡ n = omega (arith, l, m) in subst (λ i. AreTables (views i)) e (subst AreTables (sym (moved_view b.plan.commit s.tables w.views)) h.right.at.tables_are)
        ];
      }
    where
      later : (P : TableState → Type 0) (n : ℕ) → b.plan.commit < n → ((i : ℕ) → b.plan.commit ≤ i → P (w.views i)) → P (views_on b.plan.commit w.trace.state.tables w.views n)
      later P zero l f = absurd (omega (arith, l))
      later P (suc n) l f = subst P (sym (on_same b.plan.commit w.trace.state.tables w.views n (omega (arith, l)))) (f n (omega (arith, l)))

  pub action_core : (back : Bool) (u : Action) → ActionIs b w.trace.state (rest_of b w.trace.state) u → LeftCompute b (left_as u (place_at (rest_of b w.trace.state) b.plan.last)) w.trace.state.frames →
      Core b base maps.decls w.trace.state.frames (left_as u (place_at (rest_of b w.trace.state) b.plan.last)) (views_after b w.trace.state u w.views) (worked b w.trace.state back (rest_of b w.trace.state) u).places
  action_core back (Commits j x) is k =
      let u = committed b.program s.tables s.taken x.held j in
      let e = change_by b.program s.tables s.taken x.held j in
      subst (λ gone. Core b base maps.decls s.frames gone (views_below b.plan.commit u w.views) (marked_below b.plan.commit b s.tables e 0 rest)) (nothing (place_at rest b.plan.last)) (commit_core b maps w u e h)
    where
      nothing : (y : Option Packet) → [] ≡ left_as (Commits j x) y
      nothing None = refl
      nothing (Some y) = refl
  action_core back (Writes a n) is k = absurd is
  action_core back Moves is k = moves_core back is k
