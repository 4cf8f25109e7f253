-- A packet inside reads, on the maps as they are, nothing that the packets shortly before it have written.
use Rattle.std.proofs.Common.{◌≡◌, ℕ, zero, suc, ◌+◌, ◌-◌, ◌<◌, ◌≤◌, inl, inr, Bool, true, false, List, [], ◌∷◌, ◌++◌, Option, Some, None, length, get_or, take, drop, refl, sym, ap, ◌∙◌, subst, arith, append_assoc, length-append, length-drop}
use Rattle.std.specs.Prelude.{if◌then◌else◌, nat_lt, Contains}
use Rattle.std.specs.List.{AllByRecursion}
use Rattle.std.proofs.lemmas.Bool.{cases_lt}
use Rattle.std.proofs.lemmas.Bool.Decides.{nat_tests}
use Rattle.std.proofs.lemmas.Nat.{pow_pos}
use Rattle.std.proofs.lemmas.List.{take-append-drop, length-take-le}
use Rattle.std.proofs.Math.Seq.{take-suc, drop-cons, drop-drop}
use Rattle.realization.specs.beat_core.Ports.{Arrival}
use Rattle.hazard_core.specs.xdp_maps.State.{MapState, IsSound}
use Rattle.hazard_core.specs.xdp_maps.Touched.{Resource}
use Rattle.hazard_core.specs.xdp_machine.Touched.{Touched, nothing}
use Rattle.hazard_core.specs.cell_core.Cells.{cell_at}
use Rattle.hazard_core.specs.cell_core.Formed.{AllFit}
use Rattle.hazard_core.specs.cell_core.Rows.{taken_by}
use Rattle.hazard_core.specs.cell_core.SiteLaws.{ValuesKeep}
use Rattle.hazard_core.specs.cell_core.Sites.{SiteView, ProgramView, site_at, IsCellRun, after, touched}
use Rattle.hazard_core.specs.Tables.{TableState, maps_of}
use Rattle.hazard_core.specs.StageValues.{StageValues, stage_value}
use Rattle.hazard_core.specs.Replay.{Replayed, SeesEarlier, MapsInTurn}
use Rattle.pipe_core.specs.Machine.{Packet, State, Build, no_frame, packet_of, place_at, inside}
use Rattle.pipe_core.specs.History.{IsInOrder}
use Rattle.pipe_core.specs.Sequential.{AreCellRuns}
use Rattle.pipe_core.specs.Placed.{Placed}
use Rattle.pipe_core.specs.Pipeable.{IsPipelinable}
use Rattle.pipe_core.specs.SequentialOrder.{left_maps, passed_maps, AreChained, IsSequential}
use Rattle.pipe_core.specs.Prefix.{HoldsRun, CommittersHoldRuns}
use Rattle.pipe_core.specs.SeenChanges.{SeenChanges, rest_of}
use Rattle.pipe_core.specs.Apart.{AllRun, AreOthers, ReadOthers, ConflictFree, RunsComplete, Leads, RunsInTurnToo, InTurnToo}
use Rattle.pipe_core.specs.ChangeCauses.{left_touched, past_touched, now_touched, so_far, written_by, Wrote, Waits, ReadsNothingWritten}
use Rattle.pipe_core.proofs.Righting.{keeps_place, reads_there}
use Rattle.pipe_core.proofs.Passing.{SameSites, after_same, drop_flushed}
use Rattle.pipe_core.proofs.Midst.{same_run, leads_then, leads_long, led_by, runs_after}
use Rattle.pipe_core.proofs.Blaming.{grows_front, left_length, past_length, none_there, fewer, between, front_place, there, touched_same, take_whole}

-- ---- which are apart, by their numbers

others_at : (n : ℕ) (ws : List Resource) (ts : List Touched) → ReadOthers n ws ts → (j : ℕ) → j < n → AreOthers (get_or ts j nothing).reads ws
others_at zero ws ts h j l r has wrote = absurd (omega (arith, l))
others_at (suc n) ws [] h j l r has wrote = none_there r has
others_at (suc n) ws (t ∷ ts) h zero l r has wrote = h.0 r has wrote
others_at (suc n) ws (t ∷ ts) h (suc j) l r has wrote = others_at n ws ts h.1 j (omega (arith, l)) r has wrote

apart_at : (n : ℕ) (ts : List Touched) → ConflictFree n ts → (i j : ℕ) → i < j → j ≤ i + n → AreOthers (get_or ts j nothing).reads (get_or ts i nothing).writes
apart_at n [] h i j l m r has wrote = none_there r has
apart_at n (t ∷ ts) h i zero l m r has wrote = absurd (omega (arith, l))
apart_at n (t ∷ ts) h zero (suc j) l m r has wrote = others_at n t.writes ts h.0 j (omega (arith, m)) r has wrote
apart_at n (t ∷ ts) h (suc i) (suc j) l m r has wrote = apart_at n ts h.1 i j (omega (arith, l)) (omega (arith, m)) r has wrote

at_number : (xs : List Touched) (t : Touched) (ys : List Touched) (n : ℕ) → length xs ≡ n → get_or (xs ++ (t ∷ ys)) n nothing ≡ t
at_number [] t ys zero e = refl
at_number [] t ys (suc n) e = absurd (omega (arith, e))
at_number (x ∷ xs) t ys zero e = absurd (omega (arith, e))
at_number (x ∷ xs) t ys (suc n) e = at_number xs t ys n (omega (arith, e))

-- ---- runs of the packets that left or passed

module _ (p : ProgramView) where
  leads_one : (maps mid last : MapState) (cs : List Arrival) (ts : List Touched) (c : Arrival) (t : Touched) (v : ℕ → ℕ) → Leads p maps cs ts mid → IsCellRun (packet_of c) mid p v → touched v mid p.sites ≡ t → last ≡ after v mid p.sites → Leads p maps (cs ++ (c ∷ [])) (ts ++ (t ∷ [])) last
  leads_one maps mid last [] [] c t v h run touches is = subst (λ m. Leads p m (c ∷ []) (t ∷ []) last) h (v, run, touches, is)
  leads_one maps mid last [] (x ∷ ts) c t v h run touches is = absurd h
  leads_one maps mid last (d ∷ cs) [] c t v h run touches is = absurd h
  leads_one maps mid last (d ∷ cs) (x ∷ ts) c t v (u, one, same, more) run touches is = (u, one, same, leads_one (after u maps p.sites) mid last cs ts c t v more run touches is)

  leads_on : (maps mid last : MapState) (cs ds : List Arrival) (ts us : List Touched) → Leads p maps cs ts mid → Leads p mid ds us last → Leads p maps (cs ++ ds) (ts ++ us) last
  leads_on maps mid last [] ds [] us h k = subst (λ m. Leads p m ds us last) h k
  leads_on maps mid last [] ds (x ∷ ts) us h k = absurd h
  leads_on maps mid last (c ∷ cs) ds [] us h k = absurd h
  leads_on maps mid last (c ∷ cs) ds (x ∷ ts) us (u, one, same, more) k = (u, one, same, leads_on (after u maps p.sites) mid last cs ds ts us more k)

  left_leads : (maps : MapState) (hs : List StageValues) (cs : List Arrival) → AreCellRuns p maps hs cs (left_maps p maps hs) → Leads p maps (take (length hs) cs) (left_touched p maps hs) (left_maps p maps hs)
  left_leads maps [] cs runs = refl
  left_leads maps (h ∷ hs) [] runs = absurd runs
  left_leads maps (h ∷ hs) (c ∷ cs) runs = (stage_value h, runs.0, refl, left_leads (after (stage_value h) maps p.sites) hs cs runs.1)

placed_drop : (P : ℕ → Arrival → Packet → Type 0) (fs : List Arrival) (k n : ℕ) (xs : List (Option Packet)) → Placed P fs k xs → Placed P fs (k + n) (drop n xs)
placed_drop P fs k zero xs h = subst (λ m. Placed P fs m xs) (omega arith) h
placed_drop P fs k (suc n) [] h = tt
placed_drop P fs k (suc n) (None ∷ xs) h = let e : suc k + n ≡ k + suc n = omega arith in subst (λ m. Placed P fs m (drop n xs)) e (placed_drop P fs (suc k) n xs h)
placed_drop P fs k (suc n) (Some x ∷ xs) h = let e : suc k + n ≡ k + suc n = omega arith in subst (λ m. Placed P fs m (drop n xs)) e (placed_drop P fs (suc k) n xs h.1)

-- the packet of one place, with its own frame
pub placed_there : (P : ℕ → Arrival → Packet → Type 0) (fs : List Arrival) (k n : ℕ) (xs : List (Option Packet)) (x : Packet) → Placed P fs k xs → place_at xs n ≡ Some x → P (k + n) (get_or fs (inside (drop (suc n) xs)) no_frame) x
placed_there P fs k n [] x h e = cc
placed_there P fs k zero (None ∷ xs) x h e = cc
placed_there P fs k zero (Some y ∷ xs) x h e =
    let same : y ≡ x = cc in
    let f : k ≡ k + 0 = omega arith in
    subst (λ z. P (k + 0) (get_or fs (inside xs) no_frame) z) same (subst (λ n. P n (get_or fs (inside xs) no_frame) y) f h.0)
placed_there P fs k (suc n) (None ∷ xs) x h e = let f : suc k + n ≡ k + suc n = omega arith in subst (λ m. P m (get_or fs (inside (drop (suc n) xs)) no_frame) x) f (placed_there P fs (suc k) n xs x h e)
placed_there P fs k (suc n) (Some y ∷ xs) x h e = let f : suc k + n ≡ k + suc n = omega arith in subst (λ m. P m (get_or fs (inside (drop (suc n) xs)) no_frame) x) f (placed_there P fs (suc k) n xs x h.1 e)

module _ (keep : ValuesKeep) (b : Build) (maps : MapState) (fit : IsPipelinable maps.decls b) where
  -- a run that holds of the cells of sites what the packet holds, those past the last too
  record SiteRun (packet : Arrival) (m : MapState) (h : StageValues) : Type 0 where
    v : ℕ → ℕ
    run : IsCellRun (packet_of packet) m b.program v
    same : SameSites v (stage_value h) b.program.sites

  site_run : (c : Arrival) (t : TableState) (k : ℕ) (x : Packet) → b.plan.commit ≤ k → HoldsRun b t (packet_of c) (suc k) x → SiteRun c (maps_of t) x.held
  site_run c t k x far r = record {
    v = w;
    run = same_run keep b maps.decls fit.rows.reads fit.sited (packet_of c) (maps_of t) r.v w (λ i l. sym (within i l)) r.run;
    same = λ j l. each (taken_by (site_at b.program.sites j)) (fit.rows.site_rows j l);
  }
    where
      w : ℕ → ℕ
      w i = if nat_lt i (length b.program.cells) then r.v i else stage_value x.held i

      within : (i : ℕ) → i < length b.program.cells → (if nat_lt i (length b.program.cells) then r.v i else stage_value x.held i) ≡ r.v i
      within i l = by (nat_lt i (length b.program.cells)) refl
        where
          by : (c : Bool) → nat_lt i (length b.program.cells) ≡ c → (if c then r.v i else stage_value x.held i) ≡ r.v i
          by true e = refl
          by false e = let m : length b.program.cells ≤ i = grind (arith, nat_tests) in absurd (omega (arith, l, m))

      one : (i : ℕ) → b.plan.row i ≤ b.plan.commit → (if nat_lt i (length b.program.cells) then r.v i else stage_value x.held i) ≡ stage_value x.held i
      one i low = by (nat_lt i (length b.program.cells)) refl
        where
          by : (c : Bool) → nat_lt i (length b.program.cells) ≡ c → (if c then r.v i else stage_value x.held i) ≡ stage_value x.held i
          by true e = let l : i < length b.program.cells = grind (arith, nat_tests) in sym (r.holds i l (omega (arith, low, far)))
          by false e = refl

      each : (cs : List ℕ) → AllByRecursion (λ i. b.plan.row i ≤ b.plan.commit) cs → AllByRecursion (λ i. (if nat_lt i (length b.program.cells) then r.v i else stage_value x.held i) ≡ stage_value x.held i) cs
      each [] a = tt
      each (i ∷ cs) a = (one i a.0, each cs a.1)

  abbrev Holding : (ℕ → TableState) → ℕ → Arrival → Packet → Type 0
  Holding views k c x = b.plan.commit ≤ k → HoldsRun b (views k) (packet_of c) (suc k) x

  past_leads : (base : MapState) (views : ℕ → TableState) (fs : List Arrival) (k : ℕ) (xs : List (Option Packet)) → b.plan.commit < k → AreChained b.program base views k xs → Placed (Holding views) fs k xs → inside xs ≤ length fs →
      Leads b.program base (take (inside xs) fs) (past_touched b.program base xs) (passed_maps b.program base xs)
  past_leads base views fs k [] far chained holds few = refl
  past_leads base views fs k (None ∷ xs) far chained holds few = past_leads base views fs (suc k) xs (omega (arith, far)) chained holds few
  past_leads base views fs k (Some x ∷ xs) far chained holds few =
      let p = b.program in
      let c = get_or fs (inside xs) no_frame in
      let r = site_run c (views k) k x (omega (arith, far)) (holds.0 (omega (arith, far))) in
      let m = passed_maps p base xs in
      let run : IsCellRun (packet_of c) m p r.v = subst (λ z. IsCellRun (packet_of c) z p r.v) chained.0 r.run in
      let more = past_leads base views fs (suc k) xs (omega (arith, far)) chained.1 holds.1 (omega (arith, few)) in
      subst (λ cs. Leads p base cs (past_touched p base (Some x ∷ xs)) (passed_maps p base (Some x ∷ xs))) (sym (take-suc fs (inside xs) no_frame (omega (arith, few))))
      (leads_one p base m (passed_maps p base (Some x ∷ xs)) (take (inside xs) fs) (past_touched p base xs) c (touched (stage_value x.held) m p.sites) r.v more run (touched_same r.v (stage_value x.held) m p.sites r.same) (sym (after_same r.v (stage_value x.held) m p.sites r.same)))

same_take : (v w : ℕ → ℕ) (n : ℕ) (ss : List SiteView) → SameSites v w ss → SameSites v w (take n ss)
same_take v w zero ss same j l = absurd (omega (arith, l))
same_take v w (suc n) [] same j l = absurd (omega (arith, l))
same_take v w (suc n) (s ∷ ss) same zero l = same 0 (omega arith)
same_take v w (suc n) (s ∷ ss) same (suc j) l = same_take v w n ss (λ i h. same (suc i) (omega (arith, h))) j (omega (arith, l))

module _ (seen : SeesEarlier) (maps_action : MapsInTurn) (hold : CommittersHoldRuns) (complete : RunsComplete) (too : InTurnToo) (keep : ValuesKeep) (b : Build) (maps : MapState) (fit : IsPipelinable maps.decls b) (sound : IsSound maps) (w : SeenChanges) (o : IsInOrder b w.trace) (h : IsSequential b maps w) (later : List Arrival)
    (apart : (ts : List Touched) → AllRun b.program maps (w.trace.came ++ later) ts → ConflictFree (b.plan.last + 3) ts) where
  abbrev p : ProgramView
  p = b.program

  abbrev s : State
  s = w.trace.state

  abbrev view : TableState
  view = w.views b.plan.commit

  abbrev base : MapState
  base = left_maps b.program maps w.trace.left

  abbrev passed : List (Option Packet)
  passed = drop (suc b.plan.commit) w.trace.state.places

  abbrev L : ℕ
  L = length w.trace.left

  abbrev c : ℕ
  c = inside (drop (suc b.plan.commit) w.trace.state.places)

  abbrev gone : List Touched
  gone = left_touched b.program maps w.trace.left

  abbrev past : List Touched
  past = past_touched b.program base passed

  abbrev before : List Arrival
  before = take L w.trace.came ++ take c s.frames

  few : c ≤ length s.frames
  few = omega (arith, o.packets, fewer s.places 0 (suc b.plan.commit) (omega arith))

  rest_past : drop (suc b.plan.commit) (rest_of b w.trace.state) ≡ passed
  rest_past = drop_flushed b 0 (suc b.plan.commit) s.places (omega arith)

  holds_rest : Placed (Holding keep b maps fit w.views) w.trace.state.frames 0 (rest_of b w.trace.state)
  holds_rest = hold b maps fit w h

  lead_first : Leads b.program maps before (gone ++ past) (maps_of view)
  lead_first =
      let e : 0 + suc b.plan.commit ≡ suc b.plan.commit = omega arith in
      let placed = subst (λ xs. Placed (Holding keep b maps fit w.views) s.frames (suc b.plan.commit) xs) rest_past (subst (λ n. Placed (Holding keep b maps fit w.views) s.frames n (drop (suc b.plan.commit) (rest_of b s))) e (placed_drop (Holding keep b maps fit w.views) s.frames 0 (suc b.plan.commit) (rest_of b s) holds_rest)) in
      leads_on p maps base (maps_of view) (take L w.trace.came) (take c s.frames) gone past (left_leads p maps w.trace.left w.trace.came h.runs)
      (subst (Leads p base (take c s.frames) past) (sym h.now) (past_leads keep b maps fit base w.views s.frames (suc b.plan.commit) passed (omega arith) h.chained placed few))

  record Mid (f : Arrival) : Type 0 where
    u : ℕ → ℕ
    run : IsCellRun (packet_of f) (maps_of view) b.program u
    through : ℕ
    is : maps_of s.tables ≡ after u (maps_of view) (take through b.program.sites)
    grows : (i : ℕ) (r : Resource) (tail : List Touched) → Contains (written_by (now_touched b.program (maps_of view) (place_at s.places b.plan.commit) s.done) i) r → Contains (written_by (touched u (maps_of view) b.program.sites ∷ tail) i) r

  mid_none : (f : Arrival) → s.done ≡ 0 → Mid f
  mid_none f none =
      let q = complete maps.decls p fit.rows.reads.planned.formed fit.sited (packet_of f) (maps_of view) (λ k. 0) (λ k l read. pow_pos (cell_at p.cells k).width) in
      record { u = q.0; run = q.1.run; through = 0; is = ap maps_of (sym (h.right.agreed.begun none)); grows = λ i r tail has. absurd (nothing_there (place_at s.places b.plan.commit) s.done none i r has) }
    where
      nothing_there : (x : Option Packet) (done : ℕ) → done ≡ 0 → (i : ℕ) (r : Resource) → Contains (written_by (now_touched b.program (maps_of view) x done) i) r → ⊥
      nothing_there None done e i r has = none_there r has
      nothing_there (Some y) zero e zero r has = none_there r has
      nothing_there (Some y) (suc d) e zero r has = absurd (omega (arith, e))
      nothing_there (Some y) done e (suc i) r has = none_there r has

  mid_some : 0 < s.done → Mid (get_or s.frames c no_frame)
  mid_some l =
      let far = fit.rows.commit in
      let um = h.right.at.amid l in
      let y = um.packet in
      let stays : place_at (rest_of b s) b.plan.commit ≡ Some y = keeps_place b s.places (omega (arith, far, o.places)) um ∙ um.here in
      let e : 0 + b.plan.commit ≡ b.plan.commit = omega arith in
      let q : Holding keep b maps fit w.views b.plan.commit (get_or s.frames c no_frame) y =
      subst (λ n. Holding keep b maps fit w.views n (get_or s.frames c no_frame) y) e
      (subst (λ xs. Holding keep b maps fit w.views (0 + b.plan.commit) (get_or s.frames (inside xs) no_frame) y) rest_past (placed_there (Holding keep b maps fit w.views) s.frames 0 b.plan.commit (rest_of b s) y holds_rest stays)) in
      let r = site_run keep b maps fit (get_or s.frames c no_frame) view b.plan.commit y (omega arith) (q (omega arith)) in
      let rp = h.right.at.replays y um.here in
      let reads = reads_there seen b maps.decls fit w h.right.at.view_decls h.right.agreed y stays in
      let fits = subst (λ ds. AllFit ds p.sites) (sym h.right.at.view_decls) fit.fits in
      record {
        u = r.v;
        run = r.run;
        through = s.done;
        is = ap (λ (z : Replayed). maps_of z.tables) rp.state ∙ maps_action p view rp.first y.held h.right.at.view_tables fits rp.long reads s.done rp.through
            ∙ sym (after_same r.v (stage_value y.held) (maps_of view) (take s.done p.sites) (same_take r.v (stage_value y.held) s.done p.sites r.same));
        grows = λ i z tail has. more y r.v r.same i z tail (subst (λ (x : Option Packet). Contains (written_by (now_touched p (maps_of view) x s.done) i) z) um.here has);
      }
    where
      more : (y : Packet) (u : ℕ → ℕ) → SameSites u (stage_value y.held) b.program.sites → (i : ℕ) (z : Resource) (tail : List Touched) → Contains (written_by (touched (stage_value y.held) (maps_of view) (take s.done b.program.sites) ∷ []) i) z → Contains (written_by (touched u (maps_of view) b.program.sites ∷ tail) i) z
      more y u same zero z tail has = subst (λ (t : Touched). Contains t.writes z) (sym (touched_same u (stage_value y.held) (maps_of view) p.sites same)) (take_whole (stage_value y.held) s.done p.sites (maps_of view) z has)
      more y u same (suc i) z tail has = absurd (none_there z has)

  module _ (k : ℕ) (x : Packet) (at : place_at w.trace.state.places k ≡ Some x) (waits : Waits b w.trace.state.done k) where
    abbrev m : ℕ
    m = inside (drop (suc k) w.trace.state.places)

    abbrev y : Arrival
    y = get_or s.frames m no_frame

    abbrev rest : List Arrival
    rest = drop (suc m) s.frames ++ later

    abbrev front : List Arrival
    front = take (m - c) (drop c s.frames)

    up_to : k ≤ b.plan.commit
    up_to = elim waits [
      | inl l ↦ omega (arith, l)
      | inr e ↦ let f = e.0 in omega (arith, f)
    ]

    least : c ≤ m
    least = fewer s.places (suc k) (suc b.plan.commit) (omega (arith, up_to))

    there_is : m < length s.frames
    there_is =
        let f = ap inside (front_place s.places k (there s.places k x at) ∙ ap (λ (z : Option Packet). z ∷ drop (suc k) s.places) at) in
        omega (arith, f, fewer s.places 0 k (omega arith), o.packets)

    most : m ≤ b.plan.last + c
    most =
        let n : ℕ = b.plan.commit - k in
        let far = fit.rows.commit in
        let sum : suc k + n ≡ suc b.plan.commit = omega (arith, up_to) in
        let same = ap (λ z. inside (drop z s.places)) sum in
        omega (arith, between s.places (suc k) n, same, far)

    front_long : length front ≡ m - c
    front_long = length-take-le (m - c) (drop c s.frames) (omega (arith, there_is, length-drop c s.frames))

    split : w.trace.came ++ later ≡ before ++ (front ++ (y ∷ rest))
    split =
        let fs = s.frames in
        let sum : c + (m - c) ≡ m = omega (arith, least) in
        let tail : drop (m - c) (drop c fs) ≡ y ∷ drop (suc m) fs = drop-drop (m - c) c fs ∙ ap (λ n. drop n fs) sum ∙ drop-cons fs m no_frame there_is in
        let whole : fs ≡ take c fs ++ (front ++ (y ∷ drop (suc m) fs)) = sym (take-append-drop c fs) ∙ ap (λ zs. take c fs ++ zs) (sym (take-append-drop (m - c) (drop c fs)) ∙ ap (λ zs. front ++ zs) tail) in
        let all : w.trace.came ≡ take L w.trace.came ++ fs = sym (take-append-drop L w.trace.came) ∙ ap (λ zs. take L w.trace.came ++ zs) (sym o.frames) in
        ap (λ zs. zs ++ later) (all ∙ ap (λ zs. take L w.trace.came ++ zs) whole)
        ∙ append_assoc (take L w.trace.came) (take c fs ++ (front ++ (y ∷ drop (suc m) fs))) later
        ∙ ap (λ zs. take L w.trace.came ++ zs) (append_assoc (take c fs) (front ++ (y ∷ drop (suc m) fs)) later ∙ ap (λ zs. take c fs ++ zs) (append_assoc front (y ∷ drop (suc m) fs) later))
        ∙ sym (append_assoc (take L w.trace.came) (take c fs) (front ++ (y ∷ rest)))

    apart_here : (ts : List Touched) → AllRun b.program maps (before ++ (front ++ (y ∷ rest))) ts → ConflictFree (b.plan.last + 3) ts
    apart_here ts run = apart ts (subst (λ cs. AllRun p maps cs ts) (sym split) run)

    -- where an operation is through another packet is before this one
    another : 0 < s.done → c + 1 ≤ m
    another l =
        let far = fit.rows.commit in
        let um = h.right.at.amid l in
        let f = ap inside (front_place s.places b.plan.commit (omega (arith, far, o.places)) ∙ ap (λ (z : Option Packet). z ∷ passed) um.here) in
        let early : k < b.plan.commit = before_it waits l in
        omega (arith, f, fewer s.places (suc k) b.plan.commit (omega (arith, early)))
      where
        before_it : Waits b w.trace.state.done k → 0 < w.trace.state.done → k < b.plan.commit
        before_it (inl e) l = e
        before_it (inr e) l = let f = e.1 in absurd (omega (arith, f, l))

    abbrev now : List Touched
    now = so_far b maps w.trace.left w.views s.places s.done

    first_long : length (gone ++ past) ≡ L + c
    first_long = omega (arith, length-append gone past, left_length p maps w.trace.left, past_length p base passed)

    module _ (v : ℕ → ℕ) (run : IsCellRun (packet_of y) (maps_of s.tables) b.program v) (r : Resource) (has : Contains (touched v (maps_of s.tables) b.program.sites).reads r) (wrote : Wrote b now (L + m) r) where
      -- by a list of runs in which this packet stands at its number
      clash : (ts us : List Touched) (t : Touched) (cs : List Arrival) → AllRun b.program maps (before ++ (front ++ (y ∷ rest))) (ts ++ (t ∷ us)) → length ts ≡ L + m → t ≡ touched v (maps_of s.tables) b.program.sites →
          ((i : ℕ) → Contains (written_by now i) r → Contains (written_by (ts ++ (t ∷ us)) i) r) → ⊥
      clash ts us t cs runs long is grown =
          let a = apart_here (ts ++ (t ∷ us)) runs in
          let l = wrote.1 in
          let near = wrote.2 in
          apart_at (b.plan.last + 3) (ts ++ (t ∷ us)) a wrote.0 (L + m) (omega (arith, l)) (omega (arith, near)) r
          (subst (λ (z : Touched). Contains z.reads r) (sym (at_number ts t us (L + m) long ∙ is)) has) (grown wrote.0 wrote.3)

      first_in : (f : List Arrival) → front ≡ f → ⊥
      first_in [] e =
          let z : m ≡ c = let q = ap length e in omega (arith, q, front_long, least) in
          let none : s.done ≡ 0 = elim (cases_lt 0 s.done) [
            | inl l ↦ absurd (let q = another l in omega (arith, q, z))
            | inr l ↦ omega (arith, l)
          ] in
          let same : maps_of view ≡ maps_of s.tables = ap maps_of (h.right.agreed.begun none) in
          let t = touched v (maps_of view) p.sites in
          let led = led_by complete maps.decls p fit.rows.reads.planned.formed fit.sited (after v (maps_of view) p.sites) rest in
          let tail : AllRun p (maps_of view) (y ∷ rest) (t ∷ led.ts) = (v, subst (λ mp. IsCellRun (packet_of y) mp p v) (sym same) run, refl, runs_after complete maps.decls p fit.rows.reads.planned.formed fit.sited (after v (maps_of view) p.sites) led.last rest led.ts led.leads) in
          let runs = leads_then p maps (maps_of view) before (y ∷ rest) (gone ++ past) (t ∷ led.ts) lead_first tail in
          clash (gone ++ past) led.ts t rest (subst (λ fr. AllRun p maps (before ++ (fr ++ (y ∷ rest))) ((gone ++ past) ++ (t ∷ led.ts))) (sym e) runs) (omega (arith, first_long, z)) (ap (λ mp. touched v mp p.sites) same)
          (λ i has'. subst (λ ts. Contains (written_by ts i) r) (sym (append_assoc gone past (t ∷ led.ts))) (grows_front gone _ _ (grows_front past _ _ (λ n q has''. absurd (nobody none n q has''))) i r has'))
        where
          nobody : s.done ≡ 0 → (n : ℕ) (q : Resource) → Contains (written_by (now_touched b.program (maps_of view) (place_at s.places b.plan.commit) s.done) n) q → ⊥
          nobody none n q has' = none_of (place_at s.places b.plan.commit) s.done none n q has'
            where
              none_of : (z : Option Packet) (done : ℕ) → done ≡ 0 → (n : ℕ) (q : Resource) → Contains (written_by (now_touched b.program (maps_of view) z done) n) q → ⊥
              none_of None done e n q has = none_there q has
              none_of (Some a) zero e zero q has = none_there q has
              none_of (Some a) (suc d) e zero q has = absurd (omega (arith, e))
              none_of (Some a) done e (suc n) q has = none_there q has
      first_in (f ∷ btw) e =
          let mid : Mid f = mid_of f btw e in
          let u = mid.u in
          let t0 = touched u (maps_of view) p.sites in
          let count : suc (length btw) ≡ m - c = sym (ap length e) ∙ front_long in
          let apart' : (ts : List Touched) → AllRun p maps (before ++ ((f ∷ btw) ++ (y ∷ rest))) ts → ConflictFree (b.plan.last + 3) ts = λ ts runs. apart_here ts (subst (λ fr. AllRun p maps (before ++ (fr ++ (y ∷ rest))) ts) (sym e) runs) in
          let q : RunsInTurnToo p (packet_of y) (after u (maps_of view) (take mid.through p.sites)) (after u (maps_of view) p.sites) btw v =
          too b maps fit.rows.reads fit.fits fit.sited sound (b.plan.last + 3) before f btw y rest apart' (omega (arith, count, most)) (gone ++ past) (maps_of view) lead_first u mid.run mid.through v (subst (λ mp. IsCellRun (packet_of y) mp p v) mid.is run) in
          let t = touched v q.action p.sites in
          let led = led_by complete maps.decls p fit.rows.reads.planned.formed fit.sited (after v q.action p.sites) rest in
          let tail : AllRun p q.action (y ∷ rest) (t ∷ led.ts) = (v, q.run, refl, runs_after complete maps.decls p fit.rows.reads.planned.formed fit.sited (after v q.action p.sites) led.last rest led.ts led.leads) in
          let mids : AllRun p (after u (maps_of view) p.sites) (btw ++ (y ∷ rest)) (q.ts ++ (t ∷ led.ts)) = leads_then p (after u (maps_of view) p.sites) q.action btw (y ∷ rest) q.ts (t ∷ led.ts) q.leads tail in
          let runs = leads_then p maps (maps_of view) before (f ∷ (btw ++ (y ∷ rest))) (gone ++ past) (t0 ∷ (q.ts ++ (t ∷ led.ts))) lead_first (u, mid.run, refl, mids) in
          let joined : (gone ++ past) ++ (t0 ∷ (q.ts ++ (t ∷ led.ts))) ≡ ((gone ++ past) ++ (t0 ∷ q.ts)) ++ (t ∷ led.ts) = sym (append_assoc (gone ++ past) (t0 ∷ q.ts) (t ∷ led.ts)) in
          let long_ts = leads_long p (after u (maps_of view) p.sites) q.action btw q.ts q.leads in
          clash ((gone ++ past) ++ (t0 ∷ q.ts)) led.ts t rest (subst (λ fr. AllRun p maps (before ++ (fr ++ (y ∷ rest))) (((gone ++ past) ++ (t0 ∷ q.ts)) ++ (t ∷ led.ts))) (sym e) (subst (AllRun p maps (before ++ ((f ∷ btw) ++ (y ∷ rest)))) joined runs))
          (omega (arith, length-append (gone ++ past) (t0 ∷ q.ts), first_long, long_ts, count, least)) (sym q.touches ∙ ap (λ mp. touched v mp p.sites) (sym mid.is))
          (λ i has'. subst (λ ts. Contains (written_by ts i) r) joined (subst (λ ts. Contains (written_by ts i) r) (sym (append_assoc gone past (t0 ∷ (q.ts ++ (t ∷ led.ts))))) (grows_front gone _ _ (grows_front past _ _ (λ n z has''. mid.grows n z (q.ts ++ (t ∷ led.ts)) has'')) i r has')))
        where
          mid_of : (f : Arrival) (btw : List Arrival) → front ≡ f ∷ btw → Mid f
          mid_of f btw e = elim (cases_lt 0 s.done) [
            | inl l ↦ subst Mid (first_is e) (mid_some l)
            | inr l ↦ mid_none f (omega (arith, l))
          ]
            where
              first_is : front ≡ f ∷ btw → get_or s.frames c no_frame ≡ f
              first_is e = let q = least in let t = there_is in head_is (m - c) (get_or s.frames c no_frame) (drop (suc c) s.frames) (sym (ap (take (m - c)) (drop-cons s.frames c no_frame (omega (arith, q, t)))) ∙ e)
                where
                  head_is : (n : ℕ) (a : Arrival) (more : List Arrival) → take n (a ∷ more) ≡ f ∷ btw → a ≡ f
                  head_is zero a more e = cc
                  head_is (suc n) a more e = cc

pub reads_nothing_written : SeesEarlier → MapsInTurn → CommittersHoldRuns → RunsComplete → InTurnToo → ValuesKeep → ReadsNothingWritten
reads_nothing_written seen maps_action hold complete too keep b maps fit sound w o h later apart k x at waits v run r has wrote =
    first_in seen maps_action hold complete too keep b maps fit sound w o h later apart k x at waits v run r has wrote (take (inside (drop (suc k) w.trace.state.places) - inside (drop (suc b.plan.commit) w.trace.state.places)) (drop (inside (drop (suc b.plan.commit) w.trace.state.places)) w.trace.state.frames)) refl
