-- Of the changes that packets have seen: whose operations made them, and that these wrote what they changed.
use Rattle.std.proofs.Common.{◌≡◌, ◌≢◌, ℕ, zero, suc, ◌+◌, ◌-◌, ◌<◌, ◌≤◌, ◌⊎◌, inl, inr, Bool, true, false, List, [], ◌∷◌, ◌++◌, Option, Some, None, length, get_or, take, drop, refl, sym, ap, ◌∙◌, subst, arith, append_assoc, length-append, map as map_list}
use Rattle.std.specs.Prelude.{if◌then◌else◌, nat_lt, ◌==◌, is_some, Contains, slice_set, replicate}
use Rattle.std.specs.List.{AllByRecursion}
use Rattle.std.specs.Option.{option_map}
use Rattle.std.proofs.lemmas.Bool.{cases_lt, and_parts, lt-ltb}
use Rattle.std.proofs.lemmas.Bool.Decides.{Decides-eqb}
use Rattle.std.proofs.lemmas.List.{append-nil, length-set, get_or_past, get_or-set_same, get_or-set_other}
use Rattle.std.proofs.lemmas.List.Elements.{Contains-append_left, Contains-append_right, Contains-append_cases}
use Rattle.realization.proofs.list_laws_laws.ListLaws.{all_split}
use Rattle.realization.specs.beat_core.Ports.{Arrival}
use Rattle.hazard_core.specs.xdp_maps.State.{MapState, decl_at}
use Rattle.hazard_core.specs.xdp_maps.Touched.{Resource, Present, Content, Size, writes as resources_written}
use Rattle.hazard_core.specs.xdp_machine.Touched.{Touched, nothing, both, touched_by}
use Rattle.hazard_core.specs.cell_core.Cells.{bit, on}
use Rattle.hazard_core.specs.cell_core.Formed.{AllFit}
use Rattle.hazard_core.specs.cell_core.Sites.{SiteView, ProgramView, site_at, operation_with, operation_on, applied, after, touched}
use Rattle.hazard_core.specs.declared.slot.Slot.{Slot}
use Rattle.hazard_core.specs.declared.change.Change.{Change}
use Rattle.hazard_core.specs.Tables.{TableState, table_at, slot_at, no_slot, has_key, maps_of}
use Rattle.hazard_core.specs.StageValues.{StageValues, stage_value, guard_on, asked, asked_key, answer_cell, writes_as, writes}
use Rattle.hazard_core.specs.Keeping.{SameCell}
use Rattle.hazard_core.specs.Rows.{with_row}
use Rattle.hazard_core.specs.Commits.{with_slot, written_slot, slot_as, makes_entry, committed, change_by}
use Rattle.hazard_core.specs.Replay.{Replayed, CommitsInTurn, SeesEarlier}
use Rattle.pipe_core.specs.Machine.{Packet, State, Build, Action, Commits, Writes, Moves, no_frame, packet_of, place_at, inside, entered, marked_by, marked_below, some_send, moved, newcomer, action_of, worked, work, clock}
use Rattle.pipe_core.specs.History.{left_as, next}
use Rattle.pipe_core.specs.Pipeable.{IsPipeable, IsPipelinable}
use Rattle.pipe_core.specs.SequentialOrder.{left_maps, passed_maps, IsSequential}
use Rattle.pipe_core.specs.SeenChanges.{SeenChanges, held_in, sees, seen_on, seen_after, views_below, views_on, views_after, rest_of, observed}
use Rattle.pipe_core.specs.ChangeCauses.{left_touched, past_touched, now_touched, so_far, written_by, Wrote, ChangeCauses, Waits, HaveChangeCausesIn, KeepsChangeCauses, BeginsChangeCauses}
use Rattle.pipe_core.specs.Meeting.{site_writes, IsWritten, ChangesAreWritten}
use Rattle.pipe_core.proofs.Order.{last_or, marked_by_inside, moved_inside, moved_length, beats_keep}
use Rattle.pipe_core.proofs.Agreeing.{keeps_other}
use Rattle.pipe_core.proofs.Acting.{ActionIs, IsChosen, action_is}
use Rattle.pipe_core.proofs.Righting.{not_marked_by, reads_there, acted, kept_view}
use Rattle.pipe_core.proofs.Passing.{map_same, SameSites, applied_same, entered_sites, exit_maps, passed_moved, drop_moved, drop_marked_by}
use Rattle.pipe_core.proofs.Sequencing.{last_dropped, left_append}
use Rattle.pipe_core.proofs.FlushLaws.{flushed_none}
use Rattle.pipe_core.proofs.ClockLaws.{clock_aside}

-- ---- what was touched so far

abbrev pub Grows : List Touched → List Touched → Type 0
Grows ts us = (i : ℕ) (r : Resource) → Contains (written_by ts i) r → Contains (written_by us i) r

pub none_there : (r : Resource) → Contains [] r → ⊥
none_there r has = let l = has.1 in absurd (omega (arith, l))

pub grows_front : (xs us vs : List Touched) → Grows us vs → Grows (xs ++ us) (xs ++ vs)
grows_front [] us vs g i r has = g i r has
grows_front (x ∷ xs) us vs g zero r has = has
grows_front (x ∷ xs) us vs g (suc i) r has = grows_front xs us vs g i r has

pub left_length : (p : ProgramView) (maps : MapState) (hs : List StageValues) → length (left_touched p maps hs) ≡ length hs
left_length p maps [] = refl
left_length p maps (h ∷ hs) = ap suc (left_length p (after (stage_value h) maps p.sites) hs)

pub past_length : (p : ProgramView) (maps : MapState) (xs : List (Option Packet)) → length (past_touched p maps xs) ≡ inside xs
past_length p maps [] = refl
past_length p maps (None ∷ xs) = past_length p maps xs
past_length p maps (Some x ∷ xs) = omega (arith, length-append (past_touched p maps xs) (touched (stage_value x.held) (passed_maps p maps xs) p.sites ∷ []), past_length p maps xs)

at_front : (xs : List Touched) (t : Touched) (ys : List Touched) (n : ℕ) → length xs ≡ n → get_or (xs ++ (t ∷ ys)) n nothing ≡ t
at_front [] t ys zero e = refl
at_front [] t ys (suc n) e = absurd (omega (arith, e))
at_front (x ∷ xs) t ys zero e = absurd (omega (arith, e))
at_front (x ∷ xs) t ys (suc n) e = at_front xs t ys n (omega (arith, e))

left_touched_append : (p : ProgramView) (maps : MapState) (hs gs : List StageValues) → left_touched p maps (hs ++ gs) ≡ left_touched p maps hs ++ left_touched p (left_maps p maps hs) gs
left_touched_append p maps [] gs = refl
left_touched_append p maps (h ∷ hs) gs = ap (λ ts. touched (stage_value h) maps p.sites ∷ ts) (left_touched_append p (after (stage_value h) maps p.sites) hs gs)

-- ---- parts of a packet's operations

module _ (v : ℕ → ℕ) where
  abbrev here : MapState → SiteView → Touched
  here m s = if on (v s.guard) then touched_by m (Some (s.map, operation_on v m s)) else nothing

  pub take_whole : (d : ℕ) (ss : List SiteView) (m : MapState) (r : Resource) → Contains (touched v m (take d ss)).writes r → Contains (touched v m ss).writes r
  take_whole zero ss m r has = absurd (none_there r has)
  take_whole (suc d) [] m r has = has
  take_whole (suc d) (s ∷ ss) m r has =
      let one = here m s in
      let more = touched v (applied v m s) ss in
      elim (Contains-append_cases one.writes (touched v (applied v m s) (take d ss)).writes r has) [
        | inl now ↦ Contains-append_left one.writes more.writes r now
        | inr later ↦ Contains-append_right one.writes more.writes r (take_whole d ss (applied v m s) r later)
      ]

  take_more : (d e : ℕ) → d ≤ e → (ss : List SiteView) (m : MapState) (r : Resource) → Contains (touched v m (take d ss)).writes r → Contains (touched v m (take e ss)).writes r
  take_more zero e l ss m r has = absurd (none_there r has)
  take_more (suc d) zero l ss m r has = absurd (omega (arith, l))
  take_more (suc d) (suc e) l [] m r has = has
  take_more (suc d) (suc e) l (s ∷ ss) m r has =
      let one = here m s in
      let more = touched v (applied v m s) (take e ss) in
      elim (Contains-append_cases one.writes (touched v (applied v m s) (take d ss)).writes r has) [
        | inl now ↦ Contains-append_left one.writes more.writes r now
        | inr later ↦ Contains-append_right one.writes more.writes r (take_more d e (omega (arith, l)) ss (applied v m s) r later)
      ]

  own_in : (j : ℕ) (ss : List SiteView) (m : MapState) (r : Resource) → j < length ss → on (v (site_at ss j).guard) ≡ true →
      (let n = after v m (take j ss) in Contains (resources_written n (site_at ss j).map (operation_on v n (site_at ss j))) r) → Contains (touched v m (take (suc j) ss)).writes r
  own_in j [] m r l guard has = absurd (omega (arith, l))
  own_in zero (s ∷ ss) m r l guard has =
      Contains-append_left (here m s).writes [] r (subst (λ (c : Bool). Contains (if c then touched_by m (Some (s.map, operation_on v m s)) else nothing).writes r) (sym guard) has)
  own_in (suc j) (s ∷ ss) m r l guard has = Contains-append_right (here m s).writes (touched v (applied v m s) (take (suc j) ss)).writes r (own_in j ss (applied v m s) r (omega (arith, l)) guard has)

pub touched_same : (v w : ℕ → ℕ) (maps : MapState) (ss : List SiteView) → SameSites v w ss → touched v maps ss ≡ touched w maps ss
touched_same v w maps [] same = refl
touched_same v w maps (s ∷ ss) same =
    let a = same 0 (omega arith) in
    let q = all_split (λ c. v c ≡ w c) s.key s.operands a.1 in
    let ops : operation_on v maps s ≡ operation_on w maps s =
    ap (λ (k : List ℕ). operation_with (decl_at maps s.map) s.act k (map_list v s.operands)) (map_same v w s.key q.0) ∙ ap (λ (o : List ℕ). operation_with (decl_at maps s.map) s.act (map_list w s.key) o) (map_same v w s.operands q.1) in
    ap (λ g. both (if on g then touched_by maps (Some (s.map, operation_on v maps s)) else nothing) (touched v (applied v maps s) ss)) a.0
    ∙ ap (λ op. both (if on (w s.guard) then touched_by maps (Some (s.map, op)) else nothing) (touched v (applied v maps s) ss)) ops
    ∙ ap (λ m. both (if on (w s.guard) then touched_by maps (Some (s.map, operation_on w maps s)) else nothing) (touched v m ss)) (applied_same v w maps s a)
    ∙ ap (both (if on (w s.guard) then touched_by maps (Some (s.map, operation_on w maps s)) else nothing)) (touched_same v w (applied w maps s) ss (λ j l. same (suc j) (omega (arith, l))))

-- ---- moving on

past_moved : (b : Build) → IsPipeable b → (t : TableState) (fs : List Arrival) (maps : MapState) (k : ℕ) (x : Option Packet) (ys : List (Option Packet)) → b.plan.commit < k →
    left_touched b.program maps (left_as Moves (last_or x ys)) ++ past_touched b.program (exit_maps b.program maps (last_or x ys)) (moved b t fs k x ys) ≡ past_touched b.program maps (x ∷ ys)
past_moved b fit t fs maps k None [] past = refl
past_moved b fit t fs maps k (Some x) [] past = refl
past_moved b fit t fs maps k None (y ∷ ys) past = past_moved b fit t fs maps (suc k) y ys (omega (arith, past))
past_moved b fit t fs maps k (Some x) (y ∷ ys) past =
    let p = b.program in
    let c = get_or fs (inside (y ∷ ys)) no_frame in
    let out = left_touched p maps (left_as Moves (last_or y ys)) in
    let base = exit_maps p maps (last_or y ys) in
    let more = moved b t fs (suc k) y ys in
    let x' = entered b t k c x in
    ap (λ (m : Touched). out ++ (past_touched p base more ++ (m ∷ []))) (sym (touched_same (stage_value x.held) (stage_value x'.held) (passed_maps p base more) p.sites (entered_sites b fit t k c x past)))
    ∙ ap (λ (m : MapState). out ++ (past_touched p base more ++ (touched (stage_value x.held) m p.sites ∷ []))) (passed_moved b fit t fs maps (suc k) y ys (omega (arith, past)))
    ∙ sym (append_assoc out (past_touched p base more) (touched (stage_value x.held) (passed_maps p maps (y ∷ ys)) p.sites ∷ []))
    ∙ ap (λ ts. ts ++ (touched (stage_value x.held) (passed_maps p maps (y ∷ ys)) p.sites ∷ [])) (past_moved b fit t fs maps (suc k) y ys (omega (arith, past)))

-- ---- who wrote a resource, shortly before the packet with a number

wrote_grows : (b : Build) (ts us : List Touched) (num : ℕ) (r : Resource) → Grows ts us → Wrote b ts num r → Wrote b us num r
wrote_grows b ts us num r g (i, l, m, has) = (i, l, m, g i r has)

pub all_map : {A : Type 0} (P Q : A → Type 0) → ((a : A) → P a → Q a) → (xs : List A) → AllByRecursion P xs → AllByRecursion Q xs
all_map P Q f [] h = tt
all_map P Q f (x ∷ xs) h = (f x h.0, all_map P Q f xs h.1)

-- ---- places

marked_by_at : (to : ℕ) (b : Build) (t : TableState) (e : Change) (k : ℕ) (xs : List (Option Packet)) (n : ℕ) (x' : Packet) → place_at (marked_below to b t e k xs) n ≡ Some x' → (x : Packet) × (place_at xs n ≡ Some x) × (x'.held ≡ x.held)
unfolding marked_by
marked_by_at to b t e k [] n x' at = cc
marked_by_at to b t e k (x ∷ xs) zero x' at = by (nat_lt k to) x at
  where
    by : (c : Bool) (x : Option Packet) → (if c then option_map (marked_by b t k e) x else x) ≡ Some x' → (y : Packet) × (x ≡ Some y) × (x'.held ≡ y.held)
    by true None at = cc
    by true (Some y) at = (y, refl, held (marked_by b t k e y) at refl)
      where
        held : (z : Packet) → Some z ≡ Some x' → z.held ≡ y.held → x'.held ≡ y.held
        held z at same = let is : x' ≡ z = cc in ap (λ (q : Packet). q.held) is ∙ same
    by false None at = cc
    by false (Some y) at = (y, refl, let is : x' ≡ y = cc in ap (λ (q : Packet). q.held) is)
marked_by_at to b t e k (x ∷ xs) (suc n) x' at = marked_by_at to b t e (suc k) xs n x' at

marked_by_drop : (to : ℕ) (b : Build) (t : TableState) (e : Change) (k n : ℕ) (xs : List (Option Packet)) → inside (drop n (marked_below to b t e k xs)) ≡ inside (drop n xs)
marked_by_drop to b t e k zero xs = marked_by_inside to b t e k xs
marked_by_drop to b t e k (suc n) [] = refl
marked_by_drop to b t e k (suc n) (x ∷ xs) = marked_by_drop to b t e (suc k) n xs

moved_at : (b : Build) (t : TableState) (fs : List Arrival) (k n : ℕ) (x : Option Packet) (ys : List (Option Packet)) (x' : Packet) → place_at (moved b t fs k x ys) n ≡ Some x' →
    (z : Packet) × (c : Arrival) × (place_at (x ∷ ys) n ≡ Some z) × (x' ≡ entered b t (k + n) c z)
moved_at b t fs k n x [] x' at = cc
moved_at b t fs k zero None (y ∷ ys) x' at = cc
moved_at b t fs k zero (Some z) (y ∷ ys) x' at =
    let c = get_or fs (inside (y ∷ ys)) no_frame in
    let is : x' ≡ entered b t k c z = same (entered b t k c z) at in
    let e : k ≡ k + 0 = omega arith in
    (z, c, refl, is ∙ ap (λ n. entered b t n c z) e)
  where
    same : (q : Packet) → Some q ≡ Some x' → x' ≡ q
    same q e = cc
moved_at b t fs k (suc n) x (y ∷ ys) x' at =
    let q = moved_at b t fs (suc k) n y ys x' at in
    let e : suc k + n ≡ k + suc n = omega arith in
    (q.0, q.1, q.2, q.3 ∙ ap (λ m. entered b t m q.1 q.0) e)

pub there : (xs : List (Option Packet)) (n : ℕ) (x : Packet) → place_at xs n ≡ Some x → n < length xs
there [] n x e = cc
there (y ∷ xs) zero x e = omega arith
there (y ∷ xs) (suc n) x e = omega (arith, there xs n x e)

pub front_place : (xs : List (Option Packet)) (n : ℕ) → n < length xs → drop n xs ≡ place_at xs n ∷ drop (suc n) xs
front_place [] n l = absurd (omega (arith, l))
front_place (x ∷ xs) zero l = refl
front_place (x ∷ xs) (suc n) l = front_place xs n (omega (arith, l))

-- how many packets are between two places
pub between : (xs : List (Option Packet)) (n m : ℕ) → inside (drop n xs) ≤ m + inside (drop (n + m) xs)
between xs n zero = let e : n + 0 ≡ n = omega arith in let f = ap (λ k. inside (drop k xs)) e in omega (arith, f)
between xs n (suc m) = let e : n + suc m ≡ suc (n + m) = omega arith in let f = ap (λ k. inside (drop k xs)) e in omega (arith, f, between xs n m, one xs (n + m))
  where
    one : (xs : List (Option Packet)) (n : ℕ) → inside (drop n xs) ≤ 1 + inside (drop (suc n) xs)
    one [] zero = omega arith
    one [] (suc n) = omega arith
    one (None ∷ xs) zero = omega arith
    one (Some x ∷ xs) zero = omega arith
    one (x ∷ xs) (suc n) = one xs n

pub fewer : (xs : List (Option Packet)) (n m : ℕ) → n ≤ m → inside (drop m xs) ≤ inside (drop n xs)
fewer xs zero zero l = omega arith
fewer [] zero (suc m) l = omega arith
fewer (None ∷ xs) zero (suc m) l = fewer xs zero m (omega arith)
fewer (Some x ∷ xs) zero (suc m) l = omega (arith, fewer xs zero m (omega arith))
fewer [] (suc n) zero l = absurd (omega (arith, l))
fewer [] (suc n) (suc m) l = omega arith
fewer (x ∷ xs) (suc n) zero l = absurd (omega (arith, l))
fewer (x ∷ xs) (suc n) (suc m) l = fewer xs n m (omega (arith, l))

entered_other : (b : Build) (t : TableState) (y : Packet) (came : Arrival) (k c : ℕ) → (b.plan.row c ≢ 0 + suc k) ⊎ (length b.program.cells ≤ c) → SameCell y.held (entered b t (0 + suc k) came y).held c
unfolding entered with_row
entered_other b t y came k c why = keeps_other b (0 + suc k) t (packet_of came) 0 b.program.cells y.held (omega arith) c why

-- ---- slots

slot_other : (t : TableState) (q at m n : ℕ) (new : Slot) → (m ≢ q) ⊎ (n ≢ at) → slot_at (table_at (with_slot t q at new) m) n ≡ slot_at (table_at t m) n
slot_other t q at m n new why = by (m == q) refl why
  where
    no_case : false ≡ true → ⊥
    no_case e = cc

    here : n ≢ at → slot_at (table_at (with_slot t q at new) q) n ≡ slot_at (table_at t q) n
    here other = elim (cases_lt q (length t.tables)) [
      | inl inside ↦ ap (λ (xs : List Slot). slot_at xs n) (get_or-set_same t.tables q (slice_set (table_at t q) at new) [] inside) ∙ get_or-set_other (table_at t q) at n new no_slot other
      | inr past ↦ ap (λ (xs : List Slot). slot_at xs n) (get_or_past (slice_set t.tables q (slice_set (table_at t q) at new)) q [] (let l = length-set t.tables q (slice_set (table_at t q) at new) in omega (arith, l, past)) ∙ sym (get_or_past t.tables q [] (omega (arith, past))))
    ]

    by : (c : Bool) → (m == q) ≡ c → (m ≢ q) ⊎ (n ≢ at) → slot_at (table_at (with_slot t q at new) m) n ≡ slot_at (table_at t m) n
    by true e (inl other) = absurd (other ((Decides-eqb m q).0 e))
    by true e (inr other) = subst (λ k. slot_at (table_at (with_slot t q at new) k) n ≡ slot_at (table_at t k) n) (sym ((Decides-eqb m q).0 e)) (here other)
    by false e why = ap (λ (xs : List Slot). slot_at xs n) (get_or-set_other t.tables q m (slice_set (table_at t q) at new) [] (λ same. no_case (sym e ∙ (Decides-eqb m q).1 same)))

committed_other : (p : ProgramView) (t : TableState) (taken : List ℕ) (h : StageValues) (j m n : ℕ) → (m ≢ (site_at p.sites j).map) ⊎ (n ≢ written_slot p t taken h j) → slot_at (table_at (committed p t taken h j) m) n ≡ slot_at (table_at t m) n
unfolding committed
committed_other p t taken h j m n why =
    let s = site_at p.sites j in
    let at = written_slot p t taken h j in
    slot_other t s.map at m n (slot_as s.act (makes_entry p t h j) (asked t.decls h s) (asked_key t.decls h s) (slot_at (table_at t s.map) at)) why

-- ---- a commit

module _ (in_turn : CommitsInTurn) (seen : SeesEarlier) (written : ChangesAreWritten) (b : Build) (maps : MapState) (fit : IsPipelinable maps.decls b) (w : SeenChanges) (h : IsSequential b maps w) (still : rest_of b w.trace.state ≡ w.trace.state.places) (long : length w.trace.state.places ≡ suc b.plan.last) where
  abbrev s : State
  s = w.trace.state

  abbrev p : ProgramView
  p = b.program

  abbrev view : TableState
  view = w.views b.plan.commit

  abbrev base : MapState
  base = left_maps b.program maps w.trace.left

  abbrev now : List Touched
  now = so_far b maps w.trace.left w.views w.trace.state.places w.trace.state.done

  abbrev gone : List Touched
  gone = left_touched b.program maps w.trace.left

  abbrev past : List Touched
  past = past_touched b.program (left_maps b.program maps w.trace.left) (drop (suc b.plan.commit) w.trace.state.places)

  module _ (j : ℕ) (x : Packet) (is : IsChosen b w.trace.state w.trace.state.places j x) where
    abbrev e : Change
    e = change_by b.program s.tables s.taken x.held j

    abbrev tables' : TableState
    tables' = committed b.program s.tables s.taken x.held j

    abbrev places' : List (Option Packet)
    places' = marked_below b.plan.commit b s.tables e 0 s.places

    abbrev views' : ℕ → TableState
    views' = views_below b.plan.commit tables' w.views

    abbrev after_it : List Touched
    after_it = so_far b maps w.trace.left views' places' (suc j)

    here_at : place_at (rest_of b w.trace.state) b.plan.commit ≡ Some x
    here_at = ap (λ xs. place_at xs b.plan.commit) still ∙ is.here

    facts : IsWritten (committed b.program s.tables s.taken x.held j) (change_by b.program s.tables s.taken x.held j) (site_writes b.program view x.held j)
    facts =
        let t = acted in_turn seen b maps.decls fit w h.right j x (subst (λ rest. IsChosen b s rest j x) (sym still) is) in
        let reads = reads_there seen b maps.decls fit w h.right.at.view_decls h.right.agreed x here_at in
        let wrote : writes p view.decls x.held j ≡ true = ap (λ ds. writes p ds x.held j) (h.right.at.view_decls ∙ sym h.right.at.decls_are) ∙ is.writes_there in
        subst (λ (q : Replayed). IsWritten (committed p q.tables q.taken x.held j) (change_by p q.tables q.taken x.held j) (site_writes p view x.held j)) (sym t.midst)
        (written p view t.first x.held h.right.at.view_tables (subst (λ ds. AllFit ds p.sites) (sym h.right.at.view_decls) fit.fits) t.first_long reads j is.in_range wrote)

    guard : on (stage_value x.held (site_at b.program.sites j).guard) ≡ true
    guard =
        let site = site_at p.sites j in
        (and_parts (guard_on x.held site) (writes_as site.act _ (stage_value x.held (answer_cell p.cells j))) is.writes_there).0

    past_same : drop (suc b.plan.commit) places' ≡ drop (suc b.plan.commit) w.trace.state.places
    past_same = drop_marked_by b.plan.commit b s.tables e 0 (suc b.plan.commit) s.places (omega arith)

    now_at : place_at places' b.plan.commit ≡ Some x
    now_at = not_marked_by b.plan.commit b s.tables e 0 s.places b.plan.commit (omega arith) ∙ is.here

    after_is : after_it ≡ gone ++ (past ++ (touched (stage_value x.held) (maps_of view) (take (suc j) b.program.sites) ∷ []))
    after_is =
        ap (λ xs. gone ++ (past_touched p base xs ++ now_touched p (maps_of (views' b.plan.commit)) (place_at places' b.plan.commit) (suc j))) past_same
        ∙ ap (λ (v : TableState). gone ++ (past ++ now_touched p (maps_of v) (place_at places' b.plan.commit) (suc j))) (kept_view b.plan.commit tables' w.views)
        ∙ ap (λ (o : Option Packet). gone ++ (past ++ now_touched p (maps_of view) o (suc j))) now_at

    now_is : now ≡ gone ++ (past ++ (touched (stage_value x.held) (maps_of view) (take s.done b.program.sites) ∷ []))
    now_is = ap (λ (o : Option Packet). gone ++ (past ++ now_touched p (maps_of view) o s.done)) is.here

    grows : Grows now after_it
    grows = subst (λ ts. Grows ts after_it) (sym now_is) (subst (λ ts. Grows (gone ++ (past ++ (touched (stage_value x.held) (maps_of view) (take s.done p.sites) ∷ []))) ts) (sym after_is)
        (grows_front gone _ _ (grows_front past _ _ one)))
      where
        one : Grows (touched (stage_value x.held) (maps_of view) (take s.done b.program.sites) ∷ []) (touched (stage_value x.held) (maps_of view) (take (suc j) b.program.sites) ∷ [])
        one zero r has = let l = is.from_on in take_more (stage_value x.held) s.done (suc j) (omega (arith, l)) p.sites (maps_of view) r has
        one (suc i) r has = has

    abbrev number : ℕ
    number = length w.trace.left + inside (drop (suc b.plan.commit) w.trace.state.places)

    -- what the operation writes the packet at the commit place has written
    own_wrote : (k : ℕ) → k < b.plan.commit → (r : Resource) → Contains (site_writes b.program view x.held j) r → Wrote b after_it (length w.trace.left + inside (drop (suc k) w.trace.state.places)) r
    own_wrote k below r has =
        let c = fit.rows.commit in
        let in_places : b.plan.commit < length s.places = omega (arith, c, long) in
        let at_commit = ap inside (front_place s.places b.plan.commit in_places ∙ ap (λ (o : Option Packet). o ∷ drop (suc b.plan.commit) s.places) is.here) in
        let least = fewer s.places (suc k) b.plan.commit (omega (arith, below)) in
        let m : ℕ = b.plan.commit - k in
        let sum : suc k + m ≡ suc b.plan.commit = omega (arith, below) in
        let most = between s.places (suc k) m in
        let same = ap (λ n. inside (drop n s.places)) sum in
        let size = length-append gone past in
        let index : get_or after_it number nothing ≡ touched (stage_value x.held) (maps_of view) (take (suc j) p.sites) =
        ap (λ ts. get_or ts number nothing) (after_is ∙ sym (append_assoc gone past (touched (stage_value x.held) (maps_of view) (take (suc j) p.sites) ∷ [])))
        ∙ at_front (gone ++ past) (touched (stage_value x.held) (maps_of view) (take (suc j) p.sites)) [] number (omega (arith, size, left_length p maps w.trace.left, past_length p base (drop (suc b.plan.commit) s.places))) in
        (number, omega (arith, at_commit, least), omega (arith, most, same, c), subst (λ (t : Touched). Contains t.writes r) (sym index) (own_in (stage_value x.held) j p.sites (maps_of view) r is.in_range guard has))

    -- slots that the commit does not write stay
    slot_or : (k : ℕ) → k < b.plan.commit → (m n : ℕ) (key : List ℕ) → has_key key (slot_at (table_at tables' m) n) ≡ true → (has_key key (slot_at (table_at s.tables m) n) ≡ true) ⊎ Wrote b after_it (length w.trace.left + inside (drop (suc k) w.trace.state.places)) (Content m key)
    unfolding change_by
    slot_or k below m n key has = by (m == (site_at b.program.sites j).map) refl (n == written_slot b.program s.tables s.taken x.held j) refl
      where
        no_case : false ≡ true → ⊥
        no_case e = cc

        stays : (m ≢ (site_at b.program.sites j).map) ⊎ (n ≢ written_slot b.program s.tables s.taken x.held j) → has_key key (slot_at (table_at s.tables m) n) ≡ true
        stays why = subst (λ (z : Slot). has_key key z ≡ true) (committed_other b.program s.tables s.taken x.held j m n why) has

        by : (c : Bool) → (m == (site_at b.program.sites j).map) ≡ c → (d : Bool) → (n == written_slot b.program s.tables s.taken x.held j) ≡ d →
            (has_key key (slot_at (table_at s.tables m) n) ≡ true) ⊎ Wrote b after_it (length w.trace.left + inside (drop (suc k) w.trace.state.places)) (Content m key)
        by true f true g =
            let is_map : m ≡ e.map = (Decides-eqb m (site_at b.program.sites j).map).0 f in
            let is_slot : n ≡ e.slot = (Decides-eqb n (written_slot b.program s.tables s.taken x.held j)).0 g in
            let is_key : key ≡ e.key = facts.slot key (subst (λ z. has_key key (slot_at (table_at tables' z) e.slot) ≡ true) is_map (subst (λ z. has_key key (slot_at (table_at tables' m) z) ≡ true) is_slot has)) in
            inr (subst (λ z. Wrote b after_it (length w.trace.left + inside (drop (suc k) s.places)) (Content z key)) (sym is_map)
            (subst (λ (z : List ℕ). Wrote b after_it (length w.trace.left + inside (drop (suc k) s.places)) (Content e.map z)) (sym is_key) (own_wrote k below (Content e.map e.key) facts.content)))
        by true f false g = inl (stays (inr (λ same. no_case (sym g ∙ (Decides-eqb n (written_slot b.program s.tables s.taken x.held j)).1 same))))
        by false f d g = inl (stays (inl (λ same. no_case (sym f ∙ (Decides-eqb m (site_at b.program.sites j).map).1 same))))

    -- packets that have seen changes see one more
    committed_change_causes : HaveChangeCausesIn b maps w.trace.left w.views s.places s.done s.tables w.seen → HaveChangeCausesIn b maps w.trace.left views' places' (suc j) tables' (sees b s.places b.plan.commit e w.seen)
    committed_change_causes old k x' at (inr late) = absurd (omega (arith, late.1))
    committed_change_causes old k x' at (inl below) =
        let q = marked_by_at b.plan.commit b s.tables e 0 s.places k x' at in
        let y : Packet = q.0 in
        let num : ℕ = length w.trace.left + inside (drop (suc k) s.places) in
        let same_num : inside (drop (suc k) places') ≡ inside (drop (suc k) s.places) = marked_by_drop b.plan.commit b s.tables e 0 (suc k) s.places in
        let kept : AllByRecursion (ChangeCauses b after_it tables' num k x') (w.seen k) =
        all_map (ChangeCauses b now s.tables num k y) (ChangeCauses b after_it tables' num k x')
        (λ se z. record {
          low = z.low;
          same = λ c why. subst (λ g. SameCell se.held g c) (sym q.2) (z.same c why);
          content = wrote_grows b now after_it num (Content se.change.map se.change.key) grows z.content;
          present = λ f. let g = z.present f in (wrote_grows b now after_it num (Present se.change.map se.change.key) grows g.0, wrote_grows b now after_it num (Size se.change.map) grows g.1);
          slot = λ key has. elim (slot_or k below se.change.map se.change.slot key has) [
            | inl before ↦ wrote_grows b now after_it num (Content se.change.map key) grows (z.slot key before)
            | inr own ↦ own
          ];
        }) (w.seen k) (old k y q.1 (inl below)) in
        let held : held_in b.program (place_at s.places k) ≡ x'.held = ap (held_in b.program) q.1 ∙ sym q.2 in
        let new : ChangeCauses b after_it tables' num k x' (record { place = k; held = held_in b.program (place_at s.places k); change = e }) = record {
          low = omega arith;
          same = λ c why. subst (λ g. SameCell g x'.held c) (sym held) (record { value = refl; pointer = refl });
          content = own_wrote k below (Content e.map e.key) facts.content;
          present = λ f. let g = facts.present f in (own_wrote k below (Present e.map e.key) g.0, own_wrote k below (Size e.map) g.1);
          slot = λ key has. subst (λ (z : List ℕ). Wrote b after_it num (Content e.map z)) (sym (facts.slot key has)) (own_wrote k below (Content e.map e.key) facts.content);
        } in
        subst (λ n. AllByRecursion (ChangeCauses b after_it tables' (length w.trace.left + n) k x') (sees b s.places b.plan.commit e w.seen k)) (sym same_num)
        (subst (λ (c : Bool). AllByRecursion (ChangeCauses b after_it tables' num k x') (if c then (record { place = k; held = held_in b.program (place_at s.places k); change = e }) ∷ w.seen k else w.seen k)) (sym (lt-ltb k b.plan.commit below)) (new, kept))

  -- ---- all move on

  module _ (back : Bool) where
    abbrev new : Option Packet
    new = newcomer b back s.frames s.places

    abbrev moved_places : List (Option Packet)
    moved_places = moved b s.tables s.frames 0 new s.places

    abbrev out : List StageValues
    out = left_as Moves (place_at s.places b.plan.last)

    abbrev at_commit : Option Packet
    at_commit = place_at w.trace.state.places b.plan.commit

    abbrev older : List (Option Packet)
    older = drop (suc b.plan.commit) w.trace.state.places

    abbrev moved_views : ℕ → TableState
    moved_views = views_on b.plan.commit s.tables w.views

    abbrev then_touched : List Touched
    then_touched = so_far b maps (w.trace.left ++ out) moved_views moved_places 0

    last_is : place_at s.places b.plan.last ≡ last_or at_commit older
    last_is = let c = fit.rows.commit in last_dropped s.places b.plan.commit b.plan.last (omega (arith, c, long)) (sym long)

    -- what the one touched that passes
    abbrev passing : Option Packet → List Touched
    passing None = []
    passing (Some x) = touched (stage_value x.held) (passed_maps b.program base older) b.program.sites ∷ []

    past_is : past_touched b.program base (at_commit ∷ older) ≡ past ++ passing at_commit
    past_is = by at_commit
      where
        by : (o : Option Packet) → past_touched b.program base (o ∷ older) ≡ past ++ passing o
        by None = sym (append-nil past)
        by (Some x) = refl

    then_is : (rest : List Touched) → rest ≡ now_touched b.program (maps_of (moved_views b.plan.commit)) (place_at moved_places b.plan.commit) 0 → then_touched ≡ gone ++ (past ++ (passing at_commit ++ rest))
    then_is rest is =
        let c = fit.rows.commit in
        let lo = left_touched p base (left_as Moves (last_or at_commit older)) in
        let base' = exit_maps p base (last_or at_commit older) in
        let pm = moved b s.tables s.frames (suc b.plan.commit) at_commit older in
        let places : drop (suc b.plan.commit) moved_places ≡ pm = drop_moved b s.tables s.frames 0 b.plan.commit new s.places (omega (arith, c, long)) ∙ ap (λ n. moved b s.tables s.frames (suc n) at_commit older) (omega arith) in
        let maps_is : left_maps p maps (w.trace.left ++ out) ≡ base' =
        left_append p maps w.trace.left out ∙ ap (λ (o : Option Packet). left_maps p base (left_as Moves o)) last_is ∙ exits (last_or at_commit older) in
        let lefts : left_touched p maps (w.trace.left ++ out) ≡ gone ++ lo =
        left_touched_append p maps w.trace.left out ∙ ap (λ (o : Option Packet). gone ++ left_touched p base (left_as Moves o)) last_is in
        ap (λ ts. ts ++ (past_touched p (left_maps p maps (w.trace.left ++ out)) (drop (suc b.plan.commit) moved_places) ++ now_touched p (maps_of (moved_views b.plan.commit)) (place_at moved_places b.plan.commit) 0)) lefts
        ∙ ap (λ (m : MapState). (gone ++ lo) ++ (past_touched p m (drop (suc b.plan.commit) moved_places) ++ now_touched p (maps_of (moved_views b.plan.commit)) (place_at moved_places b.plan.commit) 0)) maps_is
        ∙ ap (λ xs. (gone ++ lo) ++ (past_touched p base' xs ++ now_touched p (maps_of (moved_views b.plan.commit)) (place_at moved_places b.plan.commit) 0)) places
        ∙ ap (λ ts. (gone ++ lo) ++ (past_touched p base' pm ++ ts)) (sym is)
        ∙ append_assoc gone lo (past_touched p base' pm ++ rest)
        ∙ ap (λ ts. gone ++ ts) (sym (append_assoc lo (past_touched p base' pm) rest))
        ∙ ap (λ ts. gone ++ (ts ++ rest)) (past_moved b fit.rows s.tables s.frames base (suc b.plan.commit) at_commit older (omega arith) ∙ past_is)
        ∙ ap (λ ts. gone ++ ts) (append_assoc past (passing at_commit) rest)
      where
        exits : (o : Option Packet) → left_maps b.program base (left_as Moves o) ≡ exit_maps b.program base o
        exits None = refl
        exits (Some x) = refl

    moves_grow : Grows now then_touched
    moves_grow =
        let rest = now_touched p (maps_of (moved_views b.plan.commit)) (place_at moved_places b.plan.commit) 0 in
        subst (λ ts. Grows now ts) (sym (then_is rest refl)) (grows_front gone _ _ (grows_front past _ _ (by at_commit rest)))
      where
        by : (o : Option Packet) (rest : List Touched) → Grows (now_touched b.program (maps_of view) o s.done) (passing o ++ rest)
        by None rest zero r has = absurd (none_there r has)
        by None rest (suc i) r has = absurd (none_there r has)
        by (Some x) rest zero r has =
            subst (λ m. Contains (touched (stage_value x.held) m p.sites).writes r) h.now (take_whole (stage_value x.held) s.done p.sites (maps_of view) r has)
        by (Some x) rest (suc i) r has = absurd (none_there r has)

    moved_change_causes : HaveChangeCausesIn b maps w.trace.left w.views s.places s.done s.tables w.seen → HaveChangeCausesIn b maps (w.trace.left ++ out) moved_views moved_places 0 s.tables (seen_on w.seen)
    moved_change_causes old zero x' at waits = tt
    moved_change_causes old (suc k) x' at waits =
        let q = moved_at b s.tables s.frames 0 (suc k) new s.places x' at in
        let y : Packet = q.0 in
        let below : k < b.plan.commit = early waits in
        let inside_all : suc k < length s.places = let l = there moved_places (suc k) x' at in omega (arith, l, moved_length b s.tables s.frames 0 new s.places) in
        let num : ℕ = length w.trace.left + inside (drop (suc k) s.places) in
        let all = drop_moved b s.tables s.frames 0 (suc k) new s.places inside_all in
        let go = moved_inside b s.tables s.frames (suc (0 + suc k)) (place_at s.places (suc k)) (drop (suc (suc k)) s.places) in
        let fronted = ap inside (front_place s.places (suc k) inside_all) in
        let many = ap inside all in
        let last : bit (is_some (last_or (place_at s.places (suc k)) (drop (suc (suc k)) s.places))) ≡ length out =
        ap (λ (o : Option Packet). bit (is_some o)) (sym (last_dropped s.places (suc k) b.plan.last inside_all (sym long))) ∙ sym (left_count (place_at s.places b.plan.last)) in
        let same_num : length (w.trace.left ++ out) + inside (drop (suc (suc k)) moved_places) ≡ num = omega (arith, length-append w.trace.left out, many, go, fronted, last) in
        subst (λ n. AllByRecursion (ChangeCauses b then_touched s.tables n (suc k) x') (w.seen k)) (sym same_num)
        (all_map (ChangeCauses b now s.tables num k y) (ChangeCauses b then_touched s.tables num (suc k) x')
        (λ se z. record {
          low = let l = z.low in omega (arith, l);
          same = λ c why. trans (z.same c why) (subst (λ (g : Packet). SameCell y.held g.held c) (sym q.3) (entered_other b s.tables y q.1 k c (let l = z.low in apart c why l)));
          content = wrote_grows b now then_touched num (Content se.change.map se.change.key) moves_grow z.content;
          present = λ f. let g = z.present f in (wrote_grows b now then_touched num (Present se.change.map se.change.key) moves_grow g.0, wrote_grows b now then_touched num (Size se.change.map) moves_grow g.1);
          slot = λ key has. wrote_grows b now then_touched num (Content se.change.map key) moves_grow (z.slot key has);
        }) (w.seen k) (old k y q.2 (inl below)))
      where
        early : Waits b 0 (suc k) → k < b.plan.commit
        early (inl l) = omega (arith, l)
        early (inr e) = let f = e.0 in omega (arith, f)

        left_count : (o : Option Packet) → length (left_as Moves o) ≡ bit (is_some o)
        left_count None = refl
        left_count (Some x) = refl

        trans : {f g i : StageValues} {c : ℕ} → SameCell f g c → SameCell g i c → SameCell f i c
        trans l m = record { value = l.value ∙ m.value; pointer = l.pointer ∙ m.pointer }

        apart : (c : ℕ) {at : ℕ} → (b.plan.row c ≤ at) ⊎ (length b.program.cells ≤ c) → at ≤ k → (b.plan.row c ≢ 0 + suc k) ⊎ (length b.program.cells ≤ c)
        apart c (inl low) l = inl (λ e. omega (arith, e, low, l))
        apart c (inr past) l = inr past

  -- ---- a clock in which nothing is sent back

  for_action : (back : Bool) (u : Action) → ActionIs b s s.places u → HaveChangeCausesIn b maps w.trace.left w.views s.places s.done s.tables w.seen →
      (let v = worked b s back s.places u in HaveChangeCausesIn b maps (w.trace.left ++ left_as u (place_at s.places b.plan.last)) (views_after b s u w.views) v.places v.done v.tables (seen_after b s s.places u w.seen))
  for_action back (Commits j x) is old = subst (λ l. HaveChangeCausesIn b maps l (views_below b.plan.commit (committed b.program s.tables s.taken x.held j) w.views) (marked_below b.plan.commit b s.tables (change_by b.program s.tables s.taken x.held j) 0 s.places) (suc j) (committed b.program s.tables s.taken x.held j) (sees b s.places b.plan.commit (change_by b.program s.tables s.taken x.held j) w.seen))
      (sym (ap (λ l. w.trace.left ++ l) (none_out (place_at s.places b.plan.last)) ∙ append-nil w.trace.left)) (committed_change_causes j x is old)
    where
      none_out : (o : Option Packet) → left_as (Commits j x) o ≡ []
      none_out None = refl
      none_out (Some y) = refl
  for_action back (Writes a n) is old = absurd is
  for_action back Moves is old = moved_change_causes back old

pub keeps_change_causes : CommitsInTurn → SeesEarlier → ChangesAreWritten → KeepsChangeCauses
unfolding observed next work
keeps_change_causes in_turn seen written b maps fit i silent w o h unsent old =
    let s = w.trace.state in
    let still : rest_of b s ≡ s.places = flushed_none b 0 s.places unsent in
    let c = clock_aside b i s in
    let places : (clock b i s).places ≡ (work b i s).places = (beats_keep b i w.trace o).places in
    let back = some_send b 0 s.places in
    let acted_on = subst (λ rest. (let u = action_of b i s rest in let v = worked b s back rest u in HaveChangeCausesIn b maps (w.trace.left ++ left_as u (place_at rest b.plan.last)) (views_after b s u w.views) v.places v.done v.tables (seen_after b s rest u w.seen))) (sym still)
    (for_action in_turn seen written b maps fit w h still o.places back (action_of b i s s.places) (action_is b i silent s s.places) old) in
    let after = observed b i w in
    subst (λ xs. HaveChangeCausesIn b maps after.trace.left after.views xs (clock b i s).done (clock b i s).tables after.seen) (sym places)
    (subst (λ d. HaveChangeCausesIn b maps after.trace.left after.views (work b i s).places d (clock b i s).tables after.seen) (sym c.done)
    (subst (λ (t : TableState). HaveChangeCausesIn b maps after.trace.left after.views (work b i s).places (work b i s).done t after.seen) (sym c.tables) acted_on))

pub begins_change_causes : BeginsChangeCauses
begins_change_causes b maps k x at waits = absurd (nobody (suc b.plan.last) k x at)
  where
    nobody : (n k : ℕ) (x : Packet) → place_at (replicate n None) k ≡ Some x → ⊥
    nobody zero k x e = cc
    nobody (suc n) zero x e = cc
    nobody (suc n) (suc k) x e = nobody n k x e
