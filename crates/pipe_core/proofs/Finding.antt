-- What updates found stays right.
use Rattle.std.proofs.Common.{◌≡◌, ◌≢◌, ℕ, zero, suc, ◌<◌, ◌≤◌, ◌⊎◌, inl, inr, Bool, true, false, List, [], ◌∷◌, Option, length, get_or, refl, sym, ap, ◌∙◌, subst, arith, map as map_list}
use Rattle.std.specs.Prelude.{if◌then◌else◌, nat_lt, ◌==◌, ◌&&◌, ◌||◌}
use Rattle.std.specs.List.{list_any}
use Rattle.std.specs.Str.{bytes_eq}
use Rattle.std.proofs.lemmas.Bool.{cases_lt, or_right, false≢true}
use Rattle.std.proofs.lemmas.Bool.Decides.{nat_tests, Decides-eqb}
use Rattle.std.proofs.lemmas.List.{length-replicate}
use Rattle.std.proofs.lemmas.List.Sums.{passes_at_first}
use Rattle.std.proofs.lemmas.Slice.Eq.{bytes_eq-Decides}
use Rattle.realization.proofs.list_laws_laws.ListLaws.{fold_alike}
use Rattle.hazard_core.specs.xdp_maps.declared.decl.MapDecl.{MapDecl}
use Rattle.hazard_core.specs.xdp_maps.declared.decl.MapKind.{MapKind}
use Rattle.hazard_core.specs.xdp_maps.declared.decl.MapKind.TheVariants.{Hash, Array}
use Rattle.hazard_core.specs.xdp_maps.Operations.{key_in}
use Rattle.hazard_core.specs.cell_core.declared.operator.Operator.TheVariants.{Found}
use Rattle.hazard_core.specs.cell_core.declared.site.Act.{Act}
use Rattle.hazard_core.specs.cell_core.declared.site.Act.TheVariants as act
use Rattle.hazard_core.specs.cell_core.Cells.{cell_at, no_cell, site_in}
use Rattle.hazard_core.specs.cell_core.Sites.{SiteView, ProgramView, site_at, operation_with}
use Rattle.hazard_core.specs.declared.slot.Slot.{Slot}
use Rattle.hazard_core.specs.Tables.{TableState, decl_of, table_at, tables_of}
use Rattle.hazard_core.specs.declared.pointer.Pointer.{Pointer}
use Rattle.hazard_core.specs.declared.pointer.Pointer.TheVariants.{Null}
use Rattle.hazard_core.specs.StageValues.{StageValues, stage_value, pointer_in, is_found_of, found_cell, asked, asked_key, writes, slot_pointer, written_as, pending}
use Rattle.hazard_core.specs.Overlay.{found_as, found_over, key_pointer_as, looks, found_pointer}
use Rattle.hazard_core.specs.Rows.{cell_pointer, with_row}
use Rattle.hazard_core.specs.declared.change.Change.{Change}
use Rattle.hazard_core.specs.Changes.{with_tables, IsChange, CommitsChange}
use Rattle.hazard_core.specs.Commits.{committed, change_by}
use Rattle.hazard_core.specs.Keeping.{AreAlike, LooksBelow, ReadsKeep}
use Rattle.realization.specs.beat_core.Ports.{Arrival}
use Rattle.hazard_core.proofs.HeldLaws.{found_is}
use Rattle.pipe_core.specs.Machine.{Packet, Build, Action, Commits, Writes, Moves, packet_of, place_at, injected, entered, marked_by, some_send, worked, work, clock}
use Rattle.pipe_core.specs.History.{next}
use Rattle.pipe_core.specs.Agreement.{ReadsArePlanned}
use Rattle.pipe_core.specs.Agreed.{IsRightAction}
use Rattle.pipe_core.specs.Right.{ActionsAreRight}
use Rattle.pipe_core.specs.Placed.{Placed}
use Rattle.pipe_core.specs.SeenChanges.{Seen, SeenChanges, held_in, sees, seen_on, seen_after, rest_of, action_in, observed}
use Rattle.pipe_core.specs.ChangeCauses.{Waits}
use Rattle.pipe_core.specs.Found.{key_changed, FindsRight, KeepsFound, BeginsFound}
use Rattle.pipe_core.proofs.Agreeing.{Rowed, rowed}
use Rattle.pipe_core.proofs.Marking.{begins_placed}
use Rattle.pipe_core.proofs.Placing.{Settled, MarkedBySteps, MovedSteps, ActionSteps, next_placed}
use Rattle.pipe_core.proofs.Acting.{ActionIs, action_is}
use Rattle.pipe_core.proofs.Agreed.{Known, all_known, both_placed}
use Rattle.pipe_core.proofs.Passing.{map_same}
use Rattle.pipe_core.proofs.Blaming.{all_map}
use Rattle.pipe_core.proofs.ClockLaws.{clock_aside}

-- ---- a change of another key leaves the entry that an update of a hash finds

abbrev KeyStays : Change → ℕ → List ℕ → Type 0
KeyStays e m key = (m ≢ e.map) ⊎ ((key ≢ e.key) ⊎ (e.presence ≡ false))

key_stays : (e : Change) (m : ℕ) (key : List ℕ) → e.presence && ((m == e.map) && bytes_eq key e.key) ≡ false → KeyStays e m key
key_stays e m key f = by e.presence refl (m == e.map) refl (bytes_eq key e.key) refl f
  where
    by : (b : Bool) → e.presence ≡ b → (c : Bool) → (m == e.map) ≡ c → (d : Bool) → bytes_eq key e.key ≡ d → b && (c && d) ≡ false → KeyStays e m key
    by false p c q d r f = inr (inr p)
    by true p false q d r f = inl (λ same. false≢true (sym q ∙ (Decides-eqb m e.map).1 same))
    by true p true q false r f = inr (inl (λ same. false≢true (sym r ∙ (bytes_eq-Decides key e.key).1 same)))
    by true p true q true r f = cc

module _ (p : ProgramView) (t : TableState) (ts : List (List Slot)) (e : Change) (h : StageValues) (change : IsChange t e ts) where
  slot_stays : (m : ℕ) (key : List ℕ) → KeyStays e m key → slot_pointer (get_or ts m []) key ≡ slot_pointer (table_at t m) key
  slot_stays m key why = by (m == e.map) refl why
    where
      by : (c : Bool) → (m == e.map) ≡ c → KeyStays e m key → slot_pointer (get_or ts m []) key ≡ slot_pointer (table_at t m) key
      by false q why = ap (λ slots. slot_pointer slots key) (change.maps m (λ same. false≢true (sym q ∙ (Decides-eqb m e.map).1 same)))
      by true q (inl other) = absurd (other ((Decides-eqb m e.map).0 q))
      by true q (inr kept) = subst (λ n. slot_pointer (get_or ts n []) key ≡ slot_pointer (table_at t n) key) (sym ((Decides-eqb m e.map).0 q)) (change.keys key kept)

  array_stays : (m : ℕ) (key : List ℕ) → (decl_of t.decls m).kind ≡ Array → KeyStays e m key
  array_stays m key kind = by (m == e.map) refl
    where
      by : (c : Bool) → (m == e.map) ≡ c → KeyStays e m key
      by true q = inr (inr (change.arrays (subst (λ n. (decl_of t.decls n).kind ≡ Array) ((Decides-eqb m e.map).0 q) kind)))
      by false q = inl (λ same. false≢true (sym q ∙ (Decides-eqb m e.map).1 same))

  -- what an own operation wrote
  written_stays : (a : Act) (k : MapKind) (found : Pointer) (i : ℕ) → (decl_of t.decls (site_at p.sites i).map).kind ≡ k → found_as a (written_as a k p (with_tables t ts) h i) found ≡ found_as a (written_as a k p t h i) found
  written_stays act.Update Hash found i kind = refl
  written_stays act.Update Array found i kind =
      let s = site_at p.sites i in
      slot_stays s.map (asked_key t.decls h s) (array_stays s.map (asked_key t.decls h s) kind)
  written_stays a k found i kind = refl

  over_stays : (key : List ℕ) (found : Pointer) (i : ℕ) → found_over p (with_tables t ts) h key found i ≡ found_over p t h key found i
  over_stays key found i =
      let s = site_at p.sites i in
      ap (λ (q : Pointer). if writes p t.decls h i && bytes_eq (asked_key t.decls h s) key then q else found) (written_stays s.act (decl_of t.decls s.map).kind found i refl)

  found_stays : (before : List ℕ) (j : ℕ) → (decl_of t.decls (site_at p.sites j).map).kind ≡ Hash → KeyStays e (site_at p.sites j).map (asked_key t.decls h (site_at p.sites j))
      → found_pointer p (with_tables t ts) h before j ≡ found_pointer p t h before j
  found_stays before j kind why =
      let s = site_at p.sites j in
      let key = asked_key t.decls h s in
      ap (λ (q : Pointer). if looks (asked t.decls h s) then q else Null)
      (ap (λ k. key_pointer_as k p (with_tables t ts) h before s.map key) kind
      ∙ fold_alike (found_over p (with_tables t ts) h key) (found_over p t h key) (slot_pointer (get_or ts s.map []) key) (slot_pointer (table_at t s.map) key) before (over_stays key) (slot_stays s.map key why)
      ∙ sym (ap (λ k. key_pointer_as k p t h before s.map key) kind))

marked_by_finds : (b : Build) (t : TableState) (ts : List (List Slot)) (e : Change) → IsChange t e ts → (k : ℕ) (held : StageValues) (seen : List Seen) (x : Packet) → FindsRight b t seen k x
    → FindsRight b (with_tables t ts) ((record { place = k; held = held; change = e }) ∷ seen) k (marked_by b t k e x)
unfolding marked_by
marked_by_finds b t ts e change k held seen x old j l update hash inside low = elim (old j l update hash inside low) [
  | inl changed ↦ inl (or_right (key_changed t.decls x.held (site_at b.program.sites j) (record { place = k; held = held; change = e })) (list_any (key_changed t.decls x.held (site_at b.program.sites j)) seen) changed)
  | inr found ↦ by (key_changed t.decls x.held (site_at b.program.sites j) (record { place = k; held = held; change = e })) refl found
]
  where
    before : List ℕ
    before = pending b.program b.plan.row (b.plan.row (found_cell b.program.cells j)) j

    by : (c : Bool) → key_changed t.decls x.held (site_at b.program.sites j) (record { place = k; held = held; change = e }) ≡ c → pointer_in x.held (found_cell b.program.cells j) ≡ found_pointer b.program t x.held before j
        → (c || list_any (key_changed t.decls x.held (site_at b.program.sites j)) seen ≡ true) ⊎ (pointer_in x.held (found_cell b.program.cells j) ≡ found_pointer b.program (with_tables t ts) x.held before j)
    by true f found = inl refl
    by false f found =
        let s = site_at b.program.sites j in
        inr (found ∙ sym (found_stays b.program t ts e x.held change before j hash (key_stays e s.map (asked_key t.decls x.held s) f)))

-- ---- a packet takes in a row

key_same : (decls : List MapDecl) (h g : StageValues) (s : SiteView) → s.act ≡ act.Update → map_list (stage_value h) s.key ≡ map_list (stage_value g) s.key → asked_key decls h s ≡ asked_key decls g s
key_same decls h g s update same = own h ∙ ap (λ (words : List ℕ). key_in (operation_with (decl_of decls s.map) act.Update words (map_list (stage_value h) s.operands))) same ∙ sym (own g)
  where
    own : (f : StageValues) → asked_key decls f s ≡ key_in (operation_with (decl_of decls s.map) act.Update (map_list (stage_value f) s.key) (map_list (stage_value f) s.operands))
    own f = ap (λ (a : Act). key_in (operation_with (decl_of decls s.map) a (map_list (stage_value f) s.key) (map_list (stage_value f) s.operands))) update

module _ (keep : ReadsKeep) (b : Build) (plan : ReadsArePlanned b) where
  finds_there : (j : ℕ) → found_cell b.program.cells j < length b.program.cells → (cell_at b.program.cells (found_cell b.program.cells j)).op ≡ Found j
  finds_there j inside = found_is j (cell_at b.program.cells (found_cell b.program.cells j)).op (passes_at_first (λ d. is_found_of j d.op) b.program.cells no_cell inside)

  -- what is found in lower rows stays so, and in row k it is made so
  entered_finds : (t : TableState) (seen : List Seen) (k : ℕ) (c : Arrival) (x : Packet) → length x.held.values ≡ length b.program.cells → length x.held.pointers ≡ length b.program.cells
      → ((r : ℕ) → suc r ≡ k → FindsRight b t seen r x) → FindsRight b t seen k (entered b t k c x)
  unfolding entered
  entered_finds t seen k c x values pointers old j l update hash inside low =
      let made = rowed keep b plan t (packet_of c) k x.held values pointers in
      elim (cases_lt (b.plan.row (found_cell b.program.cells j)) k) [
        | inl lower ↦ kept made lower (earlier k refl lower)
        | inr here ↦
            let d = found_cell b.program.cells j in
            inr ((made.made d inside (omega (arith, low, here))).pointer ∙ ap (cell_pointer b.program b.plan.row (b.plan.row d) t g (cell_at b.program.cells d)) (finds_there j inside))
      ]
    where
      s : SiteView
      s = site_at b.program.sites j

      g : StageValues
      g = with_row b.program b.plan.row k t (packet_of c) x.held

      Right : StageValues → Type 0
      Right h = (list_any (key_changed t.decls h (site_at b.program.sites j)) seen ≡ true)
          ⊎ (pointer_in h (found_cell b.program.cells j) ≡ found_pointer b.program t h (pending b.program b.plan.row (b.plan.row (found_cell b.program.cells j)) j) j)

      earlier : (n : ℕ) → n ≡ k → b.plan.row (found_cell b.program.cells j) < n → Right x.held
      earlier zero e lower = absurd (omega (arith, lower))
      earlier (suc r) e lower = old r e j l update hash inside (omega (arith, lower))

      below : LooksBelow b.plan.row (b.plan.row (found_cell b.program.cells j)) (site_at b.program.sites j)
      below = plan.below (found_cell b.program.cells j) j inside (ap site_in (finds_there j inside))

      kept : Rowed b t (packet_of c) k x.held g → b.plan.row (found_cell b.program.cells j) < k → Right x.held → Right g
      kept made lower (inl changed) =
          let words = map_same (stage_value x.held) (stage_value g) s.key (all_map (λ i. b.plan.row i < b.plan.row (found_cell b.program.cells j)) (λ i. stage_value x.held i ≡ stage_value g i) (λ i m. (made.same i (inl (omega (arith, m, lower)))).value) s.key below.0) in
          inl (subst (λ (key : List ℕ). list_any (λ (se : Seen). se.change.presence && ((s.map == se.change.map) && bytes_eq key se.change.key)) seen ≡ true) (key_same t.decls x.held g s update words) changed)
      kept made lower (inr found) =
          let d = found_cell b.program.cells j in
          inr (sym (made.same d (inl lower)).pointer ∙ found ∙ (keep b.program b.plan.row (b.plan.row d) j t x.held g (alike made lower) below).0)
        where
          alike : Rowed b t (packet_of c) k x.held g → b.plan.row (found_cell b.program.cells j) < k → AreAlike b.program b.plan.row (b.plan.row (found_cell b.program.cells j)) x.held g
          alike made lower i (inl m) = made.same i (inl (omega (arith, m, lower)))
          alike made lower i (inr past) = made.same i (inr past)

-- ---- a clock

abbrev Finds : Build → TableState → ℕ → (ℕ → List Seen) → ℕ → Arrival → Packet → Type 0
Finds b t done seen k c x = Waits b done k → FindsRight b t (seen k) k x

-- with that packets agree with their tables
abbrev Finding : Build → SeenChanges → ℕ → Arrival → Packet → Type 0
Finding b w k c x = Known b w k c x × Finds b w.trace.state.tables w.trace.state.done w.seen k c x

committed_finds : CommitsChange → (b : Build) (w : SeenChanges) (rest : List (Option Packet)) (j : ℕ) (y : Packet) → ActionIs b w.trace.state rest (Commits j y) → IsRightAction b w.trace.state (Commits j y)
    → (let s = w.trace.state in
    let e = change_by b.program s.tables s.taken y.held j in
    MarkedBySteps b s.tables e b.plan.commit (Settled b rest (Finding b w)) (Finds b (committed b.program s.tables s.taken y.held j) (suc j) (sees b rest b.plan.commit e w.seen)))
unfolding committed
committed_finds changes b w rest j y is right = record {
  hit = λ k c x l m waits.
      let s = w.trace.state in
      let u = committed b.program s.tables s.taken y.held j in
      let e = change_by b.program s.tables s.taken y.held j in
      let held = held_in b.program (place_at rest k) in
      subst (λ (d : Bool). FindsRight b u (if d then (record { place = k; held = held; change = e }) ∷ w.seen k else w.seen k) k (marked_by b s.tables k e x)) (sym l)
      (marked_by_finds b s.tables u.tables e (changes b.program s.tables s.taken y.held j is.writes_there right) k held (w.seen k) x (m.holds.1 (inl (below k waits))));
  missed = λ k c x l m waits. absurd (above k l (below k waits));
}
  where
    below : (k : ℕ) → Waits b (suc j) k → k < b.plan.commit
    below k (inl low) = low
    below k (inr at) = let none = at.1 in absurd (omega (arith, none))

    above : (k : ℕ) → nat_lt k b.plan.commit ≡ false → k < b.plan.commit → ⊥
    above k l low = let past : b.plan.commit ≤ k = grind (arith, nat_tests) in omega (arith, past, low)

moved_finds : ReadsKeep → (b : Build) → ReadsArePlanned b → (w : SeenChanges) (rest : List (Option Packet))
    → MovedSteps b w.trace.state.tables (Settled b rest (Finding b w)) (Finds b w.trace.state.tables 0 (seen_on w.seen))
moved_finds keep b plan w rest = record {
  first = λ c waits. entered_finds keep b plan w.trace.state.tables [] 0 c (injected b.program) (length-replicate (length b.program.cells) 0) (length-replicate (length b.program.cells) Null) (λ r e. absurd (omega (arith, e)));
  further = λ k c x m waits. entered_finds keep b plan w.trace.state.tables (w.seen k) (suc k) c x m.holds.0.agrees.values m.holds.0.agrees.pointers
      (λ r e. let same : k ≡ r = omega (arith, e) in subst (λ n. FindsRight b w.trace.state.tables (w.seen k) n x) same (m.holds.1 (inl (below k waits))));
}
  where
    below : (k : ℕ) → Waits b 0 (suc k) → k < b.plan.commit
    below k (inl low) = omega (arith, low)
    below k (inr at) = let here = at.0 in omega (arith, here)

acted_finds : ReadsKeep → CommitsChange → (b : Build) → ReadsArePlanned b → (w : SeenChanges) (back : Bool) (rest : List (Option Packet)) (u : Action) → ActionIs b w.trace.state rest u → IsRightAction b w.trace.state u
    → (let v = worked b w.trace.state back rest u in ActionSteps b w.trace.state (Settled b rest (Finding b w)) (Finds b v.tables v.done (seen_after b w.trace.state rest u w.seen)) u)
acted_finds keep changes b plan w back rest (Commits j y) is right = committed_finds changes b w rest j y is right
acted_finds keep changes b plan w back rest (Writes a n) is right = absurd is
acted_finds keep changes b plan w back rest Moves is right = moved_finds keep b plan w rest

pub keeps_found : ReadsKeep → CommitsChange → ActionsAreRight → KeepsFound
unfolding observed next work
keeps_found keep changes actions b maps fit i silent w o h old =
    let s = w.trace.state in
    let rest = rest_of b s in
    let v = work b i s in
    let c = clock_aside b i s in
    let n = next b i w.trace in
    let seen = seen_after b s rest (action_in b i s) w.seen in
    let both = both_placed (Known b w) (Finds b s.tables s.done w.seen) (Finding b w) (λ k c x p q. (p, q)) s.frames 0 s.places (all_known b w h.right.agreed) old in
    let steps = acted_finds keep changes b fit.rows.reads w (some_send b 0 s.places) rest (action_in b i s) (action_is b i silent s rest) (actions b maps.decls fit i silent w h.right) in
    subst (λ (t : TableState). Placed (Finds b t (clock b i s).done seen) n.state.frames 0 n.state.places) (sym c.tables)
    (subst (λ d. Placed (Finds b v.tables d seen) n.state.frames 0 n.state.places) (sym c.done) (next_placed b i w.trace (Finding b w) (Finds b v.tables v.done seen) o both steps))

pub begins_found : BeginsFound
begins_found b maps = begins_placed b maps (Finds b (tables_of maps) 0 (λ k. []))
