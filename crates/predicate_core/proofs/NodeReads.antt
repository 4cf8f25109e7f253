-- From one node to the next the reads of sites are made, and wait for the writes before them.
use Rattle.std.proofs.Common.{◌≡◌, ◌≢◌, ◌∙◌, ℕ, ◌+◌, ◌-◌, ◌<◌, ◌≤◌, ◌⊎◌, inl, inr, true, false, Bool, if◌then◌else◌, Some, List, [], ◌∷◌, ◌++◌, length, length-append, get_or, replicate, refl, sym, ap, subst, arith}
use Rattle.std.specs.Prelude.{slice_index, Contains}
use Rattle.std.proofs.Math.ListN.{get_or-append}
use Rattle.std.proofs.Math.Seq.{get_or-append_seam, get_or-append_right}
use Rattle.std.proofs.lemmas.Bool.{cases_lt, cases_eq}
use Rattle.std.proofs.lemmas.List.{append-nil, get_or_past, get_or-replicate, get_or-set_same, get_or-set_other}
use Rattle.std.proofs.lemmas.List.Elements.{Contains-append_left, Contains-append_right, Contains-get_or}
use Rattle.xdp_machine.specs.bpf_isa.declared.instruction.Insn.{Insn}
use Rattle.xdp_machine.specs.State.{PacketIn}
use Rattle.cell_core.specs.declared.operator.Operator.{Operator}
use Rattle.cell_core.specs.declared.operator.Operator.TheVariants.{Wire, Phi}
use Rattle.cell_core.specs.Cells.{CellView, IsRun, no_cell, cell_at, site_in, on}
use Rattle.cell_core.specs.Sites.{SiteView, no_site, site_at, records}
use Rattle.cell_core.specs.Rows.{greatest, taken_by}
use Rattle.operator_cells.specs.Making.{Grows, GrowsWith}
use Rattle.operator_cells.specs.Following.{picked, Goes, IsFollowed}
use Rattle.operator_cells.proofs.MakingLaws.{grown_with, reads_none}
use Rattle.operator_cells.specs.declared.held_cells.machine_cells.RegisterCells.{RegisterCells}
use Rattle.operator_cells.specs.declared.held_cells.way.Way.{Way}
use Rattle.operator_cells.specs.declared.held_cells.way.Exit.{Exit}
use Rattle.operator_cells.specs.HeldCells.Paths.{GraphView, node_at}
use Rattle.operator_cells.specs.HeldCells.RegisterCells.{PointerView}
use Rattle.operator_cells.specs.HeldCells.Rows.{map_used}
use Rattle.operator_cells.specs.HeldCells.Steps.{Steps, ReadsOwn}
use Rattle.operator_cells.specs.HeldCells.Pointing.{InstructionPoints}
use Rattle.operator_cells.specs.HeldCells.Reading.{SiteIsRead, OperationReads, AreRanks, IsBehind, BelongsTo}
use Rattle.edge_cells.specs.declared.joining.Here.{Here}
use Rattle.predicate_core.specs.StepCells.Stepping.{MadeView}
use Rattle.predicate_core.specs.StepCells.Pointing.{NodePoints}
use Rattle.predicate_core.specs.StepCells.Waiting.{WaitsFor}
use Rattle.predicate_core.specs.Making.{Making, IsSoFar, Arrives}
use Rattle.predicate_core.specs.Laws.{NodesRead}
use Rattle.predicate_core.specs.Gathering.{PassesTo}
use Rattle.predicate_core.specs.Pointing.{PointSoFar, ComesAlong, ArrivePoints}
use Rattle.predicate_core.specs.Reading.{reading_of, ArePending, ReadSoFar, PendingMeets}
use Rattle.predicate_core.proofs.NodePoints as points
use Rattle.predicate_core.proofs.LaterReads.{most, ranks_before, site_kept, read_more, belongs_before, waits_more}

-- with any values of cells zeros may go
picked_zero : (v : ℕ → ℕ) (ins : List ℕ) → 0 ≡ picked v (λ k. 0) ins
picked_zero v [] = refl
picked_zero v (e ∷ []) = refl
picked_zero v (e ∷ x ∷ []) = refl
picked_zero v (e ∷ x ∷ d ∷ more) = either (on (v e)) (picked_zero v (d ∷ more))
  where
    either : (b : Bool) → 0 ≡ picked v (λ k. 0) (d ∷ more) → 0 ≡ (if b then 0 else picked v (λ k. 0) (d ∷ more))
    either true h = refl
    either false h = h

followed_zero : (cells : List CellView) (v : ℕ → ℕ) → IsFollowed cells v (λ k. 0)
followed_zero cells v = record { each = λ k l. by (cell_at cells k).op (cell_at cells k).ins }
  where
    by : (op : Operator) (ins : List ℕ) → Goes v (λ k. 0) ins op 0
    by Wire ins = refl
    by Phi ins = picked_zero v ins
    by op ins = tt

module _ (g : GraphView) (k : ℕ) (hs : List RegisterCells) (t : Making) (cells : List CellView) (ps : List PointerView) (new : MadeView) (here : Here) (exits : List Exit) (insn : Insn) (pending : List ℕ)
    (so_far : IsSoFar g k hs t) (arrives : Arrives g k t cells ps here.guard here.held)
    (s : Steps g k here.guard here.held cells new.cells ps new.pointers t.sites new.sites t.ways new.ways exits new.exits)
    (comes : ArrivePoints g.decls k (node_at g.nodes k).kinds cells t.pointers ps t.ways here.guard here.held)
    (pointed : PointSoFar g.decls k (record { cells = t.cells; pointers = t.pointers; sites = t.sites; ways = t.ways; exits = t.exits }))
    (node : NodePoints g.decls insn pending (node_at g.nodes k).kinds here (record { cells = cells; pointers = ps; sites = t.sites; ways = t.ways; exits = exits }) new)
    (last : List CellView) (grows : Grows new.cells last) (beside : List (List ℕ)) (pending2 : List ℕ) (maps : length pending ≡ length g.decls) (count : length beside ≡ length t.ways)
    (meets : PendingMeets k cells t.ways beside pending) (passed : PassesTo new.cells last new.sites (length t.sites) (length t.cells) pending pending2)
    (before : ReadSoFar g.decls k (record { cells = t.cells; pointers = t.pointers; sites = t.sites; ways = t.ways; exits = t.exits }) beside) where
  abbrev old : MadeView
  old = record { cells = t.cells; pointers = t.pointers; sites = t.sites; ways = t.ways; exits = t.exits }

  abbrev next : MadeView
  next = record new { cells = last }

  abbrev R : ℕ → ℕ → Type 0
  R = ReadsOwn t.sites new.sites

  -- cells of the node read its site, and none after it
  stepped : GrowsWith R t.cells new.cells
  stepped = grown_with R t.cells cells new.cells (reads_none R t.cells cells arrives.grows) s.grows

  all : GrowsWith R t.cells last
  all = grown_with R t.cells new.cells last stepped (reads_none R new.cells last grows)

  own : (x j : ℕ) → length t.cells ≤ x → x < length last → site_in (cell_at last x).op ≡ Some j → (length cells ≤ x) × (x < length new.cells) × (site_in (cell_at new.cells x).op ≡ Some j)
  own x j low high reads = by (cases_lt x (length new.cells)) (cases_lt x (length cells))
    where
      by : (x < length new.cells) ⊎ (length new.cells ≤ x) → (x < length cells) ⊎ (length cells ≤ x) → (length cells ≤ x) × (x < length new.cells) × (site_in (cell_at new.cells x).op ≡ Some j)
      by (inr l) c = absurd (grows.reads x j l high reads)
      by (inl l) (inr m) = (m, l, ap (λ (y : CellView). site_in y.op) (sym (grows.kept x l)) ∙ reads)
      by (inl l) (inl m) = absurd (arrives.grows.reads x j low m (ap (λ (y : CellView). site_in y.op) (sym (grows.kept x l ∙ s.grows.kept x m)) ∙ reads))

  -- ---- the site of the node, if it has one

  record Operates : Type 0 where
    site : SiteView
    is : new.sites ≡ t.sites ++ site ∷ []
    cell : ℕ
    cell_is : (q : ℕ) → map_used (node_at g.nodes k).kinds insn insn.op ≡ Some q → q < length pending → cell ≡ slice_index pending q
    reads : OperationReads g.decls (map_used (node_at g.nodes k).kinds insn insn.op) cell cells new.cells (length t.sites) site

  operates : NodePoints g.decls insn pending (node_at g.nodes k).kinds here (record { cells = cells; pointers = ps; sites = t.sites; ways = t.ways; exits = exits }) new → (new.sites ≡ t.sites) ⊎ Operates
  operates (inr a) = inl a.sites_are
  operates (inl a) = by a.points
    where
      by : InstructionPoints g.decls insn pending (node_at g.nodes k).kinds here.held a.after a.next cells new.cells ps new.pointers t.sites new.sites → (new.sites ≡ t.sites) ⊎ Operates
      by (inl p) = inl p.sites_are
      by (inr p) = inr (record { site = p.2.site; is = p.2.sites_are; cell = p.0; cell_is = p.1; reads = p.2.reads })

  -- a new site is after the guard of the node
  guard_is : (j : ℕ) → length t.sites ≤ j → j < length new.sites → (site_at new.sites j).guard ≡ here.guard
  guard_is j low high =
      ap (λ (ss : List SiteView). (site_at ss j).guard) s.sites_are ∙ ap (λ (x : SiteView). x.guard) (get_or-append_right t.sites s.more j no_site low)
      ∙ (s.own (j - length t.sites) no_site (omega (arith, low, high, ap length s.sites_are, length-append t.sites s.more))).1

  fits_new : (i : ℕ) → length t.sites ≤ i → i < length new.sites → (site_at new.sites i).map < length g.decls
  fits_new i l h =
      let f = s.fits (i - length t.sites) no_site (omega (arith, l, h, ap length s.sites_are, length-append t.sites s.more)) in
      let e = ap (λ (ss : List SiteView). (site_at ss i).map) s.sites_are ∙ ap (λ (x : SiteView). x.map) (get_or-append_right t.sites s.more i no_site l) in
      omega (arith, f.map, e)

  module _ (o : Operates) where
    one_more : length new.sites ≡ length t.sites + 1
    one_more = ap length o.is ∙ length-append t.sites (o.site ∷ [])

    at : (j : ℕ) → length t.sites ≤ j → j < length new.sites → (j ≡ length t.sites) × (site_at new.sites j ≡ o.site)
    at j low high =
        let same : j ≡ length t.sites = omega (arith, low, high, one_more) in
        (same, ap (λ (i : ℕ). site_at new.sites i) same ∙ ap (λ (ss : List SiteView). site_at ss (length t.sites)) o.is ∙ get_or-append_seam t.sites o.site [] no_site)

    -- no cell before its code reads it
    none_before : (d : ℕ) → d < length cells → site_in (cell_at cells d).op ≡ Some (length t.sites) → ⊥
    none_before d l is = by (cases_lt d (length t.cells))
      where
        by : (d < length t.cells) ⊎ (length t.cells ≤ d) → ⊥
        by (inl m) = let x = so_far.sited.known d (length t.sites) m (ap (λ (c : CellView). site_in c.op) (sym (arrives.grows.kept d m)) ∙ is) in omega (arith, x)
        by (inr m) = arrives.grows.reads d (length t.sites) m l is

    made_new : (j : ℕ) → length t.sites ≤ j → j < length new.sites → SiteIsRead g.decls last j (site_at new.sites j)
    made_new j low high =
        let a = at j low high in
        subst (λ (r : SiteView). SiteIsRead g.decls last j r) (sym a.1)
        (read_more (λ c i. ⊥) (reading_of new) (reading_of next) [] grows (λ c i none. absurd none) (sym (append-nil new.sites)) g.decls j o.site high
        (subst (λ (i : ℕ). SiteIsRead g.decls new.cells i o.site) (sym a.0) (o.reads.read none_before)))

    -- its reads take the cell of what is pending of its map
    takes : (c j : ℕ) → length t.cells ≤ c → c < length last → site_in (cell_at last c).op ≡ Some j → length t.sites ≤ j → j < length new.sites → Contains (cell_at last c).ins (slice_index pending (site_at new.sites j).map)
    takes c j low high reads above below =
        let a = at j above below in
        let w = own c j low high reads in
        let fits = fits_new j above below in
        let cell = o.cell_is o.site.map o.reads.map_is (omega (arith, fits, maps, ap (λ (r : SiteView). r.map) a.1)) in
        subst (λ (r : SiteView). Contains (cell_at last c).ins (slice_index pending r.map)) (sym a.1)
        (subst (λ (n : ℕ). Contains (cell_at last c).ins n) cell
        (subst (λ (y : CellView). Contains y.ins o.cell) (sym (grows.kept c w.1)) (o.reads.pends c w.0 w.1 (w.2 ∙ ap Some a.0))))

  -- ---- the reads are made

  later : (d j : ℕ) → R d j → length t.sites ≤ j
  later d j r = r.0

  made_at : (j : ℕ) → j < length new.sites → (j < length t.sites) ⊎ (length t.sites ≤ j) → (new.sites ≡ t.sites) ⊎ Operates → SiteIsRead g.decls last j (site_at new.sites j)
  made_at j l (inl low) o = subst (λ (r : SiteView). SiteIsRead g.decls last j r) (sym (site_kept R (reading_of old) (reading_of next) s.more all later s.sites_are j low))
      (read_more R (reading_of old) (reading_of next) s.more all later s.sites_are g.decls j (site_at t.sites j) low (before.made.each j low))
  made_at j l (inr high) (inr o) = made_new o j high l
  made_at j l (inr high) (inl none) = absurd (omega (arith, l, high, ap length none))

  in_order : (c d i j : ℕ) → c < length last → d < length last → site_in (cell_at last d).op ≡ Some i → site_in (cell_at last c).op ≡ Some j → i < j → d < c
  in_order c d i j l m first second less = by (cases_lt c (length t.cells)) (cases_lt d (length t.cells))
    where
      was : (x n : ℕ) → x < length t.cells → site_in (cell_at last x).op ≡ Some n → site_in (cell_at t.cells x).op ≡ Some n
      was x n b reads = ap (λ (y : CellView). site_in y.op) (sym (all.kept x b)) ∙ reads

      by : (c < length t.cells) ⊎ (length t.cells ≤ c) → (d < length t.cells) ⊎ (length t.cells ≤ d) → d < c
      by (inl a) (inl b) = before.made.ordered c d i j a b (was d i b first) (was c j a second) less
      by (inr a) (inl b) = omega (arith, a, b)
      by (inl a) (inr b) = absurd (let x = so_far.sited.known c j a (was c j a second) in let y = all.reads d i b m first in omega (arith, x, y.0, less))
      by (inr a) (inr b) = absurd (
          let x = all.reads c j a l second in
          let y = all.reads d i b m first in
          let few = points.few g k hs t cells ps new here exits insn pending so_far arrives s comes pointed node in
          omega (arith, x.1, y.0, less, few, ap length s.sites_are, length-append t.sites s.more))

  -- ---- what is pending at the node

  module _ (packet : PacketIn) (v : ℕ → ℕ) (run : IsRun packet last v) where
    run_new : IsRun packet new.cells v
    run_new = grows.run packet v run

    zeros : IsFollowed new.cells v (λ n. 0)
    zeros = followed_zero new.cells v

    path_edge : on (v here.guard) ≡ true → ComesAlong g.decls k (node_at g.nodes k).kinds here.held t.pointers ps t.ways v (λ n. 0)
    path_edge = (points.come g k hs t cells ps new here exits insn pending so_far arrives s comes pointed packet v (λ n. 0) run_new zeros).1

    off_path : (e : Way) → Contains t.ways e → k + 1 ≤ e.to → on (v e.bit) ≡ true → on (v here.guard) ≡ true → ⊥
    off_path = points.passes g k hs t cells ps new here exits insn pending so_far arrives s comes pointed packet v (λ n. 0) run_new zeros

    module _ (rank : ℕ → ℕ) (ranks : AreRanks last rank) where
      ranks_old : AreRanks t.cells rank
      ranks_old = ranks_before R t.cells last all rank ranks

      ranks_here : AreRanks cells rank
      ranks_here = ranks_before R cells last (grown_with R cells new.cells last s.grows (reads_none R new.cells last grows)) rank ranks

      -- of an earlier site on the path
      here_pending : on (v here.guard) ≡ true → ArePending old v rank pending
      here_pending path i x l writes first belongs =
          let a = path_edge path in
          let n = a.among.0 in
          let there = a.among.1 in
          let is : get_or t.ways n a.edge ≡ a.edge = a.among.2 in
          let to : (get_or t.ways n a.edge).to ≡ k = ap (λ (e : Way). e.to) is ∙ a.to in
          let h = before.pending packet v rank n a.edge (all.run packet v run) ranks_old there (omega (arith, to)) (ap (λ (e : Way). on (v e.bit)) is ∙ a.is_on) i x l writes first belongs in
          let f = so_far.sited.fits i l in
          let m = meets rank n a.edge (site_at t.sites i).map ranks_here there to (omega (arith, f.map, maps)) in
          omega (arith, h, m)

      -- ---- after the node, by the cell that waits for its site

      module _ (there : length t.sites < length new.sites) (writes : records (site_at new.sites (length t.sites)).act ≡ true) where
        abbrev site : SiteView
        site = site_at new.sites (length t.sites)

        abbrev waiting : ℕ
        waiting = (passed.waits there writes).0

        waits : WaitsFor new.cells last site (length t.sites) (length t.cells) (slice_index pending site.map) waiting
        waits = (passed.waits there writes).2

        is_there : waiting < length last
        is_there = by (cases_lt waiting (length last))
          where
            by : (waiting < length last) ⊎ (length last ≤ waiting) → waiting < length last
            by (inl l) = l
            by (inr l) = absurd (cc (ap (λ (y : CellView). y.ins) (sym (get_or_past last waiting no_cell l) ∙ waits.is)))

        highest : (x : ℕ) → Contains (slice_index pending site.map ∷ taken_by site ++ waits.readers) x → rank x ≤ rank waiting
        highest x c =
            let h = most rank (slice_index pending site.map ∷ taken_by site ++ waits.readers) x c in
            let e = ranks.each waiting is_there in
            omega (arith, h, e, ap (λ (y : CellView). greatest rank y.ins) waits.is)

        -- what belongs to the site is no higher
        site_pends : (x : ℕ) → BelongsTo last (length t.sites) site x → rank x ≤ rank waiting
        site_pends x (inl taken) = highest x (Contains-append_right (slice_index pending site.map ∷ []) (taken_by site ++ waits.readers) x (Contains-append_left (taken_by site) waits.readers x taken))
        site_pends x (inr reads) = by (cases_lt x (length t.cells))
          where
            by : (x < length t.cells) ⊎ (length t.cells ≤ x) → rank x ≤ rank waiting
            by (inl l) = absurd (let n = so_far.sited.known x (length t.sites) l (ap (λ (y : CellView). site_in y.op) (sym (all.kept x l)) ∙ reads.1) in omega (arith, n))
            by (inr l) =
                let w = own x (length t.sites) l reads.0 reads.1 in
                highest x (Contains-append_right (slice_index pending site.map ∷ []) (taken_by site ++ waits.readers) x
                (Contains-append_right (taken_by site) waits.readers x (waits.read.each x l w.1 w.2)))

        map_waits : site.map < length pending → slice_index pending2 site.map ≡ waiting
        map_waits l = ap (λ (xs : List ℕ). slice_index xs site.map) (passed.waits there writes).1 ∙ get_or-set_same pending site.map waiting 0 l

        rises : (q : ℕ) → q < length pending → (q ≡ site.map) ⊎ (q ≢ site.map) → rank (slice_index pending q) ≤ rank (slice_index pending2 q)
        rises q l (inl same) =
            let h = highest (slice_index pending site.map) (0, omega arith, refl) in
            let e = map_waits (omega (arith, l, same)) in
            omega (arith, h, ap rank e, ap (λ (n : ℕ). rank (slice_index pending n)) same, ap (λ (n : ℕ). rank (slice_index pending2 n)) same)
        rises q l (inr other) =
            let e = ap (λ (xs : List ℕ). slice_index xs q) (passed.waits there writes).1 ∙ get_or-set_other pending site.map q waiting 0 other in
            omega (arith, ap rank e)

      -- the cells after the node are no lower
      passes_on : (q : ℕ) → q < length pending → rank (slice_index pending q) ≤ rank (slice_index pending2 q)
      passes_on q l = by (cases_lt (length t.sites) (length new.sites))
        where
          same : pending2 ≡ pending → rank (slice_index pending q) ≤ rank (slice_index pending2 q)
          same e = omega (arith, ap (λ (xs : List ℕ). rank (slice_index xs q)) e)

          by : (length t.sites < length new.sites) ⊎ (length new.sites ≤ length t.sites) → rank (slice_index pending q) ≤ rank (slice_index pending2 q)
          by (inr m) = same (passed.none m).0
          by (inl m) = act (records (site_at new.sites (length t.sites)).act) refl
            where
              act : (b : Bool) → records (site_at new.sites (length t.sites)).act ≡ b → rank (slice_index pending q) ≤ rank (slice_index pending2 q)
              act false e = same (passed.stays m e).0
              act true e = rises m e q l (cases_eq q (site_at new.sites (length t.sites)).map)

      site_was : (i : ℕ) → i < length t.sites → site_at new.sites i ≡ site_at t.sites i
      site_was = site_kept R (reading_of old) (reading_of next) s.more all later s.sites_are

      -- of a site on the path after the node, which is on the path
      behind_pending : on (v here.guard) ≡ true → (i x : ℕ) → i < length new.sites → records (site_at new.sites i).act ≡ true → on (v (site_at new.sites i).guard) ≡ true → BelongsTo last i (site_at new.sites i) x
          → (i < length t.sites) ⊎ (length t.sites ≤ i) → rank x ≤ rank (slice_index pending2 (site_at new.sites i).map)
      behind_pending path i x l writes first belongs (inl low) =
          let e = site_was i low in
          let h = here_pending path i x low (ap (λ (r : SiteView). records r.act) (sym e) ∙ writes) (ap (λ (r : SiteView). on (v r.guard)) (sym e) ∙ first)
          (belongs_before R (reading_of old) (reading_of next) s.more all later s.sites_are i x low belongs) in
          let f = so_far.sited.fits i low in
          let m = passes_on (site_at t.sites i).map (omega (arith, f.map, maps)) in
          omega (arith, h, m, ap (λ (r : SiteView). rank (slice_index pending2 r.map)) e)
      behind_pending path i x l writes first belongs (inr high) = by (operates node)
        where
          by : (new.sites ≡ t.sites) ⊎ Operates → rank x ≤ rank (slice_index pending2 (site_at new.sites i).map)
          by (inl none) = absurd (omega (arith, l, high, ap length none))
          by (inr o) =
              let same : length t.sites ≡ i = sym (at o i high l).0 in
              let there : length t.sites < length new.sites = omega (arith, l, same) in
              let w : records (site_at new.sites (length t.sites)).act ≡ true = ap (λ (n : ℕ). records (site_at new.sites n).act) same ∙ writes in
              let f = fits_new (length t.sites) (omega arith) there in
              let h = site_pends there w x (subst (λ (n : ℕ). BelongsTo last n (site_at new.sites n) x) (sym same) belongs) in
              omega (arith, h, ap rank (map_waits there w (omega (arith, f, maps))), ap (λ (n : ℕ). rank (slice_index pending2 (site_at new.sites n).map)) same)

  -- ---- reads wait

  reads_wait : (packet : PacketIn) (v : ℕ → ℕ) → IsRun packet last v → (c i j : ℕ) → c < length last → site_in (cell_at last c).op ≡ Some j → i < j
      → (site_at new.sites i).map ≡ (site_at new.sites j).map → records (site_at new.sites i).act ≡ true → on (v (site_at new.sites i).guard) ≡ true → on (v (site_at new.sites j).guard) ≡ true
      → (x : ℕ) → BelongsTo last i (site_at new.sites i) x → IsBehind last c x
  reads_wait packet v run c i j l reads less same writes first second x belongs = by (cases_lt c (length t.cells))
    where
      by : (c < length t.cells) ⊎ (length t.cells ≤ c) → IsBehind last c x
      by (inl a) = waits_more R (reading_of old) (reading_of next) s.more all later s.sites_are before.waits packet v run c i j l reads less
          (so_far.sited.known c j a (ap (λ (y : CellView). site_in y.op) (sym (all.kept c a)) ∙ reads)) same writes first second x belongs
      by (inr a) = λ rank ranks. new_one rank ranks (operates node)
        where
          mine : (length t.sites ≤ j) × (j < length new.sites)
          mine = let r = all.reads c j a l reads in (r.0, r.1)

          new_one : (rank : ℕ → ℕ) → AreRanks last rank → (new.sites ≡ t.sites) ⊎ Operates → rank x ≤ greatest rank (cell_at last c).ins
          new_one rank ranks (inl none) = absurd (omega (arith, mine.0, mine.1, ap length none))
          new_one rank ranks (inr o) =
              let low : i < length t.sites = omega (arith, less, (at o j mine.0 mine.1).0) in
              let e = site_was packet v run rank ranks i low in
              let path : on (v here.guard) ≡ true = ap (λ (n : ℕ). on (v n)) (sym (guard_is j mine.0 mine.1)) ∙ second in
              let h = here_pending packet v run rank ranks path i x low (ap (λ (r : SiteView). records r.act) (sym e) ∙ writes) (ap (λ (r : SiteView). on (v r.guard)) (sym e) ∙ first)
              (belongs_before R (reading_of old) (reading_of next) s.more all later s.sites_are i x low belongs) in
              let m = most rank (cell_at last c).ins (slice_index pending (site_at new.sites j).map) (takes o c j a l reads mine.0 mine.1) in
              omega (arith, h, m, ap (λ (r : SiteView). rank (slice_index pending r.map)) e, ap (λ (n : ℕ). rank (slice_index pending n)) same)

  -- ---- on the edges

  module _ (packet : PacketIn) (v rank : ℕ → ℕ) (n : ℕ) (d : Way) (run : IsRun packet last v) (ranks : AreRanks last rank) (low : n < length new.ways) (far : k + 1 ≤ (get_or new.ways n d).to) (is_on : on (v (get_or new.ways n d).bit) ≡ true) where
    added : points.Adds g.decls t.ways t.sites new here.guard v (λ m. 0)
    added = points.adds g k hs t cells ps new here exits insn pending so_far arrives s comes pointed packet v (λ m. 0) (run_new packet v run) (zeros packet v run) node

    more_ways : length new.ways ≡ length t.ways + length added.more
    more_ways = ap length added.ways_are ∙ length-append t.ways added.more

    -- an edge that was there passes the node by, which is so off the path
    old_edge : n < length t.ways → ArePending next v rank (get_or beside n [])
    old_edge l i x below writes first belongs = by (cases_lt i (length t.sites))
      where
        e : get_or new.ways n d ≡ get_or t.ways n d
        e = ap (λ (ws : List Way). get_or ws n d) added.ways_are ∙ get_or-append t.ways added.more d n l

        off : on (v here.guard) ≡ true → ⊥
        off = off_path packet v run (get_or t.ways n d) (Contains-get_or t.ways n d l) (omega (arith, far, ap (λ (w : Way). w.to) e)) (ap (λ (w : Way). on (v w.bit)) (sym e) ∙ is_on)

        by : (i < length t.sites) ⊎ (length t.sites ≤ i) → rank x ≤ rank (slice_index (get_or beside n []) (site_at new.sites i).map)
        by (inr m) = absurd (off (ap (λ (b : ℕ). on (v b)) (sym (guard_is i m below)) ∙ first))
        by (inl m) =
            let at_i = site_was packet v run rank ranks i m in
            let h = before.pending packet v rank n d (all.run packet v run) (ranks_old packet v run rank ranks) l (omega (arith, far, ap (λ (w : Way). w.to) e)) (ap (λ (w : Way). on (v w.bit)) (sym e) ∙ is_on)
            i x m (ap (λ (r : SiteView). records r.act) (sym at_i) ∙ writes) (ap (λ (r : SiteView). on (v r.guard)) (sym at_i) ∙ first)
            (belongs_before R (reading_of old) (reading_of next) s.more all later s.sites_are i x m belongs) in
            omega (arith, h, ap (λ (r : SiteView). rank (slice_index (get_or beside n []) r.map)) at_i)

    new_edge : length t.ways ≤ n → ArePending next v rank pending2
    new_edge l i x below writes first belongs =
        let e = ap (λ (ws : List Way). get_or ws n d) added.ways_are ∙ get_or-append_right t.ways added.more n d l in
        let path = added.guarded (n - length t.ways) d (omega (arith, l, low, more_ways)) (ap (λ (w : Way). on (v w.bit)) (sym e) ∙ is_on) in
        behind_pending packet v run rank ranks path i x below writes first belongs (cases_lt i (length t.sites))

    edge_pends : ArePending next v rank (get_or (beside ++ replicate (length new.ways - length t.ways) pending2) n [])
    edge_pends = by (cases_lt n (length t.ways))
      where
        by : (n < length t.ways) ⊎ (length t.ways ≤ n) → ArePending next v rank (get_or (beside ++ replicate (length new.ways - length t.ways) pending2) n [])
        by (inl l) = subst (ArePending next v rank) (sym (get_or-append beside (replicate (length new.ways - length t.ways) pending2) [] n (omega (arith, l, count)))) (old_edge l)
        by (inr l) = subst (ArePending next v rank)
            (sym (get_or-append_right beside (replicate (length new.ways - length t.ways) pending2) n [] (omega (arith, l, count)) ∙ get_or-replicate (length new.ways - length t.ways) (n - length beside) pending2 [] (omega (arith, l, low, count))))
            (new_edge l)

  pub next_reads : ReadSoFar g.decls (k + 1) (record new { cells = last }) (beside ++ replicate (length new.ways - length t.ways) pending2)
  next_reads = record {
    made = record { each = λ j l. made_at j l (cases_lt j (length t.sites)) (operates node); ordered = in_order };
    waits = record { waits = reads_wait };
    pending = edge_pends;
  }

pub nodes_read : NodesRead
nodes_read g k hs t old new here insn pending pending2 cells beside so_far arrives sites_are ways_are s comes node grows maps count meets passed pointed before =
    next_reads g k hs t old.cells old.pointers new here old.exits insn pending so_far arrives
    (subst (λ (m : MadeView). Steps g k here.guard here.held m.cells new.cells m.pointers new.pointers m.sites new.sites m.ways new.ways m.exits new.exits) same s) comes pointed
    (subst (λ (m : MadeView). NodePoints g.decls insn pending (node_at g.nodes k).kinds here m new) same node) cells grows beside pending2 maps count meets passed before
  where
    same : old ≡ record { cells = old.cells; pointers = old.pointers; sites = t.sites; ways = t.ways; exits = old.exits }
    same = ap (λ (ss : List SiteView). record old { sites = ss }) sites_are ∙ ap (λ (ws : List Way). record { cells = old.cells; pointers = old.pointers; sites = t.sites; ways = ws; exits = old.exits }) ways_are
