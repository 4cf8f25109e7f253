-- A node more: its cells fit its row, and its edges bring what stands after it.
use Rattle.std.proofs.Common.{Global, Vec, ◌≡◌, ◌≢◌, ◌∙◌, ℕ, zero, suc, ◌+◌, ◌-◌, ◌<◌, ◌≤◌, ◌==◌, ◌⊎◌, inl, inr, nat_lt, Bool, true, false, if◌then◌else◌, Option, Some, None, List, [], ◌∷◌, ◌++◌, length, length-append, get_or, replicate, refl, sym, ap, arith, subst, max}
use Rattle.std.specs.Prelude.{slice_index, slice_set, cond, is_some, take, count_by, All, Contains}
use Rattle.std.specs.List.{list_any}
use Rattle.std.proofs.Math.ListN.{get_or-append, length-set}
use Rattle.std.proofs.Math.Seq.{get_or-append_seam, get_or-append_right}
use Rattle.std.proofs.lemmas.Bool.{cases_lt, lt-ltb, le-ltb, eqb-true, eqb-false, eq-eqb, ne_eqb}
use Rattle.std.proofs.lemmas.List.{length-map, get_or-map, get_or-replicate, get_or-set_same, get_or-set_other}
use Rattle.std.proofs.lemmas.List.Elements.{Contains-get_or}
use Rattle.std.proofs.lemmas.List.Sums.{sum_by-append, count_by_more_yes, count_by_more_no}
use Rattle.xdp_machine.specs.bpf_isa.declared.instruction.Insn.{Insn}
use Rattle.xdp_machine.specs.bpf_isa.Text.{insn_at}
use Rattle.xdp_machine.specs.Program.{XdpProgram, IsProgram}
use Rattle.kind_core.specs.declared.kind.Kinds.{Kinds}
use Rattle.kind_core.specs.Edges.{decided, transferred}
use Rattle.unfold_core.specs.declared.links.Edge.{Edge}
use Rattle.unfold_core.specs.declared.unfolding.Unfolded.{Unfolded}
use Rattle.cell_core.specs.declared.site.Site.{Site}
use Rattle.cell_core.specs.declared.program.Node.{Node}
use Rattle.cell_core.specs.Cells.{CellView, cell_at, site_in, is_heavy, bit}
use Rattle.cell_core.specs.Sites.{SiteView, site_at, no_site, records}
use Rattle.cell_core.specs.Formed.{AreFormed, FitsMap}
use Rattle.cell_core.specs.Rows.{AreRows, greatest, node_row, taken_by, record_count}
use Rattle.cell_core.proofs.RowLaws.{greatest_append}
use Rattle.operator_cells.specs.Making.{seen, Grows}
use Rattle.operator_cells.proofs.RisingLaws.{rows_before}
use Rattle.operator_cells.specs.row_rules.declared.place_rows.origin.Origin.{Origin}
use Rattle.operator_cells.specs.row_rules.declared.place_rows.recording.Record.{Record}
use Rattle.operator_cells.specs.row_rules.PlaceRows.Locations.{first_pending, location_count}
use Rattle.operator_cells.specs.row_rules.PlaceRows.Spans.{pending_place, is_in}
use Rattle.operator_cells.specs.row_rules.PlaceRows.Origins.{has_data, row_of, row_at}
use Rattle.operator_cells.specs.row_rules.PlaceRows.Writing.{writes_as, taken_row}
use Rattle.operator_cells.proofs.row_rules_laws.PlaceRows.PlaceLaws.{greatest_within}
use Rattle.operator_cells.proofs.row_rules_laws.PlaceRows.SpanLaws.{one_row}
use Rattle.operator_cells.specs.row_rules.declared.node_rows.node.AfterNode.{AfterNode}
use Rattle.operator_cells.specs.row_rules.NodeRows.Joining.{edge_row}
use Rattle.operator_cells.specs.row_rules.NodeRows.Passing.{is_some_place, pending_row, leaving_row}
use Rattle.operator_cells.specs.row_rules.NodeRows.Rows.{no_point, point_at, insn_of, known_behind, row_of_node, may_write}
use Rattle.operator_cells.specs.declared.held_cells.machine_cells.RegisterCells.{RegisterCells}
use Rattle.operator_cells.specs.declared.held_cells.machine_cells.Pointer.{Pointer}
use Rattle.operator_cells.specs.declared.held_cells.way.Way.{Way}
use Rattle.operator_cells.specs.HeldCells.Paths.{NodeView, EdgeView, no_node, node_at}
use Rattle.operator_cells.specs.HeldCells.RegisterCells.{PointerView, pointed}
use Rattle.operator_cells.specs.HeldCells.Law.{no_made, made_at}
use Rattle.operator_cells.specs.HeldCells.Steps.{Steps}
use Rattle.operator_cells.specs.HeldCells.Rows as cells
use Rattle.operator_cells.specs.HeldCells.Rows.{kind_at, number_at, held_row, IsRecord, WriteWithin}
use Rattle.edge_cells.specs.declared.joining.Here.{Here}
use Rattle.edge_cells.specs.Meeting.{Extends}
use Rattle.edge_cells.proofs.ExtendingLaws.{extended}
use Rattle.edge_cells.specs.NodeCells.Ends.{IsNode, HasEnds, AreEnds, is_reference, end_along}
use Rattle.edge_cells.specs.NodeCells.Feeding as feeding
use Rattle.edge_cells.specs.NodeCells.Feeding.{Leave}
use Rattle.site_cells.specs.Sited.{sited}
use Rattle.predicate_core.specs.StepCells.Stepping.{made_of}
use Rattle.predicate_core.specs.StepCells.Rows.{NodeRows, StandIn}
use Rattle.predicate_core.specs.StepCells.Waiting.{WaitsFor}
use Rattle.predicate_core.specs.StepCells.Pointing.{NodePoints}
use Rattle.predicate_core.specs.ProgramGraph.Graphs.{node_view, edge_view, graph_of}
use Rattle.predicate_core.specs.declared.making.Progress.{Progress}
use Rattle.predicate_core.specs.Laws.{made_next}
use Rattle.predicate_core.specs.Gathering.{PassesTo}
use Rattle.predicate_core.specs.Progress.{pending_of, IsReady, Comes}
use Rattle.predicate_core.specs.Stages.{writing_nodes, behind_at, known_along, arrivals_at, kinds_of, origins_met, StandsBehind, Brings, FitSoFar, ComesWithin}
use Rattle.predicate_core.specs.Fitting.{NodesFit}
use Rattle.predicate_core.proofs.Numbered.{count_targets}
use Rattle.predicate_core.proofs.Progressing.{site_more}
use Rattle.predicate_core.proofs.Arrivals.{closed, has_open}
use Rattle.predicate_core.proofs.Spans.{not_taken, leaving}
use Rattle.predicate_core.proofs.Behind.{greatest_all, same_some, noted_cases, written_cases, written_not, written_in}
use Rattle.predicate_core.proofs.NodeRows.{insn_is, node_after, node_write, node_result, node_least, node_own, node_written, node_behind, behind_is, not_written, origin_there, held_is, behind_low, made_low, pending_low, pending_new, edge_least, held_more}

-- ---- names
abbrev names_with : (ℕ → ℕ → ℕ) → ℕ → (ℕ → ℕ) → ℕ → ℕ → ℕ
names_with named maker own m place = if m == maker then own place else named m place

named_new : (named : ℕ → ℕ → ℕ) (maker : ℕ) (own : ℕ → ℕ) (m place : ℕ) → m ≡ maker → names_with named maker own m place ≡ own place
named_new named maker own m place e = let t : (m == maker) ≡ true = eq-eqb m maker e in rw t refl

named_old : (named : ℕ → ℕ → ℕ) (maker : ℕ) (own : ℕ → ℕ) (m place : ℕ) → m ≢ maker → names_with named maker own m place ≡ named m place
named_old named maker own m place e = let t : (m == maker) ≡ false = ne_eqb m maker e in rw t refl

abbrev held_or_waiting : RegisterCells → List ℕ → ℕ → ℕ
held_or_waiting h waiting place = if nat_lt place first_pending then number_at h place else slice_index waiting (place - first_pending)

own_held : (h : RegisterCells) (waiting : List ℕ) (place : ℕ) → place < first_pending → held_or_waiting h waiting place ≡ number_at h place
own_held h waiting place l = rw (lt-ltb place first_pending l) refl

own_waiting : (h : RegisterCells) (waiting : List ℕ) (q : ℕ) → held_or_waiting h waiting (pending_place q) ≡ slice_index waiting q
own_waiting h waiting q = let same : first_pending + q - first_pending ≡ q = omega arith in rw (le-ltb (first_pending + q) first_pending (omega arith), same) refl

pub trans_le : {a b c : ℕ} → a ≤ b → b ≤ c → a ≤ c
trans_le x y = omega (arith, x, y)

-- ---- edges of the graph
module _ (p : XdpProgram) (u : Unfolded) (k : ℕ) (inside : k < length u.nodes.items) where
  node_same : node_at (graph_of p u).nodes k ≡ node_view (point_at u.nodes.items k)
  node_same = get_or-map node_view u.nodes.items k no_point no_node inside

  known_same : (x : Edge) → x.from ≡ k → feeding.known_on (graph_of p u) (edge_view x) ≡ known_along p u x
  known_same x from = subst (λ (j : ℕ). feeding.known_on (graph_of p u) (record { from = j; taken = x.taken; to = x.to }) ≡ known_behind p (point_at u.nodes.items j) j x.taken (insn_of p (point_at u.nodes.items j))) (sym from)
      (ap (λ (n : NodeView). feeding.known_behind (graph_of p u) (record { from = k; taken = x.taken; to = x.to }) (insn_at p.insns n.place)) node_same ∙ by (insn_of p (point_at u.nodes.items k)))
    where
      by : (o : Option Insn) → feeding.known_behind (graph_of p u) (record { from = k; taken = x.taken; to = x.to }) o ≡ known_behind p (point_at u.nodes.items k) k x.taken o
      by (Some i) = ap (λ (n : NodeView). transferred p.decls n.kinds i k (list_any (λ r. r == n.place) p.refs) x.taken) node_same
      by None = ap (λ (n : NodeView). n.kinds) node_same

  edge_of : (e : Way) → (x : EdgeView) × Contains (graph_of p u).edges x × (x.from ≡ k) × (x.to ≡ e.to) × (e.kinds ≡ feeding.known_on (graph_of p u) x)
      → (x : Edge) × Contains u.edges.items x × (x.from ≡ k) × (x.to ≡ e.to) × (e.kinds ≡ known_along p u x) × Contains (graph_of p u).edges (edge_view x)
  edge_of e x =
      let c : Contains (graph_of p u).edges x.0 = x.1 in
      let l : c.0 < length u.edges.items = omega (arith, c.1, length-map u.edges.items edge_view) in
      let d : Edge = record { from = 0; to = 0; taken = false } in
      let y : Edge = get_or u.edges.items c.0 d in
      let same : edge_view y ≡ x.0 = sym (get_or-map edge_view u.edges.items c.0 d x.0 l) ∙ c.2 in
      let from : y.from ≡ k = ap (λ (z : EdgeView). z.from) same ∙ x.2 in (
        y,
        Contains-get_or u.edges.items c.0 d l,
        from,
        ap (λ (z : EdgeView). z.to) same ∙ x.3,
        x.4 ∙ ap (feeding.known_on (graph_of p u)) (sym same) ∙ known_same y from,
        subst (λ (z : EdgeView). Contains (graph_of p u).edges z) (sym same) x.1,
      )

-- ---- rows there are
abbrev row_with : (ℕ → ℕ) → ℕ → ℕ → ℕ → ℕ
row_with row n v j = if j == n then v else row j

row_here : (row : ℕ → ℕ) (n v : ℕ) → row_with row n v n ≡ v
row_here row n v = let t : (n == n) ≡ true = eq-eqb n n refl in rw t refl

row_before : (row : ℕ → ℕ) (n v j : ℕ) → j < n → row_with row n v j ≡ row j
row_before row n v j l = let t : (j == n) ≡ false = ne_eqb j n (λ e. omega (arith, e, l)) in rw t refl

greatest_before : (row : ℕ → ℕ) (n v : ℕ) (xs : List ℕ) → All (λ j. j < n) xs → greatest (row_with row n v) xs ≡ greatest row xs
greatest_before row n v [] h = refl
greatest_before row n v (x ∷ xs) h =
    let a : row_with row n v x ≡ row x = row_before row n v x (h 0 x (omega arith)) in
    let b : greatest (row_with row n v) xs ≡ greatest row xs = greatest_before row n v xs (λ k d l. h (suc k) d (omega (arith, l))) in
    ap (λ (y : ℕ). max y (greatest (row_with row n v) xs)) a ∙ ap (max (row x)) b

abbrev IsRow : List CellView → (ℕ → ℕ) → ℕ → Type 0
IsRow cells row k = row k ≡ greatest row (cell_at cells k).ins + bit (is_heavy (cell_at cells k).op)

rows_below : (cells : List CellView) → AreFormed cells → (n : ℕ) → n ≤ length cells → (row : ℕ → ℕ) × ((k : ℕ) → k < n → IsRow cells row k)
rows_below cells formed zero l = (λ k. 0, λ k m. absurd (omega (arith, m)))
rows_below cells formed (suc n) l = next (rows_below cells formed n (omega (arith, l)))
  where
    next : (row : ℕ → ℕ) × ((k : ℕ) → k < n → IsRow cells row k) → (row : ℕ → ℕ) × ((k : ℕ) → k < suc n → IsRow cells row k)
    next x = (row_with x.0 n v, λ k m. by k m (cases_lt k n))
      where
        v : ℕ
        v = greatest x.0 (cell_at cells n).ins + bit (is_heavy (cell_at cells n).op)

        small : (k : ℕ) → k < n → All (λ j. j < n) (cell_at cells k).ins
        small k m i d h = let e = (formed.each k (omega (arith, m, l))).earlier i d h in omega (arith, e, m)

        by : (k : ℕ) → k < suc n → (k < n) ⊎ (n ≤ k) → IsRow cells (row_with x.0 n v) k
        by k m (inl h) = row_before x.0 n v k h ∙ x.1 k h ∙ ap (λ (y : ℕ). y + bit (is_heavy (cell_at cells k).op)) (sym (greatest_before x.0 n v (cell_at cells k).ins (small k h)))
        by k m (inr h) =
            let same : n ≡ k = omega (arith, m, h) in
            subst (IsRow cells (row_with x.0 n v)) same (row_here x.0 n v
            ∙ ap (λ (y : ℕ). y + bit (is_heavy (cell_at cells n).op)) (sym (greatest_before x.0 n v (cell_at cells n).ins ((formed.each n (omega (arith, l))).earlier))))

rows_exist : (cells : List CellView) → AreFormed cells → (row : ℕ → ℕ) × AreRows cells row
rows_exist cells formed = let x = rows_below cells formed (length cells) (omega arith) in (x.0, record { each = x.1 })

recorded : (w : Option Record) (s : SiteView) → IsRecord w s → (r : Record) × (w ≡ Some r) × (r.map ≡ s.map)
recorded (Some r) s h = (r, refl, h)
recorded None s h = absurd h

-- ---- a node
module _ (p : XdpProgram) (u : Unfolded) (k : ℕ) (i : Insn) (next jump : Option ℕ) (t mid new q : Progress) (here : Here) (waiting waiting2 : List ℕ) (fit : FitSoFar p u k t)
    (program : IsProgram p) (inside : k < length u.nodes.items) (node : IsNode (graph_of p u) k i (kinds_of u k)) (ends : HasEnds (graph_of p u) k i next jump) (ready : IsReady (graph_of p u) k t) (comes : Comes (graph_of p u) k t mid here waiting)
    (within : ComesWithin p u fit.named k (seen t.made.cells.items) (seen mid.made.cells.items) (pointed mid.made.pointers.items) here.guard here.held waiting)
    (steps : Steps (graph_of p u) k here.guard here.held (seen mid.made.cells.items) (seen new.made.cells.items) (pointed mid.made.pointers.items) (pointed new.made.pointers.items) (sited mid.made.sites.items) (sited new.made.sites.items)
    mid.made.ways.items new.made.ways.items mid.made.exits.items new.made.exits.items)
    (nodes : NodeRows p.decls k (kinds_of u k) here i (is_reference (graph_of p u) k) waiting (made_of mid.made) (made_of new.made)) (leave : Leave (graph_of p u) k nodes.more)
    (grows : Grows (seen new.made.cells.items) (seen q.made.cells.items)) (passes : PassesTo (seen new.made.cells.items) (seen q.made.cells.items) (sited new.made.sites.items) (length (sited t.made.sites.items)) (length (seen t.made.cells.items)) waiting waiting2) where
  rows_new : (row : ℕ → ℕ) → AreRows (seen q.made.cells.items) row → AreRows (seen new.made.cells.items) row
  rows_new row rows = rows_before (λ c j. ⊥) (seen new.made.cells.items) (seen q.made.cells.items) grows row rows

  rows_mid : (row : ℕ → ℕ) → AreRows (seen q.made.cells.items) row → AreRows (seen mid.made.cells.items) row
  rows_mid row rows = nodes.rows row (rows_new row rows)

  rows_old : (row : ℕ → ℕ) → AreRows (seen q.made.cells.items) row → AreRows (seen t.made.cells.items) row
  rows_old row rows = within.rows row (rows_mid row rows)

  stand : (row : ℕ → ℕ) → AreRows (seen q.made.cells.items) row → StandIn p.decls k (kinds_of u k) (node_after p u k i) here i (made_of mid.made) (made_of new.made) nodes.more row (row_at (origins_met p u k))
  stand row rows = nodes.stand row (row_at (origins_met p u k)) (rows_new row rows) (within.before row (rows_mid row rows))

  count_waiting : length waiting ≡ length p.decls
  count_waiting = comes.waiting.0

  sites_mid : length (sited t.made.sites.items) ≡ length (sited mid.made.sites.items)
  sites_mid = ap (λ (ss : Vec Site Global). length (sited ss.items)) (sym comes.sites)

  guard_is : length (sited t.made.sites.items) < length (sited new.made.sites.items) → (site_at (sited new.made.sites.items) (length (sited t.made.sites.items))).guard ≡ here.guard
  guard_is l = site_more (λ s. s.guard ≡ here.guard) (sited mid.made.sites.items) steps.more (sited new.made.sites.items) (length (sited t.made.sites.items)) sites_mid steps.sites_are (λ j d m. (steps.own j d m).1) l

  map_small : length (sited t.made.sites.items) < length (sited new.made.sites.items) → (site_at (sited new.made.sites.items) (length (sited t.made.sites.items))).map < length p.decls
  map_small l = (site_more (FitsMap p.decls) (sited mid.made.sites.items) steps.more (sited new.made.sites.items) (length (sited t.made.sites.items)) sites_mid steps.sites_are steps.fits l).map

  record_is : (row : ℕ → ℕ) → AreRows (seen q.made.cells.items) row → (l : length (sited t.made.sites.items) < length (sited new.made.sites.items)) → records (site_at (sited new.made.sites.items) (length (sited t.made.sites.items))).act ≡ true
      → (r : Record) × (node_write p u k i ≡ Some r) × (r.map ≡ (site_at (sited new.made.sites.items) (length (sited t.made.sites.items))).map)
  record_is row rows l rec = recorded (node_write p u k i) (site_at (sited new.made.sites.items) (length (sited t.made.sites.items)))
      ((stand row rows).writes.write_is (length (sited t.made.sites.items)) (omega (arith, sites_mid)) l rec)

  -- what waits after a write stands in its row
  module _ (row : ℕ → ℕ) (rows : AreRows (seen q.made.cells.items) row) (l : length (sited t.made.sites.items) < length (sited new.made.sites.items))
      (rec : records (site_at (sited new.made.sites.items) (length (sited t.made.sites.items))).act ≡ true) (r : Record) (is : node_write p u k i ≡ Some r) (map_is : r.map ≡ (site_at (sited new.made.sites.items) (length (sited t.made.sites.items))).map) where
    answer_low : cells.written_row (row_at (origins_met p u k)) p.decls (kinds_of u k) (node_after p u k i) i ≤ pending_row (origins_met p u k) r (node_least p u k i)
    answer_low = both _ (ap (taken_row (row_at (origins_met p u k))) is) (by (is_some_place (writes_as (kinds_of u k) i i.op)) (cells.is_some_place (writes_as (kinds_of u k) i i.op)) (same_some (writes_as (kinds_of u k) i i.op)))
      where
        by : (b a : Bool) → a ≡ b → (if a then node_result p u k i else 0) ≤ (if b then max (edge_row (arrivals_at p u k)) (node_result p u k i) else edge_row (arrivals_at p u k))
        by true true e = omega arith
        by true false e = omega arith
        by false true e = cc
        by false false e = omega arith

        both : {a b c d : ℕ} (e : ℕ) → a ≡ b → c ≤ d → max a c ≤ max (max d e) b
        both e x y = omega (arith, x, y)

    reader_low : (c : ℕ) → length (seen t.made.cells.items) ≤ c → c < length (seen new.made.cells.items) → site_in (cell_at (seen new.made.cells.items) c).op ≡ Some (length (sited t.made.sites.items)) → row c ≤ pending_row (origins_met p u k) r (node_least p u k i)
    reader_low c low high reads = by (cases_lt c (length (seen mid.made.cells.items)))
      where
        by : (c < length (seen mid.made.cells.items)) ⊎ (length (seen mid.made.cells.items) ≤ c) → row c ≤ pending_row (origins_met p u k) r (node_least p u k i)
        by (inl m) = absurd (comes.arrives.grows.reads c (length (sited t.made.sites.items)) low m (sym (ap (λ (x : CellView). site_in x.op) (steps.grows.kept c m)) ∙ reads))
        by (inr m) = trans_le ((stand row rows).writes.readers c (length (sited t.made.sites.items)) m high reads rec) answer_low

    before_low : row (slice_index waiting (site_at (sited new.made.sites.items) (length (sited t.made.sites.items))).map) ≤ pending_row (origins_met p u k) r (node_least p u k i)
    before_low =
        let a = (within.before row (rows_mid row rows)).pending (site_at (sited new.made.sites.items) (length (sited t.made.sites.items))).map (omega (arith, map_small l, count_waiting)) in
        let b = ap (λ (m : ℕ). row_at (origins_met p u k) (pending_place m)) (sym map_is) in
        let c = one_row (row_at (origins_met p u k)) (pending_place r.map) in
        middle _ _ a b c
      where
        middle : {a b c d : ℕ} (e f : ℕ) → a ≤ b → b ≡ c → d ≡ c → a ≤ max (max e d) f
        middle e f x y z = omega (arith, x, y, z)

    guard_low : row (site_at (sited new.made.sites.items) (length (sited t.made.sites.items))).guard ≤ pending_row (origins_met p u k) r (node_least p u k i)
    guard_low = first _ _ (ap row (guard_is l)) (within.guard_row row (rows_mid row rows)) (edge_least p u k i inside node)
      where
        first : {a b c d : ℕ} (e f : ℕ) → a ≡ b → b ≤ c → c ≤ d → a ≤ max (max d e) f
        first e f x y z = omega (arith, x, y, z)

    pub waits_low : (c : ℕ) → (w : WaitsFor (seen new.made.cells.items) (seen q.made.cells.items) (site_at (sited new.made.sites.items) (length (sited t.made.sites.items))) (length (sited t.made.sites.items)) (length (seen t.made.cells.items))
        (slice_index waiting (site_at (sited new.made.sites.items) (length (sited t.made.sites.items))).map) c)
        → greatest row (slice_index waiting (site_at (sited new.made.sites.items) (length (sited t.made.sites.items))).map ∷ taken_by (site_at (sited new.made.sites.items) (length (sited t.made.sites.items))) ++ w.readers) ≤ pending_row (origins_met p u k) r (node_least p u k i)
    waits_low c w =
        let s : SiteView = site_at (sited new.made.sites.items) (length (sited t.made.sites.items)) in
        let parts = greatest_append row (s.key ++ s.operands) w.readers in
        let takes = trans_le ((stand row rows).writes.taken (length (sited t.made.sites.items)) (omega (arith, sites_mid)) l rec) answer_low in
        let reads = greatest_all row (pending_row (origins_met p u k) r (node_least p u k i)) w.readers (λ j d m. let x = w.read.only j d m in reader_low (get_or w.readers j d) x.0 (w.read.there j d m) x.1) in
        all_four parts before_low guard_low takes reads
      where
        all_four : {a b c d e n : ℕ} → e ≡ max c d → a ≤ n → b ≤ n → c ≤ n → d ≤ n → max a (max b e) ≤ n
        all_four e x y z v = omega (arith, e, x, y, z, v)

  -- ---- new cells
  new_cell : (row : ℕ → ℕ) → AreRows (seen q.made.cells.items) row → (c : ℕ) → length (seen t.made.cells.items) ≤ c → c < length (seen q.made.cells.items) → row c ≤ (node_behind p u k i).row
  new_cell row rows c low high = by (cases_lt c (length (seen mid.made.cells.items))) (cases_lt c (length (seen new.made.cells.items)))
    where
      leaves : (cells.leaving_row (row_at (origins_met p u k)) (kinds_of u k) i (row here.guard) ≤ leaving_row (origins_met p u k) (kinds_of u k) i (edge_row (arrivals_at p u k))) × (edge_row (arrivals_at p u k) ≤ leaving_row (origins_met p u k) (kinds_of u k) i (edge_row (arrivals_at p u k)))
      leaves = leaving (origins_met p u k) i i.op (row here.guard) (edge_row (arrivals_at p u k)) (decided (kinds_of u k) i) (within.guard_row row (rows_mid row rows))

      at_first : {a b d : ℕ} (c e : ℕ) → a ≤ max b c → b ≤ d → a ≤ max (max d c) e
      at_first c e x y = omega (arith, x, y)

      at_second : {a b c d : ℕ} (e f : ℕ) → a ≤ max b c → b ≤ d → c ≤ max e f → a ≤ max (max d e) f
      at_second e f x y z = omega (arith, x, y, z)

      at_last : {a b c : ℕ} (d e : ℕ) → a ≤ b → b ≤ c → a ≤ max (max d e) c
      at_last d e x y = omega (arith, x, y)

      small : (r : Record) → r.map ≡ (site_at (sited new.made.sites.items) (length (sited t.made.sites.items))).map → length (sited t.made.sites.items) < length (sited new.made.sites.items) → r.map < 16
      small r e l = omega (arith, e, map_small l, program.maps)

      far : (n : ℕ) → n < 16 → first_pending + n < location_count
      far n l = omega (arith, l)

      written : (b : Bool) → records (site_at (sited new.made.sites.items) (length (sited t.made.sites.items))).act ≡ b → length (sited t.made.sites.items) < length (sited new.made.sites.items) → length (seen new.made.cells.items) ≤ c → row c ≤ (node_behind p u k i).row
      written true e l m =
          let w = passes.waits l e in
          let r = record_is row rows l e in
          let a = w.2.rises.grows.each row rows c m high in
          let b = waits_low row rows l e r.0 r.1 r.2 w.0 w.2 in
          let n = small r.0 r.2 l in
          at_last _ _ (trans_le a b) (behind_low p u k i inside node (pending_place r.0.map) (pending_row (origins_met p u k) r.0 (node_least p u k i)) (far r.0.map n)
          (ap row_of (sym (origin_there p u k i (pending_place r.0.map) (far r.0.map n))) ∙ pending_new p u k i inside node r.0 r.1 n))
      written false e l m = absurd (let s = ap length (passes.stays l e).1 in omega (arith, s, m, high))

      by : (c < length (seen mid.made.cells.items)) ⊎ (length (seen mid.made.cells.items) ≤ c) → (c < length (seen new.made.cells.items)) ⊎ (length (seen new.made.cells.items) ≤ c) → row c ≤ (node_behind p u k i).row
      by (inl m) any = at_first _ _ (within.cells row (rows_mid row rows) c low m) leaves.1
      by (inr m) (inl n) = at_second _ _ ((stand row rows).cells c m n) leaves.0 (made_low p u k i inside node)
      by (inr m) (inr n) = behind_all (cases_lt (length (sited t.made.sites.items)) (length (sited new.made.sites.items)))
        where
          behind_all : (length (sited t.made.sites.items) < length (sited new.made.sites.items)) ⊎ (length (sited new.made.sites.items) ≤ length (sited t.made.sites.items)) → row c ≤ (node_behind p u k i).row
          behind_all (inl l) = written (records (site_at (sited new.made.sites.items) (length (sited t.made.sites.items))).act) refl l n
          behind_all (inr l) = absurd (let s = ap length (passes.none l).1 in omega (arith, s, n, high))

  -- ---- what waits
  other_place : (r : Record) → (q' : ℕ) → q' ≡ r.map → pending_place q' ≡ pending_place r.map
  other_place r q' e = ap pending_place e

  -- where it is not noted it stays
  wait_same : (row : ℕ → ℕ) → AreRows (seen q.made.cells.items) row → (j : ℕ) → ((r : Record) → node_write p u k i ≡ Some r → pending_place j ≢ pending_place r.map) → slice_index waiting2 j ≡ slice_index waiting j
  wait_same row rows j none = by (cases_lt (length (sited t.made.sites.items)) (length (sited new.made.sites.items)))
    where
      written : (b : Bool) → records (site_at (sited new.made.sites.items) (length (sited t.made.sites.items))).act ≡ b → length (sited t.made.sites.items) < length (sited new.made.sites.items) → slice_index waiting2 j ≡ slice_index waiting j
      written true e l =
          let w = passes.waits l e in
          let r = record_is row rows l e in
          ap (λ (xs : List ℕ). slice_index xs j) w.1
          ∙ get_or-set_other waiting (site_at (sited new.made.sites.items) (length (sited t.made.sites.items))).map j w.0 0 (λ same. none r.0 r.1 (other_place r.0 j (same ∙ sym r.2)))
      written false e l = ap (λ (xs : List ℕ). slice_index xs j) (passes.stays l e).0

      by : (length (sited t.made.sites.items) < length (sited new.made.sites.items)) ⊎ (length (sited new.made.sites.items) ≤ length (sited t.made.sites.items)) → slice_index waiting2 j ≡ slice_index waiting j
      by (inl l) = written (records (site_at (sited new.made.sites.items) (length (sited t.made.sites.items))).act) refl l
      by (inr l) = ap (λ (xs : List ℕ). slice_index xs j) (passes.none l).0

  old_wait : (row : ℕ → ℕ) → AreRows (seen q.made.cells.items) row → (j : ℕ) → j < length p.decls → row (slice_index waiting j) ≤ row_at (node_behind p u k i).origins.places (pending_place j)
  old_wait row rows j l = trans_le ((within.before row (rows_mid row rows)).pending j (omega (arith, l, count_waiting))) (pending_low p u k i inside node j (omega (arith, l, program.maps)))

  wait_low : (row : ℕ → ℕ) → AreRows (seen q.made.cells.items) row → (j : ℕ) → j < length p.decls → row (slice_index waiting2 j) ≤ row_at (node_behind p u k i).origins.places (pending_place j)
  wait_low row rows j m = by (cases_lt (length (sited t.made.sites.items)) (length (sited new.made.sites.items)))
    where
      same_row : slice_index waiting2 j ≡ slice_index waiting j → row (slice_index waiting2 j) ≤ row_at (node_behind p u k i).origins.places (pending_place j)
      same_row e = subst (λ (c : ℕ). row c ≤ row_at (node_behind p u k i).origins.places (pending_place j)) (sym e) (old_wait row rows j m)

      here_or : (b : Bool) → (j == (site_at (sited new.made.sites.items) (length (sited t.made.sites.items))).map) ≡ b → (l : length (sited t.made.sites.items) < length (sited new.made.sites.items))
          → records (site_at (sited new.made.sites.items) (length (sited t.made.sites.items))).act ≡ true → row (slice_index waiting2 j) ≤ row_at (node_behind p u k i).origins.places (pending_place j)
      here_or true f l e =
          let w = passes.waits l e in
          let r = record_is row rows l e in
          let at : j ≡ r.0.map = eqb-true j (site_at (sited new.made.sites.items) (length (sited t.made.sites.items))).map f ∙ sym r.2 in
          let is : slice_index waiting2 j ≡ w.0 = ap (λ (xs : List ℕ). slice_index xs j) w.1
          ∙ ap (λ (n : ℕ). slice_index (slice_set waiting (site_at (sited new.made.sites.items) (length (sited t.made.sites.items))).map w.0) n) (at ∙ r.2)
          ∙ get_or-set_same waiting (site_at (sited new.made.sites.items) (length (sited t.made.sites.items))).map w.0 0 (inside_waiting l) in
          let low = trans_le (w.2.rises.result row rows) (waits_low row rows l e r.0 r.1 r.2 w.0 w.2) in
          let there = pending_new p u k i inside node r.0 r.1 (small_map r.0 r.2 l) in
          let place = ap (λ (n : ℕ). row_at (node_behind p u k i).origins.places (pending_place n)) at in
          finish (ap row is) low there place
        where
          finish : {a b c d e : ℕ} → a ≡ b → b ≤ c → d ≡ c → e ≡ d → a ≤ e
          finish x y z v = omega (arith, x, y, z, v)

          inside_waiting : length (sited t.made.sites.items) < length (sited new.made.sites.items) → (site_at (sited new.made.sites.items) (length (sited t.made.sites.items))).map < length waiting
          inside_waiting l = omega (arith, map_small l, count_waiting)

          small_map : (r : Record) → r.map ≡ (site_at (sited new.made.sites.items) (length (sited t.made.sites.items))).map → length (sited t.made.sites.items) < length (sited new.made.sites.items) → r.map < 16
          small_map r e l = omega (arith, e, map_small l, program.maps)
      here_or false f l e =
          let w = passes.waits l e in
          same_row (ap (λ (xs : List ℕ). slice_index xs j) w.1 ∙ get_or-set_other waiting (site_at (sited new.made.sites.items) (length (sited t.made.sites.items))).map j w.0 0 (eqb-false j (site_at (sited new.made.sites.items) (length (sited t.made.sites.items))).map f))

      written : (b : Bool) → records (site_at (sited new.made.sites.items) (length (sited t.made.sites.items))).act ≡ b → length (sited t.made.sites.items) < length (sited new.made.sites.items) → row (slice_index waiting2 j) ≤ row_at (node_behind p u k i).origins.places (pending_place j)
      written true e l = here_or (j == (site_at (sited new.made.sites.items) (length (sited t.made.sites.items))).map) refl l e
      written false e l = same_row (ap (λ (xs : List ℕ). slice_index xs j) (passes.stays l e).0)

      by : (length (sited t.made.sites.items) < length (sited new.made.sites.items)) ⊎ (length (sited new.made.sites.items) ≤ length (sited t.made.sites.items)) → row (slice_index waiting2 j) ≤ row_at (node_behind p u k i).origins.places (pending_place j)
      by (inl l) = written (records (site_at (sited new.made.sites.items) (length (sited t.made.sites.items))).act) refl l
      by (inr l) = same_row (ap (λ (xs : List ℕ). slice_index xs j) (passes.none l).0)

  -- ---- an edge that leaves
  module _ (e : Way) (edge : (x : Edge) × Contains u.edges.items x × (x.from ≡ k) × (x.to ≡ e.to) × (e.kinds ≡ known_along p u x) × Contains (graph_of p u).edges (edge_view x)) (held_is_next : e.held ≡ nodes.next) where
    -- where it writes nothing is known of a jump
    kinds_after : (place : ℕ) → list_any (is_in place) (writes_as (kinds_of u k) i i.op) ≡ true → e.kinds ≡ node_after p u k i
    kinds_after place written = edge.4 ∙ sym (known_same p u k inside edge.0 edge.2) ∙ by edge.0.taken refl (ends.all (edge_view edge.0) edge.5 edge.2)
      where
        none : jump ≡ None
        none = not_taken (kinds_of u k) i i.op next jump place (subst (λ (x : Kinds). AreEnds x i i.op next jump) node.kinds_are ends.present) written

        by : (b : Bool) → edge.0.taken ≡ b → end_along next jump edge.0.taken ≡ Some edge.0.to → feeding.known_on (graph_of p u) (edge_view edge.0) ≡ node_after p u k i
        by true f g = absurd (let h : end_along next jump true ≡ Some edge.0.to = ap (end_along next jump) (sym f) ∙ g in let n = none in cc)
        by false f g =
            subst (λ (j : ℕ). feeding.known_on (graph_of p u) (record { from = j; taken = edge.0.taken; to = edge.0.to }) ≡ node_after p u k i) (sym edge.2)
            (ap (λ (b : Bool). feeding.known_on (graph_of p u) (record { from = k; taken = b; to = edge.0.to })) f
            ∙ ap (feeding.known_behind (graph_of p u) (record { from = k; taken = false; to = edge.0.to })) node.insn
            ∙ ap (λ (x : Kinds). transferred p.decls x i k (is_reference (graph_of p u) k) false) node.kinds_are)

    held_within : (row : ℕ → ℕ) (ps : List PointerView) (place : ℕ) → place < first_pending
        → (list_any (is_in place) (writes_as (kinds_of u k) i i.op) ≡ true → held_row row ps e.held e.kinds place ≤ node_result p u k i)
        → (list_any (is_in place) (writes_as (kinds_of u k) i i.op) ≡ false → held_row row ps e.held e.kinds place ≤ row_at (origins_met p u k) place)
        → held_row row ps e.held e.kinds place ≤ row_at (node_behind p u k i).origins.places place
    held_within row ps place l taken stays = by (list_any (is_in place) (writes_as (kinds_of u k) i i.op)) refl (has_data (node_after p u k i) place) refl
      where
        there : get_or (node_behind p u k i).origins.places place None ≡ node_written p u k i place
        there = origin_there p u k i place (omega (arith, l)) ∙ held_is p u k i inside node place l

        below : {a b c : ℕ} → a ≤ b → c ≡ b → a ≤ c
        below x y = omega (arith, x, y)

        zero_low : {a b : ℕ} → a ≡ 0 → a ≤ b
        zero_low x = omega (arith, x)

        by : (a : Bool) → list_any (is_in place) (writes_as (kinds_of u k) i i.op) ≡ a → (b : Bool) → has_data (node_after p u k i) place ≡ b → held_row row ps e.held e.kinds place ≤ row_at (node_behind p u k i).origins.places place
        by true f true g = below (taken f) (ap row_of (there ∙ written_in (node_after p u k i) (writes_as (kinds_of u k) i i.op) (node_own p u k i) (origins_met p u k) place f g))
        by true f false g = zero_low (closed row ps (kind_at e.kinds place) (number_at e.held place)
            (sym (has_open e.kinds place l) ∙ ap (λ (x : Kinds). has_data x place) (kinds_after place f) ∙ g))
        by false f b g = below (stays f) (ap row_of (there ∙ written_not (node_after p u k i) (writes_as (kinds_of u k) i i.op) (node_own p u k i) (origins_met p u k) place f))

    new_brings : (j : ℕ) (d : Way) → j < length nodes.more → get_or nodes.more j d ≡ e → q.made.pointers ≡ new.made.pointers → length waiting2 ≡ length p.decls → AreFormed (seen q.made.cells.items)
        → Brings p u (names_with fit.named (k + 1) (held_or_waiting nodes.next waiting2)) (k + 1) (seen q.made.cells.items) (pointed q.made.pointers.items) e waiting2
    new_brings j d m is pointers_are count formed = record {
      behind = node_behind p u k i;
      stands = inr (edge.0, edge.1, omega (arith, edge.2), edge.3, edge.4, sym (behind_is p u k i inside node) ∙ ap (behind_at p u) (sym edge.2));
      names = record { held = held_names; pending = pending_names };
      within = λ row rows. record {
        bit = let s = subst (λ (x : Way). row x.bit ≤ cells.leaving_row (row_at (origins_met p u k)) (kinds_of u k) i (row here.guard)) is ((stand row rows).bits j d m) in
            trans_le s (leaving (origins_met p u k) i i.op (row here.guard) (edge_row (arrivals_at p u k)) (decided (kinds_of u k) i) (within.guard_row row (rows_mid row rows))).0;
        held = λ place l. subst (λ (ps : Vec Pointer Global). held_row row (pointed ps.items) e.held e.kinds place ≤ row_at (node_behind p u k i).origins.places place) (sym pointers_are)
            (held_within row (pointed new.made.pointers.items) place l
            (λ f. subst (λ (x : Way). held_row row (pointed new.made.pointers.items) x.held x.kinds place ≤ node_result p u k i) is ((stand row rows).written place l f j d m))
            (λ f. subst (λ (x : Way). held_row row (pointed new.made.pointers.items) x.held x.kinds place ≤ row_at (origins_met p u k) place) is ((stand row rows).kept place l f j d m)));
        pending = λ n l. wait_low row rows n (omega (arith, l, count));
      };
    }
      where
        named2 : ℕ → ℕ → ℕ
        named2 = names_with fit.named (k + 1) (held_or_waiting nodes.next waiting2)

        more_than : (a : ℕ) → a ≤ k → (a ≤ k + 1) × (a ≢ k + 1)
        more_than a l = (omega (arith, l), λ f. omega (arith, l, f))

        exactly : (a : ℕ) → a ≡ k + 1 → a ≤ k + 1
        exactly a f = omega (arith, f)

        held_names : (place : ℕ) (o : Origin) → place < first_pending → get_or (node_behind p u k i).origins.places place None ≡ Some o
            → (o.maker ≤ k + 1) × (number_at e.held place ≡ names_with fit.named (k + 1) (held_or_waiting nodes.next waiting2) o.maker place)
        held_names place o l h = by (written_cases (node_after p u k i) (writes_as (kinds_of u k) i i.op) (node_own p u k i) (origins_met p u k) place o
            (sym (origin_there p u k i place (omega (arith, l)) ∙ held_is p u k i inside node place l) ∙ h))
          where
            own : o.maker ≡ k + 1 → (o.maker ≤ k + 1) × (number_at e.held place ≡ names_with fit.named (k + 1) (held_or_waiting nodes.next waiting2) o.maker place)
            own f = (exactly o.maker f, ap (λ (x : RegisterCells). number_at x place) held_is_next ∙ sym (own_held nodes.next waiting2 place l) ∙ sym (named_new fit.named (k + 1) (held_or_waiting nodes.next waiting2) o.maker place f))

            old : list_any (is_in place) (writes_as (kinds_of u k) i i.op) ≡ false → (o.maker ≡ k + 1) ⊎ ((o.maker ≤ k) × (number_at here.held place ≡ fit.named o.maker place))
                → (o.maker ≤ k + 1) × (number_at e.held place ≡ names_with fit.named (k + 1) (held_or_waiting nodes.next waiting2) o.maker place)
            old f (inl g) = own g
            old f (inr x) = let n = more_than o.maker x.0 in
                (n.0, ap (λ (y : RegisterCells). number_at y place) held_is_next ∙ nodes.same place l f ∙ x.1 ∙ sym (named_old fit.named (k + 1) (held_or_waiting nodes.next waiting2) o.maker place n.1))

            by : (o.maker ≡ k + 1) ⊎ ((list_any (is_in place) (writes_as (kinds_of u k) i i.op) ≡ false) × (get_or (origins_met p u k) place None ≡ Some o))
                → (o.maker ≤ k + 1) × (number_at e.held place ≡ names_with fit.named (k + 1) (held_or_waiting nodes.next waiting2) o.maker place)
            by (inl f) = own f
            by (inr x) = old x.0 (within.held place o l x.1)

        pending_names : (n : ℕ) (o : Origin) → n < length waiting2 → get_or (node_behind p u k i).origins.places (pending_place n) None ≡ Some o
            → (o.maker ≤ k + 1) × (slice_index waiting2 n ≡ names_with fit.named (k + 1) (held_or_waiting nodes.next waiting2) o.maker (pending_place n))
        pending_names n o l h = by (noted_cases (origins_met p u k) (k + 1) (node_least p u k i) (pending_place n) (node_written p u k i (pending_place n)) (node_write p u k i) o (sym (origin_there p u k i (pending_place n) low) ∙ h))
          where
            low : first_pending + n < location_count
            low = omega (arith, l, count, program.maps)

            far : first_pending ≤ first_pending + n
            far = omega arith

            own : o.maker ≡ k + 1 → (o.maker ≤ k + 1) × (slice_index waiting2 n ≡ names_with fit.named (k + 1) (held_or_waiting nodes.next waiting2) o.maker (pending_place n))
            own f = (exactly o.maker f, sym (own_waiting nodes.next waiting2 n) ∙ sym (named_new fit.named (k + 1) (held_or_waiting nodes.next waiting2) o.maker (pending_place n) f))

            old : ((r : Record) → node_write p u k i ≡ Some r → pending_place n ≢ pending_place r.map) → (o.maker ≡ k + 1) ⊎ ((o.maker ≤ k) × (slice_index waiting n ≡ fit.named o.maker (pending_place n)))
                → (o.maker ≤ k + 1) × (slice_index waiting2 n ≡ names_with fit.named (k + 1) (held_or_waiting nodes.next waiting2) o.maker (pending_place n))
            old f (inl g) = own g
            old f (inr x) =
                let m = more_than o.maker x.0 in
                let rows = rows_exist (seen q.made.cells.items) formed in
                (m.0, wait_same rows.0 rows.1 n f ∙ x.1 ∙ sym (named_old fit.named (k + 1) (held_or_waiting nodes.next waiting2) o.maker (pending_place n) m.1))

            by : (o.maker ≡ k + 1) ⊎ ((node_written p u k i (pending_place n) ≡ Some o) × ((r : Record) → node_write p u k i ≡ Some r → pending_place n ≢ pending_place r.map))
                → (o.maker ≤ k + 1) × (slice_index waiting2 n ≡ names_with fit.named (k + 1) (held_or_waiting nodes.next waiting2) o.maker (pending_place n))
            by (inl f) = own f
            by (inr x) = old x.1 (within.pending n o (omega (arith, l, count, count_waiting))
                (sym (written_not (node_after p u k i) (writes_as (kinds_of u k) i i.op) (node_own p u k i) (origins_met p u k) (pending_place n) (not_written p u k i inside node (pending_place n) far)) ∙ x.0))

  -- ---- an edge that was there
  extends_all : q.made.pointers ≡ new.made.pointers → Extends (pointed t.made.pointers.items) (pointed q.made.pointers.items)
  extends_all e = subst (λ (ps : Vec Pointer Global). Extends (pointed t.made.pointers.items) (pointed ps.items)) (sym e) (extended comes.arrives.extends (record { more = steps.more_pointers; is = steps.pointers_are }))

  old_brings : q.made.pointers ≡ new.made.pointers → (j : ℕ) (d : Way) → j < length t.made.ways.items
      → Brings p u (names_with fit.named (k + 1) (held_or_waiting nodes.next waiting2)) (k + 1) (seen q.made.cells.items) (pointed q.made.pointers.items) (get_or t.made.ways.items j d) (get_or (pending_of t) j [])
  old_brings pointers_are j d m = record {
    behind = b.behind;
    stands = stands b.stands;
    names = record {
      held = λ place o l h. let n = b.names.held place o l h in let x = more_than o.maker n.0 in (x.0, n.1 ∙ sym (named_old fit.named (k + 1) (held_or_waiting nodes.next waiting2) o.maker place x.1));
      pending = λ r o l h. let n = b.names.pending r o l h in let x = more_than o.maker n.0 in (x.0, n.1 ∙ sym (named_old fit.named (k + 1) (held_or_waiting nodes.next waiting2) o.maker (pending_place r) x.1));
    };
    within = λ row rows. let s = b.within row (rows_old row rows) in record {
      bit = s.bit;
      held = λ place l. subst (λ (n : ℕ). n ≤ row_at b.behind.origins.places place)
          (sym (held_more row p.decls (length (seen t.made.cells.items)) (pointed t.made.pointers.items) (pointed q.made.pointers.items) (get_or t.made.ways.items j d).held (get_or t.made.ways.items j d).kinds place (extends_all pointers_are) (ready.so_far.made.each_way j d m).1)) (s.held place l);
      pending = s.pending;
    };
  }
    where
      b : Brings p u fit.named k (seen t.made.cells.items) (pointed t.made.pointers.items) (get_or t.made.ways.items j d) (get_or (pending_of t) j [])
      b = fit.ways j d m

      more_than : (a : ℕ) → a ≤ k → (a ≤ k + 1) × (a ≢ k + 1)
      more_than a l = (omega (arith, l), λ f. omega (arith, l, f))

      stands : StandsBehind p u k (get_or t.made.ways.items j d) b.behind → StandsBehind p u (k + 1) (get_or t.made.ways.items j d) b.behind
      stands (inl x) = inl x
      stands (inr x) = inr (x.0, x.1, omega (arith, x.2), x.3, x.4, x.5)

  -- ---- all of it
  count_after : length waiting2 ≡ length p.decls
  count_after = by (cases_lt (length (sited t.made.sites.items)) (length (sited new.made.sites.items)))
    where
      written : (b : Bool) → records (site_at (sited new.made.sites.items) (length (sited t.made.sites.items))).act ≡ b → length (sited t.made.sites.items) < length (sited new.made.sites.items) → length waiting2 ≡ length p.decls
      written true e l = let w = passes.waits l e in ap length w.1 ∙ length-set waiting (site_at (sited new.made.sites.items) (length (sited t.made.sites.items))).map w.0 ∙ count_waiting
      written false e l = ap length (passes.stays l e).0 ∙ count_waiting

      by : (length (sited t.made.sites.items) < length (sited new.made.sites.items)) ⊎ (length (sited new.made.sites.items) ≤ length (sited t.made.sites.items)) → length waiting2 ≡ length p.decls
      by (inl l) = written (records (site_at (sited new.made.sites.items) (length (sited t.made.sites.items))).act) refl l
      by (inr l) = ap length (passes.none l).0 ∙ count_waiting

  formed_after : AreFormed (seen q.made.cells.items)
  formed_after = grows.formed (steps.grows.formed (comes.arrives.grows.formed ready.so_far.formed))

  all_ways : q.made.pointers ≡ new.made.pointers → q.made.ways ≡ new.made.ways → pending_of q ≡ pending_of t ++ replicate (length nodes.more) waiting2 → (j : ℕ) (d : Way) → j < length q.made.ways.items
      → Brings p u (names_with fit.named (k + 1) (held_or_waiting nodes.next waiting2)) (k + 1) (seen q.made.cells.items) (pointed q.made.pointers.items) (get_or q.made.ways.items j d) (get_or (pending_of q) j [])
  all_ways pointers_are ways_are pending_are j d l = by (cases_lt j (length t.made.ways.items))
    where
      ways_all : q.made.ways.items ≡ t.made.ways.items ++ nodes.more
      ways_all = ap (λ (ws : Vec Way Global). ws.items) ways_are ∙ nodes.ways_are ∙ ap (λ (ws : Vec Way Global). ws.items ++ nodes.more) comes.ways

      count : length (pending_of t) ≡ length t.made.ways.items
      count = ready.kept.beside ∙ count_targets t.made.ways.items

      there : (e f : Way) (r s : List ℕ) → e ≡ f → r ≡ s → Brings p u (names_with fit.named (k + 1) (held_or_waiting nodes.next waiting2)) (k + 1) (seen q.made.cells.items) (pointed q.made.pointers.items) f s
          → Brings p u (names_with fit.named (k + 1) (held_or_waiting nodes.next waiting2)) (k + 1) (seen q.made.cells.items) (pointed q.made.pointers.items) e r
      there e f r s a b x = rw (a, b) x

      by : (j < length t.made.ways.items) ⊎ (length t.made.ways.items ≤ j) → Brings p u (names_with fit.named (k + 1) (held_or_waiting nodes.next waiting2)) (k + 1) (seen q.made.cells.items) (pointed q.made.pointers.items) (get_or q.made.ways.items j d) (get_or (pending_of q) j [])
      by (inl m) = there _ (get_or t.made.ways.items j d) _ (get_or (pending_of t) j [])
          (ap (λ (ws : List Way). get_or ws j d) ways_all ∙ get_or-append t.made.ways.items nodes.more d j m)
          (ap (λ (rs : List (List ℕ)). get_or rs j []) pending_are ∙ get_or-append (pending_of t) (replicate (length nodes.more) waiting2) [] j (omega (arith, m, count)))
          (old_brings pointers_are j d m)
      by (inr m) =
          let n : j - length t.made.ways.items < length nodes.more = (let e = ap length ways_all in omega (arith, l, m, e, length-append t.made.ways.items nodes.more)) in
          let e : Way = get_or nodes.more (j - length t.made.ways.items) d in
          there _ e _ waiting2
          (ap (λ (ws : List Way). get_or ws j d) ways_all ∙ get_or-append_right t.made.ways.items nodes.more j d m)
          (ap (λ (rs : List (List ℕ)). get_or rs j []) pending_are ∙ get_or-append_right (pending_of t) (replicate (length nodes.more) waiting2) j [] (omega (arith, m, count))
          ∙ get_or-replicate (length nodes.more) (j - length (pending_of t)) waiting2 [] (omega (arith, n, m, count)))
          (new_brings e (edge_of p u k inside e (leave.each (j - length t.made.ways.items) d n)) (nodes.held (j - length t.made.ways.items) d n) (j - length t.made.ways.items) d n refl pointers_are count_after formed_after)

  all_nodes : q.nodes.items ≡ t.nodes.items ++ made_next (graph_of p u) k here.guard (seen t.made.cells.items) (seen q.made.cells.items) ∷ [] → (row : ℕ → ℕ) → AreRows (seen q.made.cells.items) row → (j : ℕ) → j < k + 1
      → node_row row (made_at q.nodes.items j) ≤ row_of_node p u.nodes.items u.edges.items j
  all_nodes nodes_are row rows j l = by (cases_lt j k)
    where
      last : Node
      last = made_next (graph_of p u) k here.guard (seen t.made.cells.items) (seen q.made.cells.items)

      count : length t.nodes.items ≡ k
      count = ready.so_far.laid.count

      longer : length (seen t.made.cells.items) ≤ length (seen q.made.cells.items)
      longer = omega (arith, comes.arrives.grows.longer, steps.grows.longer, grows.longer)

      own : node_row row (made_next (graph_of p u) k here.guard (seen t.made.cells.items) (seen q.made.cells.items)) ≤ row_of_node p u.nodes.items u.edges.items k
      own = subst (λ (b : AfterNode). node_row row (made_next (graph_of p u) k here.guard (seen t.made.cells.items) (seen q.made.cells.items)) ≤ b.row) (sym (behind_is p u k i inside node))
          (greatest_within row (node_behind p u k i).row (length (seen t.made.cells.items)) (length (seen q.made.cells.items) - length (seen t.made.cells.items)) (λ c low high. new_cell row rows c low (omega (arith, high, longer))))

      by : (j < k) ⊎ (k ≤ j) → node_row row (made_at q.nodes.items j) ≤ row_of_node p u.nodes.items u.edges.items j
      by (inl m) = subst (λ (n : Node). node_row row n ≤ row_of_node p u.nodes.items u.edges.items j)
          (sym (ap (λ (ns : List Node). made_at ns j) nodes_are ∙ get_or-append t.nodes.items (made_next (graph_of p u) k here.guard (seen t.made.cells.items) (seen q.made.cells.items) ∷ []) no_made j (omega (arith, m, count))))
          (fit.nodes row (rows_old row rows) j m)
      by (inr m) =
          let same : k ≡ j = omega (arith, l, m) in
          subst (λ (n : ℕ). node_row row (made_at q.nodes.items n) ≤ row_of_node p u.nodes.items u.edges.items n) same
          (subst (λ (n : Node). node_row row n ≤ row_of_node p u.nodes.items u.edges.items k)
          (sym (ap (λ (ns : List Node). made_at ns k) nodes_are
          ∙ ap (λ (n : ℕ). made_at (t.nodes.items ++ made_next (graph_of p u) k here.guard (seen t.made.cells.items) (seen q.made.cells.items) ∷ []) n) (sym count)
          ∙ get_or-append_seam t.nodes.items (made_next (graph_of p u) k here.guard (seen t.made.cells.items) (seen q.made.cells.items)) [] no_made))
          own)

  -- ---- sites that may write
  -- a node adds one site at most
  abbrev AddsOne : List SiteView → List SiteView → Type 0
  AddsOne old new = (new ≡ old) ⊎ ((s : SiteView) × (new ≡ old ++ s ∷ []))

  adds_one : NodePoints p.decls i waiting (kinds_of u k) here (made_of mid.made) (made_of new.made) → AddsOne (sited mid.made.sites.items) (sited new.made.sites.items)
  adds_one (inl along) = elim along.points [
    | inl plain ↦ inl plain.sites_are
    | inr operation ↦ inr (operation.2.site, operation.2.sites_are)
  ]
  adds_one (inr jump) = inl jump.sites_are

  count_more : (sites : List SiteView) (s : SiteView) (n : ℕ) → record_count sites ≤ n → record_count (sites ++ s ∷ []) ≤ n + bit (records s.act)
  count_more sites s n h = by (records s.act) refl (sum_by-append (λ r. cond (records r.act) 1 0) sites (s ∷ []))
    where
      by : (b : Bool) → records s.act ≡ b → record_count (sites ++ s ∷ []) ≡ record_count sites + record_count (s ∷ []) → record_count (sites ++ s ∷ []) ≤ n + bit b
      by true e sum = let one : record_count (s ∷ []) ≡ 1 = rw e refl in omega (arith, h, sum, one)
      by false e sum = let one : record_count (s ∷ []) ≡ 0 = rw e refl in omega (arith, h, sum, one)

  -- as many nodes are counted with node k
  writes_here : Bool
  writes_here = may_write p (point_at u.nodes.items k) (insn_of p (point_at u.nodes.items k))

  nodes_more : writing_nodes p u (k + 1) ≡ writing_nodes p u k + bit writes_here
  unfolding writes_here
  nodes_more = by (may_write p (point_at u.nodes.items k) (insn_of p (point_at u.nodes.items k))) refl
    where
      by : (b : Bool) → may_write p (point_at u.nodes.items k) (insn_of p (point_at u.nodes.items k)) ≡ b → writing_nodes p u (k + 1) ≡ writing_nodes p u k + bit b
      by true e = count_by_more_yes (λ at. may_write p at (insn_of p at)) u.nodes.items k no_point inside e
      by false e = let same = count_by_more_no (λ at. may_write p at (insn_of p at)) u.nodes.items k no_point inside e in omega (arith, same)

  site_writes : NodePoints p.decls i waiting (kinds_of u k) here (made_of mid.made) (made_of new.made) → (s : SiteView) → sited new.made.sites.items ≡ sited mid.made.sites.items ++ s ∷ [] → records s.act ≡ true → writes_here ≡ true
  unfolding writes_here
  site_writes points s is writes =
      let rows = rows_exist (seen q.made.cells.items) formed_after in
      let last : site_at (sited new.made.sites.items) (length (sited t.made.sites.items)) ≡ s = ap (λ (ss : List SiteView). site_at ss (length (sited t.made.sites.items))) is
      ∙ ap (λ (n : ℕ). site_at (sited mid.made.sites.items ++ s ∷ []) n) sites_mid ∙ get_or-append_seam (sited mid.made.sites.items) s [] no_site in
      let there : length (sited t.made.sites.items) < length (sited new.made.sites.items) = (let e = ap length is in omega (arith, e, sites_mid, length-append (sited mid.made.sites.items) (s ∷ []))) in
      let r = record_is rows.0 rows.1 there (ap (λ (x : SiteView). records x.act) last ∙ writes) in
      ap (may_write p (point_at u.nodes.items k)) (insn_is p u k i inside node) ∙ ap is_some r.1

  all_records : NodePoints p.decls i waiting (kinds_of u k) here (made_of mid.made) (made_of new.made) → q.made.sites ≡ new.made.sites → record_count (sited q.made.sites.items) ≤ writing_nodes p u (k + 1)
  all_records points sites_are = subst (λ (ss : List SiteView). record_count ss ≤ writing_nodes p u (k + 1)) (sym (ap (λ (ss : Vec Site Global). sited ss.items) sites_are)) (by (adds_one points))
    where
      before : record_count (sited mid.made.sites.items) ≤ writing_nodes p u k
      before = subst (λ (ss : Vec Site Global). record_count (sited ss.items) ≤ writing_nodes p u k) (sym comes.sites) fit.records

      low : (s : SiteView) → (records s.act ≡ true → writes_here ≡ true) → bit (records s.act) ≤ bit writes_here
      low s h = both (records s.act) writes_here h
        where
          both : (a c : Bool) → (a ≡ true → c ≡ true) → bit a ≤ bit c
          both true true h = omega arith
          both true false h = absurd (let x = h refl in cc)
          both false c h = omega arith

      by : AddsOne (sited mid.made.sites.items) (sited new.made.sites.items) → record_count (sited new.made.sites.items) ≤ writing_nodes p u (k + 1)
      by (inl same) = subst (λ (ss : List SiteView). record_count ss ≤ writing_nodes p u (k + 1)) (sym same) (omega (arith, before, nodes_more))
      by (inr more) = subst (λ (ss : List SiteView). record_count ss ≤ writing_nodes p u (k + 1)) (sym more.1)
          (let a = count_more (sited mid.made.sites.items) more.0 (writing_nodes p u k) before in let b = low more.0 (site_writes points more.0 more.1) in omega (arith, a, b, nodes_more))

pub nodes_fit : NodesFit
nodes_fit p u k i next jump t mid new q here waiting waiting2 fit program unfolded inside node ends ready comes within steps nodes leave grows passes pointers_are ways_are pending_are nodes_are points sites_are = record {
  named = names_with fit.named (k + 1) (held_or_waiting nodes.next waiting2);
  records = all_records p u k i next jump t mid new q here waiting waiting2 fit program inside node ends ready comes within steps nodes leave grows passes points sites_are;
  nodes = all_nodes p u k i next jump t mid new q here waiting waiting2 fit program inside node ends ready comes within steps nodes leave grows passes nodes_are;
  ways = all_ways p u k i next jump t mid new q here waiting waiting2 fit program inside node ends ready comes within steps nodes leave grows passes pointers_are ways_are pending_are;
}
