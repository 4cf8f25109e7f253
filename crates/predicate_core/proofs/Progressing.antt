-- Programs in memory, one node after another.
use Rattle.std.proofs.Common.{Global, Vec, ◌≡◌, ℕ, zero, suc, ◌+◌, ◌-◌, ◌<◌, ◌≤◌, List, [], ◌∷◌, ◌++◌, length, length-append, get_or, take, replicate, map, sym, ◌∙◌, ap, subst, arith}
use Rattle.std.specs.Prelude.{slice_index_or, All, Option, Some, None, IfSome}
use Rattle.std.proofs.Math.Seq.{take-append_seam, get_or-append_right}
use Rattle.std.proofs.lemmas.List.{length-map, length-replicate, get_or-map, map-append}
use Rattle.std.proofs.lemmas.List.Elements.{All-append, All-contains, All-head, All-map, All-replicate, All-tail, All-weaker}
use Rattle.smallvec.specs.declared.small_vec.SmallVec.{SmallVec}
use Rattle.xdp_machine.specs.xdp_maps.declared.decl.MapDecl.{MapDecl}
use Rattle.xdp_machine.specs.bpf_isa.declared.instruction.Insn.{Insn}
use Rattle.xdp_machine.specs.bpf_isa.Spelling.{IsInsn}
use Rattle.xdp_machine.specs.bpf_isa.Text.{insn_at}
use Rattle.xdp_machine.proofs.bpf_isa_laws.LaidLaws.{legal_at}
use Rattle.unfold_core.specs.Units.{ArePlaces}
use Rattle.xdp_machine.specs.Program.{XdpProgram, IsDeclaration}
use Rattle.kind_core.specs.Kinds.{key_bytes}
use Rattle.kind_core.specs.declared.kind.Kinds.{Kinds}
use Rattle.unfold_core.specs.declared.edges.Point.{Point}
use Rattle.unfold_core.specs.declared.unfolding.Unfolded.{Unfolded}
use Rattle.cell_core.specs.declared.program.Node.{Node}
use Rattle.cell_core.specs.declared.site.Site.{Site}
use Rattle.cell_core.specs.Cells.{CellView}
use Rattle.cell_core.specs.Sites.{SiteView, no_site, site_at}
use Rattle.cell_core.specs.View.{site_of}
use Rattle.operator_cells.specs.Making.{seen, Grows, GrowsWith}
use Rattle.operator_cells.specs.declared.held_cells.way.Way.{Way}
use Rattle.operator_cells.specs.declared.held_cells.way.Exit.{Exit}
use Rattle.operator_cells.specs.HeldCells.Paths.{GraphView, no_node, node_at}
use Rattle.operator_cells.specs.HeldCells.RegisterCells.{PointerView, pointed, AreInside}
use Rattle.operator_cells.specs.HeldCells.Steps.{AreMade, Steps}
use Rattle.edge_cells.specs.declared.joining.Here.{Here}
use Rattle.edge_cells.specs.Joining.{LeadTo}
use Rattle.edge_cells.specs.Meeting.{AreWays, Extends}
use Rattle.edge_cells.specs.Widening.{AreWider}
use Rattle.edge_cells.proofs.ExtendingLaws.{inside_later}
use Rattle.edge_cells.specs.NodeCells.Ends.{IsNode}
use Rattle.edge_cells.specs.NodeCells.Feeding.{known_on, Leave}
use Rattle.site_cells.specs.Sited.{sited}
use Rattle.predicate_core.specs.ProgramGraph.Graphs.{node_view, graph_of}
use Rattle.predicate_core.specs.ProgramGraph.Nodes.{HasInsn}
use Rattle.predicate_core.specs.ProgramGraph.Sound.{IsSoundGraph}
use Rattle.predicate_core.specs.declared.making.Progress.{Progress}
use Rattle.predicate_core.specs.Feeding.{AreFed, FeedsNodes}
use Rattle.predicate_core.specs.Laws.{NodesFollow, StepsStay, made_next}
use Rattle.predicate_core.specs.Making.{IsSoFar}
use Rattle.predicate_core.specs.Opening.{HaveBytes}
use Rattle.predicate_core.specs.Progress.{making_of, entries_of, pending_of, targets, AreNumbers, AreWaiting, AreKept, IsReady, Comes, Entered}
use Rattle.predicate_core.proofs.Staying.{made_later}
use Rattle.predicate_core.proofs.Arrived.{lead_each, lead_wider, lead_some}
use Rattle.predicate_core.proofs.Numbered.{target_at, count_targets}

-- ---- at a node whose turn it is

pub node_is : (p : XdpProgram) (u : Unfolded) (k : ℕ) (r : Point) → k < length u.nodes.items → r ≡ get_or u.nodes.items k r → node_at (graph_of p u).nodes k ≡ node_view r
node_is p u k r l e = get_or-map node_view u.nodes.items k r no_node l ∙ ap node_view (sym e)

pub row_is : {X : Type 0} (f : X → List ℕ) (xs : List X) (k : ℕ) (r : X) (row : List ℕ) → row ≡ f r → r ≡ get_or xs k r → k < length xs → row ≡ get_or (map f xs) k []
row_is f xs k r row is e l = is ∙ ap f e ∙ sym (get_or-map f xs k r [] l)

pub entry_count : (g : GraphView) (k : ℕ) (p : Progress) → IsReady g k p → length p.entries.items ≡ length g.nodes
entry_count g k p ready = sym (length-map p.entries.items (λ x. x.items)) ∙ ready.kept.size

pub numbers_inside : (g : GraphView) (k : ℕ) (p : Progress) → IsReady g k p → k < length g.nodes → All (λ i. i < length p.made.ways.items) (get_or (entries_of p) k [])
numbers_inside g k p ready l i d b = let x = (ready.kept.entered k l).each i d b in omega (arith, x.0, count_targets p.made.ways.items)

pub numbers_some : (g : GraphView) (k : ℕ) (p : Progress) → FeedsNodes g → IsReady g k p → k < length g.nodes → 1 ≤ length (get_or (entries_of p) k [])
numbers_some g k p feeds ready l =
    let e = (feeds.here k p.made.ways.items l ready.fed).0 in
    let x = (ready.kept.entered k l).all e.1.0 (omega (arith, e.1.1, count_targets p.made.ways.items)) (target_at p.made.ways.items e.1.0 e.0 e.1.1 ∙ ap (λ (y : Way). y.to) e.1.2 ∙ e.2) in
    omega (arith, x.1)

pub leads_at : (g : GraphView) (k : ℕ) (p : Progress) (ws here : List Way) (ns : List ℕ) → IsReady g k p → k < length g.nodes → ws ≡ p.made.ways.items → ns ≡ get_or (entries_of p) k []
    → ((n : ℕ) → AreNumbers n (targets ws) ns → LeadTo n ws here) → LeadTo k p.made.ways.items here
leads_at g k p ws here ns ready l ways_are numbers_are leads =
    subst (λ (xs : List Way). LeadTo k xs here) ways_are (leads k (subst (λ (xs : List Way). AreNumbers k (targets xs) ns) (sym ways_are)
    (subst (AreNumbers k (targets p.made.ways.items)) (sym numbers_are) (ready.kept.entered k l))))

-- ---- after it

waiting_later : (maps n m : ℕ) (rows : List (List ℕ)) → n ≤ m → All (AreWaiting maps n) rows → All (AreWaiting maps m) rows
waiting_later maps n m rows l = All-weaker (AreWaiting maps n) (AreWaiting maps m) (λ row x. (x.0, All-weaker (λ c. c < n) (λ c. c < m) (λ c h. omega (arith, h, l)) row x.1)) rows

pub bytes_behind : (R : ℕ → ℕ → Type 0) (a b : List CellView) (n : ℕ) (window : List ℕ) → GrowsWith R a b → HaveBytes a n window → HaveBytes b n window
bytes_behind R a b n window g h = record { there = λ i l. omega (arith, h.there i l, g.longer); value = λ packet v i l run short. h.value packet v i l (g.run packet v run) short }

pub kept_more : (nodes maps n m : ℕ) (tos more tos2 : List ℕ) (e0 e1 p0 p1 : List (List ℕ)) (row : List ℕ) → n ≤ m → tos2 ≡ tos ++ more → All (λ t. t < nodes) more → AreKept nodes maps n tos e0 p0
    → Entered (take (length p0) tos2) tos2 e0 e1 p0 p1 row → AreWaiting maps m row → AreKept nodes maps m tos2 e1 p1
kept_more nodes maps n m tos more tos2 e0 e1 p0 p1 row low is high kept entered waits = record {
  size = entered.size ∙ kept.size;
  inside = subst (All (λ t. t < nodes)) (sym is) (All-append (λ t. t < nodes) tos more kept.inside high);
  entered = λ k l. entered.entered k (omega (arith, l, kept.size)) (subst (λ (xs : List ℕ). AreNumbers k xs (get_or e0 k [])) (sym first) (kept.entered k l));
  beside = ap length entered.beside ∙ length-append p0 (replicate (length tos2 - length (take (length p0) tos2)) row) ∙ ap (λ (j : ℕ). length p0 + j) (length-replicate (length tos2 - length (take (length p0) tos2)) row)
      ∙ (let a = ap length first in let b = ap length is in omega (arith, a, b, kept.beside, length-append tos more));
  waiting = subst (All (AreWaiting maps m)) (sym entered.beside) (All-append (AreWaiting maps m) p0 (replicate (length tos2 - length (take (length p0) tos2)) row) (waiting_later maps n m p0 low kept.waiting)
      (All-replicate (AreWaiting maps m) (length tos2 - length (take (length p0) tos2)) row waits));
}
  where
    first : take (length p0) tos2 ≡ tos
    first = ap (λ (xs : List ℕ). take (length p0) xs) is ∙ ap (λ (j : ℕ). take j (tos ++ more)) kept.beside ∙ take-append_seam tos more

pub leave_inside : (g : GraphView) (k : ℕ) (more : List Way) → IsSoundGraph g → Leave g k more → All (λ e. e.to < length g.nodes) more
leave_inside g k more sound leave i d l =
    let x = leave.each i d l in
    let y = All-contains (λ e. (e.from < e.to) × (e.to < length g.nodes) × AreWider (node_at g.nodes e.to).kinds (known_on g e)) g.edges x.0 sound.edges x.1 in
    omega (arith, y.1, x.3)

made_extended : (g : GraphView) (a b : List CellView) (ps qs : List PointerView) (ways : List Way) (exits : List Exit) → length a ≤ length b → Extends ps qs → AreMade g a ps ways exits → AreMade g b qs ways exits
made_extended g a b ps qs ways exits low more made = record {
  each_way = λ i d l. let x = made.each_way i d l in (omega (arith, x.0, low), inside_later g.decls (length a) (length b) ps qs (get_or ways i d).held (get_or ways i d).kinds low more x.1);
  each_exit = (made_later g a b ps ways exits low made).each_exit;
}

-- what has been made where a node's guard stands
pub made_there : (g : GraphView) (k : ℕ) (p mid : Progress) (here : Here) (row : List ℕ) → IsReady g k p → Comes g k p mid here row
    → AreMade g (seen mid.made.cells.items) (pointed mid.made.pointers.items) mid.made.ways.items mid.made.exits.items
made_there g k p mid here row ready comes =
    subst (λ (ws : Vec Way Global). AreMade g (seen mid.made.cells.items) (pointed mid.made.pointers.items) ws.items mid.made.exits.items) (sym comes.ways)
    (subst (λ (xs : Vec Exit Global). AreMade g (seen mid.made.cells.items) (pointed mid.made.pointers.items) p.made.ways.items xs.items) (sym comes.exits)
    (made_extended g (seen p.made.cells.items) (seen mid.made.cells.items) (pointed p.made.pointers.items) (pointed mid.made.pointers.items) p.made.ways.items p.made.exits.items comes.arrives.grows.longer comes.arrives.extends ready.so_far.made))

-- the site that a node has added, if any
pub site_more : (P : SiteView → Type 0) (sites more sites2 : List SiteView) (n : ℕ) → n ≡ length sites → sites2 ≡ sites ++ more → All P more → n < length sites2 → P (site_at sites2 n)
site_more P sites more sites2 n at is each l =
    subst P (sym (ap (λ (ss : List SiteView). site_at ss n) is ∙ get_or-append_right sites more n no_site (omega (arith, at)))) (each (n - length sites) no_site (let e = ap length is in omega (arith, l, at, e, length-append sites more)))

module _ (follow : NodesFollow) (stay : StepsStay) (g : GraphView) (k : ℕ) (p mid q : Progress) (cells : List CellView) (more : List Way) (here : Here) (row row2 : List ℕ) (sound : IsSoundGraph g) (feeds : FeedsNodes g)
    (l : k < length g.nodes) (ready : IsReady g k p) (comes : Comes g k p mid here row)
    (steps' : Steps g k here.guard here.held (seen mid.made.cells.items) cells (pointed mid.made.pointers.items) (pointed q.made.pointers.items) (sited mid.made.sites.items) (sited q.made.sites.items)
    mid.made.ways.items q.made.ways.items mid.made.exits.items q.made.exits.items)
    (grows : Grows cells (seen q.made.cells.items)) (more_are : q.made.ways.items ≡ mid.made.ways.items ++ more) (leave : Leave g k more)
    (entered' : Entered (take (length mid.pending.items) (targets q.made.ways.items)) (targets q.made.ways.items) (entries_of mid) (entries_of q) (pending_of mid) (pending_of q) row2)
    (waits : AreWaiting (length g.decls) (length (seen q.made.cells.items)) row2)
    (nodes_are' : q.nodes.items ≡ mid.nodes.items ++ made_next g k here.guard (seen p.made.cells.items) (seen q.made.cells.items) ∷ []) (window_is : q.window ≡ mid.window) where
  ways_are : q.made.ways.items ≡ p.made.ways.items ++ more
  ways_are = more_are ∙ ap (λ (ws : Vec Way Global). ws.items ++ more) comes.ways

  steps : Steps g k here.guard here.held (seen mid.made.cells.items) cells (pointed mid.made.pointers.items) (pointed q.made.pointers.items) (sited p.made.sites.items) (sited q.made.sites.items) p.made.ways.items q.made.ways.items p.made.exits.items q.made.exits.items
  steps = subst (λ (ss : Vec Site Global). Steps g k here.guard here.held (seen mid.made.cells.items) cells (pointed mid.made.pointers.items) (pointed q.made.pointers.items) (sited ss.items) (sited q.made.sites.items) p.made.ways.items q.made.ways.items p.made.exits.items q.made.exits.items) comes.sites
      (subst (λ (ws : Vec Way Global). Steps g k here.guard here.held (seen mid.made.cells.items) cells (pointed mid.made.pointers.items) (pointed q.made.pointers.items) (sited mid.made.sites.items) (sited q.made.sites.items) ws.items q.made.ways.items p.made.exits.items q.made.exits.items) comes.ways
      (subst (λ (xs : Vec Exit Global). Steps g k here.guard here.held (seen mid.made.cells.items) cells (pointed mid.made.pointers.items) (pointed q.made.pointers.items) (sited mid.made.sites.items) (sited q.made.sites.items) mid.made.ways.items q.made.ways.items xs.items q.made.exits.items) comes.exits steps'))

  entered : Entered (take (length (pending_of p)) (targets q.made.ways.items)) (targets q.made.ways.items) (entries_of p) (entries_of q) (pending_of p) (pending_of q) row2
  entered = subst (λ (n : ℕ). Entered (take n (targets q.made.ways.items)) (targets q.made.ways.items) (entries_of p) (entries_of q) (pending_of p) (pending_of q) row2) (sym (length-map p.pending.items (λ x. x.items)))
      (subst (λ (ps : Vec (SmallVec ℕ 4 Global) Global). Entered (take (length ps.items) (targets q.made.ways.items)) (targets q.made.ways.items) (entries_of p) (entries_of q) (map (λ x. x.items) ps.items) (pending_of q) row2) comes.beside
      (subst (λ (es : Vec (SmallVec ℕ 2 Global) Global). Entered (take (length mid.pending.items) (targets q.made.ways.items)) (targets q.made.ways.items) (map (λ x. x.items) es.items) (entries_of q) (pending_of mid) (pending_of q) row2) comes.entries entered'))

  whole : Steps g k here.guard here.held (seen mid.made.cells.items) (seen q.made.cells.items) (pointed mid.made.pointers.items) (pointed q.made.pointers.items) (sited p.made.sites.items) (sited q.made.sites.items) p.made.ways.items q.made.ways.items p.made.exits.items q.made.exits.items
  whole = stay g k here.guard here.held (seen mid.made.cells.items) cells (seen q.made.cells.items) (pointed mid.made.pointers.items) (pointed q.made.pointers.items) (sited p.made.sites.items) (sited q.made.sites.items) p.made.ways.items q.made.ways.items
      p.made.exits.items q.made.exits.items steps grows

  pub ready_next : IsReady g (k + 1) q
  ready_next = record {
    held = ready.held ++ here.held ∷ [];
    so_far = subst (λ (ns : List Node). IsSoFar g (k + 1) (ready.held ++ here.held ∷ []) (record { cells = seen q.made.cells.items; pointers = pointed q.made.pointers.items; sites = sited q.made.sites.items; ways = q.made.ways.items; exits = q.made.exits.items; nodes = ns }))
        (sym (nodes_are' ∙ ap (λ (ns : Vec Node Global). ns.items ++ made_next g k here.guard (seen p.made.cells.items) (seen q.made.cells.items) ∷ []) comes.nodes))
        (follow g k ready.held (making_of p) (seen mid.made.cells.items) (seen q.made.cells.items) (pointed mid.made.pointers.items) (pointed q.made.pointers.items) (sited q.made.sites.items) q.made.ways.items q.made.exits.items here.guard here.held
        ready.so_far comes.arrives whole);
    fed = subst (AreFed g (k + 1)) (sym ways_are) (feeds.follow k p.made.ways.items more ready.fed leave);
    bytes = subst (λ (w : List ℕ). HaveBytes (seen q.made.cells.items) 256 w) (sym (window_is ∙ comes.window))
        (bytes_behind _ (seen mid.made.cells.items) (seen q.made.cells.items) 256 p.window whole.grows (bytes_behind _ (seen p.made.cells.items) (seen mid.made.cells.items) 256 p.window comes.arrives.grows ready.bytes));
    kept = kept_more (length g.nodes) (length g.decls) (length (seen p.made.cells.items)) (length (seen q.made.cells.items)) (targets p.made.ways.items) (targets more) (targets q.made.ways.items) (entries_of p) (entries_of q) (pending_of p) (pending_of q) row2
        (omega (arith, comes.arrives.grows.longer, whole.grows.longer)) (ap targets ways_are ∙ map-append (λ (e : Way). e.to) p.made.ways.items more)
        (All-map (λ t. t < length g.nodes) (λ (e : Way). e.to) more (leave_inside g k more sound leave)) ready.kept entered waits;
  }

-- ---- the same with what code reads

pub numbers_of : (g : GraphView) (k : ℕ) (p : Progress) (r : SmallVec ℕ 2 Global) (ns : List ℕ) → IsReady g k p → k < length g.nodes → ns ≡ r.items → r ≡ get_or p.entries.items k r → ns ≡ get_or (entries_of p) k []
numbers_of g k p r ns ready l is e = row_is (λ x. x.items) p.entries.items k r ns is e (omega (arith, l, entry_count g k p ready))

pub turn_some : (g : GraphView) (k : ℕ) (p : Progress) (ns : List ℕ) → FeedsNodes g → IsReady g k p → k < length g.nodes → ns ≡ get_or (entries_of p) k [] → 1 ≤ length ns
turn_some g k p ns feeds ready l is = subst (λ (xs : List ℕ). 1 ≤ length xs) (sym is) (numbers_some g k p feeds ready l)

pub turn_inside : (g : GraphView) (k : ℕ) (p : Progress) (ns : List ℕ) (ws : List Way) → IsReady g k p → k < length g.nodes → ns ≡ get_or (entries_of p) k [] → ws ≡ p.made.ways.items → All (λ i. i < length ws) ns
turn_inside g k p ns ws ready l is ways_are = subst (λ (xs : List ℕ). All (λ i. i < length ws) xs) (sym is) (λ i d b. omega (arith, numbers_inside g k p ready l i d b, ap length ways_are))

pub meeting_some : (g : GraphView) (k : ℕ) (p : Progress) (here hs : List Way) → FeedsNodes g → IsReady g k p → k < length g.nodes → LeadTo k p.made.ways.items here → hs ≡ here → 1 ≤ length hs
meeting_some g k p here hs feeds ready l lead is = subst (λ (xs : List Way). 1 ≤ length xs) (sym is) (lead_some k p.made.ways.items here lead (feeds.here k p.made.ways.items l ready.fed).0)

pub meeting_there : (g : GraphView) (k : ℕ) (p : Progress) (decls : List MapDecl) (here hs : List Way) → IsReady g k p → decls ≡ g.decls → LeadTo k p.made.ways.items here → hs ≡ here
    → AreWays decls (seen p.made.cells.items) (pointed p.made.pointers.items) hs
meeting_there g k p decls here hs ready same lead is =
    subst (λ (ds : List MapDecl). AreWays ds (seen p.made.cells.items) (pointed p.made.pointers.items) hs) (sym same)
    (subst (AreWays g.decls (seen p.made.cells.items) (pointed p.made.pointers.items)) (sym is)
    (lead_each (λ e. (e.bit < length (seen p.made.cells.items)) × AreInside g.decls (length (seen p.made.cells.items)) (pointed p.made.pointers.items) e.held e.kinds) k p.made.ways.items here lead ready.so_far.made.each_way))

pub meeting_wider : (g : GraphView) (k : ℕ) (p : Progress) (kinds : Kinds) (here hs : List Way) → FeedsNodes g → IsReady g k p → k < length g.nodes → (node_at g.nodes k).kinds ≡ kinds → LeadTo k p.made.ways.items here → hs ≡ here
    → All (λ e. AreWider kinds e.kinds) hs
meeting_wider g k p kinds here hs feeds ready l same lead is =
    subst (λ (j : Kinds). All (λ e. AreWider j e.kinds) hs) same (subst (All (λ e. AreWider (node_at g.nodes k).kinds e.kinds)) (sym is)
    (lead_wider (node_at g.nodes k).kinds k p.made.ways.items here lead (feeds.here k p.made.ways.items l ready.fed).1))

pub ways_later : (g : GraphView) (k : ℕ) (p : Progress) (n : ℕ) (ws : List Way) → IsReady g k p → ws ≡ p.made.ways.items → length (seen p.made.cells.items) ≤ n → All (λ e. e.bit < n) ws
ways_later g k p n ws ready is low = subst (All (λ e. e.bit < n)) (sym is)
    (All-weaker (λ e. (e.bit < length (seen p.made.cells.items)) × AreInside g.decls (length (seen p.made.cells.items)) (pointed p.made.pointers.items) e.held e.kinds) (λ e. e.bit < n) (λ e x. omega (arith, x.0, low)) p.made.ways.items ready.so_far.made.each_way)

pub waiting_at : (g : GraphView) (k : ℕ) (p : Progress) (maps n : ℕ) (rows : List (SmallVec ℕ 4 Global)) → IsReady g k p → maps ≡ length g.decls → rows ≡ p.pending.items → length (seen p.made.cells.items) ≤ n
    → All (λ row. AreWaiting maps n row.items) rows
waiting_at g k p maps n rows ready same is low = subst (All (λ row. AreWaiting maps n row.items)) (sym is) each
  where
    each : All (λ row. AreWaiting maps n row.items) p.pending.items
    each i d l =
        let x = ready.kept.waiting i [] (omega (arith, l, length-map p.pending.items (λ x. x.items))) in
        let e : get_or (pending_of p) i [] ≡ (get_or p.pending.items i d).items = get_or-map (λ x. x.items) p.pending.items i d [] l in
        subst (AreWaiting maps n) e (x.0 ∙ sym same, All-weaker (λ c. c < length (seen p.made.cells.items)) (λ c. c < n) (λ c h. omega (arith, h, low)) (get_or (pending_of p) i []) x.1)

pub small_keys : (ds : List MapDecl) → All IsDeclaration ds → (q : ℕ) → key_bytes ds q ≤ 64
small_keys [] h q = omega arith
small_keys (d ∷ ds) h zero = let s = (All-head IsDeclaration d ds h).limits.key_short in omega (arith, s)
small_keys (d ∷ ds) h (suc q) = small_keys ds (All-tail IsDeclaration d ds h) q

pub insn_legal : (g : GraphView) (k : ℕ) (i : Insn) (kinds : Kinds) → IsNode g k i kinds → IsInsn i
insn_legal g k i kinds node = subst (λ (o : Option Insn). IfSome o IsInsn) node.insn (legal_at g.code.insns (node_at g.nodes k).place node.legal)

pub sited_count : (old new : Vec Site Global) (n : ℕ) → n ≡ length old.items → new ≡ old → n ≡ length (sited new.items)
unfolding sited
sited_count old new n is same = is ∙ sym (ap (λ (v : Vec Site Global). length v.items) same) ∙ sym (length-map new.items site_of)

-- beside the edges that a node adds stand these cells
pub pending_more : (g : GraphView) (k : ℕ) (p mid q : Progress) (more : List Way) (here : Here) (row row2 : List ℕ) → IsReady g k p → Comes g k p mid here row → q.made.ways.items ≡ mid.made.ways.items ++ more
    → Entered (take (length mid.pending.items) (targets q.made.ways.items)) (targets q.made.ways.items) (entries_of mid) (entries_of q) (pending_of mid) (pending_of q) row2
    → pending_of q ≡ pending_of p ++ replicate (length more) row2
pending_more g k p mid q more here row row2 ready comes is entered =
    entered.beside ∙ ap (λ (ps : Vec (SmallVec ℕ 4 Global) Global). map (λ x. x.items) ps.items ++ replicate (length (targets q.made.ways.items) - length (take (length mid.pending.items) (targets q.made.ways.items))) row2) comes.beside
    ∙ ap (λ (j : ℕ). pending_of p ++ replicate j row2) count
  where
    split : targets q.made.ways.items ≡ targets p.made.ways.items ++ targets more
    split = ap targets (is ∙ ap (λ (ws : Vec Way Global). ws.items ++ more) comes.ways) ∙ map-append (λ (e : Way). e.to) p.made.ways.items more

    far : length mid.pending.items ≡ length (targets p.made.ways.items)
    far = ap (λ (ps : Vec (SmallVec ℕ 4 Global) Global). length ps.items) comes.beside ∙ sym (length-map p.pending.items (λ x. x.items)) ∙ ready.kept.beside

    before : take (length mid.pending.items) (targets q.made.ways.items) ≡ targets p.made.ways.items
    before = ap (λ (xs : List ℕ). take (length mid.pending.items) xs) split ∙ ap (λ (j : ℕ). take j (targets p.made.ways.items ++ targets more)) far ∙ take-append_seam (targets p.made.ways.items) (targets more)

    count : length (targets q.made.ways.items) - length (take (length mid.pending.items) (targets q.made.ways.items)) ≡ length more
    count = let a = ap length before in let b = ap length split in let m = length-map more (λ (e : Way). e.to) in omega (arith, a, b, m, length-append (targets p.made.ways.items) (targets more))

pub targets_inside : (g : GraphView) (k : ℕ) (p mid : Progress) (here : Here) (row : List ℕ) (more ways : List Way) → IsReady g k p → Comes g k p mid here row → All (λ e. e.to < length g.nodes) more → ways ≡ mid.made.ways.items ++ more
    → All (λ e. e.to < length mid.entries.items) ways
targets_inside g k p mid here row more ways ready comes high is = subst (All (λ e. e.to < length mid.entries.items)) (sym is) (All-append (λ e. e.to < length mid.entries.items) mid.made.ways.items more
    (subst (λ (ws : Vec Way Global). All (λ e. e.to < length mid.entries.items) ws.items) (sym comes.ways) (λ i d l. let x = ready.kept.inside i 0 (omega (arith, l, count_targets p.made.ways.items)) in
    omega (arith, x, target_at p.made.ways.items i d l, count)))
    (λ i d l. omega (arith, high i d l, count)))
  where
    count : length mid.entries.items ≡ length g.nodes
    count = ap (λ (es : Vec (SmallVec ℕ 2 Global) Global). length es.items) comes.entries ∙ entry_count g k p ready

pub sited_at : (sites : List Site) (n : ℕ) (d : Site) → n < length sites → site_at (sited sites) n ≡ site_of (get_or sites n d)
unfolding sited
sited_at sites n d l = get_or-map site_of sites n d no_site l

pub node_made : (g : GraphView) (k guard : ℕ) (a b : List CellView) (place first end : ℕ) → place ≡ (node_at g.nodes k).place → first ≡ length a → end ≡ length b → record { place = place; guard = guard; first = first; end = end } ≡ made_next g k guard a b
node_made g k guard a b place first end p f e =
    ap (λ (n : ℕ). record { place = n; guard = guard; first = first; end = end }) p ∙ ap (λ (n : ℕ). record { place = (node_at g.nodes k).place; guard = guard; first = n; end = end }) f
    ∙ ap (λ (n : ℕ). record { place = (node_at g.nodes k).place; guard = guard; first = length a; end = n }) e

-- the instruction at a node, by the units of a program
pub turn_insn : (p : XdpProgram) (u : Unfolded) (k : ℕ) (place : ℕ) (units : List (Option Insn)) (o : Option Insn) → HasInsn (graph_of p u) k → ArePlaces p.insns units → place ≡ (node_at (graph_of p u).nodes k).place → o ≡ slice_index_or units place None
    → (i : Insn) × (o ≡ Some i) × IsNode (graph_of p u) k i (node_at (graph_of p u).nodes k).kinds
turn_insn p u k place units o has are at is = (has.insn, is ∙ are.are.same place ∙ ap (insn_at p.insns) at ∙ has.node.insn, has.node)

same_insn : (i j : Insn) (o : Option Insn) → o ≡ Some i → o ≡ Some j → i ≡ j
same_insn i j o e f = let g : Some i ≡ Some j = sym e ∙ f in cc

pub turn_node : (g : GraphView) (k : ℕ) (kinds : Kinds) (i j : Insn) (o : Option Insn) → o ≡ Some i → IsNode g k i kinds → o ≡ Some j → IsNode g k j kinds
turn_node g k kinds i j o e node f = subst (λ (x : Insn). IsNode g k x kinds) (same_insn i j o e f) node
