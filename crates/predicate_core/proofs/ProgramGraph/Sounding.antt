-- The graph of a program that unfolds is sound.
use Rattle.std.proofs.Common.{◌≡◌, ℕ, zero, suc, ◌<◌, inl, inr, ◌∷◌, length, get_or, Option, Some, None, refl, sym, ◌∙◌, ap, subst, arith}
use Rattle.std.specs.Prelude.{◌==◌, fold, Contains}
use Rattle.std.specs.List.{list_any}
use Rattle.std.proofs.lemmas.List.Elements.{All-cons, All-head, All-tail, All-contains, Contains-get_or}
use Rattle.xdp_machine.specs.bpf_isa.declared.instruction.Insn.{Insn}
use Rattle.xdp_machine.specs.bpf_isa.Text.{insn_at}
use Rattle.xdp_machine.specs.Program.{XdpProgram, IsProgram}
use Rattle.kind_core.specs.declared.kind.Kinds.{Kinds}
use Rattle.kind_core.specs.Kinds as kinds
use Rattle.kind_core.specs.Edges.{decided, transferred}
use Rattle.kind_core.specs.Joins.{joined}
use Rattle.kind_core.proofs.SizeLaws.{small_values}
use Rattle.unfold_core.specs.declared.links.Edge.{Edge}
use Rattle.unfold_core.specs.declared.unfolding.Unfolded.{Unfolded}
use Rattle.unfold_core.specs.Edges.{is_reference}
use Rattle.kind_core.specs.declared.kind.Offsets.TheVariants.{Fixed}
use Rattle.unfold_core.specs.Graphs.{first_point}
use Rattle.unfold_core.specs.Unfolding.{links, IsUnfolded}
use Rattle.unfold_core.specs.RunLaws.{edge}
use Rattle.unfold_core.specs.GraphLaws.{HaveAll, EdgesLeadOn, NodesAreReached}
use Rattle.unfold_core.specs.LinkLaws as linked
use Rattle.unfold_core.specs.LinkLaws.{Comes, NodesHaveLinks, JoinsLinks, LinksAreJoined, StartIsFirst}
use Rattle.operator_cells.specs.HeldCells.Paths.{EdgeView, node_at}
use Rattle.edge_cells.specs.Widening.{AreWider, AreFilled, AreAlike, JoinsWiden, JoinsAreFilled}
use Rattle.edge_cells.specs.NodeCells.Filling.{EdgesAreFilled, JumpsAreFilled}
use Rattle.predicate_core.specs.ProgramGraph.Graphs.{node_view, edge_view, graph_of}
use Rattle.edge_cells.specs.NodeCells.Feeding.{known_behind, known_on}
use Rattle.predicate_core.specs.ProgramGraph.Sound.{IsSoundGraph, GraphsAreSound}
use Rattle.predicate_core.proofs.ProgramGraph.Viewing.{point_at, node_is, node_count, node_inside, edge_back, edge_there, edge_here}
use Rattle.predicate_core.proofs.ProgramGraph.References.{refers_load}
use Rattle.predicate_core.proofs.ProgramGraph.Filling.{start_filled, side_filled}

pub record Laws : Type 0 where
  pub start : StartIsFirst
  pub links : NodesHaveLinks
  pub joins : LinksAreJoined
  pub leads : EdgesLeadOn
  pub reached : NodesAreReached
  pub widen : JoinsWiden
  pub fill : JoinsAreFilled
  pub edges_fill : EdgesAreFilled
  pub jumps_fill : JumpsAreFilled

alike : (k j : Kinds) → HaveAll k → HaveAll j → AreAlike k j
alike k j h l = record { registers = h.0 ∙ sym l.0; slots = h.1 ∙ sym l.1 }

module _ (laws : Laws) (p : XdpProgram) (u : Unfolded) (program : IsProgram p) (unfolded : IsUnfolded p u) (fixed : u.offsets ≡ Fixed) where
  in_links : (x : Edge) → Contains u.edges.items x → Contains (links p u.loops.items u.nodes.items 0 u.nodes.items) x
  in_links x c = subst (λ xs. Contains xs x) unfolded.edges c

  leads_on : (x : Edge) → Contains (links p u.loops.items u.nodes.items 0 u.nodes.items) x → (x.from < x.to) × (x.to < length u.nodes.items)
  leads_on x c =
      All-contains (λ y. (y.from < y.to) × (y.to < length u.nodes.items)) (links p u.loops.items u.nodes.items 0 u.nodes.items) x
      (laws.leads u.offsets p u.loops.items u.nodes.items unfolded.loops.loops unfolded.graph) c

  -- ---- what is known on the edges to a node

  joins_at : (k : ℕ) → k < length u.nodes.items → JoinsLinks u.offsets p u.loops.items u.nodes.items k (first_point Fixed u.loops.items)
  joins_at k below = laws.joins u.offsets p u.loops.items u.nodes.items k (first_point Fixed u.loops.items) unfolded.loops.loops unfolded.graph below

  -- what is known at a node says no more than what comes there
  wider : (k : ℕ) (j : Kinds) → k < length u.nodes.items → Comes u.offsets p u.loops.items u.nodes.items k (first_point Fixed u.loops.items) j → AreWider (point_at u k).kinds j
  wider k j below c =
      let joins = joins_at k below in
      let whole = fold joined joins.head joins.tail in
      let head = All-head HaveAll joins.head joins.tail joins.all in
      let widens = laws.widen joins.head joins.tail (λ i d lt. alike joins.head (get_or joins.tail i d) head (All-tail HaveAll joins.head joins.tail joins.all i d lt)) in
      subst (λ w. AreWider w j) (sym joins.kinds_are)
      (All-contains (AreWider whole) (joins.head ∷ joins.tail) j (All-cons (AreWider whole) joins.head joins.tail widens.0 widens.1) (joins.every j c))

  -- an edge keeps what is filled
  edge_filled : (x : Edge) → Contains (links p u.loops.items u.nodes.items 0 u.nodes.items) x → AreFilled (point_at u x.from).kinds → AreFilled (linked.known_on p u.nodes.items (first_point Fixed u.loops.items) x)
  edge_filled x c h =
      let on = leads_on x c in
      let below : x.from < length u.nodes.items = omega (arith, on.0, on.1) in
      let at = point_at u x.from in
      let has = laws.links u.offsets p u.loops.items u.nodes.items x.from (first_point Fixed u.loops.items) unfolded.loops.loops unfolded.graph below in
      subst AreFilled (ap (linked.known_behind p at x) (sym has.insn_is))
      (side_filled laws.edges_fill laws.jumps_fill p.decls at.kinds has.insn x.from (is_reference p at.node.place) x.taken (decided at.kinds has.insn) has.insn.op refl
      (refers_load p.insns _ p.refs at.node.place has.insn program.refs has.insn_is) (has.each x c refl).present h)

  filled : (n k : ℕ) → k < n → k < length u.nodes.items → AreFilled (point_at u k).kinds
  filled zero k lt below = absurd (omega arith)
  filled (suc n) k lt below = by (joins_at k below) (λ m l b. filled n m l b)
    where
      comes : ((m : ℕ) → m < n → m < length u.nodes.items → AreFilled (point_at u m).kinds) → (j : Kinds) → Comes u.offsets p u.loops.items u.nodes.items k (first_point Fixed u.loops.items) j → AreFilled j
      comes before j (inl (first, is)) = subst AreFilled (sym is) (start_filled u.offsets)
      comes before j (inr (x, c, to, is)) =
          let on = leads_on x c in
          subst AreFilled (sym is) (edge_filled x c (before x.from (omega (arith, on.0, to, lt)) (omega (arith, on.0, on.1))))

      by : JoinsLinks u.offsets p u.loops.items u.nodes.items k (first_point Fixed u.loops.items) → ((m : ℕ) → m < n → m < length u.nodes.items → AreFilled (point_at u m).kinds) → AreFilled (point_at u k).kinds
      by joins before =
          let P = Comes u.offsets p u.loops.items u.nodes.items k (first_point Fixed u.loops.items) in
          subst AreFilled (sym joins.kinds_are)
          (laws.fill joins.head joins.tail (comes before joins.head (All-head P joins.head joins.tail joins.each)) (λ i d l. comes before (get_or joins.tail i d) (All-tail P joins.head joins.tail joins.each i d l)))

  -- ---- the same of the graph

  known_same : (x : EdgeView) → x.from < length u.nodes.items → known_on (graph_of p u) x ≡ linked.known_on p u.nodes.items (first_point Fixed u.loops.items) (edge_back x)
  known_same x below = ap (known_behind (graph_of p u) x) (ap (λ n. insn_at p.insns n.place) at) ∙ by (insn_at p.insns (point_at u x.from).node.place)
    where
      at : node_at (graph_of p u).nodes x.from ≡ node_view (point_at u x.from)
      at = node_is p u x.from below

      by : (o : Option Insn) → known_behind (graph_of p u) x o ≡ linked.known_behind p (point_at u x.from) (edge_back x) o
      by (Some i) = ap (λ n. transferred p.decls n.kinds i x.from (list_any (λ r. r == n.place) p.refs) x.taken) at
      by None = ap (λ n. n.kinds) at

  goes_on : (x : EdgeView) → Contains (graph_of p u).edges x → (x.from < x.to) × (x.to < length (graph_of p u).nodes) × AreWider (node_at (graph_of p u).nodes x.to).kinds (known_on (graph_of p u) x)
  goes_on x c =
      let among = in_links (edge_back x) (edge_here p u x c) in
      let on = leads_on (edge_back x) among in
      let below : x.from < length u.nodes.items = omega (arith, on.0, on.1) in (
        on.0,
        subst (λ n. x.to < n) (sym (node_count p u)) on.1,
        subst (AreWider (node_at (graph_of p u).nodes x.to).kinds) (sym (known_same x below))
            (subst (λ n. AreWider n.kinds (linked.known_on p u.nodes.items (first_point Fixed u.loops.items) (edge_back x))) (sym (node_is p u x.to on.1))
            (wider x.to (linked.known_on p u.nodes.items (first_point Fixed u.loops.items) (edge_back x)) on.1 (inr (edge_back x, among, refl, refl)))),
      )

  sound : IsSoundGraph (graph_of p u)
  sound =
      let begin = laws.start u.offsets p u.loops.items u.nodes.items (first_point Fixed u.loops.items) unfolded.loops.loops unfolded.graph in
      record {
        some = subst (λ n. 0 < n) (sym (node_count p u)) begin.0;
        first = ap (λ n. n.place) (node_is p u 0 begin.0) ∙ ap (λ n. n.place) begin.1;
        values = small_values p.decls program.decls;
        begins = subst (λ n. AreWider n.kinds (kinds.start Fixed)) (sym (node_is p u 0 begin.0)) (wider 0 (kinds.start Fixed) begin.0 (inl (refl, ap kinds.start (sym fixed))));
        filled = λ k lt. let below = node_inside p u k lt in subst (λ n. AreFilled n.kinds) (sym (node_is p u k below)) (filled (suc k) k (omega arith) below);
        edges = λ i d lt. goes_on (get_or (graph_of p u).edges i d) (Contains-get_or (graph_of p u).edges i d lt);
        reached = λ n some lt.
            let x = laws.reached u.offsets p u.loops.items u.nodes.items n unfolded.loops.loops unfolded.graph some (node_inside p u n lt) in
            (edge_view (edge x.0 x.1 n), edge_there p u (edge x.0 x.1 n) (subst (λ xs. Contains xs (edge x.0 x.1 n)) (sym unfolded.edges) x.2), refl);
      }

pub graphs_are_sound : Laws → GraphsAreSound
graphs_are_sound laws p u program unfolded fixed = sound laws p u program unfolded fixed
