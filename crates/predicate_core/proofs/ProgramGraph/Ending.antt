-- The ends of each node are those of its edges.
use Rattle.std.proofs.Common.{◌≡◌, ℕ, zero, suc, pos, ◌<◌, ◌==◌, ◌&&◌, Bool, true, false, List, [], ◌∷◌, length, get_or, Option, Some, None, refl, sym, ◌∙◌, ap, subst, arith}
use Rattle.std.specs.Prelude.{is_some, if◌then◌else◌, All, Contains}
use Rattle.std.proofs.lemmas.Bool.{eqb-true, eq-eqb, and_parts, and_from}
use Rattle.std.proofs.lemmas.List.{get_or_default}
use Rattle.std.proofs.lemmas.List.Elements.{All-head, All-tail, All-contains, Contains-get_or}
use Rattle.xdp_machine.specs.bpf_isa.declared.operation.Width.{Width}
use Rattle.xdp_machine.specs.bpf_isa.declared.operation.JumpCode.{JumpCode}
use Rattle.xdp_machine.specs.bpf_isa.declared.operation.Src.{Src}
use Rattle.xdp_machine.specs.bpf_isa.declared.operation.Op.{Op}
use Rattle.xdp_machine.specs.bpf_isa.declared.operation.Op.TheVariants.{Ja, Jump, Exit}
use Rattle.xdp_machine.specs.bpf_isa.declared.instruction.Insn.{Insn}
use Rattle.xdp_machine.specs.bpf_isa.Text.{insn_at}
use Rattle.xdp_machine.specs.State.{begins}
use Rattle.xdp_machine.specs.Program.{XdpProgram}
use Rattle.kind_core.specs.declared.kind.Kinds.{Kinds}
use Rattle.kind_core.specs.Edges.{decided}
use Rattle.kind_core.specs.Soundness.{target}
use Rattle.unfold_core.specs.declared.links.Edge.{Edge}
use Rattle.unfold_core.specs.declared.unfolding.Unfolded.{Unfolded}
use Rattle.unfold_core.specs.Edges.{goes_next, goes_jump}
use Rattle.kind_core.specs.declared.kind.Offsets.TheVariants.{Fixed}
use Rattle.unfold_core.specs.Graphs.{first_point}
use Rattle.unfold_core.specs.Unfolding.{links, IsUnfolded}
use Rattle.unfold_core.specs.RunLaws.{edge}
use Rattle.unfold_core.specs.GraphLaws.{EdgesLeadOn}
use Rattle.unfold_core.specs.LinkLaws.{goes_along, IsLink, HasLinks, NodesHaveLinks}
use Rattle.operator_cells.specs.HeldCells.Paths.{NodeView, EdgeView, node_at, led}
use Rattle.edge_cells.specs.NodeCells.Ends.{IsEdge, IsEnd, ArePresent, AreEnds, HasEnds}
use Rattle.predicate_core.specs.declared.program_graph.edge_ends.NodeEnds.{NodeEnds}
use Rattle.predicate_core.specs.ProgramGraph.Graphs.{edge_view, graph_of}
use Rattle.predicate_core.specs.ProgramGraph.Ends.{HaveEnds}
use Rattle.predicate_core.proofs.ProgramGraph.Adding.{along, no_ends, AreEndsOf}
use Rattle.predicate_core.proofs.ProgramGraph.Viewing.{point_at, node_is, node_count, node_inside, edge_back, edge_there, edge_here}

-- ---- lists of edges

-- where all edges from a node to a place lead to one node, a run is led to it
led_is : (nodes : List NodeView) (k place to : ℕ) (es : List EdgeView) (x : EdgeView) → All (λ y. y.from ≡ k → (node_at nodes y.to).place ≡ place → y.to ≡ to) es
    → Contains es x → x.from ≡ k → (node_at nodes x.to).place ≡ place → led nodes k place es ≡ to
led_is nodes k place to [] x all c from at = absurd (omega (arith, c.1))
led_is nodes k place to (e ∷ es) x all c from at =
    by ((e.from == k) && ((node_at nodes e.to).place == place)) refl (λ d. led_is nodes k place to es x (All-tail (λ y. y.from ≡ k → (node_at nodes y.to).place ≡ place → y.to ≡ to) e es all) d from at) c
  where
    by : (b : Bool) → ((e.from == k) && ((node_at nodes e.to).place == place)) ≡ b → (Contains es x → led nodes k place es ≡ to) → Contains (e ∷ es) x → (if b then e.to else led nodes k place es) ≡ to
    by true g later d =
        let both = and_parts (e.from == k) ((node_at nodes e.to).place == place) g in
        All-head (λ y. y.from ≡ k → (node_at nodes y.to).place ≡ place → y.to ≡ to) e es all (eqb-true e.from k both.0) (eqb-true (node_at nodes e.to).place place both.1)
    by false g later (zero, lt, is) =
        let here : ((e.from == k) && ((node_at nodes e.to).place == place)) ≡ true =
        and_from (e.from == k) ((node_at nodes e.to).place == place) (eq-eqb e.from k (ap (λ y. y.from) is ∙ from)) (eq-eqb (node_at nodes e.to).place place (ap (λ y. (node_at nodes y.to).place) is ∙ at)) in
        absurd (cc (g, here))
    by false g later (suc j, lt, is) = later (j, omega (arith, lt), is)

-- ---- which ends are there

none_of : (o : Option ℕ) → is_some o ≡ false → o ≡ None
none_of None h = refl
none_of (Some n) h = absurd (cc h)

jump_ends : (k : Kinds) (i : Insn) (w : Width) (c : JumpCode) (s : Src) (o : Option Bool) (next jump : Option ℕ) → decided k i ≡ o → is_some next ≡ goes_next (Jump w c s) o → is_some jump ≡ goes_jump (Jump w c s) o
    → ArePresent k i next jump
jump_ends k i w c s None (Some a) (Some b) e n j = e
jump_ends k i w c s None (Some a) None e n j = absurd (cc j)
jump_ends k i w c s None None b e n j = absurd (cc n)
jump_ends k i w c s (Some true) (Some a) b e n j = absurd (cc n)
jump_ends k i w c s (Some true) None (Some b) e n j = e
jump_ends k i w c s (Some true) None None e n j = absurd (cc j)
jump_ends k i w c s (Some false) (Some a) (Some b) e n j = absurd (cc j)
jump_ends k i w c s (Some false) (Some a) None e n j = e
jump_ends k i w c s (Some false) None b e n j = absurd (cc n)

are_ends : (k : Kinds) (i : Insn) (op : Op) (next jump : Option ℕ) → is_some next ≡ goes_next op (decided k i) → is_some jump ≡ goes_jump op (decided k i) → AreEnds k i op next jump
are_ends k i (Jump w c s) next jump n j = jump_ends k i w c s (decided k i) next jump refl n j
are_ends k i (Ja w) next jump n j = (none_of next n, j)
are_ends k i Exit next jump n j = (none_of next n, none_of jump j)
are_ends k i op next jump n j = (n, none_of jump j)

-- ---- the ends of a node

pub record Laws : Type 0 where
  pub links : NodesHaveLinks
  pub leads : EdgesLeadOn

module _ (p : XdpProgram) (u : Unfolded) (laws : Laws) (unfolded : IsUnfolded p u) where
  leads_on : (x : Edge) → Contains u.edges.items x → (x.from < x.to) × (x.to < length u.nodes.items)
  leads_on x c =
      All-contains (λ y. (y.from < y.to) × (y.to < length u.nodes.items)) (links p u.loops.items u.nodes.items 0 u.nodes.items) x
      (laws.leads u.offsets p u.loops.items u.nodes.items unfolded.loops.loops unfolded.graph) (subst (λ xs. Contains xs x) unfolded.edges c)

  -- the edges leave nodes that are there
  pub from_inside : All (λ x. x.from < length u.nodes.items) u.edges.items
  from_inside i d lt = let x = leads_on (get_or u.edges.items i d) (Contains-get_or u.edges.items i d lt) in omega (arith, x.0, x.1)

  module _ (ends : List NodeEnds) (are : AreEndsOf u.edges.items ends) (size : length ends ≡ length u.nodes.items) (k : ℕ) (below : k < length u.nodes.items) (i : Insn)
      (insn_is : insn_at p.insns (point_at u k).node.place ≡ Some i) where
    has : HasLinks p u.loops.items u.nodes.items k (first_point Fixed u.loops.items)
    has = laws.links u.offsets p u.loops.items u.nodes.items k (first_point Fixed u.loops.items) unfolded.loops.loops unfolded.graph below

    in_links : (x : Edge) → Contains u.edges.items x → Contains (links p u.loops.items u.nodes.items 0 u.nodes.items) x
    in_links x c = subst (λ xs. Contains xs x) unfolded.edges c

    insn_same : has.insn ≡ i
    insn_same = let both : Some has.insn ≡ Some i = sym has.insn_is ∙ insn_is in cc both

    link : (x : Edge) → Contains u.edges.items x → x.from ≡ k → IsLink p (point_at u k) i x.taken (point_at u x.to)
    link x c from = subst (λ j. IsLink p (point_at u k) j x.taken (point_at u x.to)) insn_same (has.each x (in_links x c) from)

    -- two edges that lead to one place lead to one node
    one_place : (x : EdgeView) (taken : Bool) (to : ℕ) → Contains (graph_of p u).edges x → Contains u.edges.items (edge k taken to) → x.from ≡ k
        → (node_at (graph_of p u).nodes x.to).place ≡ (node_at (graph_of p u).nodes to).place → x.to ≡ to
    one_place x taken to c d from at =
        let among = edge_here p u x c in
        has.same (edge_back x) (edge k taken to) (in_links (edge_back x) among) (in_links (edge k taken to) d) from refl
        (ap (λ n. n.place) (sym (node_is p u x.to (leads_on (edge_back x) among).1)) ∙ at ∙ ap (λ n. n.place) (node_is p u to (leads_on (edge k taken to) d).1))

    -- an edge that leaves the node
    is_edge : (taken : Bool) (to : ℕ) → Contains u.edges.items (edge k taken to) → IsEdge (graph_of p u) k i taken to
    is_edge taken to c =
        let x = link (edge k taken to) c refl in
        let on = leads_on (edge k taken to) c in
        let there = node_is p u to on.1 in
        record {
          target_is = ap (λ n. target n.place i i.op taken) (node_is p u k below) ∙ x.target_is ∙ ap (λ n. pos n.place) (sym there);
          starts = subst (λ n. begins p.insns n.place ≡ true) (sym there) x.starts;
          leads = led_is (graph_of p u).nodes k (node_at (graph_of p u).nodes to).place to (graph_of p u).edges (edge_view (edge k taken to))
              (λ j d lt. one_place (get_or (graph_of p u).edges j d) taken to (Contains-get_or (graph_of p u).edges j d lt) c) (edge_there p u (edge k taken to) c) refl refl;
          up = on.0;
          inside = subst (λ n. to < n) (sym (node_count p u)) on.1;
        }

    abbrev here : NodeEnds
    here = get_or ends k no_ends

    end_edge : (taken : Bool) (to : ℕ) → along here taken ≡ Some to → Contains u.edges.items (edge k taken to)
    end_edge taken to is = are.each k taken to (omega (arith, size, below)) is

    edge_end : (x : Edge) → Contains u.edges.items x → x.from ≡ k → is_some (along here x.taken) ≡ true
    edge_end x c from =
        subst (λ n. is_some (along (get_or ends n no_ends) x.taken) ≡ true) from (All-contains (λ y. is_some (along (get_or ends y.from no_ends) y.taken) ≡ true) u.edges.items x are.some c)

    -- an end is there where its side is present
    there_is : (taken : Bool) → is_some (along here taken) ≡ goes_along (point_at u k).kinds i taken
    there_is taken = by (along here taken) refl (goes_along (point_at u k).kinds i taken) refl
      where
        by : (o : Option ℕ) → along here taken ≡ o → (b : Bool) → goes_along (point_at u k).kinds i taken ≡ b → is_some o ≡ b
        by (Some to) e true g = refl
        by None e false g = refl
        by (Some to) e false g = absurd (cc (g, (link (edge k taken to) (end_edge taken to e) refl).present))
        by None e true g =
            let x = has.some taken (subst (λ j. goes_along (point_at u k).kinds j taken ≡ true) (sym insn_same) g) in
            let some = edge_end (edge k taken x.0) (subst (λ xs. Contains xs (edge k taken x.0)) (sym unfolded.edges) x.1) refl in
            absurd (cc (e, some))

    end_of : (taken : Bool) (o : Option ℕ) → along here taken ≡ o → IsEnd (graph_of p u) k i taken o
    end_of taken (Some to) e = is_edge taken to (end_edge taken to e)
    end_of taken None e = tt

    all_of : (x : EdgeView) → Contains (graph_of p u).edges x → x.from ≡ k → along here x.taken ≡ Some x.to
    all_of x c from = by (along here x.taken) refl (edge_end (edge_back x) among from)
      where
        among : Contains u.edges.items (edge_back x)
        among = edge_here p u x c

        by : (o : Option ℕ) → along here x.taken ≡ o → is_some o ≡ true → o ≡ Some x.to
        by (Some to) e s = ap (λ n. Some n) (has.one (edge k x.taken to) (edge_back x) (in_links (edge k x.taken to) (end_edge x.taken to e)) (in_links (edge_back x) among) refl from refl)
        by None e s = absurd (cc s)

    has_ends : HasEnds (graph_of p u) k i here.next here.jump
    has_ends = record {
      next_is = end_of false here.next refl;
      jump_is = end_of true here.jump refl;
      present = subst (λ n. AreEnds n.kinds i i.op here.next here.jump) (sym (node_is p u k below)) (are_ends (point_at u k).kinds i i.op here.next here.jump (there_is false) (there_is true));
      each = λ taken to is. edge_there p u (edge k taken to) (end_edge taken to is);
      all = all_of;
    }

  pub have_ends : (ends : List NodeEnds) → AreEndsOf u.edges.items ends → length ends ≡ length u.nodes.items → HaveEnds (graph_of p u) ends
  have_ends ends are size = record {
    size = size ∙ sym (node_count p u);
    each = λ k i d lt is.
        let below = node_inside p u k lt in
        let own : get_or ends k no_ends ≡ get_or ends k d = get_or_default ends k no_ends d (omega (arith, size, below)) in
        subst (λ e. HasEnds (graph_of p u) k i e.next e.jump) own (has_ends ends are size k below i (ap (λ n. insn_at p.insns n.place) (sym (node_is p u k below)) ∙ is));
  }
