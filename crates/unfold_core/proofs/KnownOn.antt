-- What is known at a node of a graph is what is known on the edges that lead there, joined.
use Rattle.std.proofs.Common.{◌≡◌, ℕ, suc, ◌+◌, ◌<◌, inl, inr, Bool, true, false, List, [], ◌∷◌, length, get_or, refl, sym, ◌∙◌, ap, subst, arith}
use Rattle.std.specs.Prelude.{All, if◌then◌else◌}
use Rattle.std.specs.List.{Contains}
use Rattle.std.proofs.lemmas.List.Elements.{All-nil, All-cons}
use Rattle.xdp_machine.specs.Program.{XdpProgram}
use Rattle.kind_core.specs.declared.kind.Offsets.{Offsets}
use Rattle.kind_core.specs.declared.kind.Kinds.{Kinds}
use Rattle.unfold_core.specs.declared.nesting.Loop.{Loop}
use Rattle.unfold_core.specs.declared.edges.Point.{Point}
use Rattle.unfold_core.specs.declared.links.Edge.{Edge}
use Rattle.unfold_core.specs.Loops.{AreLoops}
use Rattle.unfold_core.specs.Nodes.{GraphNode, start}
use Rattle.unfold_core.specs.Edges.{leaving}
use Rattle.unfold_core.specs.Graphs.{same, first_point, ends, leading, IsGraph}
use Rattle.unfold_core.specs.GraphLaws.{brought}
use Rattle.unfold_core.specs.Pending.{number_of}
use Rattle.unfold_core.specs.RunLaws.{edge}
use Rattle.unfold_core.specs.LinkLaws.{known_behind, Comes, JoinsLinks, LinksAreJoined, StartIsFirst}
use Rattle.unfold_core.proofs.NodeLaws.{nodes_are_ordered, start_is_node}
use Rattle.unfold_core.proofs.Arriving.{fine_of, same_itself, same_is}
use Rattle.unfold_core.proofs.Numbering as numbering
use Rattle.unfold_core.proofs.Reaching.{In, number_own}
use Rattle.unfold_core.proofs.LinkLaws.{edge_source, end_at}
use Rattle.unfold_core.proofs.JoinedLaws.{kinds_are_joined}
use Rattle.unfold_core.proofs.Linked.{goes_to, has_ends, end_side, side_link, link_side, from_inside}

-- ---- what the ends of a list bring to a node

brought_each : (ls : List Loop) (n : GraphNode) (P : Kinds → Type 0) (es : List Point) → ((e : Point) → In e es → same ls e.node n ≡ true → P e.kinds) → All P (brought ls n es)
brought_each ls n P [] f = All-nil P
brought_each ls n P (e ∷ es) f = by (same ls e.node n) refl (brought_each ls n P es (λ x c s. f x (inr c) s))
  where
    by : (b : Bool) → same ls e.node n ≡ b → All P (brought ls n es) → All P (if b then e.kinds ∷ brought ls n es else brought ls n es)
    by true s rest = All-cons P e.kinds (brought ls n es) (f e (inl refl) s) rest
    by false s rest = rest

brought_has : (ls : List Loop) (n : GraphNode) (es : List Point) (e : Point) → In e es → same ls e.node n ≡ true → Contains (brought ls n es) e.kinds
brought_has ls n [] e h s = absurd h
brought_has ls n (x ∷ es) e (inl h) s =
    let here : brought ls n (x ∷ es) ≡ x.kinds ∷ brought ls n es = ap (λ b. if b then x.kinds ∷ brought ls n es else brought ls n es) (ap (λ y. same ls y.node n) h ∙ s) in
    subst (λ ks. Contains ks e.kinds) (sym here) (0, omega arith, ap (λ y. y.kinds) h)
brought_has ls n (x ∷ es) e (inr c) s = by (same ls x.node n) (brought_has ls n es e c s)
  where
    by : (b : Bool) → Contains (brought ls n es) e.kinds → Contains (if b then x.kinds ∷ brought ls n es else brought ls n es) e.kinds
    by true rest = (suc rest.0, omega (arith, rest.1), rest.2)
    by false rest = rest

-- ---- the first node

pub first_is_start : StartIsFirst
first_is_start offsets p ls g d loops h =
    let there = end_at offsets p ls g (first_point offsets ls) loops h (inl refl) (start_is_node ls) in
    let number : number_of ls (start ls) g ≡ 0 = numbering.start_is_first ls g in
    (subst (λ j. j < length g) number there.0, subst (λ j. (get_or g j d).node ≡ start ls) number (there.1 d))

-- ---- what comes to a node

module _ (offsets : Offsets) (p : XdpProgram) (ls : List Loop) (g : List Point) (k : ℕ) (d : Point) (loops : AreLoops p.insns ls) (graph : IsGraph offsets p ls g) (below : k < length g) where
  number_here : number_of ls (get_or g k d).node g ≡ k
  number_here = number_own ls g k d (nodes_are_ordered ls loops.nested) (fine_of ls g graph.ordered.nodes graph.ordered.ascending) below

  by_start : (e : Point) → first_point offsets ls ≡ e → same ls e.node (get_or g k d).node ≡ true → Comes offsets p ls g k d e.kinds
  by_start e h s =
      let there : same ls (start ls) (get_or g k d).node ≡ true = ap (λ x. same ls x.node (get_or g k d).node) h ∙ s in
      let one : start ls ≡ (get_or g k d).node = same_is ls (start ls) (get_or g k d).node (nodes_are_ordered ls loops.nested) (start_is_node ls) (graph.ordered.nodes k d below) there in
      inl (sym number_here ∙ ap (λ n. number_of ls n g) (sym one) ∙ numbering.start_is_first ls g, ap (λ x. x.kinds) (sym h))

  by_edge : (e : Point) (m : ℕ) → m < length g → In e (ends (leaving p ls m (get_or g m d))) → same ls e.node (get_or g k d).node ≡ true → Comes offsets p ls g k d e.kinds
  by_edge e m lt among s =
      let h = has_ends offsets p ls g m d graph lt in
      let side = end_side p ls h.ends_are m (get_or g m d) h.insn e h.edges (subst (λ r. In e (ends r)) h.leaves among) in
      let link = side_link offsets p ls g m d h lt side.0 side.1 in
      let own : link.0 ≡ e = cc (link.1, side.2) in
      let goes = goes_to p ls m (get_or g m d) h.insn side.0 e side.1 side.2 in
      let one : e.node ≡ (get_or g k d).node = same_is ls e.node (get_or g k d).node (nodes_are_ordered ls loops.nested) goes.node (graph.ordered.nodes k d below) s in
      let x : Edge = edge m side.0 (number_of ls link.0.node g) in
      let to : number_of ls link.0.node g ≡ k = ap (λ y. number_of ls y.node g) own ∙ ap (λ n. number_of ls n g) one ∙ number_here in
      inr (x, link.2, to, goes.kinds_are x refl refl ∙ ap (known_behind p (get_or g m d) x) (sym h.insn_is))

  comes : (e : Point) → In e (leading offsets p ls g) → same ls e.node (get_or g k d).node ≡ true → Comes offsets p ls g k d e.kinds
  comes e (inl h) s = by_start e h s
  comes e (inr h) s =
      let from = edge_source p ls 0 g d e h in
      let number : 0 + from.0 ≡ from.0 = omega arith in
      by_edge e from.0 from.1 (subst (λ j. In e (ends (leaving p ls j (get_or g from.0 d)))) number from.2) s

  every : (j : Kinds) → Comes offsets p ls g k d j → Contains (brought ls (get_or g k d).node (leading offsets p ls g)) j
  every j (inl (zero, is)) =
      let first : (get_or g k d).node ≡ start ls = ap (λ i. (get_or g i d).node) zero ∙ (first_is_start offsets p ls g d loops graph).1 in
      let one : same ls (start ls) (get_or g k d).node ≡ true = ap (same ls (start ls)) first ∙ same_itself ls (start ls) (nodes_are_ordered ls loops.nested) (start_is_node ls) in
      subst (Contains (brought ls (get_or g k d).node (leading offsets p ls g))) (sym is) (brought_has ls (get_or g k d).node (leading offsets p ls g) (first_point offsets ls) (inl refl) one)
  every j (inr (x, c, to, is)) =
      let h = has_ends offsets p ls g x.from d graph (from_inside p ls g d x c) in
      let s = link_side offsets p ls g x.from d x h c refl in
      let goes = goes_to p ls x.from (get_or g x.from d) h.insn x.taken s.end s.present s.is in
      let among = h.led s.end s.among in
      let there : (get_or g k d).node ≡ s.end.node = ap (λ i. (get_or g i d).node) (sym to ∙ s.to_is) ∙ (end_at offsets p ls g s.end loops graph among goes.node).1 d in
      let one : same ls s.end.node (get_or g k d).node ≡ true = ap (same ls s.end.node) there ∙ same_itself ls s.end.node (nodes_are_ordered ls loops.nested) goes.node in
      let what : s.end.kinds ≡ j = goes.kinds_are x refl refl ∙ ap (known_behind p (get_or g x.from d) x) (sym h.insn_is) ∙ sym is in
      subst (Contains (brought ls (get_or g k d).node (leading offsets p ls g))) what (brought_has ls (get_or g k d).node (leading offsets p ls g) s.end among one)

  joins : JoinsLinks offsets p ls g k d
  joins =
      let x = kinds_are_joined offsets p ls g k d loops graph below in
      record {
        head = x.0;
        tail = x.1;
        kinds_are = x.3;
        all = x.4;
        each = subst (All (Comes offsets p ls g k d)) x.2 (brought_each ls (get_or g k d).node (Comes offsets p ls g k d) (leading offsets p ls g) comes);
        every = λ j c. subst (λ ks. Contains ks j) x.2 (every j c);
      }

pub links_are_joined : LinksAreJoined
links_are_joined offsets p ls g k d loops graph below = joins offsets p ls g k d loops graph below
