-- The edges of a graph are the present edges of its nodes.
use Rattle.std.proofs.Common.{◌≡◌, ℕ, ℤ, pos, negsuc, ◌+◌, ◌<◌, inl, inr, not, Bool, true, false, List, [], ◌∷◌, ◌++◌, length, get_or, Option, Some, Result, Ok, refl, sym, ◌∙◌, ap, subst, arith}
use Rattle.std.specs.Prelude.{All, if◌then◌else◌}
use Rattle.std.specs.List.{Contains}
use Rattle.std.proofs.lemmas.List.Elements.{All-nil, All-cons, All-contains, All-contains_itself}
use Rattle.xdp_machine.specs.bpf_isa.declared.operation.Width.TheVariants.{Bits32, Bits64}
use Rattle.xdp_machine.specs.bpf_isa.declared.operation.Op.{Op}
use Rattle.xdp_machine.specs.bpf_isa.declared.operation.Op.TheVariants.{Ja, Jump, Exit}
use Rattle.xdp_machine.specs.bpf_isa.declared.instruction.Insn.{Insn}
use Rattle.xdp_machine.specs.bpf_isa.Spelling.{units_of}
use Rattle.xdp_machine.specs.bpf_isa.Text.{insn_at}
use Rattle.xdp_machine.specs.State.{begins}
use Rattle.xdp_machine.specs.Program.{XdpProgram}
use Rattle.xdp_state.specs.declared.refusal.Why.{Why}
use Rattle.kind_core.specs.declared.kind.Offsets.{Offsets}
use Rattle.kind_core.specs.Tests.{passed}
use Rattle.kind_core.specs.Effects.{effect_of, verdict}
use Rattle.kind_core.specs.Edges.{decided}
use Rattle.kind_core.specs.Soundness.{target}
use Rattle.unfold_core.specs.declared.nesting.Loop.{Loop}
use Rattle.unfold_core.specs.declared.edges.Point.{Point}
use Rattle.unfold_core.specs.declared.links.Edge.{Edge}
use Rattle.unfold_core.specs.Jumps.{distance, natural, led_to, target_of}
use Rattle.unfold_core.specs.Loops.{AreLoops}
use Rattle.unfold_core.specs.Nodes.{IsNode, reached}
use Rattle.unfold_core.specs.Edges.{goes_next, goes_jump, if_present, next_edge, jump_edge, edges_of, leaving}
use Rattle.unfold_core.specs.Graphs.{ends, leading, IsGraph}
use Rattle.unfold_core.specs.Pending.{number_of}
use Rattle.unfold_core.specs.Unfolding.{jumps_first, numbered, links}
use Rattle.unfold_core.specs.RunLaws.{edge}
use Rattle.unfold_core.specs.LinkLaws.{goes_along, known_behind, IsLink, HasLinks, NodesHaveLinks}
use Rattle.unfold_core.proofs.NodeLaws.{edges_reach_nodes}
use Rattle.unfold_core.proofs.EdgesUp.{edge_reaches, present_all, turn_all}
use Rattle.unfold_core.proofs.Reaching.{In, all_in, pass_at, in_edges, numbered_at, in_links}
use Rattle.unfold_core.proofs.EdgeParts.{leaving_parts, turn_parts, present_some, present_none, next_there, jump_there, reached_place, edge_gives}
use Rattle.unfold_core.proofs.LinkLaws.{links_all, end_at}

abbrev pub edge_along : XdpProgram → List Loop → ℕ → Point → Insn → Bool → Result Point Why
edge_along p ls k at i taken = if taken then jump_edge p ls k at i else next_edge p ls k at i

-- ---- the edges of one node

-- an edge of the graph that is the one to this end, of these that leave node k
pub record IsSide (p : XdpProgram) (ls : List Loop) (g es : List Point) (k : ℕ) (at : Point) (i : Insn) (x : Edge) : Type 0 where
  pub end : Point
  pub among : In end es
  pub present : goes_along at.kinds i x.taken ≡ true
  pub is : edge_along p ls k at i x.taken ≡ Ok end
  pub from_is : x.from ≡ k
  pub to_is : x.to ≡ number_of ls end.node g

numbered_sides : (p : XdpProgram) (ls : List Loop) (g es : List Point) (k : ℕ) (at : Point) (i : Insn) → edges_of p ls k at i ≡ Ok es
    → All (IsSide p ls g es k at i) (numbered ls g k (not (goes_next i.op (decided at.kinds i))) es)
numbered_sides p ls g es k at i e =
    let parts = turn_parts (if_present (goes_next i.op (decided at.kinds i)) (next_edge p ls k at i)) (if_present (goes_jump i.op (decided at.kinds i)) (jump_edge p ls k at i)) es e in
    by (goes_next i.op (decided at.kinds i)) (goes_jump i.op (decided at.kinds i)) refl refl parts.0 parts.1 parts.2 parts.3 parts.4
  where
    side : (zs : List Point) (taken : Bool) (q : Point) → In q zs → goes_along at.kinds i taken ≡ true → edge_along p ls k at i taken ≡ Ok q → IsSide p ls g zs k at i (edge k taken (number_of ls q.node g))
    side zs taken q among present is = record { end = q; among = among; present = present; is = is; from_is = refl; to_is = refl }

    by : (b c : Bool) → goes_next i.op (decided at.kinds i) ≡ b → goes_jump i.op (decided at.kinds i) ≡ c → (xs ys : List Point) → if_present b (next_edge p ls k at i) ≡ Ok xs → if_present c (jump_edge p ls k at i) ≡ Ok ys
        → es ≡ xs ++ ys → All (IsSide p ls g es k at i) (numbered ls g k (not b) es)
    by true true n j xs ys f h whole =
        let q = present_some true (next_edge p ls k at i) xs refl f in
        let r = present_some true (jump_edge p ls k at i) ys refl h in
        let two : q.0 ∷ r.0 ∷ [] ≡ es = sym (whole ∙ ap (λ zs. zs ++ ys) q.2 ∙ ap (λ zs. q.0 ∷ zs) r.2) in
        let P : Edge → Type 0 = IsSide p ls g (q.0 ∷ r.0 ∷ []) k at i in
        subst (λ zs. All (IsSide p ls g zs k at i) (numbered ls g k false zs)) two
        (All-cons P (edge k false (number_of ls q.0.node g)) (edge k true (number_of ls r.0.node g) ∷ []) (side (q.0 ∷ r.0 ∷ []) false q.0 (inl refl) n q.1)
        (All-cons P (edge k true (number_of ls r.0.node g)) [] (side (q.0 ∷ r.0 ∷ []) true r.0 (inr (inl refl)) j r.1) (All-nil P)))
    by true false n j xs ys f h whole =
        let q = present_some true (next_edge p ls k at i) xs refl f in
        let one : q.0 ∷ [] ≡ es = sym (whole ∙ ap (λ zs. zs ++ ys) q.2 ∙ ap (λ zs. q.0 ∷ zs) (present_none false (jump_edge p ls k at i) ys refl h)) in
        let P : Edge → Type 0 = IsSide p ls g (q.0 ∷ []) k at i in
        subst (λ zs. All (IsSide p ls g zs k at i) (numbered ls g k false zs)) one (All-cons P (edge k false (number_of ls q.0.node g)) [] (side (q.0 ∷ []) false q.0 (inl refl) n q.1) (All-nil P))
    by false true n j xs ys f h whole =
        let r = present_some true (jump_edge p ls k at i) ys refl h in
        let one : r.0 ∷ [] ≡ es = sym (whole ∙ ap (λ zs. zs ++ ys) (present_none false (next_edge p ls k at i) xs refl f) ∙ r.2) in
        let P : Edge → Type 0 = IsSide p ls g (r.0 ∷ []) k at i in
        subst (λ zs. All (IsSide p ls g zs k at i) (numbered ls g k true zs)) one (All-cons P (edge k true (number_of ls r.0.node g)) [] (side (r.0 ∷ []) true r.0 (inl refl) j r.1) (All-nil P))
    by false false n j xs ys f h whole =
        let none : [] ≡ es = sym (whole ∙ ap (λ zs. zs ++ ys) (present_none false (next_edge p ls k at i) xs refl f) ∙ present_none false (jump_edge p ls k at i) ys refl h) in
        subst (λ zs. All (IsSide p ls g zs k at i) (numbered ls g k true zs)) none (All-nil (IsSide p ls g [] k at i))

-- and each end is that of one of the two edges
pub end_side : (p : XdpProgram) (ls : List Loop) (es : List Point) (k : ℕ) (at : Point) (i : Insn) (e : Point) → edges_of p ls k at i ≡ Ok es → In e es
    → (taken : Bool) × (goes_along at.kinds i taken ≡ true) × (edge_along p ls k at i taken ≡ Ok e)
end_side p ls es k at i e h among =
    let P : Point → Type 0 = λ q. (taken : Bool) × (goes_along at.kinds i taken ≡ true) × (edge_along p ls k at i taken ≡ Ok q) in
    all_in P es e
    (turn_all P (if_present (goes_next i.op (decided at.kinds i)) (next_edge p ls k at i)) (if_present (goes_jump i.op (decided at.kinds i)) (jump_edge p ls k at i)) es h
    (λ ys f. present_all P (goes_next i.op (decided at.kinds i)) (next_edge p ls k at i) ys f (λ q b x. (false, b, x)))
    (λ ys f. present_all P (goes_jump i.op (decided at.kinds i)) (jump_edge p ls k at i) ys f (λ q b x. (true, b, x)))) among

-- ---- where an edge leads

natural_is : (z : ℤ) (n : ℕ) → natural z ≡ Some n → z ≡ pos n
natural_is (pos m) n e = cc e
natural_is (negsuc m) n e = absurd (cc e)

target_next : (place : ℕ) (i : Insn) (op : Op) (o : Option Bool) → goes_next op o ≡ true → target place i op false ≡ pos (place + units_of op)
target_next place i Exit o h = refl
target_next place i (Ja w) o h = absurd (cc h)
target_next place i (Jump w c s) o h = refl
target_next place i op o h = refl

target_jump : (place : ℕ) (i : Insn) (op : Op) (o : Option Bool) (to : ℕ) → goes_jump op o ≡ true → led_to place (distance i op) ≡ Some to → target place i op true ≡ pos to
target_jump place i (Ja Bits64) o to h e = natural_is _ to e
target_jump place i (Ja Bits32) o to h e = natural_is _ to e
target_jump place i (Jump w c s) o to h e = natural_is _ to e
target_jump place i op o to h e = absurd (cc h)

-- where the machine goes on, and what is known there
pub record GoesTo (p : XdpProgram) (ls : List Loop) (k : ℕ) (at : Point) (i : Insn) (taken : Bool) (q : Point) : Type 0 where
  pub target_is : target at.node.place i i.op taken ≡ pos q.node.place
  pub starts : begins p.insns q.node.place ≡ true
  pub node_is : reached ls at.node q.node.place ≡ Some q.node
  pub node : IsNode ls q.node
  pub kinds_are : (x : Edge) → x.from ≡ k → x.taken ≡ taken → q.kinds ≡ known_behind p at x (Some i)

edge_is : (y : Edge) (k : ℕ) (t : Bool) → y.from ≡ k → y.taken ≡ t → edge k t y.to ≡ y
edge_is y k t f e = ap (λ n. edge n t y.to) (sym f) ∙ ap (λ b. edge y.from b y.to) (sym e)

pub goes_to : (p : XdpProgram) (ls : List Loop) (k : ℕ) (at : Point) (i : Insn) (taken : Bool) (q : Point) → goes_along at.kinds i taken ≡ true → edge_along p ls k at i taken ≡ Ok q → GoesTo p ls k at i taken q
goes_to p ls k at i false q h e =
    let x = edge_gives p.insns ls at.node _ (Some (at.node.place + units_of i.op)) q e in
    let r = edge_reaches p.insns ls at.node _ (Some (at.node.place + units_of i.op)) q e in
    let place : q.node.place ≡ at.node.place + units_of i.op = cc (x.is, x.place) in
    let there : reached ls at.node q.node.place ≡ Some q.node = ap (reached ls at.node) (reached_place ls at.node q.node r.0 r.2) ∙ r.2 in
    record {
      target_is = target_next at.node.place i i.op (decided at.kinds i) h ∙ ap (λ n. pos n) (sym place);
      starts = subst (λ n. begins p.insns n ≡ true) (sym x.place) x.begins;
      node_is = there;
      node = edges_reach_nodes ls at.node q.node q.node.place there;
      kinds_are = λ y f t. x.kinds ∙ ap (λ z. known_behind p at z (Some i)) (edge_is y k false f t);
    }
goes_to p ls k at i true q h e =
    let x = edge_gives p.insns ls at.node _ (target_of at.node.place (Some i)) q e in
    let r = edge_reaches p.insns ls at.node _ (target_of at.node.place (Some i)) q e in
    let there : reached ls at.node q.node.place ≡ Some q.node = ap (reached ls at.node) (reached_place ls at.node q.node r.0 r.2) ∙ r.2 in
    record {
      target_is = target_jump at.node.place i i.op (decided at.kinds i) x.to h x.is ∙ ap (λ n. pos n) (sym x.place);
      starts = subst (λ n. begins p.insns n ≡ true) (sym x.place) x.begins;
      node_is = there;
      node = edges_reach_nodes ls at.node q.node q.node.place there;
      kinds_are = λ y f t. x.kinds ∙ ap (λ z. known_behind p at z (Some i)) (edge_is y k true f t);
    }

-- ---- the edges of a graph

-- the instruction of node k, and the ends of its edges
pub record HasEnds (offsets : Offsets) (p : XdpProgram) (ls : List Loop) (g : List Point) (k : ℕ) (d : Point) : Type 0 where
  pub insn : Insn
  pub insn_is : insn_at p.insns (get_or g k d).node.place ≡ Some insn
  pub allowed : verdict (effect_of p.decls (get_or g k d).kinds insn) ≡ passed
  pub ends_are : List Point
  pub leaves : leaving p ls k (get_or g k d) ≡ Ok ends_are
  pub edges : edges_of p ls k (get_or g k d) insn ≡ Ok ends_are
  pub led : (q : Point) → In q ends_are → In q (leading offsets p ls g)
  pub listed : numbered_at p ls g k (get_or g k d) ≡ numbered ls g k (not (goes_next insn.op (decided (get_or g k d).kinds insn))) ends_are

pub has_ends : (offsets : Offsets) (p : XdpProgram) (ls : List Loop) (g : List Point) (k : ℕ) (d : Point) → IsGraph offsets p ls g → k < length g → HasEnds offsets p ls g k d
has_ends offsets p ls g k d h below =
    let at = get_or g k d in
    let pass = pass_at p ls 0 g k d h.pass below in
    let number : k ≡ 0 + k = omega arith in
    let leaves : leaving p ls k at ≡ Ok pass.0 = ap (λ j. leaving p ls j at) number ∙ pass.1 in
    let parts = leaving_parts p ls k at pass.0 leaves in
    record {
      insn = parts.0;
      insn_is = parts.1;
      allowed = parts.2;
      ends_are = pass.0;
      leaves = leaves;
      edges = parts.3;
      led = λ q among. inr (in_edges p ls 0 g k d q below (subst (λ r. In q (ends r)) (sym pass.1) among));
      listed = ap (λ x. numbered ls g k (jumps_first at.kinds x) (ends (leaving p ls k at))) parts.1 ∙ ap (λ r. numbered ls g k (not (goes_next parts.0.op (decided at.kinds parts.0))) (ends r)) leaves;
    }

numbered_from : (ls : List Loop) (g : List Point) (from : ℕ) (taken : Bool) (es : List Point) → All (λ x. x.from ≡ from) (numbered ls g from taken es)
numbered_from ls g from taken [] = All-nil (λ x. x.from ≡ from)
numbered_from ls g from taken (e ∷ es) = All-cons (λ x. x.from ≡ from) (edge from taken (number_of ls e.node g)) (numbered ls g from true es) refl (numbered_from ls g from true es)

links_at : (p : XdpProgram) (ls : List Loop) (g : List Point) (d : Point) → All (λ x. (x.from < length g) × Contains (numbered_at p ls g x.from (get_or g x.from d)) x) (links p ls g 0 g)
links_at p ls g d = links_all (λ x. (x.from < length g) × Contains (numbered_at p ls g x.from (get_or g x.from d)) x) p ls g 0 g d by
  where
    by : (k : ℕ) → k < length g → All (λ x. (x.from < length g) × Contains (numbered_at p ls g x.from (get_or g x.from d)) x) (numbered_at p ls g (0 + k) (get_or g k d))
    by k lt i c under =
        let at = get_or g k d in
        let x = get_or (numbered_at p ls g (0 + k) at) i c in
        let here : 0 + k ≡ k = omega arith in
        let own : x.from ≡ k = numbered_from ls g (0 + k) (jumps_first at.kinds (insn_at p.insns at.node.place)) (ends (leaving p ls (0 + k) at)) i c under ∙ here in
        let among : Contains (numbered_at p ls g k at) x = subst (λ j. Contains (numbered_at p ls g j at) x) here (All-contains_itself (numbered_at p ls g (0 + k) at) i c under) in
        (subst (λ j. j < length g) (sym own) lt, subst (λ j. Contains (numbered_at p ls g j (get_or g j d)) x) (sym own) among)

-- an edge of the graph leaves a node of it, as one of its sides
pub from_inside : (p : XdpProgram) (ls : List Loop) (g : List Point) (d : Point) (x : Edge) → Contains (links p ls g 0 g) x → x.from < length g
from_inside p ls g d x c = (All-contains (λ y. (y.from < length g) × Contains (numbered_at p ls g y.from (get_or g y.from d)) y) (links p ls g 0 g) x (links_at p ls g d) c).0

pub link_side : (offsets : Offsets) (p : XdpProgram) (ls : List Loop) (g : List Point) (k : ℕ) (d : Point) (x : Edge) → (h : HasEnds offsets p ls g k d) → Contains (links p ls g 0 g) x → x.from ≡ k → IsSide p ls g h.ends_are k (get_or g k d) h.insn x
link_side offsets p ls g k d x h c from =
    let there = (All-contains (λ y. (y.from < length g) × Contains (numbered_at p ls g y.from (get_or g y.from d)) y) (links p ls g 0 g) x (links_at p ls g d) c).1 in
    let here : Contains (numbered_at p ls g k (get_or g k d)) x = subst (λ j. Contains (numbered_at p ls g j (get_or g j d)) x) from there in
    All-contains (IsSide p ls g h.ends_are k (get_or g k d) h.insn) (numbered ls g k (not (goes_next h.insn.op (decided (get_or g k d).kinds h.insn))) h.ends_are) x
    (numbered_sides p ls g h.ends_are k (get_or g k d) h.insn h.edges) (subst (λ xs. Contains xs x) h.listed here)

-- each side that is present is an edge of the graph
pub side_link : (offsets : Offsets) (p : XdpProgram) (ls : List Loop) (g : List Point) (k : ℕ) (d : Point) → (h : HasEnds offsets p ls g k d) → k < length g → (taken : Bool) → goes_along (get_or g k d).kinds h.insn taken ≡ true
    → (q : Point) × (edge_along p ls k (get_or g k d) h.insn taken ≡ Ok q) × Contains (links p ls g 0 g) (edge k taken (number_of ls q.node g))
side_link offsets p ls g k d h below taken present = by taken present
  where
    listed : (x : Edge) → Contains (numbered ls g k (not (goes_next h.insn.op (decided (get_or g k d).kinds h.insn))) h.ends_are) x → Contains (links p ls g 0 g) x
    listed x c =
        let number : k ≡ 0 + k = omega arith in
        in_links p ls g 0 g k d x below (subst (λ j. Contains (numbered_at p ls g j (get_or g k d)) x) number (subst (λ xs. Contains xs x) (sym h.listed) c))

    by : (t : Bool) → goes_along (get_or g k d).kinds h.insn t ≡ true → (q : Point) × (edge_along p ls k (get_or g k d) h.insn t ≡ Ok q) × Contains (links p ls g 0 g) (edge k t (number_of ls q.node g))
    by false b = let one = next_there p ls g h.ends_are k (get_or g k d) h.insn h.edges b in (one.0, one.1, listed (edge k false (number_of ls one.0.node g)) one.2.numbered)
    by true b = let one = jump_there p ls g h.ends_are k (get_or g k d) h.insn h.edges b in (one.0, one.1, listed (edge k true (number_of ls one.0.node g)) one.2.numbered)

-- ---- all of it

module _ (offsets : Offsets) (p : XdpProgram) (ls : List Loop) (g : List Point) (k : ℕ) (d : Point) (loops : AreLoops p.insns ls) (graph : IsGraph offsets p ls g) (below : k < length g) where
  here : HasEnds offsets p ls g k d
  here = has_ends offsets p ls g k d graph below

  -- an edge from node k with its end
  record IsFrom (x : Edge) : Type 0 where
    end : Point
    present : goes_along (get_or g k d).kinds here.insn x.taken ≡ true
    goes : GoesTo p ls k (get_or g k d) here.insn x.taken end
    to_is : x.to ≡ number_of ls end.node g
    node_is : (get_or g x.to d).node ≡ end.node

  is_from : (x : Edge) → Contains (links p ls g 0 g) x → x.from ≡ k → IsFrom x
  is_from x c from =
      let s = link_side offsets p ls g k d x here c from in
      let goes = goes_to p ls k (get_or g k d) here.insn x.taken s.end s.present s.is in
      record {
        end = s.end;
        present = s.present;
        goes = goes;
        to_is = s.to_is;
        node_is = ap (λ j. (get_or g j d).node) s.to_is ∙ (end_at offsets p ls g s.end loops graph (here.led s.end s.among) goes.node).1 d;
      }

  link : (x : Edge) → Contains (links p ls g 0 g) x → x.from ≡ k → IsLink p (get_or g k d) here.insn x.taken (get_or g x.to d)
  link x c from =
      let s = is_from x c from in
      record {
        present = s.present;
        target_is = s.goes.target_is ∙ ap (λ n. pos n.place) (sym s.node_is);
        starts = subst (λ n. begins p.insns n.place ≡ true) (sym s.node_is) s.goes.starts;
      }

  same_place : (x y : Edge) → Contains (links p ls g 0 g) x → Contains (links p ls g 0 g) y → x.from ≡ k → y.from ≡ k → (get_or g x.to d).node.place ≡ (get_or g y.to d).node.place → x.to ≡ y.to
  same_place x y c e f t h =
      let a = is_from x c f in
      let b = is_from y e t in
      let place : a.end.node.place ≡ b.end.node.place = ap (λ n. n.place) (sym a.node_is) ∙ h ∙ ap (λ n. n.place) b.node_is in
      let both : Some a.end.node ≡ Some b.end.node = sym a.goes.node_is ∙ ap (reached ls (get_or g k d).node) place ∙ b.goes.node_is in
      let node : a.end.node ≡ b.end.node = cc both in
      a.to_is ∙ ap (λ n. number_of ls n g) node ∙ sym b.to_is

  same_side : (x y : Edge) → Contains (links p ls g 0 g) x → Contains (links p ls g 0 g) y → x.from ≡ k → y.from ≡ k → x.taken ≡ y.taken → x.to ≡ y.to
  same_side x y c e f t h =
      let at = (get_or g k d).node.place in
      let both : pos (get_or g x.to d).node.place ≡ pos (get_or g y.to d).node.place = sym (link x c f).target_is ∙ ap (λ b. target at here.insn here.insn.op b) h ∙ (link y e t).target_is in
      same_place x y c e f t (cc both)

  links_here : HasLinks p ls g k d
  links_here = record {
    insn = here.insn;
    insn_is = here.insn_is;
    allowed = here.allowed;
    each = link;
    some = λ taken present. let s = side_link offsets p ls g k d here below taken present in (number_of ls s.0.node g, s.2);
    one = same_side;
    same = same_place;
  }

pub nodes_have_links : NodesHaveLinks
nodes_have_links offsets p ls g k d loops graph below = links_here offsets p ls g k d loops graph below
