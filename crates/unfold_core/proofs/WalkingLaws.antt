-- The walk over the nodes of a program: what is done and what is pending make up one list in unfolded order.
use Rattle.std.proofs.Common.{◌≡◌, ℕ, suc, ◌+◌, ◌≤◌, ◌<◌, inl, inr, Bool, true, false, List, [], ◌∷◌, ◌++◌, length, get_or, Some, None, Result, Ok, Err, refl, sym, ◌∙◌, ap, subst, arith}
use Rattle.std.specs.Prelude.{All, if◌then◌else◌}
use Rattle.std.specs.List.{AllPairs}
use Rattle.std.proofs.lemmas.List.{append_assoc, append-nil}
use Rattle.std.proofs.lemmas.List.Elements.{All-nil, All-cons, All-append}
use Rattle.xdp_machine.specs.Program.{XdpProgram}
use Rattle.xdp_state.specs.declared.refusal.Why.{Why}
use Rattle.xdp_state.specs.declared.refusal.Why.TheVariants as why
use Rattle.xdp_state.specs.declared.refusal.Refusal.{Refusal}
use Rattle.xdp_state.specs.declared.refusal.BuildError.{BuildError}
use Rattle.xdp_state.specs.declared.refusal.BuildError.TheVariants.{Refused, NoMemory}
use Rattle.kind_core.specs.declared.kind.Offsets.{Offsets}
use Rattle.unfold_core.specs.declared.nesting.Loop.{Loop}
use Rattle.unfold_core.specs.declared.edges.Point.{Point}
use Rattle.unfold_core.specs.Loops.{Nests, AreLoops}
use Rattle.unfold_core.specs.Nodes.{GraphNode, IsNode, start, comes_before}
use Rattle.unfold_core.specs.Edges.{leaving, Leaves}
use Rattle.unfold_core.specs.EdgeLaws.{LeadsUp}
use Rattle.unfold_core.specs.Graphs.{same, found, arriving, AreOrdered, first_point, ends, edges_from, leading, Pass, IsGraph, IsRefused, IsFirstNode, Walks}
use Rattle.unfold_core.specs.Pending.{with_ends}
use Rattle.unfold_core.proofs.NodeLaws.{nodes_are_ordered, start_is_node}
use Rattle.unfold_core.proofs.EdgesUp.{leaving_goes_up}
use Rattle.unfold_core.proofs.Arriving.{Fine, Later, fine_of, fine_nodes, ordered_of, fine_left, fine_right, fine_before, same_is, found_none, ends_fine, ends_found, with_ends_after, arriving_append}

-- the nodes so far, and those that are pending
pub record IsWalk (offsets : Offsets) (p : XdpProgram) (ls : List Loop) (g w : List Point) : Type 0 where
  pub ordered : AreOrdered ls (g ++ w)
  pub pass : Pass p ls 0 g
  pub known : (n : GraphNode) → IsNode ls n → found ls n (g ++ w) ≡ arriving ls n None (leading offsets p ls g)

edges_push : (p : XdpProgram) (ls : List Loop) (k : ℕ) (g : List Point) (q : Point) → edges_from p ls k (g ++ q ∷ []) ≡ edges_from p ls k g ++ ends (leaving p ls (k + length g) q)
edges_push p ls k [] q = let same : k ≡ k + 0 = omega arith in append-nil (ends (leaving p ls k q)) ∙ ap (λ j. ends (leaving p ls j q)) same
edges_push p ls k (n ∷ g) q =
    let same : (k + 1) + length g ≡ k + suc (length g) = omega arith in
    ap (λ xs. ends (leaving p ls k n) ++ xs) (edges_push p ls (k + 1) g q ∙ ap (λ j. edges_from p ls (k + 1) g ++ ends (leaving p ls j q)) same)
    ∙ sym (append_assoc (ends (leaving p ls k n)) (edges_from p ls (k + 1) g) (ends (leaving p ls (k + suc (length g)) q)))

pass_push : (p : XdpProgram) (ls : List Loop) (k : ℕ) (g : List Point) (q : Point) (es : List Point) → Pass p ls k g → leaving p ls (k + length g) q ≡ Ok es → Pass p ls k (g ++ q ∷ [])
pass_push p ls k [] q es h e = let same : k ≡ k + 0 = omega arith in ((es, ap (λ j. leaving p ls j q) same ∙ e), tt)
pass_push p ls k (n ∷ g) q es h e =
    let same : (k + 1) + length g ≡ k + suc (length g) = omega arith in
    (h.0, pass_push p ls (k + 1) g q es h.1 (ap (λ j. leaving p ls j q) same ∙ e))

-- ---- the start

pub walk_begins : (offsets : Offsets) (p : XdpProgram) (ls : List Loop) (g w : List Point) → AllPairs Nests ls → g ≡ [] → w ≡ first_point offsets ls ∷ [] → IsWalk offsets p ls g w
walk_begins offsets p ls g w nested e f = subst (λ xs. IsWalk offsets p ls xs w) (sym e) (subst (IsWalk offsets p ls []) (sym f) (record {
  ordered = ordered_of ls (first_point offsets ls ∷ []) nested (start_is_node ls, All-nil (Later ls (first_point offsets ls)), tt);
  pass = tt;
  known = λ n s. by_same n (same ls (start ls) n);
}))
  where
    by_same : (n : GraphNode) (b : Bool) → (if b then Some (first_point offsets ls).kinds else None) ≡ (if b then Some (first_point offsets ls).kinds else None)
    by_same n b = refl

-- ---- one more node

walk_ends : (offsets : Offsets) (p : XdpProgram) (ls : List Loop) (g es : List Point) (q : Point) → leaving p ls (length g) q ≡ Ok es → leading offsets p ls (g ++ q ∷ []) ≡ leading offsets p ls g ++ es
walk_ends offsets p ls g es q e =
    let same : 0 + length g ≡ length g = omega arith in
    ap (λ xs. first_point offsets ls ∷ xs) (edges_push p ls 0 g q ∙ ap (λ r. edges_from p ls 0 g ++ ends r) (ap (λ j. leaving p ls j q) same ∙ e))

-- all that is done comes before the ends of its edges
before_ends : (p : XdpProgram) (ls : List Loop) (g w es : List Point) (q : Point) → AllPairs Nests ls → Fine ls (g ++ q ∷ w) → All (LeadsUp ls q) es
    → All (λ e. All (λ a. comes_before ls a.node e.node ≡ true) (g ++ q ∷ [])) es
before_ends p ls g w es q nested fine up = λ k d below.
    let o = nodes_are_ordered ls nested in
    let node : IsNode ls q.node = (fine_right ls g (q ∷ w) fine).0 in
    let u : LeadsUp ls q (get_or es k d) = up k d below in
    let nodes : All (λ a. IsNode ls a.node) g = fine_nodes ls g (fine_left ls g (q ∷ w) fine) in
    let before : All (λ a. comes_before ls a.node q.node ≡ true) g = fine_before ls g w q fine in
    All-append (λ a. comes_before ls a.node (get_or es k d).node ≡ true) g (q ∷ [])
    (λ i c under. o.transitive (get_or g i c).node q.node (get_or es k d).node (nodes i c under) node u.0 (before i c under) u.1)
    (All-cons (λ a. comes_before ls a.node (get_or es k d).node ≡ true) q [] u.1 (All-nil (λ a. comes_before ls a.node (get_or es k d).node ≡ true)))

pub walk_more : (offsets : Offsets) (p : XdpProgram) (ls : List Loop) (g w es : List Point) (q : Point) → AreLoops p.insns ls → IsWalk offsets p ls g (q ∷ w) → leaving p ls (length g) q ≡ Ok es
    → IsWalk offsets p ls (g ++ q ∷ []) (with_ends ls w es)
walk_more offsets p ls g w es q loops h e =
    let o = nodes_are_ordered ls loops.nested in
    let all : Fine ls (g ++ q ∷ w) = fine_of ls (g ++ q ∷ w) h.ordered.nodes h.ordered.ascending in
    let node : IsNode ls q.node = (fine_right ls g (q ∷ w) all).0 in
    let up : All (LeadsUp ls q) es = leaving_goes_up p ls (length g) q es loops node e in
    let whole : (g ++ q ∷ []) ++ w ≡ g ++ q ∷ w = append_assoc g (q ∷ []) w in
    let fine : Fine ls ((g ++ q ∷ []) ++ w) = subst (Fine ls) (sym whole) all in
    let nodes : All (λ x. IsNode ls x.node) es = λ k d below. (up k d below).0 in
    let front : with_ends ls ((g ++ q ∷ []) ++ w) es ≡ (g ++ q ∷ []) ++ with_ends ls w es = with_ends_after ls (g ++ q ∷ []) w es (before_ends p ls g w es q loops.nested all up) in
    let number : leaving p ls (0 + length g) q ≡ Ok es = (let same : 0 + length g ≡ length g = omega arith in ap (λ j. leaving p ls j q) same ∙ e) in
    record {
      ordered = ordered_of ls ((g ++ q ∷ []) ++ with_ends ls w es) loops.nested (subst (Fine ls) front (ends_fine ls ((g ++ q ∷ []) ++ w) es o fine nodes));
      pass = pass_push p ls 0 g q es h.pass number;
      known = λ n s.
          ap (found ls n) (sym front)
          ∙ ends_found ls n ((g ++ q ∷ []) ++ w) es o fine nodes s
          ∙ ap (λ k. arriving ls n k es) (ap (found ls n) whole ∙ h.known n s)
          ∙ sym (ap (arriving ls n None) (walk_ends offsets p ls g es q e) ∙ arriving_append ls n None (leading offsets p ls g) es);
    }

-- ---- the end

pub walk_ended : (offsets : Offsets) (p : XdpProgram) (ls : List Loop) (g w : List Point) → IsWalk offsets p ls g w → w ≡ [] → length g ≤ 16384 → IsGraph offsets p ls g
walk_ended offsets p ls g w h e few =
    let whole : g ++ w ≡ g = ap (λ xs. g ++ xs) e ∙ append-nil g in
    record {
      few = few;
      ordered = subst (AreOrdered ls) whole h.ordered;
      pass = h.pass;
      known = λ n s. ap (found ls n) (sym whole) ∙ h.known n s;
    }

-- nodes that come later are others
found_up_to : (ls : List Loop) (n : GraphNode) (g w : List Point) (q : Point) → All (λ m. same ls m.node n ≡ false) w → found ls n (g ++ q ∷ w) ≡ found ls n (g ++ q ∷ [])
found_up_to ls n [] w q h = ap (λ k. if same ls q.node n then Some q.kinds else k) (found_none ls n w h)
found_up_to ls n (a ∷ g) w q h = ap (λ k. if same ls a.node n then Some a.kinds else k) (found_up_to ls n g w q h)

others : (ls : List Loop) (n : GraphNode) (w : List Point) (q : Point) → AllPairs Nests ls → IsNode ls n → Fine ls (q ∷ w) → comes_before ls q.node n ≡ false → All (λ m. same ls m.node n ≡ false) w
others ls n w q nested s h differ = λ k d below. by_same (get_or w k d) (fine_nodes ls w h.2 k d below) (h.1 k d below) (same ls (get_or w k d).node n) refl
  where
    by_same : (m : Point) → IsNode ls m.node → comes_before ls q.node m.node ≡ true → (b : Bool) → same ls m.node n ≡ b → b ≡ false
    by_same m t up true g =
        let one : m.node ≡ n = same_is ls m.node n (nodes_are_ordered ls nested) t s g in
        let first : comes_before ls q.node n ≡ true = subst (λ x. comes_before ls q.node x ≡ true) one up in
        let bad : true ≡ false = sym first ∙ differ in absurd (cc)
    by_same m t up false g = refl

pub walk_refused : (offsets : Offsets) (p : XdpProgram) (ls : List Loop) (g w : List Point) (q : Point) (r : Refusal) → IsWalk offsets p ls g (q ∷ w) → IsRefused p ls (length g) q r.why → r.at ≡ q.node.place → IsFirstNode offsets p ls r
walk_refused offsets p ls g w q r h refused at =
    let all : Fine ls (g ++ q ∷ w) = fine_of ls (g ++ q ∷ w) h.ordered.nodes h.ordered.ascending in
    let whole : (g ++ q ∷ []) ++ w ≡ g ++ q ∷ w = append_assoc g (q ∷ []) w in
    record {
      before = g;
      node = q;
      ordered = ordered_of ls (g ++ q ∷ []) h.ordered.nested (fine_left ls (g ++ q ∷ []) w (subst (Fine ls) (sym whole) all));
      pass = h.pass;
      known = λ n s differ. sym (found_up_to ls n g w q (others ls n w q h.ordered.nested s (fine_right ls g (q ∷ w) all) differ)) ∙ h.known n s;
      refused = refused;
      at_is = at;
    }

-- ---- the same of what the code has

nothing_left : (w : List Point) → length w ≡ 0 → w ≡ []
nothing_left [] h = refl
nothing_left (q ∷ w) h = absurd (omega arith)

at_number : (p : XdpProgram) (ls : List Loop) (g : List Point) (q : Point) (number : ℕ) (r : Result (List Point) Why) → length g ≡ number → leaving p ls number q ≡ r → leaving p ls (length g) q ≡ r
at_number p ls g q number r counted e = ap (λ j. leaving p ls j q) counted ∙ e

pub walk_done : (offsets : Offsets) (p : XdpProgram) (ls : List Loop) (g w : List Point) → IsWalk offsets p ls g w → length w ≡ 0 → length g ≤ 16384 → IsGraph offsets p ls g
walk_done offsets p ls g w h e few = walk_ended offsets p ls g w h (nothing_left w e) few

pub walk_ordered : (offsets : Offsets) (p : XdpProgram) (ls : List Loop) (g from w : List Point) (q : Point) → IsWalk offsets p ls g from → from ≡ q ∷ w → AreOrdered ls w
walk_ordered offsets p ls g from w q h e =
    let k : IsWalk offsets p ls g (q ∷ w) = subst (IsWalk offsets p ls g) e h in
    ordered_of ls w k.ordered.nested (fine_right ls g (q ∷ w) (fine_of ls (g ++ q ∷ w) k.ordered.nodes k.ordered.ascending)).2

pub ends_are_nodes : (offsets : Offsets) (p : XdpProgram) (ls : List Loop) (g from w es : List Point) (q : Point) (number : ℕ) → AreLoops p.insns ls → IsWalk offsets p ls g from → from ≡ q ∷ w → leaving p ls number q ≡ Ok es
    → All (λ x. IsNode ls x.node) es
ends_are_nodes offsets p ls g from w es q number loops h e f =
    let k : IsWalk offsets p ls g (q ∷ w) = subst (IsWalk offsets p ls g) e h in
    let node : IsNode ls q.node = (fine_right ls g (q ∷ w) (fine_of ls (g ++ q ∷ w) k.ordered.nodes k.ordered.ascending)).0 in
    λ i d below. (leaving_goes_up p ls number q es loops node f i d below).0

pub walk_on : (offsets : Offsets) (p : XdpProgram) (ls : List Loop) (g next from w after es : List Point) (q : Point) (number : ℕ) → AreLoops p.insns ls → IsWalk offsets p ls g from → from ≡ q ∷ w → length g ≡ number → leaving p ls number q ≡ Ok es
    → next ≡ g ++ q ∷ [] → after ≡ with_ends ls w es → IsWalk offsets p ls next after
walk_on offsets p ls g next from w after es q number loops h e counted f a b =
    let k : IsWalk offsets p ls g (q ∷ w) = subst (IsWalk offsets p ls g) e h in
    let on : IsWalk offsets p ls (g ++ q ∷ []) (with_ends ls w es) = walk_more offsets p ls g w es q loops k (at_number p ls g q number (Ok es) counted f) in
    subst (λ xs. IsWalk offsets p ls xs after) (sym a) (subst (IsWalk offsets p ls (g ++ q ∷ [])) (sym b) on)

pub walk_failed : (offsets : Offsets) (p : XdpProgram) (ls : List Loop) (g from w : List Point) (q : Point) (number : ℕ) (e : BuildError) → IsWalk offsets p ls g from → from ≡ q ∷ w → length g ≡ number → number < 16384
    → Leaves q.node.place (leaving p ls number q) (Err e) → Walks offsets p ls (Err e)
walk_failed offsets p ls g from w q number NoMemory h step counted few f = tt
walk_failed offsets p ls g from w q number (Refused r) h step counted few f =
    walk_refused offsets p ls g w q r (subst (IsWalk offsets p ls g) step h) (inr (omega (arith, counted, few), at_number p ls g q number (Err r.why) counted f.0)) f.1

pub walk_too_long : (offsets : Offsets) (p : XdpProgram) (ls : List Loop) (g from w : List Point) (q : Point) (place : ℕ) (e : BuildError) → IsWalk offsets p ls g from → from ≡ q ∷ w → length g ≡ 16384 → place ≡ q.node.place
    → e ≡ Refused (record { at = place; why = why.Size }) → Walks offsets p ls (Err e)
walk_too_long offsets p ls g from w q place e h step counted at is =
    subst (λ x. Walks offsets p ls (Err x)) (sym is) (walk_refused offsets p ls g w q (record { at = place; why = why.Size }) (subst (IsWalk offsets p ls g) step h) (inl (counted, refl)) at)
