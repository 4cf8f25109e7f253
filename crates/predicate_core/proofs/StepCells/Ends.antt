-- The edges that are added at a node are those that leave it.
use Rattle.std.proofs.Common.{◌≡◌, ℕ, ◌<◌, Bool, true, false, Option, Some, None, List, [], ◌∷◌, ◌++◌, length, get_or, drop, refl, sym, ◌∙◌, ap, subst, arith}
use Rattle.std.specs.Prelude.{All, Contains, map as map_list}
use Rattle.std.proofs.lemmas.List.{length-map, get_or-map, get_or_default, map-append, drop_at}
use Rattle.std.proofs.lemmas.List.Elements.{All-nil, All-cons, All-append, Contains-append_left, Contains-append_right}
use Rattle.xdp_machine.specs.bpf_isa.declared.instruction.Insn.{Insn}
use Rattle.kind_core.specs.declared.kind.Kinds.{Kinds}
use Rattle.kind_core.specs.Edges.{transferred}
use Rattle.operator_cells.specs.declared.held_cells.way.Way.{Way}
use Rattle.operator_cells.specs.HeldCells.Paths.{EdgeView, GraphView}
use Rattle.edge_cells.specs.NodeCells.Ends.{IsNode, HasEnds, is_reference, end_along, brought, brought_along, all_brought}
use Rattle.edge_cells.specs.NodeCells.Feeding.{known_behind, known_on}
use Rattle.predicate_core.specs.StepCells.Leaving.{NodesBring}

-- what is brought is that of an edge of the graph that leaves node k
abbrev IsOf : GraphView → ℕ → ℕ × Kinds → Type 0
IsOf g k b = (x : EdgeView) × Contains g.edges x × (x.from ≡ k) × (x.to ≡ b.0) × (b.1 ≡ known_on g x)

edge_known : (g : GraphView) (k : ℕ) (i : Insn) (kinds : Kinds) (taken : Bool) (to : ℕ) → IsNode g k i kinds → transferred g.decls kinds i k (is_reference g k) taken ≡ known_on g (record { from = k; taken = taken; to = to })
edge_known g k i kinds taken to is =
    ap (λ (x : Kinds). transferred g.decls x i k (is_reference g k) taken) (sym is.kinds_are) ∙ ap (known_behind g (record { from = k; taken = taken; to = to })) (sym is.insn)

along_each : (g : GraphView) (k : ℕ) (i : Insn) (kinds : Kinds) (next jump : Option ℕ) (taken : Bool) (o : Option ℕ) → IsNode g k i kinds → HasEnds g k i next jump → end_along next jump taken ≡ o
    → All (IsOf g k) (brought_along g.decls k kinds i (is_reference g k) taken o)
along_each g k i kinds next jump taken None is ends e = All-nil (IsOf g k)
along_each g k i kinds next jump taken (Some to) is ends e =
    All-cons (IsOf g k) (to, transferred g.decls kinds i k (is_reference g k) taken) [] (record { from = k; taken = taken; to = to }, ends.each taken to e, refl, refl, edge_known g k i kinds taken to is) (All-nil (IsOf g k))

-- an edge of the graph is among what is brought
among : (g : GraphView) (k : ℕ) (i : Insn) (kinds : Kinds) (next jump : Option ℕ) (taken : Bool) (to : ℕ) → end_along next jump taken ≡ Some to
    → Contains (all_brought g.decls k kinds i (is_reference g k) next jump) (to, transferred g.decls kinds i k (is_reference g k) taken)
among g k i kinds next jump true to e =
    Contains-append_right (brought_along g.decls k kinds i (is_reference g k) false next) (brought_along g.decls k kinds i (is_reference g k) true jump) _
    (subst (λ (o : Option ℕ). Contains (brought_along g.decls k kinds i (is_reference g k) true o) (to, transferred g.decls kinds i k (is_reference g k) true)) (sym e) (0, omega arith, refl))
among g k i kinds next jump false to e =
    Contains-append_left (brought_along g.decls k kinds i (is_reference g k) false next) (brought_along g.decls k kinds i (is_reference g k) true jump) _
    (subst (λ (o : Option ℕ). Contains (brought_along g.decls k kinds i (is_reference g k) false o) (to, transferred g.decls kinds i k (is_reference g k) false)) (sym e) (0, omega arith, refl))

-- from what edges bring to the edges
each_edge : (P : ℕ × Kinds → Type 0) (ways : List Way) → All P (map_list brought ways) → All (λ e. P (brought e)) ways
each_edge P ways all i d l = subst P (get_or-map brought ways i d (brought d) l) (all i (brought d) (omega (arith, l, length-map ways brought)))

edge_among : (ways : List Way) (b : ℕ × Kinds) → Contains (map_list brought ways) b → (e : Way) × Contains ways e × (brought e ≡ b)
edge_among [] b c = absurd (omega (arith, c.1))
edge_among (x ∷ xs) b c =
    let l : c.0 < length (x ∷ xs) = omega (arith, c.1, length-map (x ∷ xs) brought) in
    (get_or (x ∷ xs) c.0 x, (c.0, l, get_or_default (x ∷ xs) c.0 (get_or (x ∷ xs) c.0 x) x l), sym (get_or-map brought (x ∷ xs) c.0 x b l) ∙ c.2)

pub nodes_bring : NodesBring
nodes_bring g k i kinds next jump ways more ways2 is ends are h = record {
  each = each_edge (IsOf g k) more (subst (All (IsOf g k)) (sym more_is)
      (All-append (IsOf g k) (brought_along g.decls k kinds i (is_reference g k) false next) (brought_along g.decls k kinds i (is_reference g k) true jump)
      (along_each g k i kinds next jump false next is ends refl) (along_each g k i kinds next jump true jump is ends refl)));
  all = λ x c from.
      let e = edge_among more (x.to, transferred g.decls kinds i k (is_reference g k) x.taken)
      (subst (λ (xs : List (ℕ × Kinds)). Contains xs (x.to, transferred g.decls kinds i k (is_reference g k) x.taken)) (sym more_is) (among g k i kinds next jump x.taken x.to (ends.all x c from))) in
      (e.0, e.1, ap (λ (b : ℕ × Kinds). b.0) e.2);
}
  where
    both : map_list brought ways ++ map_list brought more ≡ map_list brought ways ++ all_brought g.decls k kinds i (is_reference g k) next jump
    both = sym (map-append brought ways more) ∙ ap (map_list brought) (sym are) ∙ h

    more_is : map_list brought more ≡ all_brought g.decls k kinds i (is_reference g k) next jump
    more_is =
        sym (drop_at (map_list brought ways) (map_list brought more) (length ways) (length-map ways brought)) ∙ ap (drop (length ways)) both
        ∙ drop_at (map_list brought ways) (all_brought g.decls k kinds i (is_reference g k) next jump) (length ways) (length-map ways brought)
