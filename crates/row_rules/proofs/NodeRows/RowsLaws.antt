-- Rows after nodes, one node after another.
use Rattle.std.proofs.Common.{◌≡◌, ◌∙◌, Bool, true, false, ℕ, suc, ◌+◌, ◌<◌, ◌≤◌, ◌==◌, ◌⊎◌, inl, inr, if◌then◌else◌, Option, Some, List, [], ◌∷◌, ◌++◌, length, length-append, take, refl, sym, ap, max, arith, subst, map}
use Rattle.std.specs.Prelude.{All, count_by}
use Rattle.std.specs.List.{filter}
use Rattle.std.proofs.Math.Seq.{take-suc}
use Rattle.std.proofs.lemmas.Bool.{cases_lt, eqb-true}
use Rattle.std.proofs.lemmas.List.Sums.{length-filter}
use Rattle.std.proofs.lemmas.List.{take_all}
use Rattle.std.proofs.lemmas.List.Elements.{All-cons, All-nil, All-push, filter-append}
use Rattle.xdp_state.specs.bpf_isa.declared.instruction.Insn.{Insn}
use Rattle.xdp_state.specs.xdp_maps.declared.decl.MapDecl.{MapDecl}
use Rattle.xdp_state.specs.xdp_machine.Program.{XdpProgram}
use Rattle.kind_core.specs.declared.kind.Kinds.{Kinds}
use Rattle.cell_core.specs.Cells.{bit}
use Rattle.unfold_core.specs.declared.edges.Point.{Point}
use Rattle.unfold_core.specs.declared.links.Edge.{Edge}
use Rattle.row_rules.specs.declared.place_rows.origin.Origin.{Origin}
use Rattle.row_rules.specs.declared.node_rows.joining.Arrival.{Arrival}
use Rattle.row_rules.specs.declared.node_rows.node.AfterNode.{AfterNode}
use Rattle.row_rules.specs.declared.node_rows.stages.Stages.{Stages}
use Rattle.row_rules.specs.PlaceRows.Origins.{every_row}
use Rattle.row_rules.specs.NodeRows.Joining.{edge_row, origins_at}
use Rattle.row_rules.specs.NodeRows.Passing.{origin_behind, origins_behind, behind, IsLow, IsLowArrival}
use Rattle.row_rules.specs.NodeRows.Rows.{no_point, point_at, no_behind, insn_of, known_behind, arrival_of, arrivals_of, behind_node, rows_of, row_of_node, may_write, with_node, HasStages}
use Rattle.row_rules.proofs.PlaceRows.PlaceLaws.{row_low, count_places}
use Rattle.row_rules.proofs.NodeRows.PlaceLemmas.{joined_low}

-- ---- low rows
with-first : (p : XdpProgram) (nodes : List Point) (passed : List AfterNode) (n : ℕ) (e : Edge) (es : List Edge) → (e.from < e.to) × (e.to < length nodes) → All IsLow passed → length passed ≡ n
    → All IsLowArrival (map (arrival_of p nodes passed) (filter (λ x. x.to == n) es)) → (b : Bool) → (e.to == n) ≡ b
    → All IsLowArrival (map (arrival_of p nodes passed) (if b then e ∷ filter (λ x. x.to == n) es else filter (λ x. x.to == n) es))
with-first p nodes passed n e es up low count rest true h = All-cons IsLowArrival (arrival_of p nodes passed e) (map (arrival_of p nodes passed) (filter (λ x. x.to == n) es))
    (low e.from no_behind (omega (arith, up.0, eqb-true e.to n h, count))) rest
with-first p nodes passed n e es up low count rest false h = rest

pub arrivals_low : (p : XdpProgram) (nodes : List Point) (passed : List AfterNode) (n : ℕ) (edges : List Edge) → All (λ e. (e.from < e.to) × (e.to < length nodes)) edges → All IsLow passed → length passed ≡ n
    → All IsLowArrival (map (arrival_of p nodes passed) (filter (λ x. x.to == n) edges))
arrivals_low p nodes passed n [] up low count = All-nil IsLowArrival
arrivals_low p nodes passed n (e ∷ es) up low count = with-first p nodes passed n e es (up 0 e (omega arith)) low count
    (arrivals_low p nodes passed n es (λ k d l. up (suc k) d (omega (arith, l))) low count) (e.to == n) refl

first_of : (a b c : ℕ) → max (max a b) c ≤ 256 → a ≤ 256
first_of a b c h = omega (arith, h)

last_of : (a b c : ℕ) → max (max a b) c ≤ 256 → c ≤ 256
last_of a b c h = omega (arith, h)

pub behind_low : (decls : List MapDecl) (k after : Kinds) (i : Insn) (maker guard : ℕ) (os : List (Option Origin)) → (behind decls k after i maker guard os).row ≤ 256 → IsLow (behind decls k after i maker guard os)
behind_low decls k after i maker guard os h = (first_of _ _ _ h, λ j. row_low (origins_behind decls k after i maker guard os) 256 j (count_places (origin_behind decls k after i maker guard os)) (last_of _ _ _ h))

pub behind_is : (p : XdpProgram) (nodes : List Point) (edges : List Edge) (passed : List AfterNode) (n : ℕ) (i : Insn) (at : Point) (es : List Arrival) → at ≡ point_at nodes n → es ≡ arrivals_of p nodes edges passed n
    → insn_of p (point_at nodes n) ≡ Some i
    → behind p.decls at.kinds (known_behind p at n false (Some i)) i (n + 1) (edge_row es) (origins_at es (n + 1) at.kinds) ≡ behind_node p nodes edges passed n
behind_is p nodes edges passed n i at es e f g = rw (e, f, g) refl

pub behind_made : (p : XdpProgram) (nodes : List Point) (edges : List Edge) (passed : List AfterNode) (n : ℕ) (i : Insn) (at : Point) (es : List Arrival) (decls : List MapDecl) (after : Kinds) (guard : ℕ) (os : List (Option Origin)) (next : AfterNode)
    → next ≡ behind decls at.kinds after i (n + 1) guard os → decls ≡ p.decls → after ≡ known_behind p at n false (Some i) → guard ≡ edge_row es → os ≡ origins_at es (n + 1) at.kinds
    → at ≡ point_at nodes n → es ≡ arrivals_of p nodes edges passed n → insn_of p (point_at nodes n) ≡ Some i → next ≡ behind_node p nodes edges passed n
behind_made p nodes edges passed n i at es decls after guard os next is d a g o e f h =
    is ∙ rw (d, a, g, o) (behind_is p nodes edges passed n i at es e f h)

pub before_low : (p : XdpProgram) (nodes : List Point) (edges : List Edge) (passed : List AfterNode) (n maker : ℕ) (k : Kinds) (es : List Arrival) → es ≡ arrivals_of p nodes edges passed n
    → All (λ e. (e.from < e.to) × (e.to < length nodes)) edges → All IsLow passed → length passed ≡ n → every_row (origins_at es maker k) ≤ 256
before_low p nodes edges passed n maker k es e up low count = subst (λ (xs : List Arrival). every_row (origins_at xs maker k) ≤ 256) (sym e)
    (joined_low (arrivals_of p nodes edges passed n) maker k (arrivals_low p nodes passed n edges up low count))

-- ---- one node more
count-next : (f : Point → Bool) (xs : List Point) (x : Point) → count_by f (xs ++ x ∷ []) ≡ count_by f xs + bit (f x)
count-next f xs x = sym (length-filter f (xs ++ x ∷ [])) ∙ ap length (filter-append f xs (x ∷ [])) ∙ length-append (filter f xs) (filter f (x ∷ [])) ∙ ap (λ k. length (filter f xs) + k) (one (f x) refl) ∙ ap (λ k. k + bit (f x)) (length-filter f xs)
  where
    one : (b : Bool) → f x ≡ b → length (if b then x ∷ [] else []) ≡ bit b
    one true e = refl
    one false e = refl

pub record SoFar (p : XdpProgram) (nodes : List Point) (edges : List Edge) (n : ℕ) (passed : List AfterNode) (s : Stages) : Type 0 where
  pub rows : passed ≡ rows_of p nodes edges n
  pub low : All IsLow passed
  pub within : (k : ℕ) → k < n → row_of_node p nodes edges k ≤ s.rows
  pub some : (s.rows ≡ 0) ⊎ ((k : ℕ) × (k < n) × (row_of_node p nodes edges k ≡ s.rows))
  pub few : s.rows ≤ 256
  pub counted : s.records ≤ n
  pub records : s.records ≡ count_by (λ at. may_write p at (insn_of p at)) (take n nodes)

module _ (p : XdpProgram) (nodes : List Point) (edges : List Edge) (n : ℕ) (passed : List AfterNode) (s : Stages) (far : SoFar p nodes edges n passed s) (next : AfterNode)
    (is : next ≡ behind_node p nodes edges passed n) (few : next.row ≤ 256) where
  row_is : row_of_node p nodes edges n ≡ next.row
  row_is = sym (ap (λ (b : AfterNode). b.row) (is ∙ ap (λ r. behind_node p nodes edges r n) far.rows))

  low_next : (i : Insn) → insn_of p (point_at nodes n) ≡ Some i → IsLow next
  low_next i at = subst IsLow (sym here) (behind_low p.decls (point_at nodes n).kinds (known_behind p (point_at nodes n) n false (Some i)) i (n + 1) (edge_row es) (origins_at es (n + 1) (point_at nodes n).kinds)
      (subst (λ (b : AfterNode). b.row ≤ 256) here few))
    where
      es : List Arrival
      es = arrivals_of p nodes edges passed n

      here : next ≡ behind p.decls (point_at nodes n).kinds (known_behind p (point_at nodes n) n false (Some i)) i (n + 1) (edge_row es) (origins_at es (n + 1) (point_at nodes n).kinds)
      here = is ∙ sym (behind_is p nodes edges passed n i (point_at nodes n) es refl refl at)

  within_next : (k : ℕ) → k < n + 1 → row_of_node p nodes edges k ≤ max s.rows next.row
  within_next k l = by (cases_lt k n)
    where
      by : (k < n) ⊎ (n ≤ k) → row_of_node p nodes edges k ≤ max s.rows next.row
      by (inl m) = omega (arith, far.within k m)
      by (inr m) = let here : n ≡ k = omega (arith, l, m) in subst (λ j. row_of_node p nodes edges j ≤ max s.rows next.row) here (omega (arith, row_is))

  some_next : (max s.rows next.row ≡ 0) ⊎ ((k : ℕ) × (k < n + 1) × (row_of_node p nodes edges k ≡ max s.rows next.row))
  some_next = by (cases_lt s.rows next.row) far.some
    where
      by : (s.rows < next.row) ⊎ (next.row ≤ s.rows) → (s.rows ≡ 0) ⊎ ((k : ℕ) × (k < n) × (row_of_node p nodes edges k ≡ s.rows))
          → (max s.rows next.row ≡ 0) ⊎ ((k : ℕ) × (k < n + 1) × (row_of_node p nodes edges k ≡ max s.rows next.row))
      by (inl l) any = inr (n, omega arith, omega (arith, row_is, l))
      by (inr l) (inl e) = inl (omega (arith, l, e))
      by (inr l) (inr g) = inr (g.0, omega (arith, g.1), omega (arith, g.2, l))

  pub more : (i : Insn) (w : Bool) → n < length nodes → insn_of p (point_at nodes n) ≡ Some i → w ≡ may_write p (point_at nodes n) (Some i) → SoFar p nodes edges (n + 1) (passed ++ next ∷ []) (with_node s next.row w)
  more i w inside at writes = record {
    rows = rows_next;
    low = All-push IsLow passed next far.low (low_next i at);
    within = within_next;
    some = some_next;
    few = omega (arith, far.few, few);
    counted = omega (arith, far.counted, bit_small w);
    records = ap (λ r. r + bit w) far.records ∙ sym counted_more;
  }
    where
      writing : Point → Bool
      writing x = may_write p x (insn_of p x)

      written-as : (o : Option Insn) → o ≡ Some i → may_write p (point_at nodes n) o ≡ w
      written-as o e = rw e (sym writes)

      rows_next : passed ++ next ∷ [] ≡ rows_of p nodes edges (n + 1)
      rows_next = let next_is : suc n ≡ n + 1 = omega arith in
          ap (λ (r : List AfterNode). r ++ next ∷ []) far.rows ∙ ap (λ (b : AfterNode). rows_of p nodes edges n ++ b ∷ []) (is ∙ ap (λ (r : List AfterNode). behind_node p nodes edges r n) far.rows) ∙ ap (rows_of p nodes edges) next_is

      one_more : take (n + 1) nodes ≡ take n nodes ++ point_at nodes n ∷ []
      one_more = let next_is : n + 1 ≡ suc n = omega arith in ap (λ (k : ℕ). take k nodes) next_is ∙ take-suc nodes n no_point inside

      counted_more : count_by writing (take (n + 1) nodes) ≡ count_by writing (take n nodes) + bit w
      counted_more = ap (count_by writing) one_more ∙ count-next writing (take n nodes) (point_at nodes n) ∙ ap (λ (b : Bool). count_by writing (take n nodes) + bit b) (written-as (insn_of p (point_at nodes n)) at)

      bit_small : (b : Bool) → bit b ≤ 1
      bit_small true = omega arith
      bit_small false = omega arith

-- ---- the end
pub all_counted : (p : XdpProgram) (nodes : List Point) (edges : List Edge) (n : ℕ) (passed : List AfterNode) (s : Stages) → n ≡ length nodes → SoFar p nodes edges n passed s → HasStages p nodes edges s
all_counted p nodes edges n passed s is far = record {
  within = λ k l. far.within k (omega (arith, l, is));
  some = by far.some;
  few = far.few;
  records = far.records ∙ ap (count_by (λ at. may_write p at (insn_of p at))) (take_all n nodes (omega (arith, is)));
}
  where
    by : (s.rows ≡ 0) ⊎ ((k : ℕ) × (k < n) × (row_of_node p nodes edges k ≡ s.rows)) → (s.rows ≡ 0) ⊎ ((k : ℕ) × (k < length nodes) × (row_of_node p nodes edges k ≡ s.rows))
    by (inl e) = inl e
    by (inr g) = inr (g.0, omega (arith, g.1, is), g.2)
