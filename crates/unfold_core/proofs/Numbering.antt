-- The number of a node among nodes in unfolded order, and where the end of an edge goes.
use Rattle.std.proofs.Common.{◌≡◌, ℕ, zero, suc, ◌≤◌, ◌<◌, inl, inr, Bool, true, false, List, [], ◌∷◌, length, get_or, set, refl, sym, ◌∙◌, ap, subst, arith}
use Rattle.std.specs.Prelude.{nat_lt, replicate, if◌then◌else◌}
use Rattle.std.specs.List.{insert}
use Rattle.std.specs.List.Sorted.{IsPartitionedBy, IsPartitionPoint}
use Rattle.std.proofs.lemmas.List.{get_or_default}
use Rattle.std.proofs.lemmas.Bool.{cases_order, le-ltb}
use Rattle.kind_core.specs.declared.kind.Kinds.{Kinds}
use Rattle.kind_core.specs.Joins.{joined}
use Rattle.unfold_core.specs.declared.nesting.Loop.{Loop}
use Rattle.unfold_core.specs.declared.edges.Point.{Point}
use Rattle.unfold_core.specs.Nodes.{GraphNode, first, rest, differs, IsNode, copies_before, comes_before, start}
use Rattle.unfold_core.specs.Graphs.{AreOrdered}
use Rattle.unfold_core.specs.Pending.{number_of, meets, put, with_end}
use Rattle.unfold_core.proofs.NodeLaws.{nodes_are_ordered}

-- those that come before a node stand in front
pub partitioned : (ls : List Loop) (ps : List Point) (n : GraphNode) → AreOrdered ls ps → IsNode ls n → IsPartitionedBy (λ x. comes_before ls x.node n) ps
partitioned ls ps n h s = λ i j d le below first. elim (cases_order i j) [
  | inl e ↦ subst (λ k. comes_before ls (get_or ps k d).node n ≡ true) (sym e) first
  | inr (inl lt) ↦
      (nodes_are_ordered ls h.nested).transitive (get_or ps i d).node (get_or ps j d).node n (h.nodes i d (omega arith)) (h.nodes j d below) s (h.ascending i j d lt below) first
  | inr (inr gt) ↦ absurd (omega arith)
]

pub number_is : (ls : List Loop) (ps : List Point) (n : GraphNode) (i : ℕ) → i ≤ length ps → IsPartitionPoint (λ x. comes_before ls x.node n ≡ true) (λ x. comes_before ls x.node n ≡ false) ps i
    → i ≡ number_of ls n ps
number_is ls [] n i le h = omega arith
number_is ls (p ∷ ps) n zero le h = sym (ap (λ b. if b then suc (number_of ls n ps) else zero) (h.1 0 p (omega arith) (omega arith)))
number_is ls (p ∷ ps) n (suc i) le h =
    ap suc (number_is ls ps n i (omega arith) (λ k d low high. h.0 (suc k) d (omega arith) (omega arith), λ k d low high. h.1 (suc k) d (omega arith) (omega arith)))
    ∙ sym (ap (λ b. if b then suc (number_of ls n ps) else zero) (h.0 0 p (omega arith) (omega arith)))

-- the node is there: what is known meets
pub with_end_set : (ls : List Loop) (ps : List Point) (e d : Point) → number_of ls e.node ps < length ps → comes_before ls e.node (get_or ps (number_of ls e.node ps) d).node ≡ false
    → set ps (number_of ls e.node ps) (meets (get_or ps (number_of ls e.node ps) d) e) ≡ with_end ls ps e
with_end_set ls [] e d below differ = absurd (omega arith)
with_end_set ls (p ∷ ps) e d below differ = by_first (comes_before ls p.node e.node) (with_end_set ls ps e d) below differ
  where
    by_first : (b : Bool) → (number_of ls e.node ps < length ps → comes_before ls e.node (get_or ps (number_of ls e.node ps) d).node ≡ false → set ps (number_of ls e.node ps) (meets (get_or ps (number_of ls e.node ps) d) e) ≡ with_end ls ps e)
        → (if b then suc (number_of ls e.node ps) else zero) < suc (length ps)
        → comes_before ls e.node (get_or (p ∷ ps) (if b then suc (number_of ls e.node ps) else zero) d).node ≡ false
        → set (p ∷ ps) (if b then suc (number_of ls e.node ps) else zero) (meets (get_or (p ∷ ps) (if b then suc (number_of ls e.node ps) else zero) d) e) ≡ (if b then p ∷ with_end ls ps e else put ls e (p ∷ ps))
    by_first true later lt q = ap (λ xs. p ∷ xs) (later (omega arith) q)
    by_first false later lt q = sym (ap (λ b. if b then e ∷ p ∷ ps else meets p e ∷ ps) q)

-- the node is not there
pub with_end_insert : (ls : List Loop) (ps : List Point) (e d : Point) → (number_of ls e.node ps < length ps → comes_before ls e.node (get_or ps (number_of ls e.node ps) d).node ≡ true)
    → insert ps (number_of ls e.node ps) e ≡ with_end ls ps e
with_end_insert ls [] e d first = refl
with_end_insert ls (p ∷ ps) e d first = by_first (comes_before ls p.node e.node) (with_end_insert ls ps e d) first
  where
    by_first : (b : Bool) → ((number_of ls e.node ps < length ps → comes_before ls e.node (get_or ps (number_of ls e.node ps) d).node ≡ true) → insert ps (number_of ls e.node ps) e ≡ with_end ls ps e)
        → ((if b then suc (number_of ls e.node ps) else zero) < suc (length ps) → comes_before ls e.node (get_or (p ∷ ps) (if b then suc (number_of ls e.node ps) else zero) d).node ≡ true)
        → insert (p ∷ ps) (if b then suc (number_of ls e.node ps) else zero) e ≡ (if b then p ∷ with_end ls ps e else put ls e (p ∷ ps))
    by_first true later q = ap (λ xs. p ∷ xs) (later (λ lt. q (omega arith)))
    by_first false later q = sym (ap (λ b. if b then e ∷ p ∷ ps else meets p e ∷ ps) (q (omega arith)))

-- ---- the same of what the code has

pub joined_there : (ls : List Loop) (ps : List Point) (e x y : Point) (at : ℕ) (k : Kinds) → at ≡ number_of ls e.node ps → at < length ps → y ≡ get_or ps at y → x ≡ get_or ps at x → comes_before ls e.node y.node ≡ false
    → k ≡ joined x.kinds e.kinds → set ps at (record { node = x.node; kinds = k }) ≡ with_end ls ps e
joined_there ls ps e x y at k place below there here later met =
    let P : ℕ → Type 0 = λ i. i < length ps → y ≡ get_or ps i y → x ≡ get_or ps i x → set ps i (record { node = x.node; kinds = k }) ≡ with_end ls ps e in
    subst P (sym place) by_number below there here
  where
    by_number : number_of ls e.node ps < length ps → y ≡ get_or ps (number_of ls e.node ps) y → x ≡ get_or ps (number_of ls e.node ps) x
        → set ps (number_of ls e.node ps) (record { node = x.node; kinds = k }) ≡ with_end ls ps e
    by_number lt f g =
        let one : get_or ps (number_of ls e.node ps) y ≡ x = get_or_default ps (number_of ls e.node ps) y x lt ∙ sym g in
        ap (λ j. set ps (number_of ls e.node ps) (record { node = x.node; kinds = j })) met
        ∙ ap (λ z. set ps (number_of ls e.node ps) (meets z e)) (sym one)
        ∙ with_end_set ls ps e y lt (ap (λ z. comes_before ls e.node z.node) (sym f) ∙ later)

pub inserted_there : (ls : List Loop) (ps : List Point) (e d : Point) (at : ℕ) → at ≡ number_of ls e.node ps → (at < length ps → comes_before ls e.node (get_or ps at d).node ≡ true) → insert ps at e ≡ with_end ls ps e
inserted_there ls ps e d at place first =
    let P : ℕ → Type 0 = λ i. (i < length ps → comes_before ls e.node (get_or ps i d).node ≡ true) → insert ps i e ≡ with_end ls ps e in
    subst P (sym place) (with_end_insert ls ps e d) first

pub number_in : (ls : List Loop) (n : GraphNode) (ps : List Point) → number_of ls n ps ≤ length ps
number_in ls n [] = omega arith
number_in ls n (p ∷ ps) = by_first (comes_before ls p.node n) (number_in ls n ps)
  where
    by_first : (b : Bool) → number_of ls n ps ≤ length ps → (if b then suc (number_of ls n ps) else zero) ≤ suc (length ps)
    by_first true h = omega arith
    by_first false h = omega arith

-- no node comes before the start, so it is the first
none_before : (ls : List Loop) (place : ℕ) (cs : List ℕ) → copies_before ls place cs 0 (replicate (length ls) 0) ≡ false
none_before [] place cs = le-ltb place 0 (omega arith)
none_before (l ∷ ls) place cs = by_test (none_before ls place (rest cs)) (differs l place (first cs) 0 0)
  where
    by_test : copies_before ls place (rest cs) 0 (replicate (length ls) 0) ≡ false → (b : Bool) → (if b then nat_lt (first cs) 0 else copies_before ls place (rest cs) 0 (replicate (length ls) 0)) ≡ false
    by_test later true = le-ltb (first cs) 0 (omega arith)
    by_test later false = later

pub start_is_first : (ls : List Loop) (g : List Point) → number_of ls (start ls) g ≡ 0
start_is_first ls [] = refl
start_is_first ls (p ∷ ps) = ap (λ b. if b then suc (number_of ls (start ls) ps) else zero) (none_before ls p.node.place p.node.copies)
