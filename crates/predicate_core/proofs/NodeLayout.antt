-- A node more after others.
use Rattle.std.proofs.Common.{◌≡◌, ℕ, ◌+◌, ◌-◌, ◌<◌, ◌≤◌, ◌⊎◌, inl, inr, List, [], ◌∷◌, ◌++◌, length, length-append, get_or, refl, sym, ◌∙◌, ap, subst, arith}
use Rattle.std.specs.Prelude.{All}
use Rattle.std.specs.List.{AllPairs}
use Rattle.std.proofs.Math.ListN.{get_or-append}
use Rattle.std.proofs.Math.Seq.{get_or-append_seam, get_or-append_right}
use Rattle.std.proofs.lemmas.Bool.{cases_lt}
use Rattle.std.proofs.lemmas.List.Elements.{All-append, All-weaker}
use Rattle.cell_core.specs.declared.program.Node.{Node}
use Rattle.cell_core.specs.Cells.{CellView}
use Rattle.cell_core.specs.Sites.{SiteView}
use Rattle.cell_core.specs.Formed.{IsBelow}
use Rattle.operator_cells.specs.declared.held_cells.way.Way.{Way}
use Rattle.operator_cells.specs.declared.held_cells.way.Exit.{Exit}
use Rattle.operator_cells.specs.HeldCells.Paths.{GraphView, node_at}
use Rattle.operator_cells.specs.HeldCells.RegisterCells.{PointerView}
use Rattle.operator_cells.specs.HeldCells.Law.{no_made, made_at, sites_below, sites_at}
use Rattle.predicate_core.specs.Making.{Making, AreLaid}
use Rattle.predicate_core.specs.Laws.{made_next}
use Rattle.predicate_core.proofs.SiteLists.{below_all, below_more, at_more, at_new}

pub made_old : (nodes : List Node) (n : Node) (j : ℕ) → j < length nodes → made_at (nodes ++ n ∷ []) j ≡ made_at nodes j
made_old nodes n j h = get_or-append nodes (n ∷ []) no_made j h

pub made_new : (nodes : List Node) (n : Node) (k : ℕ) → length nodes ≡ k → made_at (nodes ++ n ∷ []) k ≡ n
made_new nodes n k h = ap (λ (j : ℕ). made_at (nodes ++ n ∷ []) j) (sym h) ∙ get_or-append_seam nodes n [] no_made

-- what holds of each node that was there, and of one more
pub node_each : (P : ℕ → Node → Type 0) (nodes : List Node) (n : Node) (k : ℕ) → length nodes ≡ k → ((j : ℕ) → j < k → P j (made_at nodes j)) → P k n
    → (j : ℕ) → j < k + 1 → P j (made_at (nodes ++ n ∷ []) j)
node_each P nodes n k count each new j h = by (cases_lt j k)
  where
    by : (j < k) ⊎ (k ≤ j) → P j (made_at (nodes ++ n ∷ []) j)
    by (inl l) = subst (P j) (sym (made_old nodes n j (omega (arith, l, count)))) (each j l)
    by (inr l) = subst (λ (i : ℕ). P i (made_at (nodes ++ n ∷ []) i)) (omega (arith, l, h)) (subst (P k) (sym (made_new nodes n k count)) new)

-- the same of sites and their nodes
site_each : (P : Node → SiteView → Type 0) (nodes : List Node) (n : Node) (k : ℕ) (ss more : List SiteView) → length nodes ≡ k → All (λ s. s.node < k) ss → All (λ s. s.node ≡ k) more
    → All (λ s. P (made_at nodes s.node) s) ss → All (P n) more → All (λ s. P (made_at (nodes ++ n ∷ []) s.node) s) (ss ++ more)
site_each P nodes n k ss more count low is old new =
    All-append (λ s. P (made_at (nodes ++ n ∷ []) s.node) s) ss more
    (λ i d l. subst (λ (x : Node). P x (get_or ss i d)) (sym (made_old nodes n (get_or ss i d).node (omega (arith, low i d l, count)))) (old i d l))
    (λ i d l. subst (λ (x : Node). P x (get_or more i d)) (sym (ap (λ (j : ℕ). made_at (nodes ++ n ∷ []) j) (is i d l) ∙ made_new nodes n k count)) (new i d l))

pairs_more : (k : ℕ) (ss more : List SiteView) → All (λ s. s.node < k + 1) (ss ++ more) → All (λ s. s.node ≡ k) more → AllPairs (λ s r. s.node ≤ r.node) ss → AllPairs (λ s r. s.node ≤ r.node) (ss ++ more)
pairs_more k ss more low is pairs i j d l h = by (cases_lt j (length ss))
  where
    by : (j < length ss) ⊎ (length ss ≤ j) → (get_or (ss ++ more) i d).node ≤ (get_or (ss ++ more) j d).node
    by (inl b) = let p = pairs i j d l b in
        omega (arith, p, ap (λ (s : SiteView). s.node) (get_or-append ss more d i (omega (arith, l, b))), ap (λ (s : SiteView). s.node) (get_or-append ss more d j b))
    by (inr b) = let e = is (j - length ss) d (omega (arith, b, h, length-append ss more)) in
        let f = low i d (omega (arith, l, h)) in
        omega (arith, e, f, ap (λ (s : SiteView). s.node) (get_or-append_right ss more j d b))

pub low_more : (k : ℕ) (ss more : List SiteView) → All (λ s. s.node < k) ss → All (λ s. s.node ≡ k) more → All (λ s. s.node < k + 1) (ss ++ more)
low_more k ss more low is = All-append (λ s. s.node < k + 1) ss more (All-weaker (λ s. s.node < k) (λ s. s.node < k + 1) (λ s l. omega (arith, l)) ss low)
    (All-weaker (λ s. s.node ≡ k) (λ s. s.node < k + 1) (λ s e. omega (arith, e)) more is)

split_more : (k : ℕ) (ss more : List SiteView) → All (λ s. s.node < k) ss → All (λ s. s.node ≡ k) more → ((j : ℕ) → j < k → sites_below (j + 1) ss ≡ sites_below j ss ++ sites_at j ss)
    → (j : ℕ) → j < k + 1 → sites_below (j + 1) (ss ++ more) ≡ sites_below j (ss ++ more) ++ sites_at j (ss ++ more)
split_more k ss more low is split j h = by (cases_lt j k)
  where
    new : sites_below (k + 1) (ss ++ more) ≡ sites_below k (ss ++ more) ++ sites_at k (ss ++ more)
    new = below_all (k + 1) (ss ++ more) (low_more k ss more low is)
        ∙ sym (ap (λ (xs : List SiteView). xs ++ sites_at k (ss ++ more)) (below_more k k ss more (omega arith) is ∙ below_all k ss low) ∙ ap (λ (xs : List SiteView). ss ++ xs) (at_new k ss more low is))

    by : (j < k) ⊎ (k ≤ j) → sites_below (j + 1) (ss ++ more) ≡ sites_below j (ss ++ more) ++ sites_at j (ss ++ more)
    by (inl l) = below_more (j + 1) k ss more (omega (arith, l)) is ∙ split j l
        ∙ sym (ap (λ (xs : List SiteView). xs ++ sites_at j (ss ++ more)) (below_more j k ss more (omega (arith, l)) is) ∙ ap (λ (xs : List SiteView). sites_below j ss ++ xs) (at_more j k ss more l is))
    by (inr l) = subst (λ (i : ℕ). sites_below (i + 1) (ss ++ more) ≡ sites_below i (ss ++ more) ++ sites_at i (ss ++ more)) (omega (arith, l, h)) new

pub laid_more : (g : GraphView) (k guard : ℕ) (t : Making) (cells2 : List CellView) (ps2 : List PointerView) (sites2 more : List SiteView) (ways : List Way) (exits : List Exit)
    → AreLaid g k t → length t.cells ≤ guard → guard < length cells2 → length t.cells ≤ length cells2 → sites2 ≡ t.sites ++ more
    → All (λ s. (s.node ≡ k) × (s.guard ≡ guard)) more → All (IsBelow (length cells2)) more
    → AreLaid g (k + 1) (record { cells = cells2; pointers = ps2; sites = sites2; ways = ways; exits = exits; nodes = t.nodes ++ made_next g k guard t.cells cells2 ∷ [] })
laid_more g k guard t cells2 ps2 sites2 more ways exits laid low high longer is own below = record {
  count = omega (arith, length-append t.nodes (n ∷ []), laid.count);
  places = node_each (λ j x. x.place ≡ (node_at g.nodes j).place) t.nodes n k laid.count laid.places refl;
  inside = node_each (λ j x. (x.first ≤ x.guard) × (x.guard < x.end) × (x.end ≤ length cells2)) t.nodes n k laid.count
      (λ j l. let i = laid.inside j l in (i.0, i.1, omega (arith, i.2, longer))) (low, high, omega arith);
  ascending = λ j h. next j h (cases_lt (j + 1) k);
  low = subst (All (λ s. s.node < k + 1)) (sym is) lower;
  split = subst (λ (xs : List SiteView). (j : ℕ) → j < k + 1 → sites_below (j + 1) xs ≡ sites_below j xs ++ sites_at j xs) (sym is) (split_more k t.sites more laid.low at laid.split);
  sites = subst (AllPairs (λ s r. s.node ≤ r.node)) (sym is) (pairs_more k t.sites more lower at laid.sites);
  guards = subst (All (λ s. s.guard ≡ (made_at (t.nodes ++ n ∷ []) s.node).guard)) (sym is)
      (site_each (λ x s. s.guard ≡ x.guard) t.nodes n k t.sites more laid.count laid.low at laid.guards (All-weaker (λ s. (s.node ≡ k) × (s.guard ≡ guard)) (λ s. s.guard ≡ guard) (λ s o. o.1) more own));
  below = subst (All (λ s. IsBelow (made_at (t.nodes ++ n ∷ []) s.node).end s)) (sym is)
      (site_each (λ x s. IsBelow x.end s) t.nodes n k t.sites more laid.count laid.low at laid.below below);
}
  where
    n : Node
    n = made_next g k guard t.cells cells2

    at : All (λ s. s.node ≡ k) more
    at = All-weaker (λ s. (s.node ≡ k) × (s.guard ≡ guard)) (λ s. s.node ≡ k) (λ s o. o.0) more own

    lower : All (λ s. s.node < k + 1) (t.sites ++ more)
    lower = low_more k t.sites more laid.low at

    next : (j : ℕ) → j + 1 < k + 1 → (j + 1 < k) ⊎ (k ≤ j + 1) → (made_at (t.nodes ++ n ∷ []) j).end ≤ (made_at (t.nodes ++ n ∷ []) (j + 1)).first
    next j h (inl l) = omega (arith, laid.ascending j l, ap (λ (x : Node). x.end) (made_old t.nodes n j (omega (arith, l, laid.count))), ap (λ (x : Node). x.first) (made_old t.nodes n (j + 1) (omega (arith, l, laid.count))))
    next j h (inr l) =
        let i = laid.inside j (omega (arith, h)) in
        omega (
          arith,
          i.2,
          ap (λ (x : Node). x.end) (made_old t.nodes n j (omega (arith, h, laid.count))),
          ap (λ (x : Node). x.first) (made_new t.nodes n (j + 1) (omega (arith, l, h, laid.count))),
        )
