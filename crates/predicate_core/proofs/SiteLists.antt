-- Sites of nodes, one node after another.
use Rattle.std.proofs.Common.{◌≡◌, ℕ, ◌<◌, ◌≤◌, ◌==◌, nat_lt, Bool, true, false, List, [], ◌∷◌, ◌++◌, get_or, refl, ◌∙◌, ap, arith}
use Rattle.std.specs.Prelude.{All, cond}
use Rattle.std.specs.List.{filter}
use Rattle.std.proofs.lemmas.Bool.Decides.{nat_tests}
use Rattle.std.proofs.lemmas.List.{append-nil}
use Rattle.std.proofs.lemmas.List.Elements.{All-head, All-tail, All-weaker, filter-append}
use Rattle.cell_core.specs.Sites.{SiteView}
use Rattle.operator_cells.specs.HeldCells.Law.{sites_below, sites_at}

filter_all : {X : Type 0} (p : X → Bool) (xs : List X) → All (λ x. p x ≡ true) xs → filter p xs ≡ xs
filter_all p [] h = refl
filter_all p (x ∷ xs) h = ap (λ (t : Bool). cond t (x ∷ filter p xs) (filter p xs)) (All-head (λ y. p y ≡ true) x xs h) ∙ ap (λ ys. x ∷ ys) (filter_all p xs (All-tail (λ y. p y ≡ true) x xs h))

filter_none : {X : Type 0} (p : X → Bool) (xs : List X) → All (λ x. p x ≡ false) xs → filter p xs ≡ []
filter_none p [] h = refl
filter_none p (x ∷ xs) h = ap (λ (t : Bool). cond t (x ∷ filter p xs) (filter p xs)) (All-head (λ y. p y ≡ false) x xs h) ∙ filter_none p xs (All-tail (λ y. p y ≡ false) x xs h)

lower : (n k : ℕ) → n < k → nat_lt n k ≡ true
lower n k h = grind (arith, nat_tests)

not_lower : (n k : ℕ) → k ≤ n → nat_lt n k ≡ false
not_lower n k h = grind (arith, nat_tests)

other : (n k : ℕ) → n < k → (n == k) ≡ false
other n k h = grind (arith, nat_tests)

above : (n k : ℕ) → k < n → (n == k) ≡ false
above n k h = grind (arith, nat_tests)

own : (n k : ℕ) → n ≡ k → (n == k) ≡ true
own n k h = grind (arith, nat_tests)

pub below_all : (k : ℕ) (ss : List SiteView) → All (λ s. s.node < k) ss → sites_below k ss ≡ ss
below_all k ss low = filter_all (λ s. nat_lt s.node k) ss (All-weaker (λ s. s.node < k) (λ s. nat_lt s.node k ≡ true) (λ s l. lower s.node k l) ss low)

pub below_none : (ss : List SiteView) → sites_below 0 ss ≡ []
below_none ss = filter_none (λ s. nat_lt s.node 0) ss (λ i d l. not_lower (get_or ss i d).node 0 (omega arith))

-- sites of a later node are none of those before
pub below_more : (j k : ℕ) (ss more : List SiteView) → j ≤ k → All (λ s. s.node ≡ k) more → sites_below j (ss ++ more) ≡ sites_below j ss
below_more j k ss more l is =
    filter-append (λ s. nat_lt s.node j) ss more
    ∙ ap (λ (xs : List SiteView). sites_below j ss ++ xs) (filter_none (λ s. nat_lt s.node j) more (All-weaker (λ s. s.node ≡ k) (λ s. nat_lt s.node j ≡ false) (λ s e. not_lower s.node j (omega (arith, l, e))) more is))
    ∙ append-nil (sites_below j ss)

pub at_more : (j k : ℕ) (ss more : List SiteView) → j < k → All (λ s. s.node ≡ k) more → sites_at j (ss ++ more) ≡ sites_at j ss
at_more j k ss more l is =
    filter-append (λ s. s.node == j) ss more
    ∙ ap (λ (xs : List SiteView). sites_at j ss ++ xs) (filter_none (λ s. s.node == j) more (All-weaker (λ s. s.node ≡ k) (λ s. (s.node == j) ≡ false) (λ s e. above s.node j (omega (arith, l, e))) more is))
    ∙ append-nil (sites_at j ss)

pub at_new : (k : ℕ) (ss more : List SiteView) → All (λ s. s.node < k) ss → All (λ s. s.node ≡ k) more → sites_at k (ss ++ more) ≡ more
at_new k ss more low is =
    filter-append (λ s. s.node == k) ss more
    ∙ ap (λ (xs : List SiteView). xs ++ sites_at k more) (filter_none (λ s. s.node == k) ss (All-weaker (λ s. s.node < k) (λ s. (s.node == k) ≡ false) (λ s l. other s.node k l) ss low))
    ∙ filter_all (λ s. s.node == k) more (All-weaker (λ s. s.node ≡ k) (λ s. (s.node == k) ≡ true) (λ s e. own s.node k e) more is)
