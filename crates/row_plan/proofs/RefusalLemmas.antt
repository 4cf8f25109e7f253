-- The refusal of a program is one.
use Rattle.std.proofs.Common.{◌≡◌, ◌∙◌, ℕ, zero, suc, ◌+◌, ◌<◌, ◌≤◌, nat_lt, Bool, true, false, List, [], ◌∷◌, ◌++◌, length, take, drop, get_or, max, slice_index, All, refl, sym, ap, ap₂, subst, arith, below_more}
use Rattle.std.proofs.Math.Seq.{drop-cons}
use Rattle.std.proofs.lemmas.Bool.Decides.{nat_tests}
use Rattle.std.proofs.lemmas.List.{take-append-drop}
use Rattle.xdp_state.specs.declared.refusal.Refusal.{Refusal}
use Rattle.xdp_state.specs.declared.refusal.Why.{Why}
use Rattle.cell_core.specs.declared.program.Node.{Node}
use Rattle.cell_core.specs.Cells.{CellView, cell_at, bit, is_heavy}
use Rattle.cell_core.specs.Sites.{ProgramView}
use Rattle.cell_core.specs.Formed.{AreFormed}
use Rattle.cell_core.specs.Rows.{greatest, AreRows, node_row, last_row}
use Rattle.row_plan.specs.Plan.{IsTooLate}
use Rattle.row_plan.specs.Steps.{no_node, IsLateNode}
use Rattle.row_plan.proofs.RowLaws.{below_last}

-- ---- one list of rows
greatest_same : (row other : ℕ → ℕ) (ins : List ℕ) → All (λ i. row i ≡ other i) ins → greatest row ins ≡ greatest other ins
greatest_same row other [] h = refl
greatest_same row other (i ∷ ins) h = ap₂ max (h 0 0 (omega arith)) (greatest_same row other ins (λ k d l. h (suc k) d (omega (arith, l))))

past : (xs : List ℕ) (k : ℕ) → length xs ≤ k → slice_index xs k ≡ 0
past [] k h = refl
past (x ∷ xs) zero h = absurd (omega (arith, h))
past (x ∷ xs) (suc k) h = past xs k (omega (arith, h))

same_below : (cells : List CellView) (row other : ℕ → ℕ) → AreFormed cells → AreRows cells row → AreRows cells other → (n : ℕ) → n ≤ length cells → (k : ℕ) → k < n → row k ≡ other k
same_below cells row other formed a b zero le k l = absurd (omega (arith, l))
same_below cells row other formed a b (suc n) le k l = below_at (same_below cells row other formed a b n (omega (arith, le))) k l
  where
    at : ((k : ℕ) → k < n → row k ≡ other k) → row n ≡ other n
    at before =
        let here : n < length cells = omega (arith, le) in
        a.each n here ∙ ap (λ g. g + bit (is_heavy (cell_at cells n).op)) (greatest_same row other (cell_at cells n).ins (λ i d l. before _ ((formed.each n here).earlier i d l))) ∙ sym (b.each n here)

    below_at : ((k : ℕ) → k < n → row k ≡ other k) → (k : ℕ) → k < suc n → row k ≡ other k
    below_at before k l =
        let P : ℕ → Type 0 = λ j. row j ≡ other j in below_more P n before (at before) k (omega (arith, l))

pub one_rows : (cells : List CellView) (xs ys : List ℕ) → AreFormed cells → length xs ≡ length cells → length ys ≡ length cells → AreRows cells (slice_index xs) → AreRows cells (slice_index ys) → slice_index xs ≡ slice_index ys
one_rows cells xs ys formed m n a b = λ i k. same k i
  where
    by_test : (k : ℕ) (t : Bool) → nat_lt k (length cells) ≡ t → slice_index xs k ≡ slice_index ys k
    by_test k true t = same_below cells (slice_index xs) (slice_index ys) formed a b (length cells) (omega arith) k (grind (arith, nat_tests, t))
    by_test k false t = let far : length cells ≤ k = grind (arith, nat_tests, t) in past xs k (omega (arith, far, m)) ∙ sym (past ys k (omega (arith, far, n)))

    same : (k : ℕ) → slice_index xs k ≡ slice_index ys k
    same k = by_test k (nat_lt k (length cells)) refl

-- ---- one node
head_same : (m n : Node) (xs ys : List Node) → m ∷ xs ≡ n ∷ ys → m ≡ n
head_same m n xs ys e = ap (λ l. get_or l 0 m) e

tail_same : (m n : Node) (xs ys : List Node) → m ∷ xs ≡ n ∷ ys → xs ≡ ys
tail_same m n xs ys e = ap (drop 1) e

within_not : {P : Type 0} (row : ℕ → ℕ) (m n : Node) → m ≡ n → node_row row m ≤ 256 → 256 < node_row row n → P
within_not row m n e le l = absurd (omega (arith, ap (node_row row) e, le, l))

first_late : (row : ℕ → ℕ) (xs ys more bs : List Node) (m n : Node) → xs ++ m ∷ more ≡ ys ++ n ∷ bs → All (λ x. node_row row x ≤ 256) xs → All (λ x. node_row row x ≤ 256) ys → 256 < node_row row m → 256 < node_row row n → m ≡ n
first_late row [] [] more bs m n e f g h i = head_same m n more bs e
first_late row [] (y ∷ ys) more bs m n e f g h i = within_not row y m (sym (head_same m y more (ys ++ n ∷ bs) e)) (g 0 y (omega arith)) h
first_late row (x ∷ xs) [] more bs m n e f g h i = within_not row x n (head_same x n (xs ++ m ∷ more) bs e) (f 0 x (omega arith)) i
first_late row (x ∷ xs) (y ∷ ys) more bs m n e f g h i =
    first_late row xs ys more bs m n (tail_same x y (xs ++ m ∷ more) (ys ++ n ∷ bs) e) (λ k d l. f (suc k) d (omega (arith, l))) (λ k d l. g (suc k) d (omega (arith, l))) h i

made : ℕ → Why → Refusal
made at why = record { at = at; why = why }

pub one_refusal : (p : ProgramView) (r s : Refusal) → AreFormed p.cells → IsTooLate p r → IsTooLate p s → r ≡ s
unfolding made
one_refusal p r s formed a b =
    let same : slice_index b.rows ≡ slice_index a.rows = one_rows p.cells b.rows a.rows formed b.row_count a.row_count b.are_rows a.are_rows in
    let P : (ℕ → ℕ) → Type 0 = λ row. All (λ n. node_row row n ≤ 256) b.before in
    let Q : (ℕ → ℕ) → Type 0 = λ row. 256 < node_row row b.node in
    let node : a.node ≡ b.node = first_late (slice_index a.rows) a.before b.before a.after b.after a.node b.node (sym a.nodes_are ∙ b.nodes_are) a.within (subst P same b.within) a.beyond (subst Q same b.beyond) in
    let at : r.at ≡ s.at = a.at_is ∙ ap (λ (n : Node). n.place) node ∙ sym b.at_is in
    let why : r.why ≡ s.why = a.why_is ∙ sym b.why_is in
    λ i. made (at i) (why i)

-- ---- none where the last row is in its bound

pub none_late : (p : ProgramView) (rows : List ℕ) (last : ℕ) (r : Refusal) → AreFormed p.cells → length rows ≡ length p.cells → AreRows p.cells (slice_index rows) → last ≡ last_row (slice_index rows) p.nodes → last ≤ 256 → ¬ IsTooLate p r
none_late p rows last r formed count are is few late =
    let same : slice_index late.rows ≡ slice_index rows = one_rows p.cells late.rows rows formed late.row_count count late.are_rows are in
    let Q : (ℕ → ℕ) → Type 0 = λ row. 256 < node_row row late.node in
    omega (arith, below_last (slice_index rows) late.before late.after late.node, ap (last_row (slice_index rows)) late.nodes_are, is, few, subst Q same late.beyond)

-- ---- the first node that is too late
pub too_late : (p : ProgramView) (rows : List ℕ) (r : Refusal) → length rows ≡ length p.cells → AreRows p.cells (slice_index rows) → IsLateNode rows p.nodes r → IsTooLate p r
too_late p rows r count are late = record {
  rows = rows;
  row_count = count;
  are_rows = are;
  before = take late.index p.nodes;
  node = get_or p.nodes late.index no_node;
  after = drop (suc late.index) p.nodes;
  nodes_are = sym (take-append-drop late.index p.nodes) ∙ ap (λ xs. take late.index p.nodes ++ xs) (drop-cons p.nodes late.index no_node late.below);
  within = late.within;
  beyond = late.beyond;
  at_is = late.at_is;
  why_is = late.why_is;
}
