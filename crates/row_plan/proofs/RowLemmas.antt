-- Rows of cells, one cell after another.
use Rattle.std.proofs.Common.{◌≡◌, ◌∙◌, Bool, true, false, ℕ, zero, suc, ◌+◌, ◌-◌, ◌<◌, ◌≤◌, List, [], ◌∷◌, ◌++◌, length, slice_index, refl, sym, ap, ap₂, max, arith, below_more, get_or, drop, take, append-nil, cond, subst}
use Rattle.std.specs.Prelude.{All}
use Rattle.std.specs.List.{filter}
use Rattle.std.proofs.Math.Seq.{drop-cons, take-suc}
use Rattle.cell_core.specs.declared.program.Node.{Node}
use Rattle.std.proofs.lemmas.List.{length-append}
use Rattle.std.proofs.lemmas.List.Elements.{All-append, All-cons, All-nil, filter-append}
use Rattle.cell_core.specs.Cells.{CellView, cell_at, bit, is_heavy}
use Rattle.cell_core.specs.Formed.{AreFormed}
use Rattle.cell_core.specs.Rows.{greatest, numbers, node_row, last_row}
use Rattle.cell_core.proofs.NumberLaws.{numbers_more}
use Rattle.row_plan.specs.Plan.{is_live, live_cells}

-- the rows of the first n cells
pub record AreRowsSoFar (cells : List CellView) (n : ℕ) (rows : List ℕ) : Type 0 where
  pub count : length rows ≡ n
  pub each : (k : ℕ) → k < n → slice_index rows k ≡ greatest (slice_index rows) (cell_at cells k).ins + bit (is_heavy (cell_at cells k).op)
  pub small : (k : ℕ) → k < n → slice_index rows k ≤ suc k

old_row : (rows : List ℕ) (x k : ℕ) → k < length rows → slice_index (rows ++ x ∷ []) k ≡ slice_index rows k
old_row [] x k h = absurd (omega (arith, h))
old_row (r ∷ rows) x zero h = refl
old_row (r ∷ rows) x (suc k) h = old_row rows x k (omega (arith, h))

new_row : (rows : List ℕ) (x : ℕ) → slice_index (rows ++ x ∷ []) (length rows) ≡ x
new_row [] x = refl
new_row (r ∷ rows) x = new_row rows x

-- earlier cells have their rows still
same_greatest : (rows : List ℕ) (x : ℕ) (ins : List ℕ) → All (λ i. i < length rows) ins → greatest (slice_index (rows ++ x ∷ [])) ins ≡ greatest (slice_index rows) ins
same_greatest rows x [] h = refl
same_greatest rows x (i ∷ ins) h = ap₂ max (old_row rows x i (h 0 0 (omega arith))) (same_greatest rows x ins (λ k d l. h (suc k) d (omega (arith, l))))

-- and none of these is greater than the number of the cell after them
greatest_below : (rows : List ℕ) (n : ℕ) (ins : List ℕ) → ((k : ℕ) → k < n → slice_index rows k ≤ suc k) → All (λ i. i < n) ins → greatest (slice_index rows) ins ≤ n
greatest_below rows n [] small h = omega arith
greatest_below rows n (i ∷ ins) small h =
    omega (arith, small i (h 0 0 (omega arith)), h 0 0 (omega arith), greatest_below rows n ins small (λ k d l. h (suc k) d (omega (arith, l))))

module _ (cells : List CellView) (n : ℕ) (rows : List ℕ) (formed : AreFormed cells) (within : n < length cells) (far : AreRowsSoFar cells n rows) where
  abbrev pub ins : List ℕ
  ins = (cell_at cells n).ins

  pub next_small : greatest (slice_index rows) ins ≤ n
  next_small = greatest_below rows n ins far.small (formed.each n within).earlier

  module _ (x : ℕ) (is : x ≡ greatest (slice_index rows) ins + bit (is_heavy (cell_at cells n).op)) where
    below_count : (k : ℕ) → k ≤ n → All (λ i. i < k) (cell_at cells k).ins → All (λ i. i < length rows) (cell_at cells k).ins
    below_count k le h = λ i d l. omega (arith, h i d l, le, far.count)

    stays : (k : ℕ) → k ≤ n → greatest (slice_index (rows ++ x ∷ [])) (cell_at cells k).ins ≡ greatest (slice_index rows) (cell_at cells k).ins
    stays k le = same_greatest rows x _ (below_count k le (formed.each k (omega (arith, le, within))).earlier)

    at_end : slice_index (rows ++ x ∷ []) n ≡ x
    at_end = ap (slice_index (rows ++ x ∷ [])) (sym far.count) ∙ new_row rows x

    bit_small : (b : Bool) → bit b ≤ 1
    bit_small true = omega arith
    bit_small false = omega arith

    abbrev Is : ℕ → Type 0
    Is k = slice_index (rows ++ x ∷ []) k ≡ greatest (slice_index (rows ++ x ∷ [])) (cell_at cells k).ins + bit (is_heavy (cell_at cells k).op)

    old_is : (k : ℕ) → k < n → Is k
    old_is k l = omega (arith, old_row rows x k (omega (arith, l, far.count)), far.each k l, stays k (omega (arith, l)))

    new_is : Is n
    new_is = at_end ∙ is ∙ ap (λ g. g + bit (is_heavy (cell_at cells n).op)) (sym (stays n (omega arith)))

    abbrev Small : ℕ → Type 0
    Small k = slice_index (rows ++ x ∷ []) k ≤ suc k

    old_small : (k : ℕ) → k < n → Small k
    old_small k l = omega (arith, old_row rows x k (omega (arith, l, far.count)), far.small k l)

    new_small : Small n
    new_small = omega (arith, at_end, is, next_small, bit_small (is_heavy (cell_at cells n).op))

    pub rows_next : AreRowsSoFar cells (n + 1) (rows ++ x ∷ [])
    rows_next = record {
      count = length-append rows (x ∷ []) ∙ omega (arith, far.count);
      each = below_more Is n old_is new_is;
      small = below_more Small n old_small new_small;
    }

-- ---- the numbers from one on
pub greatest_next : (row : ℕ → ℕ) (n m : ℕ) → n < m → greatest row (numbers n (m - n)) ≡ max (row n) (greatest row (numbers (n + 1) (m - (n + 1))))
greatest_next row n m below =
    let e : m - n ≡ suc (m - (n + 1)) = omega (arith, below) in
    let f : suc n ≡ n + 1 = omega arith in
    ap (λ k. greatest row (numbers n k)) e ∙ ap (λ j. max (row n) (greatest row (numbers j (m - (n + 1))))) f

-- one value more
pub live_next : (row kept : ℕ → ℕ) (at n : ℕ) → live_cells row kept at (suc n) ≡ live_cells row kept at n ++ filter (is_live row kept at) (n ∷ [])
live_next row kept at n =
    let e : 0 + n ≡ n = omega arith in
    ap (filter (is_live row kept at)) (numbers_more 0 n ∙ ap (λ k. numbers 0 n ++ k ∷ []) e) ∙ filter-append (is_live row kept at) (numbers 0 n) (n ∷ [])

-- the greatest of three
pub max_more : (most x now more : ℕ) → now ≡ max most x → max now more ≡ max most (max x more)
max_more most x now more is = omega (arith, is)

-- one node more
pub last_next : (row : ℕ → ℕ) (nodes : List Node) (i : ℕ) (d : Node) → i < length nodes → last_row row (drop i nodes) ≡ max (node_row row (get_or nodes i d)) (last_row row (drop (i + 1) nodes))
last_next row nodes i d within =
    let e : suc i ≡ i + 1 = omega arith in
    ap (last_row row) (drop-cons nodes i d within) ∙ ap (λ j. max (node_row row (get_or nodes i d)) (last_row row (drop j nodes))) e

pub live_more : (row kept : ℕ → ℕ) (at n : ℕ) (cells : List ℕ) → is_live row kept at n ≡ true → cells ≡ live_cells row kept at n → cells ++ n ∷ [] ≡ live_cells row kept at (n + 1)
live_more row kept at n cells there is =
    let e : suc n ≡ n + 1 = omega arith in
    ap (λ xs. xs ++ n ∷ []) is ∙ ap (λ b. live_cells row kept at n ++ cond b (n ∷ []) []) (sym there) ∙ sym (live_next row kept at n) ∙ ap (live_cells row kept at) e

pub live_same : (row kept : ℕ → ℕ) (at n : ℕ) (cells : List ℕ) → is_live row kept at n ≡ false → cells ≡ live_cells row kept at n → cells ≡ live_cells row kept at (n + 1)
live_same row kept at n cells gone is =
    let e : suc n ≡ n + 1 = omega arith in
    is ∙ sym (append-nil (live_cells row kept at n)) ∙ ap (λ b. live_cells row kept at n ++ cond b (n ∷ []) []) (sym gone) ∙ sym (live_next row kept at n) ∙ ap (live_cells row kept at) e

pub all_next : {X : Type 0} (P : X → Type 0) (xs : List X) (i : ℕ) (d : X) → i < length xs → All P (take i xs) → P (get_or xs i d) → All P (take (i + 1) xs)
all_next P xs i d within so_far here =
    let e : suc i ≡ i + 1 = omega arith in
    let are : take i xs ++ get_or xs i d ∷ [] ≡ take (i + 1) xs = sym (take-suc xs i d within) ∙ ap (λ n. take n xs) e in
    subst (All P) are (All-append P (take i xs) (get_or xs i d ∷ []) so_far (All-cons P (get_or xs i d) [] here (All-nil P)))
