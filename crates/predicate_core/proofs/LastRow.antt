-- Cells that stand in no later row than others.
use Rattle.std.proofs.Common.{◌≡◌, ℕ, zero, suc, ◌+◌, ◌-◌, ◌<◌, ◌≤◌, ◌⊎◌, inl, inr, List, [], ◌∷◌, ◌++◌, length, ap, arith}
use Rattle.std.proofs.lemmas.Bool.{cases_lt}
use Rattle.std.proofs.lemmas.List.Elements.{All-head, All-tail}
use Rattle.cell_core.specs.declared.program.Node.{Node}
use Rattle.cell_core.specs.Cells.{CellView}
use Rattle.cell_core.specs.Rows.{AreRows, greatest, numbers, node_row, last_row}
use Rattle.operator_cells.specs.declared.joining.Arm.{Arm}
use Rattle.operator_cells.specs.Joining.{flat, AreThere}
use Rattle.operator_cells.specs.Making.{GrowsWith, Grows}
use Rattle.operator_cells.specs.Rising.{GrowsTo}
use Rattle.operator_cells.proofs.RisingLaws.{rows_before}
use Rattle.predicate_core.specs.Buildable.{HasBits, AddsNoRow}

pub no_row_none : (cells : List CellView) → AddsNoRow cells cells
no_row_none cells row n rows low = low

pub no_row_then : (a b c : List CellView) → Grows b c → AddsNoRow a b → AddsNoRow b c → AddsNoRow a c
no_row_then a b c g first second row n rows low = second row n rows (first row n (rows_before (λ k j. ⊥) b c g row rows) low)

pub no_row_more : (a b : List CellView) (last : (ℕ → ℕ) → ℕ) → GrowsTo a b last → ((row : ℕ → ℕ) (n : ℕ) → ((k : ℕ) → k < length a → row k ≤ n) → last row ≤ n) → AddsNoRow a b
no_row_more a b last g most row n rows low k l = by (cases_lt k (length a))
  where
    by : (k < length a) ⊎ (length a ≤ k) → row k ≤ n
    by (inl m) = low k m
    by (inr m) = omega (arith, g.each row rows k m l, most row n low)

-- the cells of edges
pub flat_low : (cells : List CellView) (row : ℕ → ℕ) (n : ℕ) (arms : List Arm) → ((k : ℕ) → k < length cells → row k ≤ n) → AreThere cells arms → greatest row (flat arms) ≤ n
flat_low cells row n [] low there = omega arith
flat_low cells row n (a ∷ arms) low there =
    let h = All-head (λ x. (x.bit < length cells) × (x.cell < length cells)) a arms there in
    omega (arith, low a.bit h.0, low a.cell h.1, flat_low cells row n arms low (All-tail (λ x. (x.bit < length cells) × (x.cell < length cells)) a arms there))

-- ---- nodes

row_among : (row : ℕ → ℕ) (first count k : ℕ) → first ≤ k → k < first + count → row k ≤ greatest row (numbers first count)
row_among row first zero k l m = absurd (omega (arith, l, m))
row_among row first (suc count) k l m = by (cases_lt first k) (λ h. row_among row (suc first) count k (omega (arith, h)) (omega (arith, m)))
  where
    by : (first < k) ⊎ (k ≤ first) → (first < k → row k ≤ greatest row (numbers (suc first) count)) → row k ≤ greatest row (numbers first (suc count))
    by (inl h) more = let x = more h in omega (arith, x)
    by (inr h) more = let e : k ≡ first = omega (arith, l, h) in omega (arith, ap row e)

last_more : (row : ℕ → ℕ) (nodes : List Node) (n : Node) → (last_row row nodes ≤ last_row row (nodes ++ n ∷ [])) × (node_row row n ≤ last_row row (nodes ++ n ∷ []))
last_more row [] n = (omega arith, omega arith)
last_more row (m ∷ nodes) n = let x = last_more row nodes n in (omega (arith, x.0), omega (arith, x.1))

-- a node that has made the cells after those of the nodes before it
pub rows_more : (R : ℕ → ℕ → Type 0) (old new : List CellView) (nodes : List Node) (n : Node) → n.first ≡ length old → n.end ≡ length new → GrowsWith R old new
    → ((row : ℕ → ℕ) → AreRows old row → (c : ℕ) → c < length old → row c ≤ last_row row nodes)
    → (row : ℕ → ℕ) → AreRows new row → (c : ℕ) → c < length new → row c ≤ last_row row (nodes ++ n ∷ [])
rows_more R old new nodes n first end g was row rows c l = by (cases_lt c (length old)) (last_more row nodes n)
  where
    by : (c < length old) ⊎ (length old ≤ c) → (last_row row nodes ≤ last_row row (nodes ++ n ∷ [])) × (node_row row n ≤ last_row row (nodes ++ n ∷ [])) → row c ≤ last_row row (nodes ++ n ∷ [])
    by (inl m) x = omega (arith, was row (rows_before R old new g row rows) c m, x.0)
    by (inr m) x = let y = row_among row n.first (n.end - n.first) c (omega (arith, first, m)) (omega (arith, first, end, l, g.longer)) in omega (arith, y, x.1)

-- ---- widths

pub bits_later : (old new : List CellView) (bits c : ℕ) → Grows old new → HasBits old bits c → HasBits new bits c
bits_later old new bits c g is = record {
  there = omega (arith, is.there, g.longer);
  width = omega (arith, is.width, ap (λ (x : CellView). x.width) (g.kept c is.there));
}
