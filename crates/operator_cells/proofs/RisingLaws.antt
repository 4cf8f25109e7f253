-- Rows of new cells, one step after another.
use Rattle.std.proofs.Common.{◌≡◌, ℕ, ◌+◌, ◌<◌, ◌≤◌, ◌⊎◌, inl, inr, List, [], ◌∷◌, ◌++◌, length, reverse, max, refl, sym, ap, subst, arith, take, drop}
use Rattle.std.proofs.lemmas.Bool.{cases_lt}
use Rattle.std.proofs.lemmas.Grind.{reverse_onto}
use Rattle.std.proofs.lemmas.List.{take-append-drop}
use Rattle.cell_core.specs.xdp_maps.Calls.{patched}
use Rattle.cell_core.specs.Cells.{CellView, is_heavy, bit}
use Rattle.cell_core.specs.Rows.{AreRows, greatest}
use Rattle.cell_core.proofs.RowLaws.{greatest_append}
use Rattle.operator_cells.specs.Making.{GrowsWith, Adds}
use Rattle.operator_cells.specs.Rising.{GrowsTo, Rises, RiseAll}
use Rattle.operator_cells.proofs.Growing.{old-cell, new-cell, one-longer}

-- ---- the greatest row of several cells
pub greatest_reverse : (row : ℕ → ℕ) (xs : List ℕ) → greatest row (reverse xs) ≡ greatest row xs
greatest_reverse row [] = refl
greatest_reverse row (x ∷ xs) = omega (arith, ap (greatest row) (reverse_onto xs x []), greatest_append row (reverse xs) (x ∷ []), greatest_reverse row xs)

pub greatest_part : (row : ℕ → ℕ) (n : ℕ) (xs : List ℕ) → max (greatest row (take n xs)) (greatest row (drop n xs)) ≡ greatest row xs
greatest_part row n xs = omega (arith, greatest_append row (take n xs) (drop n xs), ap (greatest row) (take-append-drop n xs))

pub greatest_patched : (row : ℕ → ℕ) (xs ys : List ℕ) (at : ℕ) → greatest row (patched xs at ys) ≤ max (greatest row xs) (greatest row ys)
greatest_patched row xs ys at = omega (arith, greatest_append row (take at xs ++ ys) (drop (at + length ys) xs), greatest_append row (take at xs) ys, greatest_part row at xs, greatest_part row (at + length ys) xs)

-- ---- cells
pub rows_before : (R : ℕ → ℕ → Type 0) (old new : List CellView) → GrowsWith R old new → (row : ℕ → ℕ) → AreRows new row → AreRows old row
rows_before R old new g row rows = record {
  each = λ k h. subst (λ (c : CellView). row k ≡ greatest row c.ins + bit (is_heavy c.op)) (g.kept k h) (rows.each k (omega (arith, h, g.longer)));
}

abbrev pub row_of : CellView → (ℕ → ℕ) → ℕ
row_of cell row = greatest row cell.ins + bit (is_heavy cell.op)

abbrev pub IsMade : (ℕ → ℕ) → ℕ → CellView → Type 0
IsMade row k cell = row k ≡ row_of cell row

-- a cell that is added
pub added_rises : (old new : List CellView) (c : ℕ) (cell : CellView) → Adds old new c cell → Rises old new c (λ row. greatest row cell.ins + bit (is_heavy cell.op))
added_rises old new c cell adds = subst (λ (k : ℕ). Rises old new k (row_of cell)) (sym adds.at) (subst (λ (cells : List CellView). Rises old cells (length old) (row_of cell)) (sym adds.is) (record {
  grows = record {
    rows = λ row rows. record { each = λ k h. subst (IsMade row k) (old-cell old cell k h) (rows.each k (omega (arith, h, one-longer old cell))) };
    each = λ row rows k low high. let e : k ≡ length old = omega (arith, low, high, one-longer old cell) in omega (arith, ap row e, own row rows);
  };
  result = λ row rows. omega (arith, own row rows);
}))
  where
    own : (row : ℕ → ℕ) → AreRows (old ++ cell ∷ []) row → row (length old) ≡ row_of cell row
    own row rows = subst (IsMade row (length old)) (new-cell old cell) (rows.each (length old) (omega (arith, one-longer old cell)))

-- none more
pub rises_none : {a : List CellView} (c : ℕ) (last : (ℕ → ℕ) → ℕ) → ((row : ℕ → ℕ) → row c ≤ last row) → Rises a a c last
rises_none c last h = record {
  grows = record { rows = λ row rows. rows; each = λ row rows k low high. absurd (omega (arith, low, high)) };
  result = λ row rows. h row;
}

-- a later row may be said
pub rises_by : {a b : List CellView} {c : ℕ} {f g : (ℕ → ℕ) → ℕ} → Rises a b c f → ((row : ℕ → ℕ) → f row ≤ g row) → Rises a b c g
rises_by r h = record {
  grows = record { rows = r.grows.rows; each = λ row rows k low high. omega (arith, r.grows.each row rows k low high, h row) };
  result = λ row rows. omega (arith, r.result row rows, h row);
}

-- More cells up to a row, and what is known of the rows of some.
pub record Stand (old new : List CellView) (P : (ℕ → ℕ) → Type 0) (last : (ℕ → ℕ) → ℕ) : Type 0 where
  pub grows : GrowsTo old new last
  pub known : (row : ℕ → ℕ) → AreRows new row → P row

pub stand_none : {a : List CellView} {last : (ℕ → ℕ) → ℕ} → Stand a a (λ row. Unit {0}) last
stand_none = record {
  grows = record { rows = λ row rows. rows; each = λ row rows k low high. absurd (omega (arith, low, high)) };
  known = λ row rows. tt;
}

pub grown_to : {a b d : List CellView} {P : (ℕ → ℕ) → Type 0} {last f : (ℕ → ℕ) → ℕ} → Stand a b P last → GrowsTo b d f → ((row : ℕ → ℕ) → P row → f row ≤ last row) → GrowsTo a d last
grown_to {a} {b} {d} {last = last} s g h = record {
  rows = λ row rows. s.grows.rows row (g.rows row rows);
  each = λ row rows k low high. by row rows k low high (cases_lt k (length b));
}
  where
    by : (row : ℕ → ℕ) → AreRows d row → (k : ℕ) → length a ≤ k → k < length d → (k < length b) ⊎ (length b ≤ k) → row k ≤ last row
    by row rows k low high (inl l) = s.grows.each row (g.rows row rows) k low l
    by row rows k low high (inr l) = omega (arith, g.each row rows k l high, h row (s.known row (g.rows row rows)))

-- then a cell more, which stands by the rows of those before
pub stand_more : {a b d : List CellView} {c : ℕ} {P : (ℕ → ℕ) → Type 0} {last f : (ℕ → ℕ) → ℕ} → Stand a b P last → Rises b d c f → ((row : ℕ → ℕ) → P row → f row ≤ last row)
    → Stand a d (λ row. P row × (row c ≤ f row)) last
stand_more s r h = record {
  grows = grown_to s r.grows h;
  known = λ row rows. (s.known row (r.grows.rows row rows), r.result row rows);
}

pub stand_all : {a b d : List CellView} {cs : List ℕ} {P : (ℕ → ℕ) → Type 0} {last f : (ℕ → ℕ) → ℕ} → Stand a b P last → RiseAll b d cs f → ((row : ℕ → ℕ) → P row → f row ≤ last row)
    → Stand a d (λ row. P row × (greatest row cs ≤ f row)) last
stand_all s r h = record {
  grows = grown_to s r.grows h;
  known = λ row rows. (s.known row (r.grows.rows row rows), r.results row rows);
}

-- and the last
pub rises_then : {a b d : List CellView} {c : ℕ} {P : (ℕ → ℕ) → Type 0} {last f : (ℕ → ℕ) → ℕ} → Stand a b P last → Rises b d c f → ((row : ℕ → ℕ) → P row → f row ≤ last row) → Rises a d c last
rises_then s r h = record {
  grows = grown_to s r.grows h;
  result = λ row rows. omega (arith, r.result row rows, h row (s.known row (r.grows.rows row rows)));
}

-- several cells, one after another
pub rise_none : {a : List CellView} {last : (ℕ → ℕ) → ℕ} → RiseAll a a [] last
rise_none = record { grows = stand_none.grows; results = λ row rows. omega arith }

pub rise_more : {a b d : List CellView} {cs more : List ℕ} {c : ℕ} {last f : (ℕ → ℕ) → ℕ} → more ≡ cs ++ c ∷ [] → RiseAll a b cs last → Rises b d c f → ((row : ℕ → ℕ) → f row ≤ last row) → RiseAll a d more last
rise_more {cs = cs} {c = c} is all r h = record {
  grows = grown_to (stand_all stand_none all (λ row p. omega arith)) r.grows (λ row p. h row);
  results = λ row rows. omega (arith, ap (greatest row) is, greatest_append row cs (c ∷ []), all.results row (r.grows.rows row rows), r.result row rows, h row);
}
