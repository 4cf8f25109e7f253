-- A guard that a node makes itself stands where the guard of its edges stands.
use Rattle.std.proofs.Common.{ℕ, ◌<◌, ◌≤◌, ◌⊎◌, inl, inr, max, List, length, arith}
use Rattle.std.proofs.lemmas.Bool.{cases_lt}
use Rattle.kind_core.specs.declared.kind.Kinds.{Kinds}
use Rattle.cell_core.specs.Cells.{CellView}
use Rattle.cell_core.specs.Rows.{AreRows, greatest, numbers}
use Rattle.operator_cells.specs.Rising.{Rises}
use Rattle.operator_cells.specs.declared.held_cells.machine_cells.RegisterCells.{RegisterCells}
use Rattle.operator_cells.specs.declared.held_cells.way.Way.{Way}
use Rattle.operator_cells.specs.HeldCells.RegisterCells.{PointerView}
use Rattle.operator_cells.specs.HeldCells.Rows.{bits_row, choosing_row, JoinsTo}
use Rattle.operator_cells.specs.row_rules.PlaceRows.Locations.{first_pending}

trans_le : {a b c : ℕ} → a ≤ b → b ≤ c → a ≤ c
trans_le x y = omega (arith, x, y)

first_le : {a b : ℕ} (c : ℕ) → a ≤ b → a ≤ max b c
first_le c x = omega (arith, x)

pub joined_own : {a b c : List CellView} {ps qs : List PointerView} {here : List Way} {k : Kinds} {guard own : ℕ} {h : RegisterCells} → JoinsTo a b ps qs here k guard h → Rises b c own (λ row. row guard) → JoinsTo a c ps qs here k own h
joined_own {a} {b} {c} {ps} {qs} {here} {k} {guard} {own} {h} j s = record {
  grows = record { rows = λ row rows. j.grows.rows row (s.grows.rows row rows); each = λ row rows n low high. by row rows n low high (cases_lt n (length b)) };
  guard_row = λ row rows. trans_le (s.result row rows) (j.guard_row row (s.grows.rows row rows));
  held = λ row rows. j.held row (s.grows.rows row rows);
  same = j.same;
}
  where
    by : (row : ℕ → ℕ) → AreRows c row → (n : ℕ) → length a ≤ n → n < length c → (n < length b) ⊎ (length b ≤ n) → row n ≤ max (bits_row row here) (greatest (choosing_row row ps here k) (numbers 0 first_pending))
    by row rows n low high (inl m) = j.grows.each row (s.grows.rows row rows) n low m
    by row rows n low high (inr m) = first_le (greatest (choosing_row row ps here k) (numbers 0 first_pending)) (trans_le (s.grows.each row rows n m high) (j.guard_row row (s.grows.rows row rows)))
