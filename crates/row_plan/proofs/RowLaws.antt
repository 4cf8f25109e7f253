-- The last row of nodes, and of cells that read.
use Rattle.std.specs.Prelude.{if◌then◌else◌}
use Rattle.std.proofs.Common.{◌≡◌, ℕ, zero, suc, ◌+◌, ◌<◌, ◌≤◌, Bool, true, false, List, [], ◌∷◌, ◌++◌, length, max, ap, arith}
use Rattle.cell_core.specs.declared.program.Node.{Node}
use Rattle.cell_core.specs.Cells.{CellView, cell_at, is_read}
use Rattle.cell_core.specs.Rows.{node_row, last_row}
use Rattle.row_plan.specs.Plan.{read_row}

pub below_last : (row : ℕ → ℕ) (xs more : List Node) (n : Node) → node_row row n ≤ last_row row (xs ++ n ∷ more)
below_last row [] more n = omega arith
below_last row (x ∷ xs) more n = omega (arith, below_last row xs more n)

pub read_row_above : (row : ℕ → ℕ) (k : ℕ) (cs : List CellView) (i : ℕ) → i < length cs → is_read (cell_at cs i).op ≡ true → row (k + i) ≤ read_row row k cs
read_row_above row k [] i l e = absurd (omega (arith, l))
read_row_above row k (c ∷ cs) zero l e = by (is_read c.op) e
  where
    by : (b : Bool) → b ≡ true → row (k + 0) ≤ (if b then max (row k) (read_row row (suc k) cs) else read_row row (suc k) cs)
    by true e = let same : k + 0 ≡ k = omega arith in omega (arith, ap row same)
    by false e = cc
read_row_above row k (c ∷ cs) (suc i) l e =
    let same : suc k + i ≡ k + suc i = omega arith in
    by (omega (arith, ap row same, read_row_above row (suc k) cs i (omega (arith, l)) e)) (is_read c.op)
  where
    by : row (k + suc i) ≤ read_row row (suc k) cs → (b : Bool) → row (k + suc i) ≤ (if b then max (row k) (read_row row (suc k) cs) else read_row row (suc k) cs)
    by rest true = omega (arith, rest)
    by rest false = rest
