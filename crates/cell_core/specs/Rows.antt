-- The rows of cells: in which stage each value is made, and up to which it is needed.
use Rattle.std.specs.Prelude.{All, ℕ, zero, suc, ◌≡◌, ◌+◌, ◌-◌, ◌<◌, ◌≤◌, max, List, [], ◌∷◌, ◌++◌, length, count_by}
use Rattle.cell_core.specs.declared.program.Node.{Node}
use Rattle.cell_core.specs.Cells.{CellView, cell_at, is_heavy, bit}
use Rattle.cell_core.specs.Sites.{SiteView, records}

-- the greatest row of some cells, 0 where there are none
abbrev pub greatest : (ℕ → ℕ) → List ℕ → ℕ
greatest row [] = 0
greatest row (k ∷ ks) = max (row k) (greatest row ks)

-- A value is made in the greatest row of all its inputs, and a row later where its operator is heavy.
pub record AreRows (cells : List CellView) (row : ℕ → ℕ) : Type 0 where
  pub each : (k : ℕ) → k < length cells → row k ≡ greatest row (cell_at cells k).ins + bit (is_heavy (cell_at cells k).op)

-- the numbers from one on, so many
abbrev pub numbers : ℕ → ℕ → List ℕ
numbers from zero = []
numbers from (suc n) = from ∷ numbers (suc from) n

-- the cells that a node makes
abbrev pub made_by : Node → List ℕ
made_by n = numbers n.first (n.end - n.first)

-- the row of a node: the greatest that it makes
abbrev pub node_row : (ℕ → ℕ) → Node → ℕ
node_row row n = greatest row (made_by n)

-- the number of stages: the greatest row of a node
abbrev pub last_row : (ℕ → ℕ) → List Node → ℕ
last_row row [] = 0
last_row row (n ∷ ns) = max (node_row row n) (last_row row ns)

-- how many sites may write
abbrev pub record_count : List SiteView → ℕ
record_count sites = count_by (λ s. records s.act) sites

-- the cells that a site takes
abbrev pub taken_by : SiteView → List ℕ
taken_by s = s.guard ∷ s.key ++ s.operands

-- No value is made in an earlier row than one that it takes.
abbrev pub RowsRise : Type 0
RowsRise = (cells : List CellView) (row : ℕ → ℕ) → AreRows cells row → (k : ℕ) → k < length cells → All (λ i. row i ≤ row k) (cell_at cells k).ins
