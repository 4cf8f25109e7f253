-- What the steps of planning say.
use Rattle.std.specs.Prelude.{ℕ, ◌≡◌, ◌⊎◌, ◌<◌, ◌≤◌, true, Some, List, length, slice_index, take, All, Contains}
use Rattle.std.proofs.Common.{get_or}
use Rattle.xdp_state.specs.declared.refusal.Refusal.{Refusal}
use Rattle.xdp_state.specs.declared.refusal.Why.TheVariants.{Stages}
use Rattle.xdp_state.specs.declared.refusal.BuildError.{BuildError}
use Rattle.xdp_state.specs.declared.refusal.BuildError.TheVariants.{Refused, NoMemory}
use Rattle.xdp_state.specs.Reasons.{most_stages}
use Rattle.cell_core.specs.declared.program.Node.{Node}
use Rattle.cell_core.specs.Cells.{CellView, cell_at, site_in}
use Rattle.cell_core.specs.Sites.{ProgramView, SiteView, site_at, records}
use Rattle.cell_core.specs.Rows.{node_row, taken_by}
use Rattle.row_plan.specs.Plan.{IsTooLate}

-- Rows that values are kept up to become others: no less, as far as is needed, and each as it was or just as far as is needed.
pub record Keeps (Needed : ℕ → ℕ → Type 0) (old new : List ℕ) : Type 0 where
  pub count : length new ≡ length old
  pub rises : (k : ℕ) → slice_index old k ≤ slice_index new k
  pub met : (k at : ℕ) → Needed k at → k < length new → at ≤ slice_index new k
  pub some : (k : ℕ) → k < length new → (slice_index new k ≡ slice_index old k) ⊎ Needed k (slice_index new k)

-- ---- what is needed
-- one cell in a row; cells in a row
abbrev pub OfOne : ℕ → ℕ → ℕ → ℕ → Type 0
OfOne cell row k at = (k ≡ cell) × (at ≡ row)

abbrev pub OfAll : List ℕ → ℕ → ℕ → ℕ → Type 0
OfAll cells row k at = Contains cells k × (at ≡ row)

-- what the first n cells take
abbrev pub OfInputs : List CellView → List ℕ → ℕ → ℕ → ℕ → Type 0
OfInputs cells rows n k at = (c : ℕ) × (c < n) × Contains (cell_at cells c).ins k × (at ≡ slice_index rows c)

-- which of the first n cells operations that may write answer
abbrev pub OfWrites : List CellView → List SiteView → ℕ → ℕ → ℕ → ℕ → Type 0
OfWrites cells sites commit n k at = (k < n) × ((j : ℕ) × (site_in (cell_at cells k).op ≡ Some j) × (records (site_at sites j).act ≡ true)) × (at ≡ commit)

-- what sites take
abbrev pub OfSites : List SiteView → ℕ → ℕ → ℕ → Type 0
OfSites sites commit k at = ((s : SiteView) × Contains sites s × Contains (taken_by s) k) × (at ≡ commit)

-- what is so where a program is refused
abbrev pub IsRefusedBy : ProgramView → BuildError → Type 0
IsRefusedBy p (Refused r) = IsTooLate p r
IsRefusedBy p NoMemory = Unit {0}

-- what stands for a node past the last
abbrev pub no_node : Node
no_node = record { place = 0; guard = 0; first = 0; end = 0 }

-- Of these nodes one is too late, and none before it.
pub record IsLateNode (rows : List ℕ) (nodes : List Node) (r : Refusal) : Type 0 where
  pub index : ℕ
  pub below : index < length nodes
  pub within : All (λ n. node_row (slice_index rows) n ≤ most_stages) (take index nodes)
  pub beyond : most_stages < node_row (slice_index rows) (get_or nodes index no_node)
  pub at_is : r.at ≡ (get_or nodes index no_node).place
  pub why_is : r.why ≡ Stages
