-- The cells that stand for the writes of a map.
use Rattle.std.specs.Prelude.{ℕ, ◌≡◌, ◌<◌, ◌≤◌, ◌⊎◌, true, false, Some, List, ◌∷◌, ◌++◌, length, All, Contains}
use Rattle.cell_core.specs.declared.operator.Operator.TheVariants.{Pending}
use Rattle.cell_core.specs.Cells.{CellView, cell_at, site_in}
use Rattle.cell_core.specs.Sites.{SiteView, site_at, records}
use Rattle.cell_core.specs.Rows.{taken_by, greatest}
use Rattle.operator_cells.specs.declared.joining.Arm.{Arm}
use Rattle.operator_cells.specs.Making.{Grows}
use Rattle.operator_cells.specs.Rising.{Rises}
use Rattle.operator_cells.specs.Joining.{flat}

-- a cell of no bits, in the greatest row of these
abbrev pub waiting_for : List ℕ → CellView
waiting_for ins = record { op = Pending; ins = ins; width = 0; from = 0 }

-- These are the cells from one on that read a site.
pub record AreReaders (cells : List CellView) (number first : ℕ) (all : List ℕ) : Type 0 where
  pub there : All (λ k. k < length cells) all
  pub each : (k : ℕ) → first ≤ k → k < length cells → site_in (cell_at cells k).op ≡ Some number → Contains all k
  pub only : All (λ k. (first ≤ k) × (site_in (cell_at cells k).op ≡ Some number)) all

-- A new cell waits for the writes before a site, for what the site takes, and for the cells from one on that read it.
pub record WaitsFor (old new : List CellView) (site : SiteView) (number first before c : ℕ) : Type 0 where
  pub readers : List ℕ
  pub read : AreReaders old number first readers
  pub is : cell_at new c ≡ waiting_for (before ∷ taken_by site ++ readers)
  pub rises : Rises old new c (λ row. greatest row (before ∷ taken_by site ++ readers))

-- The cell of the writes of a map after a node: the one before it, unless the site of this number, if there is one, may write.
pub record WaitsBehind (old new : List CellView) (sites : List SiteView) (number first before c : ℕ) : Type 0 where
  pub grows : Grows old new
  pub there : c < length new
  pub stays : records (site_at sites number).act ≡ false → (c ≡ before) × (new ≡ old)
  pub waits : records (site_at sites number).act ≡ true → WaitsFor old new (site_at sites number) number first before c

-- The cell of the writes of a map where edges meet: that which all bring, or one that waits for the bits and the cells of all.
pub record Gathers (old new : List CellView) (arms : List Arm) (c : ℕ) : Type 0 where
  pub grows : Grows old new
  pub there : c < length new
  pub stays : (d : ℕ) → All (λ a. a.cell ≡ d) arms → (c ≡ d) × (new ≡ old)
  pub rises : Rises old new c (λ row. greatest row (flat arms))
  pub is : All (λ a. a.cell ≡ c) arms ⊎ (cell_at new c ≡ waiting_for (flat arms))
