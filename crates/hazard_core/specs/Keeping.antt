-- What a read finds rests on the cells of earlier rows.
use Rattle.std.specs.Prelude.{◌≡◌, ℕ, ◌<◌, ◌≤◌, ◌⊎◌, List, [], length, take, drop}
use Rattle.std.specs.List.{AllByRecursion}
use Rattle.cell_core.specs.declared.site.Act.{Act}
use Rattle.cell_core.specs.declared.site.Act.TheVariants as act
use Rattle.cell_core.specs.Sites.{SiteView, ProgramView, site_at}
use Rattle.hazard_core.specs.Tables.{TableState}
use Rattle.hazard_core.specs.StageValues.{StageValues, stage_value, pointer_in, pending}
use Rattle.hazard_core.specs.Overlay.{found_pointer, answer_over}

-- two packets hold the same of a cell
pub record SameCell (h g : StageValues) (c : ℕ) : Type 0 where
  pub value : stage_value h c ≡ stage_value g c
  pub pointer : pointer_in h c ≡ pointer_in g c

-- and of all cells of the rows below r; past the last cell there is nothing
abbrev pub AreAlike : ProgramView → (ℕ → ℕ) → ℕ → StageValues → StageValues → Type 0
AreAlike p row r h g = (c : ℕ) → (row c < r) ⊎ (length p.cells ≤ c) → SameCell h g c

-- the operands that the read of an operation looks at: of an update the flags, of an access its pointer
abbrev pub looked_operands : Act → List ℕ → List ℕ
looked_operands act.Update xs = take 1 xs
looked_operands (act.Load at size) xs = take 1 xs
looked_operands (act.Atomic at a) xs = take 1 (drop 2 xs)
looked_operands a xs = []

-- What the read of a site looks at stands in earlier rows: these and its key. Its guard may stand in a later one, and what it writes too.
abbrev pub LooksBelow : (ℕ → ℕ) → ℕ → SiteView → Type 0
LooksBelow row r s = AllByRecursion (λ c. row c < r) s.key × AllByRecursion (λ c. row c < r) (looked_operands s.act s.operands)

-- A read in row r finds and answers the same in packets that hold the same of the rows below.
abbrev pub ReadsKeep : Type 0
ReadsKeep =
    (p : ProgramView) (row : ℕ → ℕ) (r j : ℕ) (t : TableState) (h g : StageValues) → AreAlike p row r h g → LooksBelow row r (site_at p.sites j)
    → (found_pointer p t h (pending p row r j) j ≡ found_pointer p t g (pending p row r j) j) × (answer_over p t h (pending p row r j) j ≡ answer_over p t g (pending p row r j) j)
