-- The cells of sites.
use Rattle.std.specs.Prelude.{◌≡◌, ℕ, ◌<◌, ◌==◌, Bool, true, ◌||◌, List, length, Contains}
use Rattle.std.specs.List.{list_any}
use Rattle.hazard_core.specs.cell_core.Cells.{cell_at, is_read}
use Rattle.hazard_core.specs.cell_core.Sites.{SiteView, ProgramView}
use Rattle.hazard_core.specs.cell_core.Rows.{taken_by}
use Rattle.row_net.specs.Needed.{flag}

-- a cell that a site takes, or that reads one
pub data IsPart (p : ProgramView) (k : ℕ) : Type 0 where
  Taken : (s : SiteView) → Contains p.sites s → Contains (taken_by s) k → IsPart p k
  Read : is_read (cell_at p.cells k).op ≡ true → IsPart p k

-- those are flagged, and no others
pub record AreParts (p : ProgramView) (parts : List Bool) : Type 0 where
  pub count : length parts ≡ length p.cells
  pub marked : (k : ℕ) → k < length p.cells → IsPart p k → flag parts k ≡ true
  pub only : (k : ℕ) → flag parts k ≡ true → IsPart p k

-- ---- the same as a test
abbrev pub has : List ℕ → ℕ → Bool
has ks k = list_any (λ c. c == k) ks

abbrev pub takes : SiteView → ℕ → Bool
takes s k = has (taken_by s) k

abbrev pub is_part : ProgramView → ℕ → Bool
is_part p k = is_read (cell_at p.cells k).op || list_any (λ s. takes s k) p.sites
