-- The commit row is no less than the rows of reads and of what sites take, and no row is past the last.
use Rattle.std.proofs.Common.{◌≡◌, ℕ, zero, suc, ◌+◌, ◌<◌, ◌≤◌, Bool, true, false, Some, List, [], ◌∷◌, length, ap, arith, max, inl, inr}
use Rattle.std.specs.Prelude.{All, slice_index, if◌then◌else◌}
use Rattle.std.proofs.lemmas.Bool.{cases_lt}
use Rattle.std.proofs.lemmas.List.{get_or_past}
use Rattle.hazard_core.specs.cell_core.Cells.{CellView, cell_at, is_read, site_in}
use Rattle.hazard_core.specs.cell_core.Sites.{SiteView, ProgramView, site_at}
use Rattle.hazard_core.specs.cell_core.Rows.{greatest, taken_by}
use Rattle.hazard_core.proofs.cell_core_laws.OperatorLaws.{read_of_site}
use Rattle.hazard_core.proofs.cell_core_laws.RowLaws.{greatest_above, greatest_append}
use Rattle.predicate_core.specs.Buildable.{IsBuildable}
use Rattle.row_plan.specs.Plan.{Plan, IsPlan, read_row, site_row}
use Rattle.row_plan.proofs.RowLaws.{read_row_above}
use Rattle.ehdl_build.proofs.ProgramPlan.Lists.{greatest_within}

read_row_within : (row : ℕ → ℕ) (n : ℕ) → ((k : ℕ) → row k ≤ n) → (k : ℕ) (cs : List CellView) → read_row row k cs ≤ n
read_row_within row n small k [] = omega arith
read_row_within row n small k (c ∷ cs) = by (read_row_within row n small (suc k) cs) (is_read c.op)
  where
    by : read_row row (suc k) cs ≤ n → (b : Bool) → (if b then max (row k) (read_row row (suc k) cs) else read_row row (suc k) cs) ≤ n
    by rest true = omega (arith, rest, small k)
    by rest false = rest

site_row_above : (row : ℕ → ℕ) (ss : List SiteView) (j : ℕ) → j < length ss → greatest row (taken_by (site_at ss j)) ≤ site_row row ss
site_row_above row [] j l = absurd (omega (arith, l))
site_row_above row (s ∷ ss) zero l = omega arith
site_row_above row (s ∷ ss) (suc j) l = omega (arith, site_row_above row ss j (omega (arith, l)))

site_row_within : (row : ℕ → ℕ) (n : ℕ) → ((k : ℕ) → row k ≤ n) → (ss : List SiteView) → site_row row ss ≤ n
site_row_within row n small [] = omega arith
site_row_within row n small (s ∷ ss) = omega (arith, greatest_within row n small (taken_by s), site_row_within row n small ss)

-- ---- the rows of a plan

-- what a site takes stands up to the commit place
pub record StandsEarly (plan : Plan) (s : SiteView) : Type 0 where
  pub guard : slice_index plan.rows s.guard ≤ plan.commit
  pub key : greatest (slice_index plan.rows) s.key ≤ plan.commit
  pub operands : greatest (slice_index plan.rows) s.operands ≤ plan.commit

module _ (p : ProgramView) (plan : Plan) (is : IsPlan p plan) where
  abbrev row : ℕ → ℕ
  row = slice_index plan.rows

  pub read_early : (c j : ℕ) → c < length p.cells → site_in (cell_at p.cells c).op ≡ Some j → row c ≤ plan.commit
  read_early c j l e =
      let same : 0 + c ≡ c = omega arith in
      let above = read_row_above row 0 p.cells c l (read_of_site (cell_at p.cells c).op j e) in
      omega (arith, ap row same, above, is.commit)

  site_above : (j : ℕ) → j < length p.sites → greatest row (taken_by (site_at p.sites j)) ≤ plan.commit
  site_above j l = omega (arith, site_row_above row p.sites j l, is.commit)

  pub taken_early : (j : ℕ) → j < length p.sites → All (λ c. row c ≤ plan.commit) (taken_by (site_at p.sites j))
  taken_early j l k d lt = omega (arith, greatest_above row (taken_by (site_at p.sites j)) k d lt, site_above j l)

  pub site_early : (j : ℕ) → j < length p.sites → StandsEarly plan (site_at p.sites j)
  site_early j l =
      let s = site_at p.sites j in
      let above = site_above j l in
      let both = greatest_append row s.key s.operands in
      record { guard = omega (arith, above); key = omega (arith, above, both); operands = omega (arith, above, both) }

  -- the cells of the answer stand after all nodes, but in no later row
  module _ (buildable : IsBuildable p) where
    pub row_within : (k : ℕ) → row k ≤ plan.last
    row_within k = elim (cases_lt k (length p.cells)) [
      | inl below ↦ let low = buildable.rows row is.rows k below in omega (arith, low, is.last)
      | inr past ↦ let e = get_or_past plan.rows k 0 (omega (arith, past, is.row_count)) in omega (arith, e)
    ]

    pub commit_within : plan.commit ≤ plan.last
    commit_within = omega (arith, is.commit, read_row_within row plan.last row_within 0 p.cells, site_row_within row plan.last row_within p.sites)
