-- Tables of the same maps with as many slots.
use Rattle.std.specs.Prelude.{◌≡◌, ℕ, List, length}
use Rattle.cell_core.specs.Sites.{ProgramView}
use Rattle.hazard_core.specs.Tables.{TableState, table_at}
use Rattle.hazard_core.specs.StageValues.{StageValues}
use Rattle.hazard_core.specs.declared.access.Access.{Access}
use Rattle.hazard_core.specs.Commits.{committed, host_written}

pub record HaveSameSlots (t u : TableState) : Type 0 where
  pub decls : u.decls ≡ t.decls
  pub maps : length u.tables ≡ length t.tables
  pub slots : (m : ℕ) → length (table_at u m) ≡ length (table_at t m)

abbrev pub CommitKeepsSlots : Type 0
CommitKeepsSlots = (p : ProgramView) (t : TableState) (taken : List ℕ) (h : StageValues) (j : ℕ) → HaveSameSlots t (committed p t taken h j)

abbrev pub HostKeepsSlots : Type 0
HostKeepsSlots = (t : TableState) (a : Access) (n : ℕ) → HaveSameSlots t (host_written t a n)
