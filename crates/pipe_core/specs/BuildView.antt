-- A program with its plan, the rows in a list.
use Rattle.std.specs.Prelude.{ℕ, List, slice_index}
use Rattle.hazard_core.specs.cell_core.Sites.{ProgramView}
use Rattle.pipe_core.specs.Machine.{Build}

pub record BuildView : Type 0 where
  pub program : ProgramView
  pub rows : List ℕ
  pub commit : ℕ
  pub last : ℕ
  pub slots : ℕ

abbrev pub build_in : BuildView → Build
build_in b = record { program = b.program; plan = record { row = slice_index b.rows; commit = b.commit; last = b.last }; slots = b.slots }
