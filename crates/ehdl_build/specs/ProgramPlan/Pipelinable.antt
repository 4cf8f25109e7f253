-- The programs that are pipelinable.
use Rattle.std.specs.Prelude.{ℕ, slice_index}
use Rattle.hazard_core.specs.cell_core.Sites.{ProgramView}
use Rattle.operator_cells.specs.HeldCells.Paths.{GraphView}
use Rattle.operator_cells.specs.HeldCells.Law.{IsLaw}
use Rattle.predicate_core.specs.Buildable.{IsBuildable}
use Rattle.row_plan.specs.Plan.{Plan, IsPlan}
use Rattle.pipe_runs.specs.pipe_core.Machine.{Build}
use Rattle.pipe_runs.specs.pipe_core.Pipeable.{IsPipelinable}

-- a program with the rows of its plan, and room for so many frames
abbrev pub build_of : ProgramView → Plan → ℕ → Build
build_of p plan slots = record {
  program = p;
  plan = record { row = slice_index plan.rows; commit = plan.commit; last = plan.last };
  slots = slots;
}

-- A program that keeps the law of cells and can be built is pipelinable by its plan, with any number of slots.
abbrev pub ProgramsArePipelinable : Type 0
ProgramsArePipelinable = (g : GraphView) (p : ProgramView) (plan : Plan) (slots : ℕ) → IsLaw g p → IsBuildable p → IsPlan p plan → IsPipelinable g.decls (build_of p plan slots)
