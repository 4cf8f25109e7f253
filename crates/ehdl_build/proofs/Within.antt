-- The last row of a plan is among the stages, and no plan is refused.
use Rattle.std.specs.Prelude.{◌≢◌, ℕ, ◌≤◌, slice_index}
use Rattle.std.proofs.Common.{refl, ap, arith}
use Rattle.xdp_state.specs.declared.refusal.Refusal.{Refusal}
use Rattle.xdp_state.specs.declared.refusal.BuildError.{BuildError}
use Rattle.xdp_state.specs.declared.refusal.BuildError.TheVariants as build
use Rattle.hazard_core.specs.cell_core.Sites.{ProgramView}
use Rattle.hazard_core.specs.cell_core.Rows.{last_row}
use Rattle.row_plan.specs.Plan.{Plan, IsPlan, IsTooLate}
use Rattle.row_plan.specs.Steps.{IsRefusedBy}
use Rattle.row_plan.proofs.RowLaws.{below_last}
use Rattle.ehdl_build.specs.Pipelines.{StandWithin}
use Rattle.ehdl_build.specs.Steps.{IsPlanWithin}

pub plan_within : (stages : ℕ) (cells : ProgramView) (plan : Plan) → StandWithin stages cells → IsPlan cells plan → IsPlanWithin stages cells plan
plan_within stages cells plan within planned = record { is = planned; within = omega (arith, planned.last, within (slice_index plan.rows) planned.rows) }

never_late : (stages : ℕ) (cells : ProgramView) (r : Refusal) → stages ≤ 256 → StandWithin stages cells → ¬ IsTooLate cells r
never_late stages cells r few within late =
    omega (arith, few, late.beyond, below_last (slice_index late.rows) late.before late.after late.node, ap (last_row (slice_index late.rows)) late.nodes_are, within (slice_index late.rows) late.are_rows)

-- what fails is memory
pub never_refused : (stages : ℕ) (cells : ProgramView) (e : BuildError) → stages ≤ 256 → StandWithin stages cells → e ≢ build.NoMemory → ¬ IsRefusedBy cells e
never_refused stages cells (build.Refused r) few within other refused = never_late stages cells r few within refused
never_refused stages cells build.NoMemory few within other refused = other refl
