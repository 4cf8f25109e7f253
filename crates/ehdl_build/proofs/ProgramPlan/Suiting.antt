-- Programs by their plans are pipelinable.
use Rattle.std.proofs.Common.{suc, ◌≤◌, refl, arith}
use Rattle.hazard_core.specs.cell_core.Sites.{site_at}
use Rattle.hazard_core.specs.cell_core.Rows.{RowsRise, taken_by}
use Rattle.hazard_core.specs.cell_core.CellLaws.{HaveValues}
use Rattle.xdp_object.specs.xdp_machine.State.{PacketIn}
use Rattle.operator_cells.specs.HeldCells.Reading.{RowsStandBehind}
use Rattle.hazard_core.specs.Tables.{TableState}
use Rattle.hazard_core.specs.StageValues.{StageValues}
use Rattle.pipe_runs.specs.pipe_core.Machine.{Build}
use Rattle.pipe_runs.specs.pipe_core.Pipeable.{IsOwn, FitsReads}
use Rattle.ehdl_build.specs.ProgramPlan.Pipelinable.{ProgramsArePipelinable, build_of}
use Rattle.ehdl_build.proofs.ProgramPlan.Lists.{all_by}
use Rattle.ehdl_build.proofs.ProgramPlan.Planning.{read_early, taken_early, commit_within}
use Rattle.ehdl_build.proofs.ProgramPlan.Reading.{found_at, tells_at, reads_planned}
use Rattle.ehdl_build.proofs.ProgramPlan.Completing.{IsCompleted, pointer_code, completed}
use Rattle.ehdl_build.proofs.ProgramPlan.Pathing.{seen, accessed}

pub pipelinable : HaveValues → RowsRise → RowsStandBehind → ProgramsArePipelinable
pipelinable have rise stand g p plan slots law buildable is =
    let b : Build = build_of p plan slots in
    let early = read_early p plan is in
    let whole : (t : TableState) (packet : PacketIn) (h : StageValues) → IsOwn b t packet h → FitsReads b h → IsCompleted pointer_code b packet h (suc plan.commit) =
    λ t packet h own fits. completed have rise pointer_code (record { none = refl }) b (suc plan.commit) law.computes.formed is.rows t packet h (λ c l low. own c l (omega (arith, low))) fits in
    record {
      rows = record {
        reads = reads_planned g.decls p law.reads plan slots law.computes.formed law.sited is buildable;
        read_rows = early;
        site_rows = λ j l. all_by (λ c. b.plan.row c ≤ plan.commit) (taken_by (site_at p.sites j)) (taken_early p plan is j l);
        commit = commit_within p plan is buildable;
      };
      fits = law.sited.fits;
      sited = law.sited;
      ordered = law.reads.ordered;
      found = found_at g.decls p law.reads;
      tells = tells_at g.decls p law.reads;
      sees = λ t packet h same own fits. seen g p plan slots law is packet h (whole t packet h own fits) stand;
      accesses = λ t packet h same own fits. accessed g p plan slots law is packet h (whole t packet h own fits);
    }
