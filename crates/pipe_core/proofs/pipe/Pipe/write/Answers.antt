use Rattle.std.proofs.Common.{◌+◌, true, ap, ◌∙◌}
use Rattle.hazard_core.specs.Tables.{TableState}
use Rattle.pipe_core.specs.Machine.{Writes, worked}
use Rattle.pipe_core.specs.BuildView.{BuildView, build_in}
use Rattle.pipe_core.specs.StateView.{state_of}
use Rattle.pipe_core.specs.PipeView.{PipeView}
use Rattle.pipe_core.proofs.Clocking.{fits_as, written_decls, written_steady}
use Rattle.pipe_core.proofs.Piping.{written_pipe, steady_as}
use Rattle.pipe_core.proofs.pipe.Pipe.write.Goals as goal

pub mark_below-requires : goal.mark_below-requires
mark_below-requires c = fits_as (build_in c.self.inside.places.build) c.self.inside.tables.decls _ (ap (λ (t : TableState). t.decls) c.write.ensures ∙ written_decls _ _ _) c.self.invariant.fits

pub invariant_of-self : goal.invariant_of-self
invariant_of-self c =
    let i = c.self.inside in
    let plan = c.planned.result.now in
    steady_as _ _ _ (written_pipe i.tables c.write.new.tables i.queue i.places c.mark_below.new.self i.done i.taken.items i.passed (plan.commit + 1) c.args.access c.args.number c.host_change-change.result true
    (ap (λ (b : BuildView). b.commit + 1) c.planned.ensures.build) c.host_change-change.ensures c.write.ensures c.mark_below.ensures)
    (written_steady (build_in i.places.build) (state_of i.tables i.queue i.places.places i.done i.taken.items i.passed) i.queue.slots true c.args.access c.args.number c.self.invariant)

pub returns : goal.returns
returns c = λ back.
    let i = c.self.inside in
    let plan = c.planned.result.now in
    written_pipe i.tables c.write.new.tables i.queue i.places c.mark_below.new.self i.done i.taken.items i.passed (plan.commit + 1) c.args.access c.args.number c.host_change-change.result back
    (ap (λ (b : BuildView). b.commit + 1) c.planned.ensures.build) c.host_change-change.ensures c.write.ensures c.mark_below.ensures
    ∙ ap (λ (T : PipeView). record T { state = worked (build_in T.build) T.state back T.state.places (Writes c.args.access c.args.number) }) c.self.view_is
