use Rattle.std.proofs.Common.{◌≡◌, ◌≤◌, ◌+◌, ◌*◌, false, sym, ap, ◌∙◌, subst}
use Rattle.std.specs.Prelude.{IfSome}
use Rattle.pipe_core.specs.Machine.{host_ready, output}
use Rattle.pipe_core.specs.BuildView.{build_in}
use Rattle.pipe_core.specs.PipeView.{PipeView, input_of}
use Rattle.pipe_core.specs.declared.arrived.TheConstants.{FRAME_ROOM}
use Rattle.pipe_core.proofs.Piping.{shown_pipe}
use Rattle.pipe_core.proofs.pipe.Pipe.shown.Goals as goal

pub returns-clause-more : goal.returns-clause-more
returns-clause-more c = subst (λ (T : PipeView). IfSome c.shown.result (λ b. b.last ≡ false → 8 * (T.state.pos + 1) ≤ FRAME_ROOM)) c.self.view_is c.shown.ensures.more

pub returns-clause-output : goal.returns-clause-output
returns-clause-output c =
    let i = c.self.inside in
    shown_pipe i.tables i.queue i.places i.done i.taken.items i.passed (input_of c.args.input.now) c.is_ready.result c.shown.result c.first-verdict.result.0 c.first-verdict.result.1 c.host_ready-host_ready.result c.host_value.result
    c.self.invariant.slots c.is_ready.ensures c.shown.ensures.beat c.first-verdict.ensures.verdict c.first-verdict.ensures.target
    (c.host_ready-host_ready.ensures ∙ ap (λ (T : PipeView). host_ready (build_in T.build) T.state) (sym c.self.view_is)) c.host_value.ensures
    ∙ ap (λ (T : PipeView). record (output (build_in T.build) (input_of c.args.input.now) T.state) { reloaded = 0 }) c.self.view_is
