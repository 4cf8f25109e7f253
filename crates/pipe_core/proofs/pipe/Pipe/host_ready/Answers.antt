use Rattle.std.proofs.Common.{Bool, not, ap, ◌∙◌}
use Rattle.std.specs.Prelude.{is_some, nat_lt, ◌&&◌, ◌||◌}
use Rattle.pipe_core.specs.Machine.{place_at, is_idle, host_ready}
use Rattle.pipe_core.specs.BuildView.{BuildView, build_in}
use Rattle.pipe_core.specs.StateView.{state_of}
use Rattle.pipe_core.specs.PipeView.{PipeView}
use Rattle.pipe_core.proofs.pipe.Pipe.host_ready.Goals as goal

pub returns : goal.returns
returns c =
    let i = c.self.inside in
    c.is_free.ensures
    ∙ ap (λ (r : Bool). r || not (c.has_packet-packet.result && nat_lt 0 i.done)) c.is_idle-idle.ensures
    ∙ ap (λ (r : Bool). is_idle (state_of i.tables i.queue i.places.places i.done i.taken.items i.passed) || not (r && nat_lt 0 i.done)) (c.has_packet-packet.ensures ∙ ap (λ (b : BuildView). is_some (place_at i.places.places b.commit)) c.planned.ensures.build)
    ∙ ap (λ (T : PipeView). host_ready (build_in T.build) T.state) c.self.view_is
