use Rattle.std.proofs.Common.{◌≡◌, ℕ, List, length, true, ap, ◌∙◌}
use Rattle.std.specs.Prelude.{replicate}
use Rattle.pipe_core.specs.Machine.{is_idle, new_state}
use Rattle.pipe_core.specs.BuildView.{build_in}
use Rattle.pipe_core.specs.StateView.{state_of}
use Rattle.pipe_core.specs.PipeView.{PipeView}
use Rattle.pipe_core.proofs.Piping.{pipe_view, idle_queue, loaded_pipe}
use Rattle.pipe_core.proofs.pipe.Pipe.load.Goals as goal

pub returns-clause-ok : goal.returns-clause-ok
returns-clause-ok c =
    let i = c.self.inside in
    let filled : c.fill.new.self.items ≡ replicate (length i.taken.items) 0 = c.fill.ensures.items (λ y e. cc) ∙ ap (λ (n : ℕ). replicate n 0) i.taken.ok.0 in
    let idle : is_idle (state_of i.tables i.queue i.places.places i.done i.taken.items i.passed) ≡ true = ap (λ (T : PipeView). is_idle T.state) c.self.view_is ∙ c.requires.idle in
    ap (λ (k : List ℕ). pipe_view c.in_ok-self-inside.field-0 c.rewind.new.self i.places 0 k 0) filled
    ∙ loaded_pipe c.args.maps.now c.in_ok-self-inside.field-0 i.queue c.rewind.new.self i.places i.taken.items
    (idle_queue i.tables i.queue i.places.places i.done i.taken.items i.passed idle) c.self.invariant.packets c.self.invariant.places c.self.invariant.taken c.in_ok-self-inside.ensures c.rewind.ensures
    ∙ ap (λ (T : PipeView). record T { state = new_state (build_in T.build) c.args.maps.now }) c.self.view_is
