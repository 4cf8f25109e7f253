use Rattle.std.proofs.Common.{ap, ◌∙◌}
use Rattle.pipe_core.specs.Machine.{flushed}
use Rattle.pipe_core.specs.BuildView.{build_in}
use Rattle.pipe_core.specs.PipeView.{PipeView}
use Rattle.pipe_core.proofs.Clocking.{flushed_steady}
use Rattle.pipe_core.proofs.Piping.{flushed_pipe}
use Rattle.pipe_core.proofs.pipe.Pipe.flush.Goals as goal

pub invariant_of-self : goal.invariant_of-self
invariant_of-self c = rw c.flush.ensures.places (flushed_steady _ _ _ c.self.invariant)

pub returns-clause-pipe : goal.returns-clause-pipe
returns-clause-pipe c =
    let i = c.self.inside in
    flushed_pipe i.tables i.queue i.places _ i.done i.taken.items i.passed c.flush.ensures.places
    ∙ ap (λ (S : PipeView). record S { state = record S.state { places = flushed (build_in S.build) 0 S.state.places } }) c.self.view_is
