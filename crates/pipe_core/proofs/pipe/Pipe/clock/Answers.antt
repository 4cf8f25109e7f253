use Rattle.std.proofs.Common.{◌≡◌, ℕ, sym, ap, ◌∙◌, subst}
use Rattle.pipe_core.specs.Machine.{Output, clock, output}
use Rattle.pipe_core.specs.BuildView.{build_in}
use Rattle.pipe_core.specs.PipeView.{PipeView, input_of, output_of}
use Rattle.pipe_core.specs.Points.{KeepsPoints}
use Rattle.pipe_core.proofs.Piping.{clock_room, clock_slot, clock_some, clock_more, clock_pipe}
use Rattle.pipe_core.proofs.pipe.Pipe.clock.Goals as goal

pub gather-requires-clause-room : goal.gather-requires-clause-room
gather-requires-clause-room c = clock_room c.args.self.now c.work-reloaded.new.self (input_of c.args.input) c.beat_if-over.result c.shown-out.result.ready c.work-reloaded.ensures.pipe c.beat_if-over.ensures c.requires.room

pub gather-requires-clause-slot : goal.gather-requires-clause-slot
unfolding output
gather-requires-clause-slot c = clock_slot c.args.self.now c.work-reloaded.new.self (input_of c.args.input) c.beat_if-over.result c.shown-out.result.ready
    (ap (λ (o : Output). o.ready) c.shown-out.ensures.output) c.beat_if-over.ensures (ap (λ (T : PipeView). T.build) c.work-reloaded.ensures.pipe) c.work-reloaded.ensures.ready

pub scatter-requires-clause-some : goal.scatter-requires-clause-some
unfolding output
scatter-requires-clause-some c = clock_some c.args.self.now c.work-reloaded.new.self c.gather.new.self (input_of c.args.input) c.shown-out.result.beat c.beat_if-over.result c.beat_if-taken.result
    (ap (λ (o : Output). o.beat) c.shown-out.ensures.output) c.beat_if-taken.ensures c.work-reloaded.ensures.pipe c.gather.ensures

pub scatter-requires-clause-more : goal.scatter-requires-clause-more
scatter-requires-clause-more c = clock_more c.args.self.now c.work-reloaded.new.self c.gather.new.self (input_of c.args.input) c.shown-out.result.beat c.beat_if-over.result c.beat_if-taken.result
    c.shown-out.ensures.more c.beat_if-taken.ensures c.work-reloaded.ensures.pipe c.gather.ensures

pub returns-clause-state : goal.returns-clause-state
unfolding output
returns-clause-state c = ap (λ (T : PipeView). T.state) (clock_pipe c.args.self.now c.work-reloaded.new.self c.gather.new.self c.scatter.new.self (input_of c.args.input) c.shown-out.result.beat c.beat_if-over.result c.beat_if-taken.result c.shown-out.result.ready (record {
  shown_is = ap (λ (o : Output). o.beat) c.shown-out.ensures.output;
  ready_is = ap (λ (o : Output). o.ready) c.shown-out.ensures.output;
  over_is = c.beat_if-over.ensures;
  taken_is = c.beat_if-taken.ensures;
  work_is = c.work-reloaded.ensures.pipe;
  gather_is = c.gather.ensures;
  scatter_is = c.scatter.ensures;
}))

pub returns-clause-build : goal.returns-clause-build
returns-clause-build c = ap (λ (T : PipeView). T.build) c.scatter.ensures ∙ ap (λ (T : PipeView). T.build) c.gather.ensures ∙ ap (λ (T : PipeView). T.build) c.work-reloaded.ensures.pipe

pub returns-clause-output : goal.returns-clause-output
unfolding output
returns-clause-output c = ap (λ (n : ℕ). record (output_of c.shown-out.result) { reloaded = n }) c.work-reloaded.ensures.reloaded ∙ ap (λ (o : Output). record o { reloaded = (output (build_in c.args.self.now.build) (input_of c.args.input) c.args.self.now.state).reloaded }) c.shown-out.ensures.output

pub returns-clause-points : goal.returns-clause-points
unfolding output
returns-clause-points c =
    let S = c.args.self.now in
    let state : c.scatter.new.self.state ≡ clock (build_in S.build) (input_of c.args.input) S.state = ap (λ (T : PipeView). T.state) (clock_pipe c.args.self.now c.work-reloaded.new.self c.gather.new.self c.scatter.new.self (input_of c.args.input) c.shown-out.result.beat c.beat_if-over.result c.beat_if-taken.result c.shown-out.result.ready (record {
      shown_is = ap (λ (o : Output). o.beat) c.shown-out.ensures.output;
      ready_is = ap (λ (o : Output). o.ready) c.shown-out.ensures.output;
      over_is = c.beat_if-over.ensures;
      taken_is = c.beat_if-taken.ensures;
      work_is = c.work-reloaded.ensures.pipe;
      gather_is = c.gather.ensures;
      scatter_is = c.scatter.ensures;
    })) in
    subst (KeepsPoints (build_in S.build) (input_of c.args.input) S.state) (sym state) (c.points.ensures (build_in S.build) (input_of c.args.input) S.state)
