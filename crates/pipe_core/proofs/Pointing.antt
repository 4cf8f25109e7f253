-- A clock keeps the points.
use Rattle.std.proofs.Common.{◌≡◌, false, sym, ap, subst}
use Rattle.pipe_core.specs.Machine.{State, some_send, clock}
use Rattle.pipe_core.specs.History.{next, KeepsOrder}
use Rattle.pipe_core.specs.Computed.{KeepsComputed}
use Rattle.pipe_core.specs.Marked.{KeepsMarked}
use Rattle.pipe_core.specs.Right.{KeepsRight}
use Rattle.pipe_core.specs.SequentialOrder.{KeepsSequential}
use Rattle.pipe_core.specs.Prefix.{SequentialRunsAhead}
use Rattle.pipe_core.specs.ChangeCauses.{KeepsChangeCauses}
use Rattle.pipe_core.specs.Found.{KeepsFound}
use Rattle.pipe_core.specs.SeenChanges.{observed}
use Rattle.pipe_core.specs.Points.{ClocksKeepPoints}

pub keeps_points : KeepsOrder → KeepsComputed → KeepsMarked → KeepsRight → KeepsSequential → SequentialRunsAhead → KeepsChangeCauses → KeepsFound → ClocksKeepPoints
unfolding observed next
keeps_points order computed marked right sequential ahead change_causes found b i s = record {
  state = λ w at. ap (clock b i) at;
  order = λ w at ordered. order b i w.trace ordered;
  computed = λ planned w at ordered. computed b planned i w.trace ordered;
  marked = λ w at ordered. marked b i w ordered;
  right = λ decls pipelinable silent w at ordered. right b decls pipelinable i silent w ordered;
  sequential = λ maps pipelinable silent w at ordered. sequential b maps pipelinable i silent w ordered;
  ahead = λ maps pipelinable silent w at ordered runs. ahead b maps pipelinable (observed b i w) (sequential b maps pipelinable i silent w ordered runs);
  change_causes = λ maps pipelinable silent unsent w at ordered runs. change_causes b maps pipelinable i silent w ordered runs (subst (λ (z : State). some_send b 0 z.places ≡ false) (sym at) unsent);
  found = λ maps pipelinable silent w at ordered runs. found b maps pipelinable i silent w ordered runs;
}
