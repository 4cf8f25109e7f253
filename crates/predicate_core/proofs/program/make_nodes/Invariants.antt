use Rattle.predicate_core.specs.ProgramGraph.Graphs.{graph_of}
use Rattle.predicate_core.specs.StepCells.Stepping.{made_of}
use Rattle.predicate_core.specs.Pointing.{PointSoFar}
use Rattle.predicate_core.specs.Progress.{pending_of, IsReady}
use Rattle.predicate_core.specs.Reading.{ReadSoFar}
use Rattle.predicate_core.specs.Stages.{FitSoFar}
use Rattle.predicate_core.proofs.program.make_nodes.Given as goal

abbrev pub invariant-loop-k : goal.invariant-loop-k
invariant-loop-k l = record {
  ready : IsReady (graph_of l.program l.unfolded) l.k l.progress;
  rows : FitSoFar l.program l.unfolded l.k l.progress;
  points : PointSoFar l.program.decls l.k (made_of l.progress.made);
  reads : ReadSoFar l.program.decls l.k (made_of l.progress.made) (pending_of l.progress);
}
