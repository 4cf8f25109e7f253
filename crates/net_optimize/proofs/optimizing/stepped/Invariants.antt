use Rattle.net_core.specs.View.{netlist_of}
use Rattle.net_core.specs.SameClocks.Same.{ShowTheSame}
use Rattle.net_optimize.specs.Reading.{ReadsWhatIsThere}
use Rattle.net_optimize.proofs.optimizing.stepped.Given as goal

abbrev pub invariant-loop-step : goal.invariant-loop-step
invariant-loop-step l = record {
  same : ShowTheSame (netlist_of l.design) (netlist_of l.best.design);
  reads : ReadsWhatIsThere (netlist_of l.best.design);
}
