use Rattle.net_core.specs.View.{netlist_of}
use Rattle.net_optimize.proofs.ReadingLemmas.{formed_reads}
use Rattle.net_optimize.proofs.optimizing.whole.Goals as goal

pub stepped-requires : goal.stepped-requires
stepped-requires c = formed_reads (netlist_of c.args.design.now) c.requires
