use Rattle.net_core.specs.View.{netlist_of}
use Rattle.ehdl_build.specs.Steps.{counted_size}
use Rattle.ehdl_build.proofs.Realized.{realizes}
use Rattle.ehdl_build.proofs.pipelined.realize.Goals as goal

pub returns : goal.returns
returns c =
    realizes c.pipelines_meet.ensures c.pipelinable.ensures c.args.program.now (counted_size c.args.counted.now) (netlist_of c.in_ok-design.design) c.requires.program c.in_ok-design.ensures.pipeline
    (netlist_of c.in_ok-shorter.shorter) c.in_ok-shorter.ensures.same c.in_ok-shorter.ensures.apart c.in_ok-text.text.items c.in_ok-text.ensures
