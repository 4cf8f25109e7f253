use Rattle.xdp_object.specs.Choice.{chosen_of}
use Rattle.prepare_core.specs.Steps.{ArePrepared}
use Rattle.prepare_core.proofs.Giving.{in_some, prepares_of}
use Rattle.prepare_core.proofs.preparing.found.Goals as goal

pub returns-in-Some-checked : goal.returns-in-Some-checked
returns-in-Some-checked c =
    prepares_of (chosen_of c.args.choice) c.args.a.now c.in-Some-2.object c.in-Some-checked.counts c.deref.result.now c.deref.ensures.value
    (in_some (ArePrepared (chosen_of c.args.choice) c.args.a.now c.deref.result.now) _ c.in-Some-checked.counts c.in-Some-checked.is c.in_ok-checked.ensures)
