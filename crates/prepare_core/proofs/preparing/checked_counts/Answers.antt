use Rattle.std.proofs.Common.{refl, ap, ap₂, ◌∙◌}
use Rattle.xdp_object.specs.Choice.{chosen_of}
use Rattle.row_rules.specs.declared.node_rows.stages.Stages.{Stages}
use Rattle.prepare_core.specs.Steps.{IsAcceptedCover}
use Rattle.prepare_core.proofs.Giving.{in_some, prepared_of}
use Rattle.prepare_core.proofs.preparing.checked_counts.Goals as goal

pub returns : goal.returns
returns c =
    prepared_of (chosen_of c.args.choice) c.args.a.now c.in-Ok.b c.args.object.now c.in-Some.stages _ c.in-Ok.ensures.program c.slots-2.ensures.program
    (in_some (IsAcceptedCover c.args.a.now c.in-Ok.b) _ c.in-Some.stages c.in-Some.is c.in_ok-stages.ensures)
    (ap₂ (λ before slots. record { before = before; slots = slots; stages = c.in-Some.stages }) c.in_ok-before.ensures.slots c.in_ok-slots.ensures.slots)
