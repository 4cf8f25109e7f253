use Rattle.std.proofs.Common.{◌≡◌, ◌+◌, length, arith}
use Rattle.std.proofs.lemmas.List.{length-map}
use Rattle.net_core.specs.View.{wire_of, assign_of, statement_of}
use Rattle.ehdl_top.proofs.events.draw_count.Goals as goal

pub returns-in-Some : goal.returns-in-Some
returns-in-Some c =
    let d = c.args.design.now in
    omega (arith, length-map d.wires.items wire_of, length-map d.assigns.items assign_of, length-map d.always.items statement_of)
