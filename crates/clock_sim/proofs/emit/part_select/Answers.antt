use Rattle.std.proofs.Common.{sym}
use Rattle.net_core.proofs.WidthLaws.{part_select_parts}
use Rattle.clock_sim.proofs.OperatorLemmas.{part_select_makes}
use Rattle.clock_sim.proofs.emit.part_select.Goals as goal

pub returns-clause-makes : goal.returns-clause-makes
returns-clause-makes c =
    let is = sym (part_select_parts c.args.from.width c.args.high c.args.low c.requires.typed).is in
    part_select_makes c.args.builder.now _ c.args.from _ c.args.high c.args.low _ _ c.in_ok-slot.ensures.works c.greatest-mask.ensures c.requires.typed c.part_select_width-width.ensures is
