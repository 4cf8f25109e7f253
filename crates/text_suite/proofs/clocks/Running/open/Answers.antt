use Rattle.std.proofs.Common.{rules, ◌≡◌}
use Rattle.design_rules.proofs.FormedWidthLaws.{typed}
use Rattle.text_suite.proofs.clocks.Running.open.Goals as goal

pub open-requires : goal.open-requires
open-requires c = typed _ (c.in_ok-design.ensures)
