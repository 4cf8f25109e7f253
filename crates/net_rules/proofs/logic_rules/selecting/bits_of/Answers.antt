use Rattle.std.proofs.Common.{◌∙◌, sym, ap}
use Rattle.net_core.specs.View.{tree_of}
use Rattle.net_core.specs.Value.{value, part_select}
use Rattle.net_rules.proofs.LogicRules.SelectLemmas.{twice}
use Rattle.net_rules.proofs.logic_rules.selecting.bits_of.Goals as goal

pub returns-else-high-top : goal.returns-else-high-top
returns-else-high-top c v fit =
    c.bits-in-PartSelect.ensures v fit ∙ twice (v.net c.in-PartSelect.m) c.in-PartSelect.top c.in-PartSelect.end c.args.high c.args.low c.if-end-top.false c.if-high-top.false c.if-low-high.false
    ∙ sym (ap (λ e. part_select (value v (tree_of e)) c.args.high c.args.low) c.in-PartSelect.is)
