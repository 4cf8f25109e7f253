use Rattle.std.proofs.Common.{sym, ap}
use Rattle.net_core.specs.View.{tree_of}
use Rattle.net_core.specs.Value.{value}
use Rattle.net_rules.specs.LogicRules.Made.{choice_value}
use Rattle.net_rules.proofs.OkLaws.{ok_by, ok_ap}
use Rattle.net_rules.proofs.logic_rules.choosing.choice_built.Goals as goal

pub returns-in-Under : goal.returns-in-Under
returns-in-Under c v =
    ok_by c.conditional_of.result (λ r. value v (tree_of r)) _ _
    (c.conditional_of.ensures.value v _ _ _ (c.built-c.ensures v)
    (ok_ap c.copied-a.result tree_of (value v) (tree_of c.in-Under.a.now) c.copied-a.ensures)
    (ok_ap c.copied.result tree_of (value v) (tree_of c.in-Under.b.now) c.copied.ensures))
    (sym (ap (choice_value v) c.in-Under.is))
