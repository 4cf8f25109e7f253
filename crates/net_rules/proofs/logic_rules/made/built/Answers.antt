use Rattle.std.proofs.Common.{sym, ap}
use Rattle.net_core.specs.View.{tree_of}
use Rattle.net_core.specs.Value.{value}
use Rattle.net_rules.specs.LogicRules.Made.{made_value}
use Rattle.net_rules.proofs.OkLaws.{ok_by}
use Rattle.net_rules.proofs.logic_rules.made.built.Goals as goal

pub returns-in-Prefixed : goal.returns-in-Prefixed
returns-in-Prefixed c v = ok_by c.unary_of.result (λ r. value v (tree_of r)) _ _ (c.unary_of.ensures.value v _ (c.leaf_built-in-Prefixed.ensures v)) (sym (ap (made_value v) c.in-Prefixed.is))

pub returns-in-Infixed : goal.returns-in-Infixed
returns-in-Infixed c v =
    ok_by c.binary_of.result (λ r. value v (tree_of r)) _ _ (c.binary_of.ensures.value v _ _ (c.leaf_built-a.ensures v) (c.leaf_built-in-Infixed.ensures v)) (sym (ap (made_value v) c.in-Infixed.is))

pub returns-in-NotInfixed : goal.returns-in-NotInfixed
returns-in-NotInfixed c v =
    ok_by c.unary_of-in-NotInfixed.result (λ r. value v (tree_of r)) _ _
    (c.unary_of-in-NotInfixed.ensures.value v _ (c.binary_of-inner.ensures.value v _ _ (c.leaf_built-a-in-NotInfixed.ensures v) (c.leaf_built-in-NotInfixed.ensures v)))
    (sym (ap (made_value v) c.in-NotInfixed.is))

pub returns-in-Chosen : goal.returns-in-Chosen
returns-in-Chosen c v =
    ok_by c.conditional_of.result (λ r. value v (tree_of r)) _ _
    (c.conditional_of.ensures.value v _ _ _ (c.leaf_built-c.ensures v) (c.leaf_built-a-in-Chosen.ensures v) (c.leaf_built-in-Chosen.ensures v)) (sym (ap (made_value v) c.in-Chosen.is))
