use Rattle.std.proofs.Common.{◌∙◌, sym, ap, arith}
use Rattle.net_core.specs.declared.design.Wire.{Wire}
use Rattle.net_core.specs.View.{right_of}
use Rattle.net_core.specs.Value.{value, right_value}
use Rattle.net_optimize.proofs.SharedExpressions.ListLemmas.{wire_at}
use Rattle.net_optimize.proofs.shared_expressions.rewriting.has_right.Goals as goal

pub returns : goal.returns
returns c is v s =
    sym (wire_at v c.args.wires.now c.args.at c.index-wires-at.result c.index-wires-at.is (omega arith) s)
    ∙ ap (λ (x : Wire). right_value v (right_of x.right)) c.index-wires-at.is ∙ ap (λ r. right_value v (right_of r)) c.in-Plain.is ∙ ap (value v) (c.is_same.ensures is)
