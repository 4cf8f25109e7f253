use Rattle.std.proofs.Common.{◌∙◌, sym, ap, arith}
use Rattle.net_core.specs.Value.{right_value}
use Rattle.net_optimize.proofs.SharedExpressions.ListLemmas.{wire_at}
use Rattle.net_optimize.proofs.shared_expressions.checking.is_at.Goals as goal

pub returns-clause-value : goal.returns-clause-value
returns-clause-value c is v u st =
    sym (c.in_ok-wanted.ensures.value v u st) ∙ ap (right_value v) (sym (c.is_same_right.ensures is))
    ∙ wire_at v c.args.table.now.wires.items c.args.place c.index.result.now c.index.ensures (omega arith) st.solved
