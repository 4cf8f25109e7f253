use Rattle.net_core.specs.View.{tree_of}
use Rattle.net_core.specs.Value.{value}
use Rattle.net_optimize.proofs.NegationLemmas.{flag_reduced}
use Rattle.net_optimize.proofs.negation.any_bit.Goals as goal

pub returns-then-is_flag : goal.returns-then-is_flag
returns-then-is_flag c v = flag_reduced (value v (tree_of c.args.a)) (c.is_flag.ensures c.if-is_flag.true v)
