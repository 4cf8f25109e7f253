use Rattle.net_core.specs.View.{tree_of}
use Rattle.net_core.specs.Value.{value}
use Rattle.net_rules.proofs.LogicRules.FlagLemmas.{flag_fits}
use Rattle.net_rules.proofs.logic_rules.flags.is_flag.Goals as goal

pub returns : goal.returns
returns c h v fit = flag_fits c.expr_size.result (value v (tree_of c.args.e.now)) h (c.expr_size.ensures v fit)
