use Rattle.net_optimize.proofs.FlagLemmas.{flag_compared}
use Rattle.net_optimize.proofs.flags.compares.Goals as goal

pub returns-in-Equal : goal.returns-in-Equal
returns-in-Equal c h = flag_compared c.args.op c.in-Equal.is
