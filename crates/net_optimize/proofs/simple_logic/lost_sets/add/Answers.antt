use Rattle.net_optimize.proofs.SimpleLogic.LostLemmas.{one_more}
use Rattle.net_optimize.proofs.simple_logic.lost_sets.add.Goals as goal

pub returns : goal.returns
returns c q there = one_more c.args.registers.now.keys c.insert.new.self.keys c.args.k q (c.in_ok-insert.ensures.updates.0 q) there
