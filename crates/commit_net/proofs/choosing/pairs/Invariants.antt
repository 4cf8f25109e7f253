use Rattle.std.proofs.Common.{◌≡◌, take}
use Rattle.commit_net.specs.Choosing.{chosen_of, paired}
use Rattle.commit_net.proofs.choosing.pairs.Given as goal

abbrev pub invariant-loop-i : goal.invariant-loop-i
invariant-loop-i g l = l.all.items ≡ paired (take l.i (chosen_of l.sites)) (take l.i l.values)
