use Rattle.std.proofs.Common.{◌≡◌, drop, map}
use Rattle.net_core.specs.View.{assign_of}
use Rattle.net_core.specs.Width.{all_assigned}
use Rattle.design_rules.proofs.formed.ports.all_assigned.Given as goal

abbrev pub invariant-loop-k : goal.invariant-loop-k
invariant-loop-k l = all_assigned (map assign_of l.made) l.k (drop l.k l.ports) ≡ all_assigned (map assign_of l.made) 0 l.ports
