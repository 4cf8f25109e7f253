use Rattle.std.proofs.Common.{◌≡◌, ◌-◌, ◌++◌, map, drop}
use Rattle.frame_net.specs.declared.held.Further.TheVariants.{Kept as Keep}
use Rattle.frame_net.specs.Frames.{banks_from, further}
use Rattle.frame_net.proofs.gathering.further.Given as goal

abbrev pub invariant-loop-what : goal.invariant-loop-what
invariant-loop-what l = l.all.items ++ map Keep (drop l.what-index l.kept) ≡ map Keep l.kept

abbrev pub invariant-loop-bank : goal.invariant-loop-bank
invariant-loop-bank l = l.all.items ++ banks_from l.bank (l.bank-end - l.bank) ≡ further l.fn.bits l.fn.kept
