use Rattle.std.proofs.Common.{◌≡◌, take}
use Rattle.row_net.proofs.SitePlace.TakingLemmas.{with_registers}
use Rattle.row_net.proofs.site_place.taking.take_pointers.Given as goal

abbrev pub invariant-loop-i : goal.invariant-loop-i
invariant-loop-i g l = l.pointers.items ≡ with_registers l.part l.bits l.first (take l.i l.carried) l.fn.pointers.items
