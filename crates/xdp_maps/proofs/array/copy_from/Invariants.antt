use Rattle.std.proofs.Common.{◌≡◌, take}
use Rattle.xdp_maps.proofs.array.copy_from.Given as goal

abbrev pub invariant-loop-i : goal.invariant-loop-i
invariant-loop-i l = take l.i l.values ≡ take l.i l.from
