use Rattle.std.proofs.Common.{◌≡◌, ◌+◌, ◌+ℤ◌, pos, arith, to_z, of_z, w64}
use Rattle.std.proofs.lemmas.Int.{ints}
use Rattle.unfold_core.proofs.jumps.led_to.Goals as goal

pub returns : goal.returns
returns c =
    let next : to_z w64 (of_z w64 (to_z w64 (of_z w64 c.from.result) +ℤ pos 1)) ≡ pos (c.args.place + 1) = omega (arith, ints) in
    let to : to_z w64 (of_z w64 (pos (c.args.place + 1) +ℤ to_z w64 (of_z w64 c.args.distance))) ≡ pos (c.args.place + 1) +ℤ c.args.distance = omega (arith, ints) in
    rw (next, to) at c.natural.ensures
