-- One word before another fits.
use Rattle.std.proofs.Common.{◌+◌, ◌*◌, ◌^◌, ◌<◌, ◌≤◌, arith}
use Rattle.std.proofs.Math.Nat.{pow-le-pow_right}
use Rattle.net_core.specs.declared.tree.Word.{Word}
use Rattle.net_core.proofs.LowBitsLaws.{concatenated_small}
use Rattle.event_sim.specs.Readable.{AreJoined}

pub joined_small : (a b : Word) → AreJoined a b → a.value * 2 ^ b.width + b.value < 2 ^ 64
joined_small a b j =
    let small = concatenated_small a.value b.value a.width b.width j.left.small j.right.small in
    let le : 2 ^ (a.width + b.width) ≤ 2 ^ 64 = pow-le-pow_right {n = 2} (omega arith) {i = a.width + b.width} {j = 64} j.most in
    omega (arith, small, le)

pub joined_room : (a b : Word) → AreJoined a b → b.width < 64
joined_room a b j = let some = j.left.some in let most = j.most in omega arith
