use Rattle.std.proofs.Common.{◌≡◌, map, take}
use Rattle.hash_net.specs.HashNets.{key_nets}
use Rattle.hash_net.proofs.block.nets_of_keys.Given as goal

abbrev pub invariant-loop-key : goal.invariant-loop-key
invariant-loop-key g l = l.all.items ≡ map (key_nets l.inserts) (take l.key-index l.keys)
