use Rattle.std.proofs.Common.{◌≡◌, take, map}
use Rattle.row_net.specs.PlaceNet.Exit.{byte_number}
use Rattle.place_parts.proofs.frame_parts.blocks.byte_numbers.Given as goal

abbrev pub invariant-loop-byte : goal.invariant-loop-byte
invariant-loop-byte l = l.numbers.items ≡ map byte_number (take l.byte-index l.answer.bytes.items)
