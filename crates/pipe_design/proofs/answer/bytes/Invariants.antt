use Rattle.std.proofs.Common.{◌≡◌, All, take, map as map_list}
use Rattle.row_net.specs.PlaceNet.Exit.{byte_number}
use Rattle.pipe_design.specs.Answer.{IsByteIn}
use Rattle.pipe_design.proofs.answer.bytes.Given as goal

abbrev pub invariant-loop-byte : goal.invariant-loop-byte
invariant-loop-byte l = record { inside : All (IsByteIn l.table l.frame) l.all.items; numbers : map_list byte_number l.all.items ≡ map_list (λ x. x.at) (take l.byte-index l.frame) }
